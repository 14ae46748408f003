-- `into_parts` tests the pointer, and moves the two fields where it is not null.
use mathlib.Core.Path.{◌≡◌, refl, ap, ◌∙◌}
use mathlib.Core.List.{[], ◌∷◌}
use lib.Dec.{lit<}
use Rattle.std.specs.Prelude.{None, Some}
use Rattle.std.specs.Option.{MatchOption}
use mir.Val.{Val, vcons, vnil, has_ty}
use base.Logic.{id⊢}
use contract.Running.{tables}
use types.Kit.{at_ret, ‵, ◌$◌, !, move, drop, use0, use1, fsplit}
use types.Part.{whole, sub, agg}
use types.Match.{live}
use types.Run.{stop, fld, no_more, and_then, lit, of_opd, bin, first, branches, exec, returns, enter}
use types.ByLocal.{alloc_all, pass_all, free_all, look_at, get, get_in, sets, sets_last, env}
use denote.Param.{layout}
use denote.RattleType.{RattleType}
use denote.RawPtr.{Ptr, null_ptr, block_ptr, ptr_val, tests_null}
use denote.Signature.{type_at}
use Rattle.core.proofs.alloc.Calls.{α, token}
use Rattle.core.proofs.alloc.Shapes.{after}
use Rattle.core.proofs.cell.Inside.{Good}
use Rattle.core.proofs.option.Made.{Some-of, none_of}
use Rattle.std_alloc.specs.Box.Ownership.{box_owns}
use Rattle.std_alloc.proofs.ResultValues.{and_tt}
use Rattle.std_alloc.proofs.BoxSteps.Form.{D, R, word, box_typed}
use Rattle.std_alloc.proofs.BoxSteps.Steps.{box_in}
use Rattle.loskebri_c.proofs.AsBox.{E, Parts, Pass, both, pass_out, kept_cases}
use Rattle.loskebri_c.proofs.ByValue.{ByValue, walk, takes, is_one, makes}
use Rattle.loskebri_c.specs.contracts.handle.LoskebriPass.into_parts as F
use Rattle.loskebri_c.specs.contracts.handle.LoskebriPass.into_parts.Key.{name as #self}
use Rattle.loskebri_c.proofs.handle.LoskebriPass.into_parts.Statement as stated
use Rattle.loskebri_c.proofs.handle.LoskebriPass.into_parts.Code as code

abbrev Out : RattleType
Out = type_at (F.signature).result tt

abbrev V : ByValue
V = record {
  taken = Pass;
  made = Out;
  tells = λ pass out. MatchOption out (pass.member ≡ None) (λ parts. pass.member ≡ Some parts.value);
  last = λ pass. tt;
  silent = λ pass w. refl;
}

pub into_parts_spec : {M : Type 1} → stated.statement M
into_parts_spec 𝓤 𝓛 𝓜 𝓡 wired =
    let 𝓣 = tables 𝓤 𝓛.H 𝓜 𝓡 𝓡.env in
    takes V 𝓛 𝓜 𝓡 code.function #self (code.unfolded 𝓤 𝓛.H 𝓜 𝓡 wired) (λ z.
    let Post = (walk V 𝓛).post z in let d = z.0.3.0 in let a = d.alloc in
    pass_out ! d z.0.4.0 (λ h one fits. kept_cases ! a d.at d.member
    (λ null none.
    let w = both (ptr_val null_ptr) h in
    is_one V 𝓛 𝓜 𝓡 code.function ! z w (one ∙ ap (λ (p : Ptr). both (ptr_val p) h ∷ []) null) $
    enter ! _ _ _ _ _ $ alloc_all ! (λ ls.
    pass_all ! refl ((and_tt (has_ty (α E.al) h) fits.0, (record { fits = lit< tt }, (fits.1, tt))), tt) $
    let Ev = env (code.function).locals ls in
    sets ! (of_opd ! (get_in ! (fld ! refl (stop !)) (sub ! 0 refl (whole !)))) refl (tt, record { fits = lit< tt }) $
    sets ! (of_opd ! (get_in ! (fld ! refl (stop !)) (sub ! 1 refl (whole !)))) refl fits $
    sets ! (bin ! (get ! refl) (lit ! tt) tt) refl (tt, tt) $ first ! $ branches ! (get ! refl)
    (λ _. sets_last ! (agg ! (and_then ! (lit ! tt) (no_more !))) refl (tt, (record { fits = lit< tt }, tt)) $
    exec ! 𝓣.C 𝓣.Λ Ev (after 4 (code.function).body) (at_ret Ev Post) $
    sets ! (of_opd ! (get ! refl)) refl (tt, (record { fits = lit< tt }, tt)) $
    use0 𝓛 (‵ (Out.own_val None (live 0 vnil ∷ []))) (none_of 𝓛 Parts) $
    returns ! (look_at ! 0 refl) $ free_all ! refl $ move ! (1 ∷ []) $ drop ! $ makes V 𝓛 z (live 0 vnil) None none)
    (λ wrong. absurd wrong)))
    (λ b o x is some t.
    let w = word E h b o in let typed = box_typed E h b o fits in
    let v : D E = record { ptr = block_ptr b o; alloc = a; value = x } in
    let parts : Parts.Denot = record { at = block_ptr b o; alloc = a; value = x } in
    let out : Val = live 1 (vcons w vnil) in
    let good : Good (layout Out) out = (and_tt _ typed.0, (record { fits = lit< tt }, (typed.1, tt))) in
    is_one V 𝓛 𝓜 𝓡 code.function ! z w (one ∙ ap (λ (p : Ptr). both (ptr_val p) h ∷ []) is) $
    enter ! _ _ _ _ _ $ alloc_all ! (λ ls. pass_all ! refl (typed, tt) $
    let Ev = env (code.function).locals ls in
    sets ! (of_opd ! (get_in ! (fld ! refl (stop !)) (sub ! 0 refl (whole !)))) refl (tt, tt) $
    sets ! (of_opd ! (get_in ! (fld ! refl (stop !)) (sub ! 1 refl (whole !)))) refl fits $
    sets ! (bin ! (get ! refl) (lit ! tt) (tests_null (block_ptr b o) t)) refl (tt, tt) $ first ! $ branches ! (get ! refl)
    (λ wrong. absurd wrong)
    (λ _. sets ! (agg ! (and_then ! (get ! refl) (and_then ! (get ! refl) (no_more !)))) refl typed $
    sets_last ! (agg ! (and_then ! (lit ! tt) (and_then ! (get ! refl) (no_more !)))) refl good $
    exec ! 𝓣.C 𝓣.Λ Ev (after 4 (code.function).body) (at_ret Ev Post) $ sets ! (of_opd ! (get ! refl)) refl good $
    use1 𝓛 (‵ (box_owns (token E.al a) (R E) (block_ptr b o) x)) (id⊢ 𝓤 _) $ fsplit ! $
    box_in E ! v b o x refl refl $ use1 𝓛 (‵ (Parts.own_val parts (w ∷ []))) (id⊢ 𝓤 _) $
    use1 𝓛 (‵ (Out.own_val (Some parts) (out ∷ []))) (Some-of 𝓛 Parts parts w) $
    returns ! (look_at ! 0 refl) $ free_all ! refl $ makes V 𝓛 z out (Some parts) some)))))
