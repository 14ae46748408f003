-- `is_closed` tests the pointer where the handle lies, and leaves it as it is.
use Rattle.std.proofs.Common.{◌≡◌, ◌↔◌, List, [], ◌∷◌, refl, sym}
use Rattle.std.specs.Prelude.{Option, true, false, IsTrue, Some, None}
use lib.Dec.{lit<}
use base.Fraction.{full_share}
use base.Fml.{flft, ftrue}
use mir.Syntax.{named}
use mir.Val.{Val, vbool}
use types.Kit.{‵, ◌⊛◌, ◌$◌, ◌∵◌, !, qed, done, move, keep, split, join, fsplit3, feq_i, rewrite, suffices, frame, group}
use types.Part.{whole, sub, look_in}
use types.Run.{stop, fld, load, lit, of_opd, bin, returns, enter}
use types.ByLocal.{alloc_all, pass_all, free_all, look_at, get, through, sets}
use denote.Builtin.{bool}
use denote.Memory.{cell_at}
use denote.Plain.{bool_Makes}
use denote.RawPtr.{Ptr, null_ptr, block_ptr, ptr_val, tests_null}
use denote.Ref.{MutRef, mut_vals, mut_Tells}
use denote.Signature.{plain}
use denote.Steps.{nothing, opens, closes, owned}
use denote.Triple.Walked.{Stays, walk_of, stay_ref, Goes-ref, ends_at}
use Rattle.block_pool.specs.Passing.{Passed}
use Rattle.std.proofs.raw_atomic.Walks.{proved}
use Rattle.loskebri_c.specs.Kept.{boxed, kept}
use Rattle.loskebri_c.proofs.AsBox.{Pass, both, pass_out, pass_in, kept_cases, says_both}
use Rattle.loskebri_c.specs.contracts.handle.LoskebriPass.is_closed as f
use Rattle.loskebri_c.proofs.handle.LoskebriPass.is_closed.Statement.{statement}
use Rattle.loskebri_c.proofs.handle.LoskebriPass.is_closed.Code as code

open_is_not_closed : (m : Option Passed) (x : Passed) → m ≡ Some x → IsTrue false ↔ (m ≡ None)
open_is_not_closed m x some = (λ e. cc, λ n. cc)

abbrev stayed : Stays f.ended.signature.params f.ended.kept
stayed = (stay_ref (0 ∷ []) tt (plain (λ _. Pass)), tt)

pub is_closed_spec : {M : Type 1} → statement M
is_closed_spec 𝓤 𝓛 𝓜 𝓡 wired =
    let c = f.clauses 𝓛 𝓜.mem 𝓡.returns in let W = walk_of 𝓛 f.ended stayed c in
    proved 𝓛 f.ended stayed c 𝓜 𝓡 (Goes-ref 𝓛 1 0 tt (plain (λ _. Pass)), tt)
    f.Key.name code.function (code.unfolded 𝓤 𝓛.H 𝓜 𝓡 wired)
    (λ κs. (mut_vals, tt)) (λ κs. (mut_Tells (named 0) κs.0 Pass, tt)) (λ κs qs bounds a _ are.
    let b = a.0.ref_ptr.0 in let o = a.0.ref_ptr.1 in let d = a.0.now in let vs = mut_vals a.0 in
    let Cell = λ (p : Ptr) (h : Val). ‵ (cell_at full_share Pass.mir (both (ptr_val p) h ∷ []) b o) in
    let y : W.Ghost = ((κs, qs, bounds, a, (vs, tt)), tt) in
    qed 𝓛 (((‵ (flft κs.0 qs.0) ⊛ ‵ ftrue) ⊛ ‵ ((MutRef (named 0) κs.0 Pass).own_val a.0 vs) ⊛ ‵ ftrue) ∷ ‵ ftrue ∷ []) ∵
    split ! $ split ! $ move ! (2 ∷ []) $ split ! $ keep ! (0 ∷ 2 ∷ []) $
    enter ! _ _ _ _ _ $ alloc_all ! (λ l. pass_all ! refl ((tt, tt), tt) $
    fsplit3 ! $ move ! (1 ∷ 2 ∷ 3 ∷ []) $ opens ! tt Pass {h = d} b o (λ us.
    move ! (1 ∷ []) $ pass_out ! d us (λ h one fits.
    rewrite ! 2 (λ (ws : List Val). ‵ (cell_at full_share Pass.mir ws b o)) one refl $
    kept_cases ! d.alloc d.at d.member
    (λ null none. rewrite ! 1 (λ (p : Ptr). Cell p h) null refl $
    sets ! (of_opd ! (load ! (through ! refl (fld ! refl (stop !))) (look_in ! 1 (sub ! 0 refl (whole !))))) refl
    (tt, record { fits = lit< tt }) $
    sets ! (bin ! (get ! refl) (lit ! tt) tt) refl (tt, tt) $
    -- [what is kept; the handle; its cell; the open borrow, in three entries]
    feq_i ! Ptr d.at null_ptr null $ rewrite ! 0 (λ (m : Option Passed). ‵ (kept d.alloc d.at m)) (sym none) refl $
    rewrite ! 2 (λ (p : Ptr). Cell p h) (sym null) refl $
    pass_in ! d.alloc d.at d.member h $ move ! (1 ∷ []) $ closes ! tt Pass d (both (ptr_val d.at) h ∷ []) b o $
    returns ! (look_at ! 0 refl) $ free_all ! refl $ move ! (3 ∷ []) $
    suffices ! _ (ends_at 𝓛 f.ended stayed c y (vbool true) true (d, tt) (tt, tt)) $ says_both ! (λ _. none, λ _. refl) refl $
    group ! 3 $ nothing ! $ move ! (1 ∷ 0 ∷ []) $ join ! $ nothing ! $ move ! (2 ∷ 0 ∷ []) $ join ! $ frame ! $ frame ! $
    owned ! bool _ (bool_Makes 𝓛) true _ refl $ done !)
    (λ b' o' x is some t. rewrite ! 2 (λ (p : Ptr). Cell p h) is refl $
    sets ! (of_opd ! (load ! (through ! refl (fld ! refl (stop !))) (look_in ! 2 (sub ! 0 refl (whole !))))) refl (tt, tt) $
    sets ! (bin ! (get ! refl) (lit ! tt) (tests_null (block_ptr b' o') t)) refl (tt, tt) $
    -- [what is kept; the handle; its cell; the open borrow, in three entries]
    rewrite ! 0 (λ (p : Ptr). ‵ (boxed d.alloc p x)) (sym is) refl $
    rewrite ! 0 (λ (m : Option Passed). ‵ (kept d.alloc d.at m)) (sym some) refl $
    rewrite ! 2 (λ (p : Ptr). Cell p h) (sym is) refl $
    pass_in ! d.alloc d.at d.member h $ move ! (1 ∷ []) $ closes ! tt Pass d (both (ptr_val d.at) h ∷ []) b o $
    returns ! (look_at ! 0 refl) $ free_all ! refl $ move ! (3 ∷ []) $
    suffices ! _ (ends_at 𝓛 f.ended stayed c y (vbool false) false (d, tt) (tt, tt)) $
    says_both ! (open_is_not_closed d.member x some) refl $
    group ! 3 $ nothing ! $ move ! (1 ∷ 0 ∷ []) $ join ! $ nothing ! $ move ! (2 ∷ 0 ∷ []) $ join ! $ frame ! $ frame ! $
    owned ! bool _ (bool_Makes 𝓛) false _ refl $ done !)))))
