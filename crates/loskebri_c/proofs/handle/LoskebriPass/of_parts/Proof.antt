-- `of_parts` moves two fields, and what they own goes with them.
use mathlib.Core.Path.{◌≡◌, refl}
use mathlib.Core.List.{[], ◌∷◌}
use Rattle.std.specs.Prelude.{Some}
use base.Logic.{id⊢}
use types.Kit.{‵, ◌$◌, !, use1}
use types.Part.{whole, sub, agg}
use types.Run.{stop, fld, no_more, and_then, of_opd, returns, enter}
use types.ByLocal.{alloc_all, pass_all, free_all, look_at, get, get_in, sets}
use Rattle.std_alloc.proofs.BoxSteps.Form.{D, word, box_typed}
use Rattle.std_alloc.proofs.BoxSteps.Steps.{box_out, box_in}
use Rattle.loskebri_c.proofs.AsBox.{E, Parts, Pass}
use Rattle.loskebri_c.proofs.ByValue.{ByValue, takes, is_one, makes}
use Rattle.loskebri_c.specs.contracts.handle.LoskebriPass.of_parts.Key.{name as #self}
use Rattle.loskebri_c.proofs.handle.LoskebriPass.of_parts.Statement as stated
use Rattle.loskebri_c.proofs.handle.LoskebriPass.of_parts.Code as code

abbrev V : ByValue
V = record {
  taken = Parts;
  made = Pass;
  tells = λ parts pass. pass.member ≡ Some parts.value;
  last = λ parts. tt;
  silent = λ parts w. refl;
}

pub of_parts_spec : {M : Type 1} → stated.statement M
of_parts_spec 𝓤 𝓛 𝓜 𝓡 wired =
    takes V 𝓛 𝓜 𝓡 code.function #self (code.unfolded 𝓤 𝓛.H 𝓜 𝓡 wired) (λ z.
    let v : D E = record { ptr = z.0.3.0.at; alloc = z.0.3.0.alloc; value = z.0.3.0.value } in
    let made : Pass.Denot = record { at = v.ptr; alloc = v.alloc; member = Some v.value } in
    box_out E ! v z.0.4.0 (λ b o hv e one fa.
    box_in E ! v b o v.value e refl $ use1 𝓛 (‵ (Pass.own_val made (word E hv b o ∷ []))) (id⊢ 𝓤 _) $
    is_one V 𝓛 𝓜 𝓡 code.function ! z (word E hv b o) one $
    enter ! _ _ _ _ _ $ alloc_all ! (λ ls. pass_all ! refl (box_typed E hv b o fa, tt) $
    sets ! (of_opd ! (get_in ! (fld ! refl (stop !)) (sub ! 0 refl (whole !)))) refl (tt, tt) $
    sets ! (of_opd ! (get_in ! (fld ! refl (stop !)) (sub ! 1 refl (whole !)))) refl fa $
    sets ! (agg ! (and_then ! (get ! refl) (and_then ! (get ! refl) (no_more !)))) refl (box_typed E hv b o fa) $
    returns ! (look_at ! 0 refl) $ free_all ! refl $ makes V 𝓛 z (word E hv b o) made refl)))
