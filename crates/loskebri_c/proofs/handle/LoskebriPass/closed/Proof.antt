-- `closed` puts null beside the allocator, and keeps nothing.
use mathlib.Core.Path.{◌≡◌, refl}
use Rattle.std.specs.Prelude.{None}
use mir.Val.{has_ty}
use types.Kit.{◌$◌, !, feq_i}
use types.Part.{agg}
use types.Run.{no_more, and_then, lit, returns, enter}
use types.ByLocal.{alloc_all, pass_all, free_all, look_at, get, sets}
use denote.RawPtr.{Ptr, null_ptr, ptr_val}
use Rattle.std.proofs.alloc.Calls.{α, handle_tells}
use Rattle.core.proofs.atomic.Steps.{Ptr-Good}
use Rattle.std_alloc.proofs.ResultValues.{and_tt}
use Rattle.std_heap.specs.contracts.Global as Heap
use Rattle.loskebri_c.proofs.AsBox.{E, Pass, both, pass_in}
use Rattle.loskebri_c.proofs.ByValue.{ByValue, takes, is_one, makes}
use Rattle.loskebri_c.specs.contracts.handle.LoskebriPass.closed.Key.{name as #self}
use Rattle.loskebri_c.proofs.handle.LoskebriPass.closed.Statement as stated
use Rattle.loskebri_c.proofs.handle.LoskebriPass.closed.Code as code

abbrev V : ByValue
V = record {
  taken = Heap.the_row;
  made = Pass;
  tells = λ alloc pass. pass.member ≡ None;
  last = λ alloc. tt;
  silent = λ alloc w. refl;
}

pub closed_spec : {M : Type 1} → stated.statement M
closed_spec 𝓤 𝓛 𝓜 𝓡 wired =
    takes V 𝓛 𝓜 𝓡 code.function #self (code.unfolded 𝓤 𝓛.H 𝓜 𝓡 wired) (λ z.
    let a = z.0.3.0 in
    handle_tells E.al ! a z.0.4.0 (λ h one fits.
    is_one V 𝓛 𝓜 𝓡 code.function ! z h one $ enter ! _ _ _ _ _ $ alloc_all ! (λ ls. pass_all ! refl (fits, tt) $
    sets ! (agg ! (and_then ! (lit ! tt) (and_then ! (get ! refl) (no_more !)))) refl
    (and_tt (has_ty (α E.al) h) fits.0, ((Ptr-Good null_ptr).1, (fits.1, tt))) $
    returns ! (look_at ! 0 refl) $ free_all ! refl $ feq_i ! Ptr null_ptr null_ptr refl $ pass_in ! a null_ptr None h $
    makes V 𝓛 z (both (ptr_val null_ptr) h) (record { at = null_ptr; alloc = a; member = None }) refl)))
