-- The passes of an opened pool, as they become members one by one.
use Rattle.std.proofs.Common.{◌≡◌, ◌<◌, Some, List, [], ◌∷◌, ◌++◌, length, slice_get, sym, ap, subst, ◌∙◌, arith, length-append}
use Rattle.std.proofs.Common.{append_assoc, append-nil}
use Rattle.std.proofs.Math.Seq.{get_or-append_seam}
use Rattle.std.proofs.lemmas.Option.{slice_get-get_or}
use Rattle.block_pool.specs.Opening.{AreOpenedPasses, opened_pass}
use Rattle.block_pool.specs.Passing.{Pooled, Passed, IsOf}

-- what comes after others in a list stands at their number
at_seam : {A : Type 0} (done next : List A) (a : A) → slice_get (done ++ a ∷ next) (length done) ≡ Some a
at_seam done next a =
    slice_get-get_or (done ++ a ∷ next) (length done) a (omega (arith, length-append done (a ∷ next))) ∙ ap Some
    (get_or-append_seam done a next a)

same_inside : {A : Type 0} (a b : A) → Some a ≡ Some b → a ≡ b
same_inside a b e = cc

-- the next pass is one of the pool, and holds nothing
pub next_is_bare : (pool : Pooled) (done rest next : List Passed) (pass : Passed) → AreOpenedPasses pool (done ++ rest) → rest ≡ pass ∷ next
    → IsOf pool pass × (length pass.held ≡ 0)
next_is_bare pool done rest next pass opened is =
    let now : AreOpenedPasses pool (done ++ pass ∷ next) = subst (λ (r : List Passed). AreOpenedPasses pool (done ++ r)) is opened in
    let within : length done < pool.sizes.processes = omega (arith, now.many, length-append done (pass ∷ next)) in
    let same : pass ≡ opened_pass pool.table pool.sizes (length done) =
    same_inside _ _ (sym (at_seam done next pass) ∙ now.each (length done) within) in (
      record { table = ap (λ (p : Passed). p.table) same; sizes = ap (λ (p : Passed). p.sizes) same },
      ap (λ (p : Passed). length p.held) same,
    )

-- and it becomes a member
pub one_opened : (pool : Pooled) (done rest next : List Passed) (pass member : Passed) → AreOpenedPasses pool (done ++ rest)
    → rest ≡ pass ∷ next → member ≡ pass → AreOpenedPasses pool ((done ++ member ∷ []) ++ next)
one_opened pool done rest next pass member opened is same =
    subst (AreOpenedPasses pool) (ap (λ (r : List Passed). done ++ r) is ∙ ap (λ (p : Passed). done ++ p ∷ next) (sym same)
    ∙ sym (append_assoc done (member ∷ []) next)) opened

-- until all are
pub all_opened : (pool : Pooled) (done rest : List Passed) → AreOpenedPasses pool (done ++ rest) → length rest ≡ 0 → AreOpenedPasses
    pool done
all_opened pool done [] opened none = subst (AreOpenedPasses pool) (append-nil done) opened
all_opened pool done (pass ∷ rest) opened none = absurd (omega (arith, none))
