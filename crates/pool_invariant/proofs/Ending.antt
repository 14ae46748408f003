-- a transfer ends within its bound
use Rattle.std.proofs.Common.{◌≡◌, ◌≢◌, ℕ, zero, suc, ◌+◌, ◌<◌, ◌≤◌, true, refl, arith}
use Rattle.std.proofs.lemmas.Bool.Decides.{nat_tests}
use Rattle.word_layout.specs.Sizes.{Sizes, transfer_bound}
use Rattle.transfer_machine.specs.Loads.{overlay_length}
use Rattle.transfer_machine.specs.Machine.{met_of}
use Rattle.transfer_machine.specs.declared.transfer.TransferView.{TransferView}
use Rattle.transfer_machine.specs.declared.stage.NextStep.{NextStep}
use Rattle.transfer_machine.specs.declared.stage.NextStep.TheVariants.{Rest, Announce}
use Rattle.transfer_invariant.specs.Progress.{has_record, is_moving}
use Rattle.pool_invariant.specs.Stages.{IndexFitsAt, IndexFits}
use Rattle.pool_invariant.specs.StepCount.{OverlayIsFew, TransferSteps, steps_before, steps_before_at}
use Rattle.pool_invariant.proofs.Moved.{step_indexed}
use Rattle.pool_invariant.proofs.Counted.{step_nearer}

-- in a transfer or at rest
pub moving_unless_rest : (s : NextStep) → s ≢ Rest → is_moving s ≡ true
moving_unless_rest s ne = grind arith

-- there is a step left
pub step_left : (sizes : Sizes) (v : TransferView) (s : NextStep) → IndexFitsAt sizes v.loaded s
    → (has_record s ≡ true → overlay_length v.loaded ≤ sizes.processes)
    → steps_before_at sizes.processes s + 1 ≤ transfer_bound sizes
step_left sizes v s index few = grind (arith, nat_tests)

-- after k steps the view names a place, and if its transfer hasn't ended it has made at most as many as come before the next one
record Reaches (sizes : Sizes) (k : ℕ) (v : TransferView) : Type 0 where
  index : IndexFits sizes v
  counted : v.next ≢ Rest → k ≤ steps_before sizes v

begins : (sizes : Sizes) (v : TransferView) → v.next ≡ Announce → Reaches sizes 0 v
begins sizes v e = record { index = rw e tt; counted = λ ne. omega arith }

goes_on : (sizes : Sizes) (k : ℕ) (v : TransferView) (word : ℕ) → 1 ≤ sizes.processes → OverlayIsFew sizes v → v.next ≢ Rest
    → Reaches sizes k v
    → Reaches sizes (k + 1) (met_of sizes v word)
goes_on sizes k v word some few ne h = record {
  index = step_indexed sizes v word v.next refl some h.index;
  counted =
      λ after. let before = h.counted ne in
      let nearer = step_nearer sizes v word v.next h.index few (moving_unless_rest _ after) (moving_unless_rest v.next ne) in
      at_most k (steps_before sizes v) _ before nearer;
}
  where
    at_most : (k before after : ℕ) → k ≤ before → before + 1 ≤ after → k + 1 ≤ after
    at_most k before after h j = omega arith

reaches : (sizes : Sizes) (n : ℕ) (views : ℕ → TransferView) (words : ℕ → ℕ) (k : ℕ) → 1 ≤ sizes.processes
    → TransferSteps sizes n views words → k ≤ n
    → Reaches sizes k (views k)
reaches sizes n views words zero some steps le = begins sizes (views 0) steps.begins
reaches sizes n views words (suc k) some steps le =
    let lt : k < n = omega arith in
    let next =
    goes_on sizes k (views k) (words k) some (steps.few k lt) (steps.pending k lt)
    (reaches sizes n views words k some steps (omega arith)) in
    rw (add-suc-one k) (rw (steps.each k lt) next)
  where
    add-suc-one : (k : ℕ) → suc k ≡ k + 1
    add-suc-one k = omega arith

-- a transfer makes no more steps than the bound
pub ends : (sizes : Sizes) (n : ℕ) (views : ℕ → TransferView) (words : ℕ → ℕ) → 1 ≤ sizes.processes → TransferSteps sizes n views words
    → n ≤ transfer_bound sizes
ends sizes zero views words some steps = omega arith
ends sizes (suc k) views words some steps =
    let lt : k < suc k = omega arith in
    let here = reaches sizes (suc k) views words k some steps (omega arith) in
    last k (steps_before sizes (views k)) (transfer_bound sizes) (here.counted (steps.pending k lt))
    (step_left sizes (views k) (views k).next here.index (steps.few k lt))
  where
    last : (k before bound : ℕ) → k ≤ before → before + 1 ≤ bound → suc k ≤ bound
    last k before bound h j = omega arith
