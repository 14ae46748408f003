-- each step that doesn't end its transfer comes nearer to the bound
use Rattle.std.proofs.Common.{◌≡◌, ℕ, ◌+◌, ◌≤◌, Bool, true, arith}
use Rattle.std.proofs.lemmas.Bool.Decides.{nat_tests}
use Rattle.word_layout.specs.Sizes.{Sizes}
use Rattle.transfer_machine.specs.Loads.{overlay_length}
use Rattle.transfer_machine.specs.Machine.{met_at, met_in_try}
use Rattle.transfer_machine.specs.declared.transfer.TransferView.{TransferView}
use Rattle.transfer_machine.specs.declared.stage.NextStep.{NextStep}
use Rattle.transfer_machine.specs.declared.stage.NextStep.TheVariants.{Rest, Announce, Try, LoadFinalState, LoadReply}
use Rattle.transfer_machine.specs.declared.stage.TryStep.{TryStep}
use Rattle.transfer_machine.specs.declared.stage.TryStep.TheVariants.{LoadState, LoadRecordWord, LoadCoveredSlot, ExchangeSlot}
use Rattle.transfer_machine.specs.declared.stage.TryStep.TheVariants.{LoadAnnouncement, LoadPoppedSlot, StoreRecordWord, ExchangeState}
use Rattle.transfer_invariant.specs.Progress.{has_record, has_record_in_try, is_moving}
use Rattle.pool_invariant.specs.Stages.{IndexFitsInTry, IndexFitsAt}
use Rattle.pool_invariant.specs.StepCount.{before_try, steps_in_try, steps_before_at, steps_before}

-- a step of a try
step_nearer_in_try : (sizes : Sizes) (v : TransferView) (word : ℕ) (second : Bool) (s : TryStep) → IndexFitsInTry sizes v.loaded s
    → (has_record_in_try s ≡ true → overlay_length v.loaded ≤ sizes.processes)
    → before_try sizes.processes second + steps_in_try sizes.processes s + 1 ≤ steps_before sizes (met_in_try sizes v word second s)
step_nearer_in_try sizes v word second LoadState h few = grind (arith, nat_tests)
step_nearer_in_try sizes v word second (LoadRecordWord index) h few = grind (arith, nat_tests)
step_nearer_in_try sizes v word second (LoadCoveredSlot offset) h few = grind (arith, nat_tests)
step_nearer_in_try sizes v word second (ExchangeSlot offset) h few = grind (arith, nat_tests)
step_nearer_in_try sizes v word second (LoadAnnouncement process) h few = grind (arith, nat_tests)
step_nearer_in_try sizes v word second (LoadPoppedSlot process) h few = grind (arith, nat_tests)
step_nearer_in_try sizes v word second (StoreRecordWord index) h few = grind (arith, nat_tests)
step_nearer_in_try sizes v word second ExchangeState h few = grind (arith, nat_tests)

-- any step
pub step_nearer : (sizes : Sizes) (v : TransferView) (word : ℕ) (s : NextStep) → IndexFitsAt sizes v.loaded s
    → (has_record s ≡ true → overlay_length v.loaded ≤ sizes.processes)
    → is_moving (met_at sizes v word s).next ≡ true → is_moving s ≡ true
    → steps_before_at sizes.processes s + 1 ≤ steps_before sizes (met_at sizes v word s)
step_nearer sizes v word Rest h few e b = grind arith
step_nearer sizes v word Announce h few e b = grind (arith, nat_tests)
step_nearer sizes v word (Try second step) h few e b = step_nearer_in_try sizes v word second step h few
step_nearer sizes v word LoadFinalState h few e b = grind (arith, nat_tests)
step_nearer sizes v word LoadReply h few e b = grind arith
