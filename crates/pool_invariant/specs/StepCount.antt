-- how many steps a transfer can have made
use Rattle.std.specs.Prelude.{◌≡◌, ◌≢◌, ℕ, ◌+◌, ◌*◌, ◌<◌, ◌≤◌, Bool, true, if◌then◌else◌}
use Rattle.word_layout.specs.Sizes.{Sizes}
use Rattle.transfer_machine.specs.Loads.{overlay_length}
use Rattle.transfer_machine.specs.Machine.{met_of}
use Rattle.transfer_machine.specs.declared.transfer.TransferView.{TransferView}
use Rattle.pool_machine.specs.declared.view.ProcessView.{ProcessView}
use Rattle.transfer_machine.specs.declared.stage.NextStep.{NextStep}
use Rattle.transfer_machine.specs.declared.stage.NextStep.TheVariants.{Rest, Announce, Try, LoadFinalState, LoadReply}
use Rattle.transfer_machine.specs.declared.stage.TryStep.{TryStep}
use Rattle.transfer_machine.specs.declared.stage.TryStep.TheVariants.{LoadState, LoadRecordWord, LoadCoveredSlot, ExchangeSlot}
use Rattle.transfer_machine.specs.declared.stage.TryStep.TheVariants.{LoadAnnouncement, LoadPoppedSlot, StoreRecordWord, ExchangeState}
use Rattle.transfer_invariant.specs.Progress.{has_record, is_moving}

-- a try takes at most so many steps: the state is loaded and exchanged, each of 2p + 2 record words is loaded and stored, and each
-- process has at most two steps at a covered slot and two at its announcement
abbrev pub try_steps : ℕ → ℕ
try_steps processes = 8 * processes + 6

-- so many steps come before a try at most: the announcement, and the first try before the second
abbrev pub before_try : ℕ → Bool → ℕ
before_try processes second = if second then 1 + try_steps processes else 1

-- so many steps of a try come at most before that one
abbrev pub steps_in_try : ℕ → TryStep → ℕ
steps_in_try processes LoadState = 0
steps_in_try processes (LoadRecordWord index) = 1 + index
steps_in_try processes (LoadCoveredSlot offset) = 2 * processes + 3 + 2 * offset
steps_in_try processes (ExchangeSlot offset) = 2 * processes + 3 + 2 * offset + 1
steps_in_try processes (LoadAnnouncement process) = 4 * processes + 3 + 2 * process
steps_in_try processes (LoadPoppedSlot process) = 4 * processes + 3 + 2 * process + 1
steps_in_try processes (StoreRecordWord index) = 6 * processes + 3 + index
steps_in_try processes ExchangeState = 8 * processes + 5

-- so many steps of a transfer come at most before that one
abbrev pub steps_before_at : ℕ → NextStep → ℕ
steps_before_at processes Rest = 0
steps_before_at processes Announce = 0
steps_before_at processes (Try second step) = before_try processes second + steps_in_try processes step
steps_before_at processes LoadFinalState = 1 + 2 * try_steps processes
steps_before_at processes LoadReply = 2 + 2 * try_steps processes

-- the pending transfer has made at most so many steps before its next one
abbrev pub steps_before : Sizes → TransferView → ℕ
steps_before sizes v = steps_before_at sizes.processes v.next

-- a pending transfer has made no more steps than that
abbrev pub StepsCounted : Sizes → ProcessView → Type 0
StepsCounted sizes v = is_moving v.transfer.next ≡ true → v.pool.plan.done ≤ steps_before sizes v.transfer

-- an overlay that was loaded with its whole record has at most a head a process
abbrev pub OverlayIsFew : Sizes → TransferView → Type 0
OverlayIsFew sizes v = has_record v.next ≡ true → overlay_length v.loaded ≤ sizes.processes

-- the first n steps of a transfer of a view: what it is before each of them, and the words that they meet
pub record TransferSteps (sizes : Sizes) (n : ℕ) (views : ℕ → TransferView) (words : ℕ → ℕ) : Type 0 where
  pub begins : (views 0).next ≡ Announce
  pub pending : (k : ℕ) → k < n → (views k).next ≢ Rest
  pub each : (k : ℕ) → k < n → views (k + 1) ≡ met_of sizes (views k) (words k)
  pub few : (k : ℕ) → k < n → OverlayIsFew sizes (views k)
