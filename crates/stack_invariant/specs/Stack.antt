-- the invariant of the shared stack, its parts gathered, and what a step needs besides
use Rattle.std.specs.Prelude.{◌≡◌, ℕ, ◌+◌, ◌<◌, ◌≤◌, Bool}
use Rattle.word_layout.specs.Sizes.{Sizes}
use Rattle.word_layout.specs.Packing.{most_age}
use Rattle.word_layout.specs.declared.name.WordName.TheVariants.{State}
use Rattle.transfer_machine.specs.declared.transfer.TransferView.{TransferView}
use Rattle.transfer_machine.specs.declared.stage.NextStep.TheVariants.{Announce, Try}
use Rattle.transfer_machine.specs.declared.stage.TryStep.TheVariants.{ExchangeState}
use Rattle.transfer_invariant.specs.Memory.{Words, Views, States, state_tag}
use Rattle.transfer_invariant.specs.Invariant.{Invariant}
use Rattle.slot_invariant.specs.Slots.{SlotsInvariant}
use Rattle.helping_invariant.specs.Holds.{HelpingHolds}
use Rattle.transfer_invariant.specs.Laws.{WishIsBlock}
use Rattle.draft_invariant.specs.Holding.{DraftsHold}
use Rattle.stack_invariant.specs.Following.{StatesFollow}
use Rattle.stack_invariant.specs.Loads.{LoadsFit, AnswerStays}

-- the words and all views meet every part, with these states
pub record StackHolds (sizes : Sizes) (words : Words) (views : Views) (states : States) : Type 0 where
  pub transfers : Invariant sizes words views states
  pub slots : SlotsInvariant sizes words views states
  pub helping : HelpingHolds sizes words views states
  pub drafts : DraftsHold sizes words views states
  pub follow : StatesFollow sizes words states
  pub loads : (i : ℕ) → i < sizes.processes → LoadsFit sizes (views i)
  pub answers : (i : ℕ) → i < sizes.processes → AnswerStays (states (state_tag words)) i (views i)

-- what the process's own pool and the count of batches give for the next step of a view
pub record Supplied (sizes : Sizes) (words : Words) (states : States) (v : TransferView) : Type 0 where
  -- a transfer that is announced has an age and a wish in range
  pub age : v.next ≡ Announce → v.age < most_age sizes
  pub wish : v.next ≡ Announce → WishIsBlock sizes v.wish
  -- all places of a draft that is installed are slots
  pub room : (second : Bool) → v.next ≡ Try second ExchangeState → words State ≡ v.loaded.state
      → v.draft.base + v.draft.overlay ≤ sizes.batches
