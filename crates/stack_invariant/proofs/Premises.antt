-- what the parts give each other for a step
use Rattle.std.proofs.Common.{◌≡◌, ℕ, ◌<◌, refl}
use Rattle.word_layout.specs.Sizes.{Sizes, IsShape}
use Rattle.word_layout.specs.Packing.{FitsWish}
use Rattle.transfer_machine.specs.declared.transfer.TransferView.{TransferView}
use Rattle.transfer_machine.specs.declared.stage.NextStep.TheVariants.{Announce}
use Rattle.transfer_invariant.specs.Memory.{Words, Views, States}
use Rattle.transfer_invariant.specs.Laws.{WritesFit}
use Rattle.slot_invariant.specs.Slots.{SlotsKnown}
use Rattle.slot_invariant.specs.Laws.{DraftBelow}
use Rattle.draft_invariant.specs.Holding.{DraftPremises}
use Rattle.draft_invariant.specs.Laws.{CoversWithin}
use Rattle.draft_invariant.proofs.Gives.{drafted_base_is_low, writes_fit}
use Rattle.draft_invariant.proofs.Wishes.{wish_fits}
use Rattle.stack_invariant.specs.Stack.{StackHolds, Supplied}

-- the slots and the numbers of the views give what drafts need
pub draft_premises : (sizes : Sizes) (words : Words) (views : Views) (states : States) (i : ℕ) → i < sizes.processes
    → StackHolds sizes words views states → Supplied sizes words states (views i) → DraftPremises sizes words states (views i)
draft_premises sizes words views states i li h s = record {
  number = rw (h.helping.announced i li).number li;
  fits_wish = s.wish;
  age = s.age;
  slots = h.slots.hold.values;
  below = h.slots.hold.below;
}

-- drafts give what is written, and where it lies
pub stack_writes : (sizes : Sizes) (words : Words) (views : Views) (states : States) (i : ℕ) → IsShape sizes → i < sizes.processes
    → StackHolds sizes words views states → Supplied sizes words states (views i) → WritesFit sizes words (views i)
stack_writes sizes words views states i shape li h s = writes_fit sizes words views states i shape li h.transfers h.drafts s.room

-- a draft that is to be installed lies on the loaded content
pub draft_below : (sizes : Sizes) (words : Words) (views : Views) (states : States) (i : ℕ) → i < sizes.processes
    → StackHolds sizes words views states → DraftBelow (views i)
draft_below sizes words views states i li h second e = drafted_base_is_low sizes words views states i second li h.drafts e

-- the wish of a pool fits
pub fits_wish : (sizes : Sizes) (words : Words) (states : States) (v : TransferView) → IsShape sizes → Supplied sizes words states v
    → v.next ≡ Announce → FitsWish v.wish
fits_wish sizes words states v shape s e = wish_fits sizes v.wish shape.few_blocks (s.wish e)

-- a view is at covered slots alone
pub covers_within : (words : Words) (v : TransferView) → SlotsKnown words v → CoversWithin v
covers_within words v k = record {
  load = λ second offset e. rw e at (k.within (rw e refl));
  exchange = λ second offset e. rw e at (k.within (rw e refl));
}
