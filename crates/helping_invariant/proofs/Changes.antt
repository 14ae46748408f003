-- the classes of changes of the words and states, as far as announcements and transfers are concerned
use Rattle.std.proofs.Common.{◌≡◌, ◌≢◌, ℕ, ◌+◌, ◌%◌, ◌<◌, ◌≤◌, ◌==◌}
use Rattle.word_layout.specs.Sizes.{Sizes}
use Rattle.word_layout.specs.Packing.{tag_of, is_odd_reply}
use Rattle.word_layout.specs.declared.name.WordName.TheVariants.{Announcement}
use Rattle.transfer_machine.specs.States.{StackState}
use Rattle.transfer_machine.specs.declared.transfer.TransferView.{TransferView}
use Rattle.transfer_invariant.specs.Memory.{Words, States, state_tag}
use Rattle.helping_invariant.specs.Parts.{heard}

-- no announcement changes
pub record AnnouncementsStay (sizes : Sizes) (old new : Words) : Type 0 where
  pub each : (o : ℕ) → o < sizes.processes → new (Announcement o) ≡ old (Announcement o)

-- the announcement of one process becomes this word
pub record AnnouncementStored (sizes : Sizes) (old new : Words) (process word : ℕ) : Type 0 where
  pub here : new (Announcement process) ≡ word
  pub elsewhere : (o : ℕ) → o < sizes.processes → o ≢ process → new (Announcement o) ≡ old (Announcement o)

-- there is one more state
pub record StatesGrow (old new : Words) (states later : States) (next : StackState) : Type 0 where
  pub number : state_tag new ≡ state_tag old + 1
  pub here : later (state_tag old + 1) ≡ next
  pub below : (m : ℕ) → m ≤ state_tag old → later m ≡ states m

-- the next state applied the pending ones of the announcements that a view heard: the others keep their reply
pub record AppliesHeard (processes : ℕ) (old next : StackState) (v : TransferView) : Type 0 where
  pub same_applied : (o : ℕ) → o < processes → tag_of (heard v o) % 2 ≡ old.applied o % 2 → next.applied o ≡ old.applied o
  pub more_applied : (o : ℕ) → o < processes → tag_of (heard v o) % 2 ≢ old.applied o % 2 → next.applied o ≡ old.applied o + 1
  pub same_reply : (o : ℕ) → o < processes → tag_of (heard v o) % 2 ≡ old.applied o % 2 → next.reply o ≡ old.reply o
  pub parity : (o : ℕ) → o < processes → is_odd_reply (next.reply o) ≡ (next.applied o % 2 == 1)
