-- the part draft of a try, gathered
use Rattle.std.specs.Prelude.{◌≡◌, ℕ, ◌<◌}
use Rattle.word_layout.specs.Sizes.{Sizes, blocks}
use Rattle.word_layout.specs.Packing.{most_age}
use Rattle.transfer_machine.specs.Drafted.{HasRoom, DraftsLoaded}
use Rattle.transfer_machine.specs.declared.transfer.TransferView.{TransferView}
use Rattle.transfer_machine.specs.declared.stage.NextStep.TheVariants.{Announce}
use Rattle.transfer_invariant.specs.Memory.{Words, Views, States, state_tag, slot_value}
use Rattle.transfer_invariant.specs.Drafts.{RepliesDrafted}
use Rattle.draft_invariant.specs.Heads.{AnnouncementsAreBlocks, HeadsAreBlocks}
use Rattle.transfer_invariant.specs.Laws.{WishIsBlock}
use Rattle.draft_invariant.specs.Pops.{DraftFitsLoaded, PopsHold}
use Rattle.transfer_invariant.specs.Progress.{heard_process}

-- Draft of a try, of one view: its arrays have room, its draft has a low base, replies and blocks, and the announcement that its next
-- step is about is a process's
pub record ViewDrafts (sizes : Sizes) (v : TransferView) : Type 0 where
  pub room : HasRoom v
  pub fits : DraftFitsLoaded v
  pub replies : RepliesDrafted sizes.processes v
  pub heads : HeadsAreBlocks sizes v
  pub among : heard_process v.next < sizes.processes

-- Draft of a try, of the words and of all views
pub record DraftsHold (sizes : Sizes) (words : Words) (views : Views) (states : States) : Type 0 where
  pub announcements : AnnouncementsAreBlocks sizes words
  pub each : (i : ℕ) → i < sizes.processes → ViewDrafts sizes (views i)
  pub loaded : (i : ℕ) → i < sizes.processes → DraftsLoaded sizes (views i)
  pub pops : (i : ℕ) → i < sizes.processes → PopsHold sizes.processes words states (views i)

-- what a step needs of the other parts: a transfer that begins has a wish and an age in range, and the slots hold heads, those below
-- the base the state's content
pub record DraftPremises (sizes : Sizes) (words : Words) (states : States) (v : TransferView) : Type 0 where
  pub number : v.number < sizes.processes
  pub fits_wish : v.next ≡ Announce → WishIsBlock sizes v.wish
  pub age : v.next ≡ Announce → v.age < most_age sizes
  pub slots : (s : ℕ) → s < sizes.batches → slot_value words s < blocks sizes
  pub below : (s : ℕ) → s < (states (state_tag words)).base → slot_value words s ≡ (states (state_tag words)).content s
