-- the heads that announcements and views name are blocks
use Rattle.std.specs.Prelude.{ℕ, ◌<◌, ◌≤◌, slice_index}
use Rattle.word_layout.specs.Sizes.{Sizes, blocks}
use Rattle.word_layout.specs.Packing.{value_of, value_limit}
use Rattle.word_layout.specs.declared.name.WordName.TheVariants.{Announcement}
use Rattle.transfer_machine.specs.declared.transfer.TransferView.{TransferView}
use Rattle.transfer_invariant.specs.Memory.{Words}

-- the value of each announcement is 0 for a take, or a block plus 1
abbrev pub AnnouncementsAreBlocks : Sizes → Words → Type 0
AnnouncementsAreBlocks sizes words = (process : ℕ) → process < sizes.processes → value_of (words (Announcement process)) ≤ blocks sizes

-- Draft of a try, of one view: the heads of its announcements, of the slots that it loaded for takes and of its draft are blocks, and
-- its drafted replies are values
pub record HeadsAreBlocks (sizes : Sizes) (v : TransferView) : Type 0 where
  pub announcements : (k : ℕ) → value_of (slice_index v.loaded.announcements k) ≤ blocks sizes
  pub popped : (k : ℕ) → value_of (slice_index v.loaded.popped k) < blocks sizes
  pub heads : (k : ℕ) → slice_index v.draft.heads k < blocks sizes
  pub replies : (k : ℕ) → slice_index v.draft.replies k < value_limit
