-- the parts of helping, gathered
use Rattle.std.specs.Prelude.{ℕ, ◌<◌}
use Rattle.word_layout.specs.Sizes.{Sizes}
use Rattle.transfer_invariant.specs.Memory.{Words, Views, States}
use Rattle.helping_invariant.specs.Parts.{AppliedRises, AnnouncementHolds, TwoTries, SettledReply, HearsPresent}

-- the parts announcements, two tries and settled reply hold of the words and of all views, with these states
pub record HelpingHolds (sizes : Sizes) (words : Words) (views : Views) (states : States) : Type 0 where
  pub counts : AppliedRises sizes words states
  pub announced : (i : ℕ) → i < sizes.processes → AnnouncementHolds words states i (views i)
  pub tries : (i : ℕ) → i < sizes.processes → TwoTries words states i (views i)
  pub settled : (i : ℕ) → i < sizes.processes → SettledReply sizes words states i (views i)
  pub hears : (a o : ℕ) → a < sizes.processes → o < sizes.processes → HearsPresent sizes.processes words states o (views a) (views o)
