-- what a view loaded is in range, and its last answer stays that of the state
use Rattle.std.specs.Prelude.{◌≡◌, ℕ, ◌<◌, ◌≤◌, false, slice_index}
use Rattle.word_layout.specs.Sizes.{Sizes, blocks}
use Rattle.word_layout.specs.Packing.{tag_of, value_of, most_age, reply_of}
use Rattle.transfer_machine.specs.States.{StackState}
use Rattle.transfer_machine.specs.declared.transfer.TransferView.{TransferView}
use Rattle.transfer_invariant.specs.Progress.{has_announced}

-- of one view: its age, the numbers of the announcements and the values of the slots that it loaded are in range
pub record LoadsFit (sizes : Sizes) (v : TransferView) : Type 0 where
  pub age : v.age ≤ most_age sizes
  pub numbers : (k : ℕ) → tag_of (slice_index v.loaded.announcements k) ≤ most_age sizes
  pub slots : (k : ℕ) → value_of (slice_index v.loaded.slots k) < blocks sizes

-- of one process, while it has announced no transfer: its last answer is its reply in the present state
abbrev pub AnswerStays : StackState → ℕ → TransferView → Type 0
AnswerStays s process v = has_announced v.next ≡ false → v.answer ≡ reply_of (s.reply process)
