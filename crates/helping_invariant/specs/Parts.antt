-- the parts of the invariant that speak of announcements, of the two tries and of settled replies
use Rattle.std.specs.Prelude.{◌≡◌, ◌≢◌, ℕ, ◌+◌, ◌-◌, ◌%◌, ◌<◌, ◌≤◌, ◌==◌, true, false, length, slice_index}
use Rattle.word_layout.specs.Sizes.{Sizes}
use Rattle.word_layout.specs.Names.{records}
use Rattle.word_layout.specs.Packing.{tag_of, announced_word, is_odd_reply}
use Rattle.word_layout.specs.declared.name.WordName.TheVariants.{Announcement}
use Rattle.transfer_machine.specs.Loads.{loaded_tag}
use Rattle.transfer_machine.specs.declared.transfer.TransferView.{TransferView}
use Rattle.transfer_machine.specs.declared.stage.NextStep.TheVariants.{Try, LoadReply}
use Rattle.transfer_machine.specs.declared.stage.TryStep.TheVariants.{LoadState}
use Rattle.transfer_invariant.specs.Memory.{Words, States, state_tag, word_tag, word_value}
use Rattle.transfer_invariant.specs.Progress.{in_try, in_first_try, in_second_try, has_announced}
use Rattle.transfer_invariant.specs.Progress.{has_begun_try, has_tried, heard_announcements}

-- the announcement of a process that a view loaded
abbrev pub heard : TransferView → ℕ → ℕ
heard v process = slice_index v.loaded.announcements process

-- Announcements, of all states: a later one has applied no fewer transfers of a process, and its reply has the parity of their number
pub record AppliedRises (sizes : Sizes) (words : Words) (states : States) : Type 0 where
  pub rises : (o a b : ℕ) → o < sizes.processes → a ≤ b → b ≤ state_tag words → (states a).applied o ≤ (states b).applied o
  pub parities : (o m : ℕ) → o < sizes.processes → m ≤ state_tag words → is_odd_reply ((states m).reply o) ≡ ((states m).applied o % 2 == 1)

-- of them, of one process: what its announcement says, and how many of its transfers the present state has applied
pub record AnnouncementHolds (words : Words) (states : States) (process : ℕ) (v : TransferView) : Type 0 where
  pub number : v.number ≡ process
  pub room : length v.loaded.announcements ≡ 32
  -- it has the number of its age, and its wish too while the transfer pends
  pub tag : tag_of (words (Announcement process)) ≡ v.age
  pub word : has_announced v.next ≡ true
      → words (Announcement process) ≡ announced_word (record { number = v.age; wish = v.wish })
  -- all its transfers are applied, or one less while one pends
  pub most : (states (state_tag words)).applied process ≤ v.age
  pub least : v.age ≤ (states (state_tag words)).applied process + 1
  pub idle : has_announced v.next ≡ false → (states (state_tag words)).applied process ≡ v.age

-- Two tries, of one process: each of them brings its transfer one state nearer to one that has applied it
pub record TwoTries (words : Words) (states : States) (process : ℕ) (v : TransferView) : Type 0 where
  -- from the second state after that of its first try on its transfer is applied
  pub applied : has_begun_try v.next ≡ true → (m : ℕ) → v.first_loaded + 2 ≤ m → m ≤ state_tag words → (states m).applied process ≡ v.age
  -- its second try loads a later state than the first
  pub first : in_first_try v.next ≡ true → loaded_tag v.loaded ≡ v.first_loaded
  pub between : v.next ≡ Try true LoadState → v.first_loaded + 1 ≤ state_tag words
  pub second : in_second_try v.next ≡ true → v.first_loaded + 1 ≤ loaded_tag v.loaded
  -- so once both are over it is applied, and so it is in the state of the final load
  pub ended : has_tried v.next ≡ true → (states (state_tag words)).applied process ≡ v.age
  pub final : v.next ≡ LoadReply → (states (loaded_tag v.loaded)).applied process ≡ v.age
  -- once both have failed there are two states more; the state that one of them installed has applied it
  pub failed : has_tried v.next ≡ true → v.installed ≤ v.first_loaded → v.first_loaded + 2 ≤ state_tag words
  pub installed : has_tried v.next ≡ true → v.first_loaded < v.installed → (states v.installed).applied process ≡ v.age

-- Settled reply, of one process whose transfer pends
pub record SettledReply (sizes : Sizes) (words : Words) (states : States) (process : ℕ) (v : TransferView) : Type 0 where
  -- all states that have applied it have the present reply
  pub in_states : has_announced v.next ≡ true → (m : ℕ) → m ≤ state_tag words → (states m).applied process ≡ v.age
      → (states m).reply process ≡ (states (state_tag words)).reply process
  -- and so has each record for the state after one of them
  pub in_records : has_announced v.next ≡ true → (row : ℕ) → row < records sizes
      → 1 ≤ word_tag words row (sizes.processes + 2 + process)
      → (states (word_tag words row (sizes.processes + 2 + process) - 1)).applied process ≡ v.age
      → word_value words row (sizes.processes + 2 + process) ≡ (states (state_tag words)).reply process

-- Announcements, of a view w in its try and the process o with the view v: w heard its present announcement
pub record HearsPresent (processes : ℕ) (words : Words) (states : States) (o : ℕ) (w v : TransferView) : Type 0 where
  -- where w loaded the present state, against which it pends
  pub present : in_try w.next ≡ true → loaded_tag w.loaded ≡ state_tag words → o < heard_announcements processes w.next
      → tag_of (heard w o) % 2 ≢ (states (state_tag words)).applied o % 2 → heard w o ≡ words (Announcement o)
  -- where w loaded a later state than the first try of v, and one that hasn't applied the transfer
  pub later : in_try w.next ≡ true → has_begun_try v.next ≡ true → v.first_loaded < loaded_tag w.loaded
      → o < heard_announcements processes w.next → (states (loaded_tag w.loaded)).applied o ≢ v.age → heard w o ≡ words (Announcement o)
  -- where it is its own
  pub own_heard : in_try w.next ≡ true → w.number ≡ o → o < heard_announcements processes w.next → heard w o ≡ words (Announcement o)
  -- and where w loaded a state that has applied the pending transfer
  pub heard_present : in_try w.next ≡ true → has_announced v.next ≡ true → (states (loaded_tag w.loaded)).applied o ≡ v.age
      → o < heard_announcements processes w.next → heard w o ≡ words (Announcement o)
