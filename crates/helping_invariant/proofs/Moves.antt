-- the steps by what they change: the parts for all views, from those of the moving view
use Rattle.std.proofs.Common.{◌≡◌, ◌≢◌, ℕ, ◌+◌, ◌<◌, ◌≤◌, true, false, ap, length}
use Rattle.word_layout.specs.Sizes.{Sizes}
use Rattle.transfer_machine.specs.Loads.{loaded_tag}
use Rattle.transfer_machine.specs.declared.transfer.TransferView.{TransferView}
use Rattle.transfer_invariant.specs.Memory.{Words, Views, States, Moved, state_tag}
use Rattle.transfer_invariant.specs.Progress.{in_try, has_loaded, has_announced, heard_announcements}
use Rattle.transfer_invariant.proofs.Changes.{RecordsStay, WordStored}
use Rattle.transfer_invariant.proofs.MovedViews.{all_after, all_pairs_after}
use Rattle.transfer_invariant.proofs.Steps.{try_has}
use Rattle.helping_invariant.specs.Parts.{AppliedRises, AnnouncementHolds, TwoTries, SettledReply, HearsPresent}
use Rattle.helping_invariant.specs.Holds.{HelpingHolds}
use Rattle.helping_invariant.proofs.Changes.{AnnouncementsStay}
use Rattle.helping_invariant.proofs.Stable.{stay_counts, stay_tries, stay_announced, stay_hears, stay_settled, store_settled}
use Rattle.helping_invariant.proofs.Own.{tries_idle, settled_idle, announced_idle}
use Rattle.helping_invariant.proofs.Between.{hears_none, heard_idle}

-- what a step of process i owes
pub record Owed (sizes : Sizes) (n : Words) (views : Views) (states : States) (i : ℕ) (x : TransferView) : Type 0 where
  pub counts : AppliedRises sizes n states
  pub announced : AnnouncementHolds n states i x
  pub tries : TwoTries n states i x
  pub settled : SettledReply sizes n states i x
  pub others_announced : (o : ℕ) → o < sizes.processes → o ≢ i → AnnouncementHolds n states o (views o)
  pub others_tries : (o : ℕ) → o < sizes.processes → o ≢ i → TwoTries n states o (views o)
  pub others_settled : (o : ℕ) → o < sizes.processes → o ≢ i → SettledReply sizes n states o (views o)
  pub from : (o : ℕ) → o < sizes.processes → o ≢ i → HearsPresent sizes.processes n states o x (views o)
  pub into : (a : ℕ) → a < sizes.processes → a ≢ i → HearsPresent sizes.processes n states i (views a) x
  pub self : HearsPresent sizes.processes n states i x x
  pub rest : (a o : ℕ) → a < sizes.processes → o < sizes.processes → a ≢ i → o ≢ i
      → HearsPresent sizes.processes n states o (views a) (views o)

-- the parts of helping hold after a step of process i, where it and all others meet what the step owes
pub assemble : (sizes : Sizes) (n : Words) (views after : Views) (states : States) (i : ℕ) (x : TransferView) → Moved i x views after
    → Owed sizes n views states i x → HelpingHolds sizes n after states
assemble sizes n views after states i x moved owed = record {
  counts = owed.counts;
  announced = all_after (AnnouncementHolds n states) sizes.processes views after i x moved owed.announced owed.others_announced;
  tries = all_after (TwoTries n states) sizes.processes views after i x moved owed.tries owed.others_tries;
  settled = all_after (SettledReply sizes n states) sizes.processes views after i x moved owed.settled owed.others_settled;
  hears = all_pairs_after (λ a. HearsPresent sizes.processes n states) sizes.processes views after i x moved owed.self owed.from owed.into
      owed.rest;
}

-- neither the state nor a record word nor an announcement changes
pub stay : (sizes : Sizes) (m n : Words) (views : Views) (states : States) → HelpingHolds sizes m views states → RecordsStay sizes m n
    → AnnouncementsStay sizes m n → HelpingHolds sizes n views states
stay sizes m n views states h s a = record {
  counts = stay_counts sizes m n states h.counts s.state;
  announced = λ o lo. stay_announced m n states o (views o) (h.announced o lo) s.state (a.each o lo);
  tries = λ o lo. stay_tries m n states o (views o) (h.tries o lo) s.state;
  settled = λ o lo. stay_settled sizes m n states o (views o) lo (h.settled o lo) s;
  hears = λ b o lb lo. stay_hears sizes.processes m n states o (views b) (views o) (h.hears b o lb lo) s.state (a.each o lo);
}

-- a record word is stored that has the present reply where it is the reply to an applied transfer
pub store : (sizes : Sizes) (m n : Words) (views : Views) (states : States) (row index tag value : ℕ) → HelpingHolds sizes m views states
    → WordStored sizes m n row index (tag + 1) value → AnnouncementsStay sizes m n
    → ((o : ℕ) → o < sizes.processes → has_announced (views o).next ≡ true → (states tag).applied o ≡ (views o).age
    → sizes.processes + 2 + o ≡ index → value ≡ (states (state_tag m)).reply o)
    → HelpingHolds sizes n views states
store sizes m n views states row index tag value h s a final = record {
  counts = stay_counts sizes m n states h.counts s.state;
  announced = λ o lo. stay_announced m n states o (views o) (h.announced o lo) s.state (a.each o lo);
  tries = λ o lo. stay_tries m n states o (views o) (h.tries o lo) s.state;
  settled = λ o lo. store_settled sizes m n states o row index tag value (views o) lo (h.settled o lo) s (final o lo);
  hears = λ b o lb lo. stay_hears sizes.processes m n states o (views b) (views o) (h.hears b o lb lo) s.state (a.each o lo);
}

-- every view has loaded at most the present state
abbrev pub LoadedPast : Sizes → Words → Views → Type 0
LoadedPast sizes m views = (o : ℕ) → o < sizes.processes → has_loaded (views o).next ≡ true → loaded_tag (views o).loaded ≤ state_tag m

-- what a step that changes no word owes
pub record ViewOwes (sizes : Sizes) (m : Words) (views : Views) (states : States) (i : ℕ) (x : TransferView) : Type 0 where
  pub past : in_try x.next ≡ true → loaded_tag x.loaded ≤ state_tag m
  pub announced : AnnouncementHolds m states i x
  pub tries : TwoTries m states i x
  pub settled : SettledReply sizes m states i x
  pub from : (o : ℕ) → o < sizes.processes → HearsPresent sizes.processes m states o x (views o)
  pub into : (w : TransferView) → (in_try w.next ≡ true → loaded_tag w.loaded ≤ state_tag m)
      → HearsPresent sizes.processes m states i w (views i) → HearsPresent sizes.processes m states i w x

-- a step that changes no word keeps them, where the view of its process meets what it owes
pub view_moves : (sizes : Sizes) (m : Words) (views after : Views) (states : States) (i : ℕ) (x : TransferView) → i < sizes.processes
    → HelpingHolds sizes m views states → LoadedPast sizes m views → Moved i x views after → ViewOwes sizes m views states i x
    → HelpingHolds sizes m after states
view_moves sizes m views after states i x li h past moved owes = assemble sizes m views after states i x moved (record {
  counts = h.counts;
  announced = owes.announced;
  tries = owes.tries;
  settled = owes.settled;
  others_announced = λ o lo ne. h.announced o lo;
  others_tries = λ o lo ne. h.tries o lo;
  others_settled = λ o lo ne. h.settled o lo;
  from = λ o lo ne. owes.from o lo;
  into = λ a la ne. owes.into (views a) (λ t. past a la (try_has (views a).next t)) (h.hears a i la li);
  self = owes.into x owes.past (owes.from i li);
  rest = λ a o la lo na no. h.hears a o la lo;
})

-- a process at rest stays so, and one begins or ends a transfer
pub view_idle : (sizes : Sizes) (m : Words) (views after : Views) (states : States) (i : ℕ) (x : TransferView) → i < sizes.processes
    → HelpingHolds sizes m views states → Moved i x views after → (states (state_tag m)).applied i ≡ (views i).age
    → has_announced x.next ≡ false → heard_announcements sizes.processes x.next ≡ 0 → x.number ≡ (views i).number → x.age ≡ (views i).age
    → x.loaded ≡ (views i).loaded → HelpingHolds sizes m after states
view_idle sizes m views after states i x li h moved applied none deaf en ea el = assemble sizes m views after states i x moved (record {
  counts = h.counts;
  announced = announced_idle m states i (views i) x (h.announced i li) none applied en ea (ap (λ l. length l.announcements) el);
  tries = tries_idle m states i x none;
  settled = settled_idle sizes m states i x none;
  others_announced = λ o lo ne. h.announced o lo;
  others_tries = λ o lo ne. h.tries o lo;
  others_settled = λ o lo ne. h.settled o lo;
  from = λ o lo ne. hears_none sizes.processes m states o x (views o) deaf;
  into = λ a la ne. heard_idle sizes.processes m states i (views a) (views i) x (h.hears a i la li) none;
  self = hears_none sizes.processes m states i x x deaf;
  rest = λ a o la lo na no. h.hears a o la lo;
})
