-- what changes of the words and states leave of the facts of views that stay
use Rattle.std.proofs.Common.{◌≡◌, ℕ, ◌+◌, ◌<◌, true, arith}
use Rattle.word_layout.specs.Sizes.{Sizes}
use Rattle.word_layout.specs.declared.name.WordName.TheVariants.{Announcement}
use Rattle.transfer_machine.specs.declared.transfer.TransferView.{TransferView}
use Rattle.transfer_invariant.specs.Memory.{Words, States, state_tag}
use Rattle.transfer_invariant.specs.Progress.{has_announced}
use Rattle.transfer_invariant.proofs.Changes.{RecordsStay, WordStored}
use Rattle.helping_invariant.specs.Parts.{AppliedRises, AnnouncementHolds, TwoTries, SettledReply, HearsPresent}

-- the number of the state stays
pub stay_counts : (sizes : Sizes) (m n : Words) (states : States) → AppliedRises sizes m states → state_tag n ≡ state_tag m
    → AppliedRises sizes n states
stay_counts sizes m n states h e = grind arith

-- the part two tries of a process stays
pub stay_tries : (m n : Words) (states : States) (o : ℕ) (w : TransferView) → TwoTries m states o w → state_tag n ≡ state_tag m
    → TwoTries n states o w
stay_tries m n states o w h e = grind arith

-- and so does the announcement of the process
pub stay_announced : (m n : Words) (states : States) (o : ℕ) (w : TransferView) → AnnouncementHolds m states o w → state_tag n ≡ state_tag m
    → n (Announcement o) ≡ m (Announcement o) → AnnouncementHolds n states o w
stay_announced m n states o w h e a = grind arith

-- what a view heard of a process stays its present announcement
pub stay_hears : (processes : ℕ) (m n : Words) (states : States) (o : ℕ) (w v : TransferView) → HearsPresent processes m states o w v
    → state_tag n ≡ state_tag m → n (Announcement o) ≡ m (Announcement o) → HearsPresent processes n states o w v
stay_hears processes m n states o w v h e a = grind arith

-- and so do the records
pub stay_settled : (sizes : Sizes) (m n : Words) (states : States) (o : ℕ) (w : TransferView) → o < sizes.processes
    → SettledReply sizes m states o w → RecordsStay sizes m n → SettledReply sizes n states o w
stay_settled sizes m n states o w lo h s = grind arith

-- a record word is stored: for the next state of one that has applied a pending transfer, it has the present reply
pub store_settled : (sizes : Sizes) (m n : Words) (states : States) (o row index tag value : ℕ) (w : TransferView) → o < sizes.processes
    → SettledReply sizes m states o w → WordStored sizes m n row index (tag + 1) value
    → (has_announced w.next ≡ true → (states tag).applied o ≡ w.age → sizes.processes + 2 + o ≡ index
    → value ≡ (states (state_tag m)).reply o)
    → SettledReply sizes n states o w
store_settled sizes m n states o row index tag value w lo h s final = grind arith
