-- what the views have heard of each other, where one of them moves
use Rattle.std.proofs.Common.{◌≡◌, ◌≢◌, ℕ, ◌+◌, ◌<◌, ◌≤◌, Bool, true, false, inl, inr, arith}
use Rattle.std.proofs.Common.{length, set, get_or-set_same, get_or-set_other}
use Rattle.std.specs.Prelude.{if◌then◌else◌}
use Rattle.std.proofs.lemmas.Bool.{cases_eq}
use Rattle.std.proofs.lemmas.Bool.Decides.{nat_tests}
use Rattle.word_layout.specs.Sizes.{Sizes}
use Rattle.word_layout.specs.declared.name.WordName.TheVariants.{Announcement}
use Rattle.transfer_machine.specs.Loads.{loaded_tag}
use Rattle.transfer_machine.specs.declared.transfer.TransferView.{TransferView}
use Rattle.transfer_machine.specs.declared.stage.NextStep.TheVariants.{Announce, Try}
use Rattle.transfer_machine.specs.declared.stage.TryStep.TheVariants.{LoadState, LoadRecordWord, LoadAnnouncement}
use Rattle.transfer_invariant.specs.Memory.{Words, States, state_tag}
use Rattle.transfer_invariant.specs.Progress.{in_try, has_announced, has_begun_try, heard_announcements}
use Rattle.helping_invariant.specs.Parts.{heard, AppliedRises, AnnouncementHolds, HearsPresent}
use Rattle.helping_invariant.proofs.Changes.{AnnouncementStored}
use Rattle.helping_invariant.proofs.Own.{StaysInTry}

-- the hearing view stays in its try, and has heard no more
pub hears_on : (processes : ℕ) (m : Words) (states : States) (o : ℕ) (w x v : TransferView) → HearsPresent processes m states o w v
    → StaysInTry w x → (o < heard_announcements processes x.next → o < heard_announcements processes w.next) → heard x o ≡ heard w o
    → HearsPresent processes m states o x v
hears_on processes m states o w x v h g le eh = grind arith

-- it has just heard the present one
hears_now : (processes : ℕ) (m : Words) (states : States) (o : ℕ) (x v : TransferView) → heard x o ≡ m (Announcement o)
    → HearsPresent processes m states o x v
hears_now processes m states o x v e = grind arith

-- it has heard none
pub hears_none : (processes : ℕ) (m : Words) (states : States) (o : ℕ) (x v : TransferView) → heard_announcements processes x.next ≡ 0
    → HearsPresent processes m states o x v
hears_none processes m states o x v e = grind arith

-- one more announcement is loaded
pub hears_more : (processes : ℕ) (m : Words) (states : States) (o process : ℕ) (second : Bool) (w x v : TransferView) → o < 32
    → length w.loaded.announcements ≡ 32 → HearsPresent processes m states o w v → StaysInTry w x
    → w.next ≡ Try second (LoadAnnouncement process)
    → x.loaded.announcements ≡ set w.loaded.announcements process (m (Announcement process))
    → heard_announcements processes x.next ≤ process + 1 → HearsPresent processes m states o x v
hears_more processes m states o process second w x v low room h g e ex le =
    let old = w.loaded.announcements in
    let word = m (Announcement process) in
    elim (cases_eq o process) [
      | inl same ↦ hears_now processes m states o x v (rw (ex, same) (get_or-set_same old process word 0 (omega arith)))
      | inr ne ↦ hears_on processes m states o w x v h g (λ lt. rw e (omega arith)) (rw ex (get_or-set_other old process o word 0 ne))
    ]

-- the heard view goes on, and has begun no more
pub record HeardOn (v x : TransferView) : Type 0 where
  pub age : x.age ≡ v.age
  pub first : x.first_loaded ≡ v.first_loaded
  pub announced : has_announced x.next ≡ true → has_announced v.next ≡ true
  pub begun : has_begun_try x.next ≡ true → has_begun_try v.next ≡ true

-- what was heard of a process stays its present announcement while that process goes on so
pub heard_on : (processes : ℕ) (m : Words) (states : States) (o : ℕ) (w v x : TransferView) → HearsPresent processes m states o w v
    → HeardOn v x → HearsPresent processes m states o w x
heard_on processes m states o w v x h g = grind arith

-- its transfer ends
pub heard_idle : (processes : ℕ) (m : Words) (states : States) (o : ℕ) (w v x : TransferView) → HearsPresent processes m states o w v
    → has_announced x.next ≡ false → HearsPresent processes m states o w x
heard_idle processes m states o w v x h e = grind arith

-- it loads a state, and its first one may be the present one
pub heard_loaded : (processes : ℕ) (m : Words) (states : States) (o : ℕ) (second : Bool) (w v x : TransferView)
    → (in_try w.next ≡ true → loaded_tag w.loaded ≤ state_tag m) → HearsPresent processes m states o w v → v.next ≡ Try second LoadState
    → x.next ≡ Try second (LoadRecordWord 0) → x.age ≡ v.age → x.first_loaded ≡ (if second then v.first_loaded else state_tag m)
    → HearsPresent processes m states o w x
heard_loaded processes m states o second w v x past h e en ea ef = grind (arith, nat_tests)

-- it announces its next transfer
pub heard_announced : (sizes : Sizes) (m n : Words) (states : States) (i word : ℕ) (w v : TransferView) → i < sizes.processes
    → AppliedRises sizes m states → (in_try w.next ≡ true → loaded_tag w.loaded ≤ state_tag m) → w.number ≢ i
    → AnnouncementHolds m states i v → HearsPresent sizes.processes m states i w v → v.next ≡ Announce → state_tag n ≡ state_tag m
    → AnnouncementStored sizes m n i word
    → HearsPresent sizes.processes n states i w (record v { next = Try false LoadState; age = v.age + 1 })
heard_announced sizes m n states i word w v li c past other hv h e same s = grind (arith, nat_tests)
