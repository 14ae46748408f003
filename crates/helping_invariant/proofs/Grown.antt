-- what a new state leaves of the facts: of all states, and of the views that didn't install it
use Rattle.std.proofs.Common.{◌≡◌, ℕ, ◌+◌, ◌<◌, ◌≤◌, Bool, true, arith}
use Rattle.word_layout.specs.Sizes.{Sizes}
use Rattle.word_layout.specs.declared.name.WordName.TheVariants.{Announcement}
use Rattle.transfer_machine.specs.Loads.{loaded_tag}
use Rattle.transfer_machine.specs.States.{StackState}
use Rattle.transfer_machine.specs.declared.transfer.TransferView.{TransferView}
use Rattle.transfer_machine.specs.declared.stage.NextStep.TheVariants.{Try}
use Rattle.transfer_machine.specs.declared.stage.TryStep.TheVariants.{ExchangeState}
use Rattle.transfer_invariant.specs.Memory.{Words, States, state_tag}
use Rattle.transfer_invariant.specs.Progress.{has_loaded}
use Rattle.transfer_invariant.specs.Records.{TagsBelow}
use Rattle.transfer_invariant.proofs.Changes.{StateInstalled}
use Rattle.helping_invariant.specs.Parts.{AppliedRises, AnnouncementHolds, TwoTries, SettledReply, HearsPresent}
use Rattle.helping_invariant.proofs.Changes.{StatesGrow, AppliesHeard}

-- the counts rise and the parities hold
pub grow_counts : (sizes : Sizes) (m n : Words) (states later : States) (next : StackState) (v : TransferView) → AppliedRises sizes m states
    → StatesGrow m n states later next → AppliesHeard sizes.processes (states (state_tag m)) next v → AppliedRises sizes n later
grow_counts sizes m n states later next v h g a = grind arith

-- what the installing view v did for the process o with the view w
pub grow_announced : (processes : ℕ) (m n : Words) (states later : States) (next : StackState) (o : ℕ) (second : Bool) (v w : TransferView)
    → o < processes → AnnouncementHolds m states o w → HearsPresent processes m states o v w → v.next ≡ Try second ExchangeState
    → loaded_tag v.loaded ≡ state_tag m
    → n (Announcement o) ≡ m (Announcement o) → StatesGrow m n states later next → AppliesHeard processes (states (state_tag m)) next v
    → AnnouncementHolds n later o w
grow_announced processes m n states later next o second v w lo h p e now same g a = grind arith

-- an installed state keeps the part two tries of every process
pub grow_tries : (processes : ℕ) (m n : Words) (states later : States) (next : StackState) (o : ℕ) (second : Bool) (v w : TransferView)
    → o < processes → AnnouncementHolds m states o w → TwoTries m states o w → HearsPresent processes m states o v w
    → v.next ≡ Try second ExchangeState → loaded_tag v.loaded ≡ state_tag m
    → (has_loaded w.next ≡ true → loaded_tag w.loaded ≤ state_tag m) → w.installed ≤ state_tag m → StatesGrow m n states later next
    → AppliesHeard processes (states (state_tag m)) next v → TwoTries n later o w
grow_tries processes m n states later next o second v w lo h t p e now past made g a = grind arith

-- and the part settled reply: a state that has applied the pending transfer of a process keeps its reply
pub grow_settled : (sizes : Sizes) (m n : Words) (states later : States) (next : StackState) (o row : ℕ) (second : Bool)
    (v w : TransferView) → o < sizes.processes → TagsBelow sizes m → AppliedRises sizes m states → AnnouncementHolds m states o w
    → SettledReply sizes m states o w → HearsPresent sizes.processes m states o v w → v.next ≡ Try second ExchangeState
    → loaded_tag v.loaded ≡ state_tag m
    → StateInstalled sizes m n (state_tag m + 1) row → StatesGrow m n states later next
    → AppliesHeard sizes.processes (states (state_tag m)) next v → SettledReply sizes n later o w
grow_settled sizes m n states later next o row second v w lo low c h s p e now i g a = grind arith

-- of a view w that isn't the installing one
pub grow_hears : (processes : ℕ) (m n : Words) (states later : States) (next : StackState) (o : ℕ) (w v : TransferView)
    → (has_loaded w.next ≡ true → loaded_tag w.loaded ≤ state_tag m) → HearsPresent processes m states o w v
    → n (Announcement o) ≡ m (Announcement o) → StatesGrow m n states later next → HearsPresent processes n later o w v
grow_hears processes m n states later next o w v past h same g = grind arith
