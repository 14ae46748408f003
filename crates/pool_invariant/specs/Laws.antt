-- the pool's part holds at the opening, and beginnings and steps keep it; what follows from it
use Rattle.std.specs.Prelude.{◌≡◌, ◌≢◌, ℕ, ◌+◌, ◌<◌, ◌≤◌}
use Rattle.word_layout.specs.Sizes.{Sizes, IsShape, transfer_bound}
use Rattle.word_layout.specs.Packing.{most_age, value_of, reply_of}
use Rattle.word_layout.specs.declared.announced.Wish.{Wish}
use Rattle.transfer_schedule.specs.Table.{InTable}
use Rattle.transfer_machine.specs.Machine.{met_of}
use Rattle.pool_machine.specs.Pools.{opening_view, view_begun, view_met, MayBegin, CanCount, CanMeetPool}
use Rattle.transfer_machine.specs.declared.transfer.TransferView.{TransferView}
use Rattle.pool_machine.specs.declared.view.ProcessView.{ProcessView}
use Rattle.transfer_machine.specs.declared.stage.NextStep.TheVariants.{Rest, LoadReply}
use Rattle.transfer_invariant.specs.Memory.{Words, Views, States}
use Rattle.transfer_invariant.specs.Invariant.{RecordsHold}
use Rattle.pool_invariant.specs.Stages.{IndexFits}
use Rattle.pool_invariant.specs.StepCount.{OverlayIsFew, TransferSteps, steps_before}
use Rattle.pool_invariant.specs.Kept.{Answers, GivenToPool}
use Rattle.pool_invariant.specs.Holds.{PoolHolds}

-- it holds at the opening
abbrev pub OpeningMeetsPool : Type 0
OpeningMeetsPool = (sizes : Sizes) (i : ℕ) → PoolHolds sizes i (opening_view sizes i)

-- a process at rest that begins a transfer keeps it, where its age is below the limit
abbrev pub BeginningsKeepPool : Type 0
BeginningsKeepPool = (sizes : Sizes) (i : ℕ) (v : ProcessView) (wish : Wish) → PoolHolds sizes i v
    → v.transfer.next ≡ Rest
    → MayBegin wish v.pool
    → v.transfer.age < most_age sizes
    → PoolHolds sizes i (view_begun wish v)

-- each step keeps it, whatever word it meets
abbrev pub StepsKeepPool : Type 0
StepsKeepPool = (sizes : Sizes) (i : ℕ) (v : ProcessView) (word : ℕ) → 1 ≤ sizes.processes → PoolHolds sizes i v
    → GivenToPool sizes v.transfer word
    → PoolHolds sizes i (view_met sizes v word)

-- the pool can count each step of its transfer
abbrev pub StepsCanCount : Type 0
StepsCanCount = (sizes : Sizes) (i : ℕ) (v : ProcessView) → IsShape sizes → PoolHolds sizes i v
    → OverlayIsFew sizes v.transfer
    → v.transfer.next ≢ Rest
    → CanCount v.pool

-- the own reply may end the transfer
abbrev pub RepliesCanEnd : Type 0
RepliesCanEnd = (sizes : Sizes) (i : ℕ) (v : ProcessView) (word : ℕ) → PoolHolds sizes i v
    → (v.transfer.next ≡ LoadReply → Answers v.transfer.wish (reply_of (value_of word)))
    → CanMeetPool word v.pool v.transfer.next

-- the plan is within the table of spares
abbrev pub PlansWithinTable : Type 0
PlansWithinTable = (sizes : Sizes) (i : ℕ) (v : ProcessView) → IsShape sizes → PoolHolds sizes i v → InTable v.pool.plan

-- there is a step left for the next one, at every stage but rest
abbrev pub StepsAreLeft : Type 0
StepsAreLeft = (sizes : Sizes) (v : TransferView) → IndexFits sizes v
    → OverlayIsFew sizes v
    → v.next ≢ Rest
    → steps_before sizes v + 1 ≤ transfer_bound sizes

-- and each step that doesn't end the transfer comes nearer to the bound, whatever word it meets
abbrev pub StepsComeNearer : Type 0
StepsComeNearer = (sizes : Sizes) (v : TransferView) (word : ℕ) → IndexFits sizes v
    → OverlayIsFew sizes v
    → v.next ≢ Rest
    → (met_of sizes v word).next ≢ Rest
    → steps_before sizes v + 1 ≤ steps_before sizes (met_of sizes v word)

-- so a transfer takes no more steps than the bound
abbrev pub TransfersEnd : Type 0
TransfersEnd = (sizes : Sizes) (n : ℕ) (views : ℕ → TransferView) (words : ℕ → ℕ) → 1 ≤ sizes.processes
    → TransferSteps sizes n views words
    → n ≤ transfer_bound sizes

-- what the parts of the records give it: an overlay that a process loaded with its whole record has at most a head a process
abbrev pub OverlaysAreFew : Type 0
OverlaysAreFew =
    (sizes : Sizes) (words : Words) (views : Views) (states : States) (i : ℕ) → i < sizes.processes → RecordsHold sizes words views states
    → OverlayIsFew sizes (views i)
