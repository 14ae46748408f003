-- beginnings and steps of transfers keep the batches of their process, and changes of the state carry batches
use Rattle.std.specs.Prelude.{◌≡◌, ℕ, ◌<◌, ◌≤◌}
use Rattle.word_layout.specs.Sizes.{Sizes}
use Rattle.word_layout.specs.declared.announced.Wish.{Wish}
use Rattle.transfer_machine.specs.States.{StackState, next_of}
use Rattle.transfer_machine.specs.declared.transfer.TransferView.{TransferView}
use Rattle.transfer_machine.specs.declared.stage.NextStep.TheVariants.{Rest}
use Rattle.pool_machine.specs.Pools.{view_begun, view_met, MayBegin}
use Rattle.pool_machine.specs.declared.view.ProcessView.{ProcessView}
use Rattle.transfer_invariant.specs.Installing.{drafted_state}
use Rattle.batch_invariant.specs.Batches.{ProcessViews, ReplyMatches, KeepsBatches}
use Rattle.batch_invariant.specs.Transit.{HeadsFit, Carried}
use Rattle.batch_invariant.specs.Premises.{InStep, PendingIsPresent, InstallsNext, SameStack}

-- a process at rest that begins a transfer keeps its batches: a given one leaves the spares and is in transit
abbrev pub BeginningsKeepBatches : Type 0
BeginningsKeepBatches = (s : StackState) (i : ℕ) (wish : Wish) (v : ProcessView)
    → v.transfer.next ≡ Rest
    → MayBegin wish v.pool
    → KeepsBatches s i v (view_begun wish v)

-- so does a step of its transfer, in a state that stays: at the end a batch in transit becomes a spare
abbrev pub StepsKeepBatches : Type 0
StepsKeepBatches = (sizes : Sizes) (s : StackState) (i word : ℕ) (v : ProcessView)
    → InStep s i v.transfer word
    → ReplyMatches s i v.transfer
    → KeepsBatches s i v (view_met sizes v word)

-- the states that come of one by the announcements of the first so many processes carry batches
abbrev pub NextStatesCarry : Type 0
NextStatesCarry = (sizes : Sizes) (s : StackState) (views : ProcessViews) (announcements : ℕ → ℕ) (heard : ℕ) → heard ≤ sizes.processes
    → HeadsFit sizes s views
    → ((o : ℕ) → o < sizes.processes → PendingIsPresent s (announcements o) o (views o).transfer)
    → Carried sizes s (next_of heard announcements s) views

-- so does a state that says the same
abbrev pub SameStatesCarry : Type 0
SameStatesCarry = (sizes : Sizes) (s t : StackState) (views : ProcessViews) → SameStack sizes.processes s t → Carried sizes s t views

-- and the state that a view installs
abbrev pub DraftedStatesCarry : Type 0
DraftedStatesCarry = (sizes : Sizes) (s : StackState) (views : ProcessViews) (v : TransferView)
    → HeadsFit sizes s views
    → InstallsNext sizes s views v
    → Carried sizes s (drafted_state s v) views
