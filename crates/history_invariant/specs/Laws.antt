-- the opening has a history, and steps, exchanges and entries keep it
use Rattle.std.specs.Prelude.{◌≡◌, ◌≢◌, ℕ, ◌+◌, ◌<◌, ◌≤◌, true, List, [], ◌∷◌, ◌++◌, length, take, Contains}
use Rattle.pool_model.specs.declared.entry.Entry.{Entry}
use Rattle.pool_model.specs.declared.entry.Entry.TheVariants.{Got, Back, Dry}
use Rattle.pool_model.specs.Limits.{Limits}
use Rattle.pool_model.specs.History.{held, HasFewUnheld, grip}
use Rattle.pool_model.specs.Legal.{IsLegal}
use Rattle.transfer_schedule.specs.declared.own_step.Source.TheVariants.{Nothing}
use Rattle.transfer_schedule.specs.Numbers.{AreSizes, source_of, withheld}
use Rattle.transfer_schedule.specs.Account.{Own, asks_in}
use Rattle.process_sums.specs.Sums.{total}
use Rattle.history_invariant.specs.Ledger.{Ledger, Ledgers, opening_ledger}
use Rattle.history_invariant.specs.Holds.{HistoryHolds}
use Rattle.history_invariant.specs.Steps.{GoesOn, Emptied, Replaced, entered, got_one, got_none, gave_back}
use Rattle.history_invariant.specs.Grips.{SharesOut}
use Rattle.history_invariant.specs.Longest.{longest}

-- the empty history is that of the opening
abbrev pub OpeningHasHistory : Type 0
OpeningHasHistory = (limits : Limits) (bound quantum : ℕ) (ledgers : Ledgers)
    → ((i : ℕ) → i < limits.processes → ledgers i ≡ opening_ledger limits.batch_length bound quantum)
    → HistoryHolds limits bound quantum [] ledgers

-- a step of a process that makes no entry keeps the history
abbrev pub StepsKeepHistory : Type 0
StepsKeepHistory = (limits : Limits) (bound quantum : ℕ) (history : List Entry) (ledgers after : Ledgers) (i : ℕ) (ledger : Ledger)
    → AreSizes limits.batch_length bound quantum
    → i < limits.processes
    → HistoryHolds limits bound quantum history ledgers
    → GoesOn (ledgers i) ledger
    → Replaced i ledger ledgers after
    → HistoryHolds limits bound quantum history after

-- an exchange of the state keeps the history, where takes find nothing only while few blocks are unheld
abbrev pub ExchangesKeepHistory : Type 0
ExchangesKeepHistory = (limits : Limits) (bound quantum : ℕ) (history : List Entry) (ledgers after : Ledgers)
    → HistoryHolds limits bound quantum history ledgers
    → ((i : ℕ) → i < limits.processes → Emptied limits history (ledgers i) (after i))
    → HistoryHolds limits bound quantum history after

-- an allocate that is given a block of the pool which nobody holds adds its entry to the history
abbrev pub GotsKeepHistory : Type 0
GotsKeepHistory = (limits : Limits) (bound quantum : ℕ) (history : List Entry) (ledgers after : Ledgers) (i block : ℕ)
    → i < limits.processes
    → HistoryHolds limits bound quantum history ledgers
    → asks_in (ledgers i).account.phase ≡ true
    → source_of (ledgers i).account.plan ≢ Nothing
    → block < limits.blocks
    → ¬ Contains (held history) block
    → Replaced i (entered history (Got i block) (got_one (ledgers i).account) (ledgers i)) ledgers after
    → HistoryHolds limits bound quantum (history ++ Got i block ∷ []) after

-- a free of a block that its process holds adds its entry
abbrev pub BacksKeepHistory : Type 0
BacksKeepHistory = (limits : Limits) (bound quantum : ℕ) (history : List Entry) (ledgers after : Ledgers) (i block : ℕ)
    → i < limits.processes
    → HistoryHolds limits bound quantum history ledgers
    → (ledgers i).account.phase ≡ Own
    → Contains (grip (ledgers i).entries) block
    → Replaced i (entered history (Back i block) (gave_back (ledgers i).account) (ledgers i)) ledgers after
    → HistoryHolds limits bound quantum (history ++ Back i block ∷ []) after

-- an allocate that finds no block adds its refusal, which is legal
abbrev pub RefusalsKeepHistory : Type 0
RefusalsKeepHistory = (limits : Limits) (bound quantum : ℕ) (history : List Entry) (ledgers after : Ledgers) (i : ℕ)
    → AreSizes limits.batch_length bound quantum
    → i < limits.processes
    → HistoryHolds limits bound quantum history ledgers
    → asks_in (ledgers i).account.phase ≡ true
    → source_of (ledgers i).account.plan ≡ Nothing
    → Replaced i (entered history (Dry i) (got_none (ledgers i).account) (ledgers i)) ledgers after
    → HistoryHolds limits bound quantum (history ++ Dry i ∷ []) after

-- a process that is told what another one has seen, where that is more, keeps the history
abbrev pub JoinsKeepHistory : Type 0
JoinsKeepHistory = (limits : Limits) (bound quantum : ℕ) (history : List Entry) (ledgers after : Ledgers) (i other : ℕ)
    → i < limits.processes
    → other < limits.processes
    → HistoryHolds limits bound quantum history ledgers
    → length (ledgers i).seen ≤ length (ledgers other).seen
    → Replaced i (record (ledgers i) { seen = (ledgers other).seen }) ledgers after
    → HistoryHolds limits bound quantum history after

-- where each block is held or withheld by a process, so that the shared stack is empty, at most the slack is unheld
abbrev pub EmptyStackLeavesFew : Type 0
EmptyStackLeavesFew = (limits : Limits) (bound quantum : ℕ) (history : List Entry) (ledgers : Ledgers)
    → AreSizes limits.batch_length bound quantum
    → HistoryHolds limits bound quantum history ledgers
    → limits.blocks ≤ length (held history) + total limits.processes (λ i. withheld (ledgers i).account.plan)
    → HasFewUnheld limits history (length history)

-- the held blocks are shared out among the processes
abbrev pub HeldBlocksAreShared : Type 0
HeldBlocksAreShared = (limits : Limits) (bound quantum : ℕ) (history : List Entry) (ledgers : Ledgers)
    → HistoryHolds limits bound quantum history ledgers
    → SharesOut limits history ledgers

-- each beginning of the history is legal
abbrev pub BeginningsAreLegal : Type 0
BeginningsAreLegal = (limits : Limits) (bound quantum : ℕ) (history : List Entry) (ledgers : Ledgers) (place : ℕ)
    → HistoryHolds limits bound quantum history ledgers
    → IsLegal limits (take place history)

-- so is what each process has seen of it
abbrev pub SeenIsLegal : Type 0
SeenIsLegal = (limits : Limits) (bound quantum : ℕ) (history : List Entry) (ledgers : Ledgers) (i : ℕ)
    → i < limits.processes
    → HistoryHolds limits bound quantum history ledgers
    → IsLegal limits (ledgers i).seen

-- the history is the longest that a process has seen
abbrev pub HistoryIsLongest : Type 0
HistoryIsLongest = (limits : Limits) (bound quantum : ℕ) (history : List Entry) (ledgers : Ledgers)
    → HistoryHolds limits bound quantum history ledgers
    → longest limits.processes (λ i. (ledgers i).seen) ≡ history
