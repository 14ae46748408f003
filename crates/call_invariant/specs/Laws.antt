-- beginnings and steps of a process keep what holds of its pool and its ledger, and what follows
use Rattle.std.specs.Prelude.{◌+◌, None, ◌≡◌, ◌≢◌, ℕ, ◌<◌, ◌≤◌, Bool, true, false, if◌then◌else◌, Some, List, length, Contains}
use Rattle.word_layout.specs.Sizes.{Sizes, most_blocks, IsShape, limits_of, transfer_bound}
use Rattle.word_layout.specs.Packing.{most_age, value_of, reply_of}
use Rattle.word_layout.specs.declared.announced.Wish.{Wish}
use Rattle.word_layout.specs.declared.reply.Reply.TheVariants.{Nothing}
use Rattle.pool_model.specs.declared.entry.Entry.{Entry}
use Rattle.pool_model.specs.History.{grip, held, allowance, HasFewUnheld}
use Rattle.pool_model.specs.Limits.{Limits}
use Rattle.transfer_schedule.specs.Numbers.{AreSizes, source_of, target_of, withheld}
use Rattle.transfer_schedule.specs.Account.{Account}
use Rattle.transfer_schedule.specs.Account as schedule
use Rattle.transfer_schedule.specs.declared.own_step.Source.TheVariants as source
use Rattle.transfer_schedule.specs.declared.own_step.Target.TheVariants as target
use Rattle.transfer_schedule.specs.declared.pending.Pending.TheVariants.{Idle}
use Rattle.transfer_machine.specs.Machine.{CanAct, CanMeet}
use Rattle.pool_machine.specs.Pools.{opening_view, view_met, MayBegin, CanCount, CanMeetPool}
use Rattle.transfer_machine.specs.Tries.{is_take}
use Rattle.pool_machine.specs.declared.call.Call.{Call}
use Rattle.pool_machine.specs.declared.call.Call.TheVariants.{Free}
use Rattle.pool_machine.specs.declared.call.CallStage.TheVariants.{Between, Choosing, Moving, Own}
use Rattle.pool_machine.specs.declared.call.Way.TheVariants.{Alone}
use Rattle.transfer_machine.specs.declared.stage.NextStep.TheVariants.{Rest, LoadReply}
use Rattle.pool_machine.specs.declared.view.PoolView.{PoolView}
use Rattle.pool_machine.specs.declared.view.ProcessView.{ProcessView}
use Rattle.pool_machine.specs.Beginning.{due, newest, search_chosen, call_begun, alone_begun}
use Rattle.pool_machine.specs.Conditions.{MayCall, MayMove}
use Rattle.pool_machine.specs.OwnSteps.{next_block}
use Rattle.pool_machine.specs.Ready.{CanBegin, CanMove, CanMeetMoving}
use Rattle.pool_machine.specs.Steps.{call_met}
use Rattle.transfer_invariant.specs.Progress.{has_only_begun}
use Rattle.pool_invariant.specs.StepCount.{OverlayIsFew}
use Rattle.pool_invariant.specs.Kept.{Answers, GivenToPool}
use Rattle.history_invariant.specs.Ledger.{Ledger, opening_ledger}
use Rattle.history_invariant.specs.Fits.{CountsEntries}
use Rattle.history_invariant.specs.Steps.{entered, got_one, got_none, gave_back}
use Rattle.history_invariant.specs.Grips.{Balances}
use Rattle.process_sums.specs.Sums.{total}
use Rattle.call_invariant.specs.Phases.{changes_pool, is_getting, own_phase}
use Rattle.call_invariant.specs.Ledgers.{ledger_begun, ledger_chosen, ledger_moved}
use Rattle.call_invariant.specs.InCalls.{Scheduled, InCalls, CarriesOn}
use Rattle.call_invariant.specs.InTransfers.{InTransfers}
use Rattle.call_invariant.specs.Uses.{UsesPool, PoolKeeps}

-- the sizes of a shape are those of a schedule
abbrev pub ShapesFitSchedules : Type 0
ShapesFitSchedules = (sizes : Sizes) → IsShape sizes → AreSizes sizes.length (transfer_bound sizes) sizes.quantum

-- it holds at the opening
abbrev pub OpeningMeetsCalls : Type 0
OpeningMeetsCalls =
    (sizes : Sizes) (i : ℕ) → InCalls sizes i (opening_view sizes i) (opening_ledger sizes.length (transfer_bound sizes) sizes.quantum)

-- an allocate or a free begins, and the ledger goes on
abbrev pub ChangingCallsBegin : Type 0
ChangingCallsBegin = (sizes : Sizes) (i : ℕ) (v : ProcessView) (ledger : Ledger) (holds : Bool) (call : Call) → InCalls sizes i v ledger
    → Scheduled sizes ledger.account
    → v.calls.stage ≡ Between
    → MayCall sizes holds call v
    → changes_pool (Some call) ≡ true
    → CarriesOn sizes i (call_begun call v) ledger (ledger_begun call ledger)

-- a search whose met transfer has ended chooses
abbrev pub SearchesChoose : Type 0
SearchesChoose = (sizes : Sizes) (i : ℕ) (v : ProcessView) (ledger : Ledger) → InCalls sizes i v ledger
    → Scheduled sizes ledger.account
    → v.calls.stage ≡ Choosing
    → CarriesOn sizes i (search_chosen v) ledger (ledger_chosen ledger)

-- a read or a write begins, and the ledger stays
abbrev pub KeepingCallsBegin : Type 0
KeepingCallsBegin = (sizes : Sizes) (i : ℕ) (v : ProcessView) (ledger : Ledger) (call : Call) → InCalls sizes i v ledger
    → v.calls.stage ≡ Between
    → changes_pool (Some call) ≡ false
    → InCalls sizes i (call_begun call v) ledger

-- a transfer step of a call, with which the ledger goes on; a take that is answered with nothing is known to have found nothing
abbrev pub TransferStepsCarryOn : Type 0
TransferStepsCarryOn = (sizes : Sizes) (i : ℕ) (v : ProcessView) (ledger : Ledger) (word : ℕ) → InCalls sizes i v ledger
    → Scheduled sizes ledger.account
    → v.calls.stage ≡ Moving
    → 1 ≤ sizes.processes
    → GivenToPool sizes v.transfer word
    → (v.transfer.next ≡ LoadReply → is_take v.transfer.wish ≡ true → reply_of (value_of word) ≡ Nothing → ledger.found_nothing ≡ true)
    → CarriesOn sizes i (call_met sizes v word) ledger (ledger_moved word v ledger)

-- a step of the transfer makes no entry; its announcement leaves open what a take of it finds
abbrev pub TransferStepsEnterNothing : Type 0
TransferStepsEnterNothing = (v : ProcessView) (ledger : Ledger) (word : ℕ)
    → ((ledger_moved word v ledger).entries ≡ ledger.entries)
    × ((ledger_moved word v ledger).seen ≡ ledger.seen)
    × ((ledger_moved word v ledger).found_nothing ≡ (if has_only_begun v.transfer.next then false else ledger.found_nothing))

-- at its own step an allocate or a free is so in the schedule
abbrev pub OwnStepsAreDue : Type 0
OwnStepsAreDue = (sizes : Sizes) (i : ℕ) (v : ProcessView) (ledger : Ledger) → InCalls sizes i v ledger → v.calls.stage ≡ Own
    → ledger.account.phase ≡ own_phase v.calls.call

-- the own step of an allocate, which is given a block
abbrev pub GotsEndCalls : Type 0
GotsEndCalls =
    (sizes : Sizes) (i : ℕ) (v : ProcessView) (ledger : Ledger) (word : ℕ) (history : List Entry) (entry : Entry) → InCalls sizes i v ledger
    → v.calls.stage ≡ Own
    → is_getting v.calls.call ≡ true
    → InCalls sizes i (call_met sizes v word) (entered history entry (got_one ledger.account) ledger)

-- or refused
abbrev pub RefusalsEndCalls : Type 0
RefusalsEndCalls =
    (sizes : Sizes) (i : ℕ) (v : ProcessView) (ledger : Ledger) (word : ℕ) (history : List Entry) (entry : Entry) → InCalls sizes i v ledger
    → v.calls.stage ≡ Own
    → is_getting v.calls.call ≡ true
    → InCalls sizes i (call_met sizes v word) (entered history entry (got_none ledger.account) ledger)

-- the own step of a free
abbrev pub BacksEndCalls : Type 0
BacksEndCalls =
    (sizes : Sizes) (i : ℕ) (v : ProcessView) (ledger : Ledger) (word block : ℕ) (history : List Entry) (entry : Entry)
    → InCalls sizes i v ledger
    → Scheduled sizes ledger.account
    → v.calls.stage ≡ Own
    → v.calls.call ≡ Some (Free block)
    → InCalls sizes i (call_met sizes v word) (entered history entry (gave_back ledger.account) ledger)

-- the own step of a read or a write enters nothing
abbrev pub KeepingStepsEndCalls : Type 0
KeepingStepsEndCalls =
    (sizes : Sizes) (i : ℕ) (v : ProcessView) (ledger : Ledger) (word : ℕ) → InCalls sizes i v ledger → v.calls.stage ≡ Own
    → changes_pool v.calls.call ≡ false
    → InCalls sizes i (call_met sizes v word) ledger

-- an allocate is given a block exactly where its plan has one
abbrev pub BlocksAreThePlans : Type 0
BlocksAreThePlans =
    (pool : PoolView) → ((block : ℕ) → next_block pool ≡ Some block → source_of pool.plan ≢ source.Nothing) ×
    (next_block pool ≡ None → source_of pool.plan ≡ source.Nothing)

-- a spare that an allocate opens has its head
abbrev pub AllocatesHaveSpares : Type 0
AllocatesHaveSpares =
    (sizes : Sizes) (i : ℕ) (v : ProcessView) (ledger : Ledger) → InCalls sizes i v ledger → source_of v.pool.plan ≡ source.Spare
    → 1 ≤ length v.pool.heads

-- a free of a held block that starts a new current list has room for one more spare
abbrev pub FreesHaveRoom : Type 0
FreesHaveRoom = (sizes : Sizes) (i : ℕ) (v : ProcessView) (ledger : Ledger) → InCalls sizes i v ledger
    → Scheduled sizes ledger.account
    → v.calls.stage ≡ Own
    → own_phase v.calls.call ≡ schedule.Own
    → ledger.account.backs < ledger.account.gots
    → target_of v.pool.plan ≡ target.Fresh
    → length v.pool.heads < 3

-- a process that holds a block was given more than it gave back
abbrev pub HoldersMayFree : Type 0
HoldersMayFree =
    (account : Account) (entries : List Entry) (block : ℕ) → CountsEntries account entries → Balances entries
    → Contains (grip entries) block → account.backs < account.gots

-- a process that has begun no call begins a transfer alone
abbrev pub TransfersBegin : Type 0
TransfersBegin = (sizes : Sizes) (i : ℕ) (v : ProcessView) (ledger : Ledger) (wish : Wish) → UsesPool sizes i v ledger
    → MayMove v
    → v.transfer.next ≡ Rest
    → MayBegin wish v.pool
    → v.transfer.age < most_age sizes
    → InTransfers sizes i (alone_begun wish v) ledger

-- a step of such a transfer
abbrev pub TransfersStep : Type 0
TransfersStep = (sizes : Sizes) (i : ℕ) (v : ProcessView) (ledger : Ledger) (word : ℕ) → InTransfers sizes i v ledger
    → 1 ≤ sizes.processes
    → GivenToPool sizes v.transfer word
    → InTransfers sizes i (view_met sizes v word) ledger

-- a process that has begun no transfer alone uses its pool by calls
abbrev pub CallsAreOneWay : Type 0
CallsAreOneWay =
    (sizes : Sizes) (i : ℕ) (v : ProcessView) (ledger : Ledger) → v.calls.way ≢ Alone → UsesPool sizes i v ledger → InCalls sizes i v ledger

-- and one that does so uses it in one of the ways
abbrev pub InCallsIsAUse : Type 0
InCallsIsAUse = (sizes : Sizes) (i : ℕ) (v : ProcessView) (ledger : Ledger) → InCalls sizes i v ledger → UsesPool sizes i v ledger

-- one that has, by transfers alone
abbrev pub TransfersAreOneWay : Type 0
TransfersAreOneWay =
    (sizes : Sizes) (i : ℕ) (v : ProcessView) (ledger : Ledger) → v.calls.way ≡ Alone → UsesPool sizes i v ledger
    → InTransfers sizes i v ledger

-- and one that does so uses it in one of the ways
abbrev pub InTransfersIsAUse : Type 0
InTransfersIsAUse = (sizes : Sizes) (i : ℕ) (v : ProcessView) (ledger : Ledger) → InTransfers sizes i v ledger → UsesPool sizes i v ledger

-- either way the same holds with a ledger that has the same account and entries
abbrev pub SameAccountsKeep : Type 0
SameAccountsKeep =
    (sizes : Sizes) (i : ℕ) (v : ProcessView) (old new : Ledger) → new.account ≡ old.account → new.entries ≡ old.entries
    → UsesPool sizes i v old → UsesPool sizes i v new

-- what a process keeps either way
abbrev pub UsesKeepPools : Type 0
UsesKeepPools =
    (sizes : Sizes) (i : ℕ) (v : ProcessView) (ledger : Ledger) → UsesPool sizes i v ledger → Scheduled sizes ledger.account
    → PoolKeeps sizes v

-- so its pool can count each step of its transfer
abbrev pub StepsCanCount : Type 0
StepsCanCount =
    (sizes : Sizes) (v : ProcessView) → IsShape sizes → PoolKeeps sizes v → OverlayIsFew sizes v.transfer → v.transfer.next ≢ Rest
    → CanCount v.pool

-- and the own reply may end the transfer
abbrev pub RepliesCanEnd : Type 0
RepliesCanEnd =
    (sizes : Sizes) (v : ProcessView) (word : ℕ) → PoolKeeps sizes v
    → (v.transfer.next ≡ LoadReply → Answers v.transfer.wish (reply_of (value_of word)))
    → CanMeetPool word v.pool v.transfer.next

-- the transfer that is due with a call may begin
abbrev pub DueTransfersMayBegin : Type 0
DueTransfersMayBegin =
    (sizes : Sizes) (v : ProcessView) (wish : Wish) → PoolKeeps sizes v → due v.pool ≡ Some wish
    → (v.transfer.next ≡ Rest) × MayBegin wish v.pool

-- while nothing is pending no transfer is begun
abbrev pub IdlePoolsRest : Type 0
IdlePoolsRest = (sizes : Sizes) (v : ProcessView) → PoolKeeps sizes v → v.pool.plan.pending ≡ Idle → v.transfer.next ≡ Rest

-- so a call can begin, where the newest of three spares is a block
abbrev pub CallsCanBegin : Type 0
CallsCanBegin = (sizes : Sizes) (v : ProcessView) → PoolKeeps sizes v → (v.pool.plan.spares ≡ 3 → newest v.pool < most_blocks) → CanBegin v

-- a call can make its next transfer step, where the transfer can
abbrev pub MovesCanBeMade : Type 0
MovesCanBeMade = (sizes : Sizes) (i : ℕ) (v : ProcessView) (ledger : Ledger) (word : ℕ) → InCalls sizes i v ledger
    → Scheduled sizes ledger.account
    → v.calls.stage ≡ Moving
    → GivenToPool sizes v.transfer word
    → CanAct sizes v.transfer
    → CanMeet sizes v.transfer word
    → CanMove sizes v × CanMeetMoving sizes v word

-- whichever way a process uses its pool, it withholds at most its allowance, whatever came before
abbrev pub UsesWithholdFew : Type 0
UsesWithholdFew = (sizes : Sizes) (history : List Entry) (i : ℕ) (v : ProcessView) (ledger : Ledger) → UsesPool sizes i v ledger
    → Scheduled sizes ledger.account
    → withheld v.pool.plan ≤ allowance (limits_of sizes) history i

-- where each block is held or withheld by a process, so that the shared stack is empty, at most the slack is unheld
abbrev pub EmptyStackLeavesFew : Type 0
EmptyStackLeavesFew = (limits : Limits) (history : List Entry) (views : ℕ → ProcessView)
    → ((i : ℕ) → i < limits.processes → withheld (views i).pool.plan ≤ allowance limits history i)
    → limits.blocks ≤ length (held history) + total limits.processes (λ i. withheld (views i).pool.plan)
    → HasFewUnheld limits history (length history)
