-- laws of calls over every run
use Rattle.std.specs.Prelude.{◌≡◌, ◌≢◌, ℕ, ◌+◌, ◌*◌, ◌-◌, ◌<◌, ◌≤◌, ◌↔◌, Bool, true, false}
use Rattle.std.specs.Prelude.{Some, List, ◌++◌, length, slice_get, take, Contains}
use Rattle.word_layout.specs.Sizes.{Sizes, blocks, transfer_bound, limits_of}
use Rattle.word_layout.specs.Names.{word_at}
use Rattle.word_layout.specs.declared.announced.Wish.{Wish}
use Rattle.word_layout.specs.declared.name.WordName.TheVariants.{Data}
use Rattle.process_sums.specs.Sums.{total}
use Rattle.pool_model.specs.declared.entry.Entry.{Entry}
use Rattle.pool_model.specs.declared.entry.Entry.TheVariants.{Dry}
use Rattle.pool_model.specs.History.{own, held, slack, grip}
use Rattle.pool_model.specs.Legal.{IsLegal, HadFew}
use Rattle.history_invariant.specs.Fits.{CountsEntries}
use Rattle.history_invariant.specs.Grips.{times}
use Rattle.transfer_schedule.specs.declared.pending.Pending.TheVariants.{Idle}
use Rattle.transfer_schedule.specs.Account.{Account, Reached}
use Rattle.transfer_schedule.specs.Table.{InTable}
use Rattle.transfer_machine.specs.Words.{stack}
use Rattle.pool_machine.specs.declared.call.Call.{Call}
use Rattle.pool_machine.specs.declared.call.Call.TheVariants.{Read, Write}
use Rattle.pool_machine.specs.declared.call.CallStage.{CallStage}
use Rattle.pool_machine.specs.declared.call.CallStage.TheVariants.{Between, Choosing, Moving, Own}
use Rattle.pool_machine.specs.declared.call.Way.TheVariants.{Alone}
use Rattle.pool_machine.specs.declared.view.ProcessView.{ProcessView}
use Rattle.pool_machine.specs.Laws.{most_moves}
use Rattle.pool_machine.specs.Steps.{is_paced}
use Rattle.pool_machine.specs.declared.event.Happened.{Happened}
use Rattle.pool_machine.specs.declared.event.Happened.TheVariants.{Step, Ended, Loaded, Stored, Ignored}
use Rattle.call_invariant.specs.Phases.{call_phase}
use Rattle.interleaving_core.specs.Kept.{kept}
use Rattle.interleaving_core.specs.Moves.{CoreState, view_at, holder_of, is_holder}
use Rattle.interleaving_core.specs.Runs.{Turn, Moves, Events, by_of, is_made, turning_view, after_turn, turn_answer, entries_of, IsRun}

-- whether this is the answer of a call
abbrev pub answers_call : Happened → Bool
answers_call (Step kind) = false
answers_call (Ended kind entry) = true
answers_call (Loaded word) = true
answers_call Stored = true
answers_call Ignored = false

-- a fact of the shape, the history and the state at the end of every run
abbrev pub EveryRun : (Sizes → List Entry → CoreState → Type 0) → Type 0
EveryRun Fact =
    (sizes : Sizes) (past : List Turn) (history : List Entry) (s : CoreState)
    → IsRun sizes past history s
    → Fact sizes history s

-- the shape stays
abbrev pub ShapesStay : Type 0
ShapesStay = EveryRun (λ sizes history s. s.sizes ≡ sizes)

-- the history is legal
abbrev pub HistoriesAreLegal : Type 0
HistoriesAreLegal = EveryRun (λ sizes history s. IsLegal (limits_of sizes) history)

-- so each refusal has a place in its window, within the caller's last `2 * length` entries, where at most the slack was unheld
abbrev pub RefusalsHadFew : Type 0
RefusalsHadFew = EveryRun (λ sizes history s. (x by : ℕ)
    → slice_get history x ≡ Some (Dry by)
    → HadFew (limits_of sizes) (take x history) by)

-- and no block is held twice
abbrev pub NoneIsHeldTwice : Type 0
NoneIsHeldTwice = EveryRun (λ sizes history s. (block : ℕ) → times block (held history) ≤ 1)

-- the holder of a block is the process whose entries got it and didn't give it back
abbrev pub HoldersHold : Type 0
HoldersHold = EveryRun (λ sizes history s. (i block : ℕ) → (is_holder i (holder_of s block) ≡ true) ↔ Contains (grip (own history i)) block)

-- all blocks but the present slack are held or in the shared stack
abbrev pub FewAreWithheld : Type 0
FewAreWithheld = EveryRun (λ sizes history s.
    blocks sizes ≤ length (held history) + sizes.length * length (stack sizes s.words) + slack (limits_of sizes) history (length history))

-- wherever a process stands, it keeps at most five batches of blocks
abbrev pub EachKeepsFive : Type 0
EachKeepsFive = EveryRun (λ sizes history s. (i : ℕ) → i < sizes.processes → kept s i ≤ 5 * sizes.length)

-- each block is kept by a process, held, or in the shared stack
abbrev pub AllAreCounted : Type 0
AllAreCounted = EveryRun (λ sizes history s.
    total sizes.processes (kept s) + length (held history) + sizes.length * length (stack sizes s.words) ≡ blocks sizes)

-- between these states, with these histories, process i moved blocks between what it keeps and what is held, and no other process did
pub record MovesBlocks (s after : CoreState) (i : ℕ) (before now : List Entry) : Type 0 where
  pub own : kept after i + length (held now) ≡ kept s i + length (held before)
  pub others : (o : ℕ) → o < s.sizes.processes → o ≢ i → kept after o ≡ kept s o

-- what the answer of a call changes of the held blocks it changes of what its own process keeps
abbrev pub KeptFollowsCalls : Type 0
KeptFollowsCalls = EveryRun (λ sizes history s. (turn : Turn) → answers_call (turn_answer turn s) ≡ true
    → MovesBlocks s (after_turn turn s) (by_of turn) history (history ++ entries_of (turn_answer turn s)))

-- how many turns a call needs at most at the steps of its transfer: those left of its quantum and its own one; a search those left of the
-- transfer, those of another one unless it has chosen, and its own one
abbrev pub moving_left : Bool → Bool → ℕ → ℕ → ℕ → ℕ → ℕ
moving_left true chosen quantum bound steps done = quantum - steps + 1
moving_left false true quantum bound steps done = bound - done + 1
moving_left false false quantum bound steps done = bound - done + bound + 1

-- and from each stage on
abbrev pub left_at : Bool → Bool → ℕ → ℕ → ℕ → ℕ → CallStage → ℕ
left_at paced chosen quantum bound steps done Between = 0
left_at paced chosen quantum bound steps done Choosing = bound + 1
left_at paced chosen quantum bound steps done Moving = moving_left paced chosen quantum bound steps done
left_at paced chosen quantum bound steps done Own = 1

-- how many turns a call has left at most
abbrev pub steps_left : Sizes → ProcessView → ℕ
steps_left sizes v =
    left_at (is_paced v.calls.call) v.calls.chosen sizes.quantum (transfer_bound sizes) v.calls.steps v.pool.plan.done v.calls.stage

-- whether a process is in the middle of a call
abbrev pub is_in_call : CallStage → Bool
is_in_call Between = false
is_in_call Choosing = true
is_in_call Moving = true
is_in_call Own = true

-- process i goes on with one call from one state to another, in any turns of all, of which so many are steps of that call
pub data GoesOnWith (i : ℕ) : ℕ → CoreState → CoreState → Type 0 where
  starts : (s : CoreState) → GoesOnWith i 0 s s
  steps : (n : ℕ) (s t : CoreState) (call : Call) → GoesOnWith i n s t
      → is_in_call (view_at t i).calls.stage ≡ true
      → GoesOnWith i (n + 1) s (after_turn (Events i call) t)
  others : (n : ℕ) (s t : CoreState) (turn : Turn) → GoesOnWith i n s t
      → by_of turn ≢ i
      → GoesOnWith i n s (after_turn turn t)
  ignored : (n : ℕ) (s t : CoreState) (turn : Turn) → GoesOnWith i n s t
      → is_made turn t ≡ false
      → GoesOnWith i n s (after_turn turn t)

-- after its first step a call makes at most so many more: an allocate or a free a quantum, a read or a write none
abbrev pub CallsAreShort : Type 0
CallsAreShort = EveryRun (λ sizes history s. (i n : ℕ) (call : Call) (t : CoreState)
    → (view_at s i).calls.stage ≡ Between
    → is_made (Events i call) s ≡ true
    → GoesOnWith i n (after_turn (Events i call) s) t
    → n ≤ most_moves sizes call)

-- at its transfer steps a call has made fewer than a quantum of them
abbrev pub QuantaAreKept : Type 0
QuantaAreKept = EveryRun (λ sizes history s. (i : ℕ) → i < sizes.processes
    → (view_at s i).calls.stage ≡ Moving
    → is_paced (view_at s i).calls.call ≡ true
    → (view_at s i).calls.steps < sizes.quantum)

-- nothing of process i is pending
abbrev pub IsIdle : ℕ → CoreState → Type 0
IsIdle i s = (view_at s i).pool.plan.pending ≡ Idle

-- a transfer of process i is pending
abbrev pub HasPending : ℕ → CoreState → Type 0
HasPending i s = (view_at s i).pool.plan.pending ≢ Idle

-- a transfer that a call of process i began at a state pends up to another one, in any turns of all, in which i makes so many entries
pub data PendsSince (i : ℕ) (s : CoreState) : ℕ → CoreState → Type 0 where
  pends_first : (call : Call)
      → IsIdle i s → HasPending i (after_turn (Events i call) s)
      → PendsSince i s (length (entries_of (turn_answer (Events i call) s))) (after_turn (Events i call) s)
  pends_on : (n : ℕ) (t : CoreState) (call : Call) → PendsSince i s n t
      → HasPending i (after_turn (Events i call) t)
      → PendsSince i s (n + length (entries_of (turn_answer (Events i call) t))) (after_turn (Events i call) t)
  pends_still : (n : ℕ) (t : CoreState) (wish : Wish) → PendsSince i s n t → PendsSince i s n (after_turn (Moves i wish) t)
  pends_too : (n : ℕ) (t : CoreState) (turn : Turn) → PendsSince i s n t → by_of turn ≢ i → PendsSince i s n (after_turn turn t)

-- while it is pending its process makes fewer than `length` entries, so that it ends within `length` calls
abbrev pub TransfersAreShort : Type 0
TransfersAreShort = EveryRun (λ sizes history s. (i n : ℕ) (t : CoreState) → i < sizes.processes
    → PendsSince i s n t
    → n < sizes.length)

-- an account of the schedule goes with a process and its entries: since its transfer began it made a whole quantum of steps in each call,
-- and a pending one began fewer than `length` own entries ago
pub record EndsByAccount (sizes : Sizes) (mine : List Entry) (v : ProcessView) : Type 0 where
  pub account : Account
  pub reached : Reached sizes.length (transfer_bound sizes) sizes.quantum account
  pub counts : CountsEntries account mine
  pub plan : account.plan ≡ v.pool.plan
  pub phase : account.phase ≡ call_phase v
  pub since : v.calls.stage ≡ Moving → is_paced v.calls.call ≡ true
      → v.pool.plan.done ≡ sizes.quantum * (length mine - account.begun) + v.calls.steps
  pub young : v.pool.plan.pending ≢ Idle → length mine < account.begun + sizes.length

-- a transfer of a process that makes calls is pending in fewer than `length` calls after the one that began it
abbrev pub TransfersEndInTime : Type 0
TransfersEndInTime = EveryRun (λ sizes history s. (i : ℕ) → i < sizes.processes
    → (view_at s i).calls.way ≢ Alone
    → EndsByAccount sizes (own history i) (view_at s i))

-- each plan is within the table of spares
abbrev pub PlansWithinTable : Type 0
PlansWithinTable = EveryRun (λ sizes history s. (i : ℕ) → i < sizes.processes → InTable (view_at s i).pool.plan)

-- a read is answered with the data word as it stands, and a write leaves its value there
abbrev pub ReadsLoad : Type 0
ReadsLoad = EveryRun (λ sizes history s. (i block index : ℕ)
    → (view_at s i).calls.stage ≡ Between
    → is_made (Events i (Read block index)) s ≡ true
    → turn_answer (Events i (Read block index)) s ≡ Loaded (word_at sizes s.words (Data block index)))

-- a write sets its data word and no other
abbrev pub WritesStore : Type 0
WritesStore = EveryRun (λ sizes history s. (i block index value : ℕ)
    → (view_at s i).calls.stage ≡ Between
    → is_made (Events i (Write block index value)) s ≡ true
    → (turn_answer (Events i (Write block index value)) s ≡ Stored)
    × (word_at sizes (after_turn (Events i (Write block index value)) s).words (Data block index) ≡ value))

-- the turn is not one of process i in a call that writes this data word
abbrev pub WritesNot : ℕ → ℕ → ℕ → Turn → CoreState → Type 0
WritesNot i block index turn s = by_of turn ≡ i → (value : ℕ) → (turning_view turn s).calls.call ≢ Some (Write block index value)

-- nothing else changes a data word of a block while a process holds it, whatever the other processes do
abbrev pub DataIsKept : Type 0
DataIsKept = EveryRun (λ sizes history s. (i block index : ℕ) (turn : Turn)
    → is_holder i (holder_of s block) ≡ true
    → index < sizes.words
    → WritesNot i block index turn s
    → word_at sizes (after_turn turn s).words (Data block index) ≡ word_at sizes s.words (Data block index))
