-- what holds of transfers in every run of the machine, as its words and views show it
use Rattle.std.specs.Prelude.{◌≡◌, ◌≢◌, ℕ, ◌+◌, ◌<◌, ◌≤◌, ◌==◌, ◌⊎◌, if◌then◌else◌, Bool, true, false, ◌&&◌}
use Rattle.std.specs.Prelude.{List, [], ◌∷◌, ◌++◌, length, slice_index}
use Rattle.std.specs.List.{All}
use Rattle.word_layout.specs.Sizes.{Sizes, IsShape, blocks, transfer_bound}
use Rattle.word_layout.specs.Names.{word_at, table_words}
use Rattle.word_layout.specs.declared.announced.Wish.{Wish}
use Rattle.word_layout.specs.declared.name.WordName.TheVariants.{Announcement}
use Rattle.pool_model.specs.declared.entry.Entry.{Entry}
use Rattle.transfer_machine.specs.Opening.{AreOpening}
use Rattle.transfer_machine.specs.States.{StackState, next_of}
use Rattle.transfer_machine.specs.Tries.{is_pending}
use Rattle.transfer_machine.specs.Words.{stack}
use Rattle.pool_machine.specs.declared.call.Call.{Call}
use Rattle.pool_machine.specs.declared.call.CallStage.{CallStage}
use Rattle.pool_machine.specs.declared.call.CallStage.TheVariants.{Between, Choosing, Moving, Own}
use Rattle.pool_machine.specs.declared.view.ProcessView.{ProcessView}
use Rattle.transfer_machine.specs.declared.stage.NextStep.{NextStep}
use Rattle.transfer_machine.specs.Stages.{is_rest}
use Rattle.transfer_machine.specs.declared.stage.NextStep.TheVariants.{Try}
use Rattle.transfer_machine.specs.declared.stage.TryStep.TheVariants.{ExchangeState}
use Rattle.transfer_invariant.specs.Progress.{has_announced, has_tried}
use Rattle.stack_invariant.specs.Shown.{TableShows}
use Rattle.batch_invariant.specs.Places.{moving}
use Rattle.chain_invariant.specs.Chains.{times_pooled}
use Rattle.interleaving_core.specs.Invariant.{MeetsInvariant}
use Rattle.interleaving_core.specs.Steps.{is_alone, is_busy}
use Rattle.interleaving_core.specs.Kept.{reply_value_at, pends_at}
use Rattle.interleaving_core.specs.Moves.{CoreState, view_at}
use Rattle.interleaving_core.specs.Runs.{IsRun, Turn, Moves, Events, by_of, is_made, turning_view, after_turn, turn_answer}
use Rattle.interleaving_core.specs.Runs.{entries_of, opened}

-- the next step of a process's transfer
abbrev pub next_step : CoreState → ℕ → NextStep
next_step s process = (view_at s process).transfer.next

-- whether no transfer of a process is begun
abbrev pub rests : CoreState → ℕ → Bool
rests s process = is_rest (next_step s process)

-- how many steps the pending transfer of a process has made
abbrev pub steps_made : CoreState → ℕ → ℕ
steps_made s process = (view_at s process).pool.plan.done

-- how many transfers a process has announced
abbrev pub announced_count : CoreState → ℕ → ℕ
announced_count s process = (view_at s process).transfer.age

-- the heads of the batches in the shared stack, from the bottom
abbrev pub content_of : CoreState → List ℕ
content_of s = stack s.sizes s.words

-- the announcement of a process
abbrev pub announcement_of : CoreState → ℕ → ℕ
announcement_of s process = word_at s.sizes s.words (Announcement process)

-- the reply to a process in the current record
abbrev pub reply_to : CoreState → ℕ → ℕ
reply_to s process = reply_value_at s.sizes s.words process

-- whether the announcement of a process is pending against that reply
abbrev pub pends : CoreState → ℕ → Bool
pends s process = pends_at s.sizes s.words process

-- the words, views and holders after these turns, and the history that they make
unfoldable pub after_turns : List Turn → CoreState → CoreState
after_turns [] s = s
after_turns (turn ∷ more) s = after_turns more (after_turn turn s)

-- the entries that turns make, one after the other
unfoldable pub entries_made : List Turn → CoreState → List Entry
entries_made [] s = []
entries_made (turn ∷ more) s = entries_of (turn_answer turn s) ++ entries_made more (after_turn turn s)

-- whether a call at that stage makes steps of the pending transfer
abbrev pub moves_at : CallStage → Bool
moves_at Between = false
moves_at Choosing = false
moves_at Moving = true
moves_at Own = false

-- whether the next step of a process is one of its transfer: it makes transfers alone, or its call is at that stage
abbrev pub moves_transfer : ProcessView → Bool
moves_transfer v = if is_alone v.calls.way then true else moves_at v.calls.stage

-- whether a turn is made, and is a step of its process's transfer
abbrev pub is_step : Turn → CoreState → Bool
is_step turn s = is_made turn s && moves_transfer (turning_view turn s)

-- 1 for a step of this process's transfer, 0 for any other turn
abbrev pub is_step_of : ℕ → Turn → CoreState → ℕ
is_step_of process turn s = if (by_of turn == process) && is_step turn s then 1 else 0

-- how many of these turns are steps of a process's transfers
unfoldable pub steps_of : ℕ → List Turn → CoreState → ℕ
steps_of process [] s = 0
steps_of process (turn ∷ more) s = is_step_of process turn s + steps_of process more (after_turn turn s)

-- a process is in a transfer before these turns, and after each of them
unfoldable pub NeverRests : ℕ → List Turn → CoreState → Type 0
NeverRests process [] s = rests s process ≡ false
NeverRests process (turn ∷ more) s = (rests s process ≡ false) × NeverRests process more (after_turn turn s)

-- every run meets the invariant, and is of the shape that it was opened with
pub record RunHolds (sizes : Sizes) (history : List Entry) (s : CoreState) : Type 0 where
  pub same_sizes : s.sizes ≡ sizes
  pub shape : IsShape s.sizes
  pub words : length s.words ≡ table_words s.sizes
  pub views : length s.views ≡ s.sizes.processes
  pub holders : length s.holders ≡ blocks s.sizes
  pub meets : MeetsInvariant s.sizes s.words (view_at s) history

-- so does every run
abbrev pub RunsMeetInvariant : Type 0
RunsMeetInvariant =
    (sizes : Sizes) (past : List Turn) (history : List Entry) (s : CoreState)
    → IsRun sizes past history s
    → RunHolds sizes history s

-- any turns can be made from any opening, and lead to what they say, with the history that they say
abbrev pub RunsGoOn : Type 0
RunsGoOn = (sizes : Sizes) (words : List ℕ) (more : List Turn) → IsShape sizes → AreOpening sizes words
    → IsRun sizes more (entries_made more (opened sizes words)) (after_turns more (opened sizes words))

-- and every run is one of these
abbrev pub RunsAreMade : Type 0
RunsAreMade =
    (sizes : Sizes) (past : List Turn) (history : List Entry) (s : CoreState)
    → IsRun sizes past history s
    → (words : List ℕ)
    × AreOpening sizes words
    × (s ≡ after_turns past (opened sizes words))
    × (history ≡ entries_made past (opened sizes words))

-- a process that has a next step makes it by a turn of its own, whatever wish or call that names
abbrev pub BusyProcessesGoOn : Type 0
BusyProcessesGoOn = (s : CoreState) (process : ℕ) → process < s.sizes.processes → is_busy (view_at s process) ≡ true
    → (is_alone (view_at s process).calls.way ≡ true → (wish : Wish) → is_made (Moves process wish) s ≡ true)
    × (is_alone (view_at s process).calls.way ≡ false → (call : Call) → is_made (Events process call) s ≡ true)

-- a move that is made is a step of its process's transfer, and so is an event where the process's call makes these; an own step is none
pub record TurnsAreSteps (s : CoreState) (by : ℕ) : Type 0 where
  pub moves : (wish : Wish) → is_made (Moves by wish) s ≡ true → is_step (Moves by wish) s ≡ true
  pub events : (view_at s by).calls.stage ≡ Moving → (call : Call) → is_step (Events by call) s ≡ true
  pub own : (view_at s by).calls.stage ≡ Own → (call : Call) → is_step (Events by call) s ≡ false

-- so are the turns of every run
abbrev pub RunsMakeSteps : Type 0
RunsMakeSteps =
    (sizes : Sizes) (past : List Turn) (history : List Entry) (s : CoreState) (by : ℕ)
    → IsRun sizes past history s
    → by < s.sizes.processes
    → TurnsAreSteps s by

-- a transfer has made no more steps than its bound, and as long as it hasn't ended there is one left
pub record StepsBounded (s : CoreState) (process : ℕ) : Type 0 where
  pub most : steps_made s process ≤ transfer_bound s.sizes
  pub left : rests s process ≡ false → steps_made s process + 1 ≤ transfer_bound s.sizes
  pub none : rests s process ≡ true → steps_made s process ≡ 0

-- so it is in every run
abbrev pub TransfersAreBounded : Type 0
TransfersAreBounded =
    (sizes : Sizes) (past : List Turn) (history : List Entry) (s : CoreState) (process : ℕ)
    → IsRun sizes past history s
    → process < s.sizes.processes
    → StepsBounded s process

-- each step of a process's transfer counts one, unless it ends it; no other turn counts, and one of another process leaves its view
abbrev pub StepsCount : Type 0
StepsCount =
    (sizes : Sizes) (past : List Turn) (history : List Entry) (s : CoreState) (turn : Turn) (process : ℕ)
    → IsRun sizes past history s
    → process < s.sizes.processes
    → rests (after_turn turn s) process ≡ false
    → steps_made (after_turn turn s) process ≡ steps_made s process + is_step_of process turn s

-- a turn leaves the views of the other processes
abbrev pub OthersLeaveViews : Type 0
OthersLeaveViews = (s : CoreState) (turn : Turn) (other : ℕ) → other ≢ by_of turn → view_at (after_turn turn s) other ≡ view_at s other

-- so a transfer ends within its bound: while it hasn't ended, fewer steps of it are made, whatever the others do
abbrev pub TransfersEnd : Type 0
TransfersEnd =
    (sizes : Sizes) (past more : List Turn) (history : List Entry) (s : CoreState) (process : ℕ)
    → IsRun sizes past history s
    → process < sizes.processes
    → NeverRests process more s
    → steps_made s process + steps_of process more s + 1 ≤ transfer_bound sizes

-- and a whole one takes no more steps than that: from a process at rest on, the steps that leave it in a transfer, and the last one
abbrev pub WholeTransfersEnd : Type 0
WholeTransfersEnd =
    (sizes : Sizes) (past more : List Turn) (history : List Entry) (s : CoreState) (turn : Turn) (process : ℕ)
    → IsRun sizes past history s
    → process < sizes.processes
    → rests s process ≡ true
    → NeverRests process more (after_turn turn s)
    → steps_of process (turn ∷ more) s + 1 ≤ transfer_bound sizes

-- an announcement is pending only while its process is in its two tries
pub record PendsInTries (s : CoreState) (process : ℕ) : Type 0 where
  pub before : has_announced (next_step s process) ≡ false → pends s process ≡ false
  pub after : has_tried (next_step s process) ≡ true → pends s process ≡ false

-- so it is in every run
abbrev pub TwoTriesApply : Type 0
TwoTriesApply =
    (sizes : Sizes) (past : List Turn) (history : List Entry) (s : CoreState) (process : ℕ)
    → IsRun sizes past history s
    → process < s.sizes.processes
    → PendsInTries s process

-- the words and views show a state: the content of the stack, the replies, and which of the announced transfers are applied
pub record ShowsState (s : CoreState) (t : StackState) : Type 0 where
  pub content : TableShows s.sizes s.words t
  pub replies : (process : ℕ) → process < s.sizes.processes → reply_to s process ≡ t.reply process
  pub applied : (process : ℕ) → process < s.sizes.processes → pends s process ≡ false → t.applied process ≡ announced_count s process
  pub pending : (process : ℕ) → process < s.sizes.processes → pends s process ≡ true → t.applied process + 1 ≡ announced_count s process

-- in every run they show one
abbrev pub RunsShowStates : Type 0
RunsShowStates =
    (sizes : Sizes) (past : List Turn) (history : List Entry) (s : CoreState)
    → IsRun sizes past history s
    → (t : StackState) × ShowsState s t

-- a turn left the content and all replies
pub record LeavesContent (s after : CoreState) : Type 0 where
  pub content : content_of after ≡ content_of s
  pub replies : (process : ℕ) → process < s.sizes.processes → reply_to after process ≡ reply_to s process

-- a turn made the next state of these announcements: in the order of the processes it applied the pending ones, which are the present ones,
-- and none of them is pending any more
pub record AppliesPending (s after : CoreState) (announcements : ℕ → ℕ) (t : StackState) : Type 0 where
  pub old : ShowsState s t
  pub present : (process : ℕ) → process < s.sizes.processes
      → is_pending (announcements process) (reply_to s process) ≡ true
      → announcements process ≡ announcement_of s process
  pub new : ShowsState after (next_of s.sizes.processes announcements t)
  pub once : (process : ℕ) → process < s.sizes.processes → is_pending (announcements process) (reply_to after process) ≡ false

-- a step is the exchange of the state, in the first or the second try
abbrev pub IsExchange : NextStep → Type 0
IsExchange next = (second : Bool) × (next ≡ Try second ExchangeState)

-- the content changes only by an exchange of the state, which applies pending transfers
abbrev pub ContentMoves : Type 0
ContentMoves =
    (sizes : Sizes) (past : List Turn) (history : List Entry) (s : CoreState) (turn : Turn)
    → IsRun sizes past history s
    → LeavesContent s (after_turn turn s)
    ⊎ (IsExchange (next_step s (by_of turn))
    × ((announcements : ℕ → ℕ) × ((t : StackState) × AppliesPending s (after_turn turn s) announcements t)))

-- the heads of all batches, in the content, among the spares and on their way, are blocks of the pool, and none is at two of these places
pub record HeadsApart (s : CoreState) (t : StackState) : Type 0 where
  pub shows : ShowsState s t
  pub few : length (content_of s) ≤ s.sizes.batches
  pub content : (place : ℕ) → place < t.height → t.content place < blocks s.sizes
  pub spares : (process place : ℕ) → process < s.sizes.processes
      → place < length (view_at s process).pool.heads
      → slice_index (view_at s process).pool.heads place < blocks s.sizes
  pub on_way : (process : ℕ) → process < s.sizes.processes
      → All (λ head. head < blocks s.sizes) (moving t process (view_at s process).transfer)
  pub once : (head : ℕ) → times_pooled s.sizes t (view_at s) head ≤ 1

-- so they are in every run
abbrev pub HeadsStayApart : Type 0
HeadsStayApart =
    (sizes : Sizes) (past : List Turn) (history : List Entry) (s : CoreState)
    → IsRun sizes past history s
    → (t : StackState) × HeadsApart s t
