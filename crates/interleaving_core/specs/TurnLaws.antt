-- laws of turns, over every run: a process begins what it is asked for, makes the machine's step, and is answered as it asked
use Rattle.std.specs.Prelude.{◌≡◌, ◌≢◌, ℕ, ◌+◌, ◌≤◌, ◌<◌, ◌==◌, ◌⊎◌, ◌||◌, Bool, true, false, Some, List, [], ◌∷◌, if◌then◌else◌}
use Rattle.word_layout.specs.Sizes.{transfer_bound}
use Rattle.word_layout.specs.Packing.{announced_word}
use Rattle.word_layout.specs.declared.announced.Wish.{Wish}
use Rattle.pool_model.specs.declared.entry.Entry.TheVariants.{Got, Back, Dry}
use Rattle.transfer_machine.specs.Stages.{is_rest}
use Rattle.transfer_machine.specs.Words.{acted, met_word}
use Rattle.transfer_machine.specs.declared.kind.Kind.TheVariants.{K12, K13, K14}
use Rattle.pool_machine.specs.Pools.{pending_of}
use Rattle.pool_machine.specs.Beginning.{search_chosen, call_begun, alone_begun}
use Rattle.pool_machine.specs.declared.call.Call.{Call}
use Rattle.pool_machine.specs.declared.call.Call.TheVariants.{Allocate, Free, Read, Write, Search}
use Rattle.pool_machine.specs.declared.call.CallStage.TheVariants.{Between, Choosing}
use Rattle.pool_machine.specs.declared.call.Way.TheVariants.{Alone}
use Rattle.pool_machine.specs.declared.event.Happened.{Happened}
use Rattle.pool_machine.specs.declared.event.Happened.TheVariants.{Ended, Loaded, Stored, Ignored}
use Rattle.pool_machine.specs.declared.view.ProcessView.{ProcessView}
use Rattle.pool_machine.specs.Laws.{most_moves}
use Rattle.interleaving_core.specs.MovingLaws.{events_of}
use Rattle.interleaving_core.specs.CallLaws.{EveryRun, is_in_call}
use Rattle.interleaving_core.specs.CallLaws.{answers_call}
use Rattle.interleaving_core.specs.Moves.{CoreState, view_at, holders_after}
use Rattle.interleaving_core.specs.Runs.{Turn, Moves, Events, by_of, is_made, after_turn, turn_answer}
use Rattle.interleaving_core.specs.Steps.{is_at_step, next_action, next_met, next_answer}
use Rattle.interleaving_core.specs.TransferLaws.{rests, announced_count, announcement_of}

-- an allocate or a search of process i is answered with a block, or that it gets none
abbrev pub IsAllocated : ℕ → Happened → Type 0
IsAllocated i answer = ((block : ℕ) × (answer ≡ Ended K12 (Got i block))) ⊎ (answer ≡ Ended K14 (Dry i))

-- how a call of process i is answered: a free with the block that it names, a read with a word, a write with its being stored
abbrev pub IsAnswerTo : Call → ℕ → Happened → Type 0
IsAnswerTo Allocate i answer = IsAllocated i answer
IsAnswerTo (Free block) i answer = answer ≡ Ended K13 (Back i block)
IsAnswerTo (Read block index) i answer = (word : ℕ) × (answer ≡ Loaded word)
IsAnswerTo (Write block index value) i answer = answer ≡ Stored
IsAnswerTo Search i answer = IsAllocated i answer

-- a process is in the middle of this call, which isn't answered yet
pub record GoesOn (call : Call) (answer : Happened) (v : ProcessView) : Type 0 where
  pub within : is_in_call v.calls.stage ≡ true
  pub same : v.calls.call ≡ Some call
  pub silent : answers_call answer ≡ false

-- this call of process i is answered, and over
pub record HasEnded (call : Call) (i : ℕ) (answer : Happened) (v : ProcessView) : Type 0 where
  pub answered : IsAnswerTo call i answer
  pub between : v.calls.stage ≡ Between

-- a turn of process i that was answered so and left it this view was one of this call
abbrev pub MakesCall : Call → ℕ → Happened → ProcessView → Type 0
MakesCall call i answer v = GoesOn call answer v ⊎ HasEnded call i answer v

-- between two calls a process begins the call that is asked for
abbrev pub CallsBeginAsAsked : Type 0
CallsBeginAsAsked = EveryRun (λ sizes history s. (i : ℕ) (call : Call) → (view_at s i).calls.stage ≡ Between
    → is_made (Events i call) s ≡ true
    → MakesCall call i (turn_answer (Events i call) s) (view_at (after_turn (Events i call) s) i))

-- in the middle of a call it goes on with that one, whatever its turns ask for, until one of them answers it
abbrev pub CallsStay : Type 0
CallsStay = EveryRun (λ sizes history s. (turn : Turn) (call : Call) → by_of turn < sizes.processes
    → is_in_call (view_at s (by_of turn)).calls.stage ≡ true
    → (view_at s (by_of turn)).calls.call ≡ Some call
    → MakesCall call (by_of turn) (turn_answer turn s) (view_at (after_turn turn s) (by_of turn)))

-- in these turns, made from that state on, process i goes on with this call until one of its turns answers it
unfoldable pub IsAnsweredAs : Call → ℕ → List Turn → CoreState → Type 0
IsAnsweredAs call i [] s = ⊥
IsAnsweredAs call i (turn ∷ more) s =
    (by_of turn ≡ i) × HasEnded call i (turn_answer turn s) (view_at (after_turn turn s) i)
    ⊎ (by_of turn ≡ i → GoesOn call (turn_answer turn s) (view_at (after_turn turn s) i)) × IsAnsweredAs call i more (after_turn turn s)

-- so a call is answered as it was asked for, in any turns that have enough of its process's: one more than its most steps of a transfer
abbrev pub CallsAreAnsweredAsAsked : Type 0
CallsAreAnsweredAsAsked = EveryRun (λ sizes history s. (i : ℕ) (call : Call) (more : List Turn) → (view_at s i).calls.stage ≡ Between
    → is_made (Events i call) s ≡ true
    → most_moves sizes call + 1 ≤ events_of i (Events i call ∷ more)
    → IsAnsweredAs call i (Events i call ∷ more) s)

-- process i is in a transfer alone with this wish, which its announcement tells
pub record HasBegunAlone (wish : Wish) (i : ℕ) (s : CoreState) : Type 0 where
  pub goes : rests s i ≡ false
  pub wishes : (view_at s i).transfer.wish ≡ wish
  pub way : (view_at s i).calls.way ≡ Alone
  pub pending : (view_at s i).pool.plan.pending ≡ pending_of wish
  pub told : announcement_of s i ≡ announced_word (record { number = announced_count s i; wish = wish })

-- at rest a process that moves alone begins the transfer that is asked for
abbrev pub TransfersBeginAsAsked : Type 0
TransfersBeginAsAsked = EveryRun (λ sizes history s. (i : ℕ) (wish : Wish) → rests s i ≡ true → is_made (Moves i wish) s ≡ true
    → HasBegunAlone wish i (after_turn (Moves i wish) s))

-- the view with which a process makes a step alone: that of its transfer, and at rest with the transfer begun
pub record SetsOutAlone (wish : Wish) (old v : ProcessView) : Type 0 where
  pub goes_on : is_rest old.transfer.next ≡ false → v ≡ old
  pub begins : is_rest old.transfer.next ≡ true → v ≡ alone_begun wish old

-- and in a call: between two calls with the call begun, and a search that is to choose once it has chosen
pub record SetsOutInCall (call : Call) (old v : ProcessView) : Type 0 where
  pub goes_on : is_at_step old.calls.stage ≡ true → v ≡ old
  pub chooses : old.calls.stage ≡ Choosing → v ≡ search_chosen old
  pub begins : old.calls.stage ≡ Between → v ≡ call_begun call old

-- a view from which a turn's step is made: of a call that is asked for, or goes on; or of a transfer alone
abbrev pub SetsOut : Turn → ProcessView → ProcessView → Type 0
SetsOut (Moves by wish) old v = SetsOutAlone wish old v
SetsOut (Events by call) old v = SetsOutInCall call old v

-- a turn made the machine's next step of this view, and was answered so: the words are as the step leaves them, and so are the view of its
-- process and who holds each block; the views of the others stay
pub record MakesStep (turn : Turn) (v : ProcessView) (s : CoreState) : Type 0 where
  pub words : (after_turn turn s).words ≡ acted s.sizes s.words (next_action s.sizes v)
  pub own : view_at (after_turn turn s) (by_of turn) ≡ next_met s.sizes v (met_word s.sizes s.words (next_action s.sizes v))
  pub others : (other : ℕ) → other ≢ by_of turn → view_at (after_turn turn s) other ≡ view_at s other
  pub answer : turn_answer turn s ≡ next_answer v (met_word s.sizes s.words (next_action s.sizes v))
  pub holders : (after_turn turn s).holders ≡ holders_after (turn_answer turn s) s.holders

-- a turn that is made makes the machine's step of the view with which its process sets out
abbrev pub TurnsMakeSteps : Type 0
TurnsMakeSteps = EveryRun (λ sizes history s. (turn : Turn) → is_made turn s ≡ true
    → (v : ProcessView) × SetsOut turn (view_at s (by_of turn)) v × MakesStep turn v s)

-- one that isn't made changes nothing
abbrev pub OtherTurnsAreIgnored : Type 0
OtherTurnsAreIgnored = EveryRun (λ sizes history s. (turn : Turn) → is_made turn s ≡ false
    → (after_turn turn s ≡ s) × (turn_answer turn s ≡ Ignored))

-- whether a turn is one of process i alone
abbrev pub is_move_of : ℕ → Turn → Bool
is_move_of i (Moves by wish) = by == i
is_move_of i (Events by call) = false

-- how many of these turns are
unfoldable pub moves_of : ℕ → List Turn → ℕ
moves_of i [] = 0
moves_of i (turn ∷ more) = (if is_move_of i turn then 1 else 0) + moves_of i more

-- whether one of these turns, made from that state on, leaves process i at rest
unfoldable pub comes_to_rest : ℕ → List Turn → CoreState → Bool
comes_to_rest i [] s = false
comes_to_rest i (turn ∷ more) s = rests (after_turn turn s) i || comes_to_rest i more (after_turn turn s)

-- a transfer alone that begins has ended by any turns that have as many of its process alone as a transfer takes steps at most
abbrev pub TransfersAloneEnd : Type 0
TransfersAloneEnd = EveryRun (λ sizes history s. (i : ℕ) (wish : Wish) (more : List Turn) → rests s i ≡ true
    → is_made (Moves i wish) s ≡ true
    → transfer_bound sizes ≤ moves_of i (Moves i wish ∷ more)
    → comes_to_rest i (Moves i wish ∷ more) s ≡ true)
