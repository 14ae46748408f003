-- the opening meets the invariant of the shared stack, steps keep it, and what it gives
use Rattle.std.specs.Prelude.{◌≡◌, ℕ, ◌<◌, ◌≤◌, Bool, true, List}
use Rattle.word_layout.specs.Sizes.{Sizes, IsShape, blocks}
use Rattle.word_layout.specs.Names.{InRange, word_at}
use Rattle.word_layout.specs.Packing.{most_age, reply_of}
use Rattle.word_layout.specs.declared.reply.Reply.TheVariants.{Nothing}
use Rattle.word_layout.specs.declared.name.WordName.{WordName}
use Rattle.word_layout.specs.declared.name.WordName.TheVariants.{State}
use Rattle.transfer_machine.specs.Machine.{action_of, met_of, CanAct, CanMeet}
use Rattle.transfer_machine.specs.Words.{name_of}
use Rattle.transfer_machine.specs.declared.transfer.TransferView.{TransferView}
use Rattle.transfer_machine.specs.declared.stage.NextStep.{NextStep}
use Rattle.transfer_machine.specs.declared.stage.NextStep.TheVariants.{Try, LoadReply}
use Rattle.transfer_machine.specs.declared.stage.TryStep.TheVariants.{ExchangeState}
use Rattle.transfer_invariant.specs.Memory.{Words, Views, States, Acted, Moved, state_tag, is_stack_word}
use Rattle.transfer_invariant.specs.PartLaws.{OpeningMeets, StepsKeep, BeginningsKeep}
use Rattle.transfer_invariant.specs.Progress.{has_announced, has_tried}
use Rattle.stack_invariant.specs.Stack.{StackHolds, Supplied}
use Rattle.stack_invariant.specs.Shown.{Shows, SameContent, TableShows}
use Rattle.stack_invariant.specs.Emptied.{MetNothing}
use Rattle.stack_invariant.specs.Gives.{present, next_by, Installs, ReplyIsPresent, ProcessHolds}

-- the words and views of the opening meet the invariant, with the state of the opening
abbrev pub OpeningMeetsStack : Type 0
OpeningMeetsStack = OpeningMeets StackHolds

-- a process at rest that begins a transfer keeps it, with the same states
abbrev pub BeginningsKeepStack : Type 0
BeginningsKeepStack = BeginningsKeep StackHolds

-- the step of a process from words and views that meet it leads to such ones; where it installs a state there is one more
abbrev pub StepsKeepStack : Type 0
StepsKeepStack = StepsKeep Supplied StackHolds

-- every view can make its next step, as long as the ages are within their limit
abbrev pub StackStepsCanBeMade : Type 0
StackStepsCanBeMade =
    (sizes : Sizes) (words : Words) (views : Views) (states : States) (i : ℕ) → IsShape sizes → i < sizes.processes
    → StackHolds sizes words views states
    → Supplied sizes words states (views i)
    → ((o : ℕ) → o < sizes.processes → (views o).age ≤ most_age sizes)
    → CanAct sizes (views i) × CanMeet sizes (views i) (words (name_of (action_of sizes (views i))))

-- next words and data words may change
abbrev pub OtherWordsKeepStack : Type 0
OtherWordsKeepStack =
    (sizes : Sizes) (words new : Words) (views : Views) (states : States)
    → StackHolds sizes words views states
    → ((name : WordName) → InRange sizes name → is_stack_word name ≡ true → new name ≡ words name)
    → StackHolds sizes new views states

-- a state that is installed is the next one, and what it applies is present
abbrev pub InstalledIsNext : Type 0
InstalledIsNext =
    (sizes : Sizes) (words : Words) (views : Views) (states : States) (i : ℕ) (second : Bool) → IsShape sizes → i < sizes.processes
    → StackHolds sizes words views states
    → (views i).next ≡ Try second ExchangeState → words State ≡ (views i).loaded.state
    → Installs sizes words views states i

-- a transfer loads its reply in the end
abbrev pub RepliesAreAnswers : Type 0
RepliesAreAnswers =
    (sizes : Sizes) (words : Words) (views : Views) (states : States) (i : ℕ) → i < sizes.processes
    → StackHolds sizes words views states
    → (views i).next ≡ LoadReply
    → ReplyIsPresent sizes words states i (views i)

-- all heads of all states so far are blocks
abbrev pub StatesAreBlocks : Type 0
StatesAreBlocks =
    (sizes : Sizes) (words : Words) (views : Views) (states : States) (m place : ℕ) → IsShape sizes
    → StackHolds sizes words views states
    → 1 ≤ m → m ≤ state_tag words → place < (states m).height
    → (states m).content place < blocks sizes

-- a transfer that is applied and said nothing was a take, which was applied to an empty content
abbrev pub EmptyTakesMetNothing : Type 0
EmptyTakesMetNothing =
    (sizes : Sizes) (words : Words) (views : Views) (states : States) (i : ℕ) → IsShape sizes → i < sizes.processes
    → StackHolds sizes words views states
    → has_announced (views i).next ≡ true
    → (present words states).applied i ≡ (views i).age
    → reply_of ((present words states).reply i) ≡ Nothing
    → MetNothing sizes words states i (views i)

-- of each process
abbrev pub EachProcessHolds : Type 0
EachProcessHolds =
    (sizes : Sizes) (words : Words) (views : Views) (states : States) (o : ℕ) → o < sizes.processes
    → StackHolds sizes words views states
    → ProcessHolds sizes words states o (views o)

-- a transfer is applied once both its tries are over, be they made or failed, whatever the other processes did
abbrev pub TriesApply : Type 0
TriesApply =
    (sizes : Sizes) (words : Words) (views : Views) (states : States) (i : ℕ) → i < sizes.processes
    → StackHolds sizes words views states
    → has_tried (views i).next ≡ true
    → (present words states).applied i ≡ (views i).age

-- the words show the present state
abbrev pub WordsShowState : Type 0
WordsShowState =
    (sizes : Sizes) (words : Words) (views : Views) (states : States)
    → StackHolds sizes words views states
    → Shows sizes.processes words (present words states)

-- and so do those of a table
abbrev pub TablesShowState : Type 0
TablesShowState =
    (sizes : Sizes) (table : List ℕ) (views : Views) (states : States)
    → StackHolds sizes (word_at sizes table) views states
    → TableShows sizes table (present (word_at sizes table) states)

-- that step is no exchange of the state that the view loaded, or the state is another one by now
abbrev pub HitsNot : TransferView → Words → NextStep → Type 0
HitsNot v words s = (second : Bool) → s ≡ Try second ExchangeState → words State ≡ v.loaded.state → ⊥

-- a step leaves the content, but where it exchanges the state that its view loaded: that applies the loaded announcements
pub record ContentMoves (sizes : Sizes) (words new : Words) (views : Views) (states : States) (i : ℕ) : Type 0 where
  pub stays : HitsNot (views i) words (views i).next → SameContent words new
  pub becomes : (second : Bool) → (views i).next ≡ Try second ExchangeState → words State ≡ (views i).loaded.state
      → Shows sizes.processes new (next_by sizes (views i) (present words states))

-- the content changes by exchanges of the state alone
abbrev pub StepsMoveContent : Type 0
StepsMoveContent =
    (sizes : Sizes) (words new : Words) (views after : Views) (states : States) (i : ℕ) → IsShape sizes → i < sizes.processes
    → StackHolds sizes words views states
    → Supplied sizes words states (views i)
    → Acted sizes (action_of sizes (views i)) words new
    → Moved i (met_of sizes (views i) (words (name_of (action_of sizes (views i))))) views after
    → ContentMoves sizes words new views states i
