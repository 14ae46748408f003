-- what the next step of one process makes of words and views that meet the invariant, whether or not a run led to them
use Rattle.std.specs.Prelude.{◌≡◌, ◌≢◌, ℕ, ◌<◌, Bool, true, List, ◌++◌, length, Contains}
use Rattle.word_layout.specs.Sizes.{Sizes, IsShape, blocks}
use Rattle.word_layout.specs.Names.{table_words, word_at}
use Rattle.word_layout.specs.Packing.{reply_of}
use Rattle.word_layout.specs.declared.announced.Wish.{Wish}
use Rattle.word_layout.specs.declared.name.WordName.TheVariants.{Data}
use Rattle.pool_model.specs.declared.entry.Entry.{Entry}
use Rattle.pool_model.specs.History.{own, grip}
use Rattle.transfer_machine.specs.Words.{acted, met_word}
use Rattle.transfer_machine.specs.declared.stage.NextStep.TheVariants.{LoadReply}
use Rattle.pool_machine.specs.declared.call.Call.{Call}
use Rattle.pool_machine.specs.declared.view.ProcessView.{ProcessView}
use Rattle.batch_invariant.specs.Batches.{ProcessViews, MovedProcess}
use Rattle.interleaving_core.specs.CallConditions.{CallConditions}
use Rattle.interleaving_core.specs.DataWords.{known_after, changed_after}
use Rattle.interleaving_core.specs.Invariant.{Known, DataHolds, BlockIsHeld, MeetsInvariant}
use Rattle.interleaving_core.specs.InvariantLaws.{WhereverMet}
use Rattle.interleaving_core.specs.Kept.{reply_value_at}
use Rattle.interleaving_core.specs.Moves.{may_go, calling_view, may_go_alone, moving_view}
use Rattle.interleaving_core.specs.Runs.{entries_of}
use Rattle.interleaving_core.specs.Steps.{is_busy, next_action, next_met, next_answer}
use Rattle.interleaving_core.specs.TransferLaws.{moves_transfer}

-- the word that the next step of a view meets
abbrev pub word_met : Sizes → List ℕ → ProcessView → ℕ
word_met sizes words v = met_word sizes words (next_action sizes v)

-- the words after that step
abbrev pub words_after : Sizes → List ℕ → ProcessView → List ℕ
words_after sizes words v = acted sizes words (next_action sizes v)

-- the view after it
abbrev pub view_after : Sizes → List ℕ → ProcessView → ProcessView
view_after sizes words v = next_met sizes v (word_met sizes words v)

-- the history after it
abbrev pub history_after : Sizes → List ℕ → ProcessView → List Entry → List Entry
history_after sizes words v history = history ++ entries_of (next_answer v (word_met sizes words v))

-- the words are those of a table, and meet the invariant with these views and this history; the process is one of the shape's
pub record TableMeets (sizes : Sizes) (words : List ℕ) (views : ProcessViews) (history : List Entry) (i : ℕ) : Type 0 where
  pub shape : IsShape sizes
  pub whole : length words ≡ table_words sizes
  pub low : i < sizes.processes
  pub meets : MeetsInvariant sizes words views history

-- the same, and the process has a next step
pub record StepIsDue (sizes : Sizes) (words : List ℕ) (views : ProcessViews) (history : List Entry) (i : ℕ) : Type 0 where
  pub table : TableMeets sizes words views history i
  pub busy : is_busy (views i) ≡ true

-- a fact of that step
abbrev pub AtEachStep : (Sizes → List ℕ → ProcessViews → List Entry → ℕ → Type 0) → Type 0
AtEachStep Fact = (sizes : Sizes) (words : List ℕ) (views : ProcessViews) (history : List Entry) (i : ℕ)
    → StepIsDue sizes words views history i → Fact sizes words views history i

-- once it is made, the words and views meet the invariant, with the history that its answer makes
abbrev pub StepsKeepInvariant : Type 0
StepsKeepInvariant = AtEachStep (λ sizes words views history i.
    (after : ProcessViews) → MovedProcess i (view_after sizes words (views i)) views after
    → MeetsInvariant sizes (words_after sizes words (views i)) after (history_after sizes words (views i) history))

-- it leaves each data word of each block that its process doesn't hold
abbrev pub StepsLeaveData : Type 0
StepsLeaveData = AtEachStep (λ sizes words views history i.
    (block index : ℕ) → block < blocks sizes → index < sizes.words → ¬ Contains (grip (own history i)) block
    → word_at sizes (words_after sizes words (views i)) (Data block index) ≡ word_at sizes words (Data block index))

-- what its process knows of the data words of its blocks still holds, with what the step told it, and without the block that it freed
abbrev pub StepsTellData : Type 0
StepsTellData = AtEachStep (λ sizes words views history i.
    (known : Known) → DataHolds sizes (word_at sizes words) (grip (own history i)) known
    → DataHolds sizes (word_at sizes (words_after sizes words (views i))) (grip (own (history_after sizes words (views i) history) i))
    (known_after (views i) (word_met sizes words (views i)) known))

-- and so it does where its process doesn't note a word that it read
abbrev pub StepsKeepData : Type 0
StepsKeepData = AtEachStep (λ sizes words views history i.
    (known : Known) → DataHolds sizes (word_at sizes words) (grip (own history i)) known
    → DataHolds sizes (word_at sizes (words_after sizes words (views i))) (grip (own (history_after sizes words (views i) history) i))
    (changed_after (views i) known))

-- where it loads the reply that ends a transfer, its process is answered with its reply in the current record
abbrev pub AnswersAreReplies : Type 0
AnswersAreReplies = AtEachStep (λ sizes words views history i.
    moves_transfer (views i) ≡ true → (views i).transfer.next ≡ LoadReply
    → (view_after sizes words (views i)).transfer.answer ≡ reply_of (reply_value_at sizes words i))

-- it makes no entry of another process
abbrev pub StepsEnterOwn : Type 0
StepsEnterOwn = AtEachStep (λ sizes words views history i. (other : ℕ) → other ≢ i
    → own (history_after sizes words (views i) history) other ≡ own history other)

-- what a process holds is a block of the pool, and no other process holds it
abbrev pub HoldersAreApart : Type 0
HoldersAreApart = WhereverMet (λ sizes words views history. (i block : ℕ) → i < sizes.processes → Contains (grip (own history i)) block
    → (block < blocks sizes) × ((other : ℕ) → other < sizes.processes → other ≢ i → ¬ Contains (grip (own history other)) block))

-- a process goes on with its call, or begins this one, whose block it holds: its next step is due
abbrev pub CallsAreDue : Type 0
CallsAreDue = (sizes : Sizes) (words : List ℕ) (views begun : ProcessViews) (history : List Entry) (i : ℕ)
    (call : Call) (holds : Bool) → TableMeets sizes words views history i
    → may_go sizes holds call (views i) ≡ true → (holds ≡ true → BlockIsHeld (grip (own history i)) call)
    → MovedProcess i (calling_view call (views i)) views begun → StepIsDue sizes words begun history i

-- and so, with that step, it keeps the invariant
abbrev pub CallsKeepInvariant : Type 0
CallsKeepInvariant = (sizes : Sizes) (words : List ℕ) (views after : ProcessViews) (history : List Entry) (i : ℕ)
    (call : Call) (holds : Bool) → TableMeets sizes words views history i
    → may_go sizes holds call (views i) ≡ true → (holds ≡ true → BlockIsHeld (grip (own history i)) call)
    → MovedProcess i (view_after sizes words (calling_view call (views i))) views after
    → MeetsInvariant sizes (words_after sizes words (calling_view call (views i))) after
    (history_after sizes words (calling_view call (views i)) history)

-- a process goes on with its transfer alone, or begins one with this wish: its next step is due
abbrev pub MovesAreDue : Type 0
MovesAreDue = (sizes : Sizes) (words : List ℕ) (views begun : ProcessViews) (history : List Entry) (i : ℕ) (wish : Wish)
    → TableMeets sizes words views history i → may_go_alone sizes wish (views i) ≡ true
    → MovedProcess i (moving_view wish (views i)) views begun → StepIsDue sizes words begun history i

-- and so, with that step, it keeps the invariant
abbrev pub MovesKeepInvariant : Type 0
MovesKeepInvariant = (sizes : Sizes) (words : List ℕ) (views after : ProcessViews) (history : List Entry) (i : ℕ) (wish : Wish)
    → TableMeets sizes words views history i → may_go_alone sizes wish (views i) ≡ true
    → MovedProcess i (view_after sizes words (moving_view wish (views i))) views after
    → MeetsInvariant sizes (words_after sizes words (moving_view wish (views i))) after
    (history_after sizes words (moving_view wish (views i)) history)

-- a process that is to make a step of a transfer meets the conditions on the call that its view names, if any
abbrev pub CallsMeetConditions : Type 0
CallsMeetConditions = WhereverMet (λ sizes words views history. (i : ℕ) → i < sizes.processes → moves_transfer (views i) ≡ true
    → CallConditions sizes (grip (own history i)) (views i).calls.call (views i))
