-- a process that may make a step about something: its next step is due
use Rattle.std.proofs.Common.{◌≡◌, ℕ, ◌<◌, true, List, sym, ap, ◌∙◌, subst}
use Rattle.word_layout.specs.Sizes.{Sizes}
use Rattle.word_layout.specs.Names.{word_at}
use Rattle.pool_model.specs.declared.entry.Entry.{Entry}
use Rattle.pool_model.specs.History.{own, grip}
use Rattle.pool_machine.specs.declared.view.ProcessView.{ProcessView}
use Rattle.batch_invariant.specs.Batches.{MovedProcess}
use Rattle.interleaving_core.specs.Invariant.{BlockIsHeld}
use Rattle.interleaving_core.specs.StepLaws.{TableMeets, StepIsDue}
use Rattle.interleaving_core.proofs.Due.{calls_are_due, moves_are_due}
use Rattle.interleaving_core.proofs.Standing.{number_holds}
use Rattle.pool_table.specs.declared.about.About.{About}
use Rattle.pool_table.specs.declared.about.About.TheVariants as about
use Rattle.pool_table.specs.Minds.{Mind, number_of, held_in}
use Rattle.pool_table.specs.Rule.{Minds, views_of, MindsHold}
use Rattle.pool_table.specs.Turns.{turning, MayTurn}
use Rattle.pool_table.proofs.Numbered.{moved, moved_here, moved_elsewhere}

-- the machine's views once the mind of one process has become another
pub views_move : (i : ℕ) (mind : Mind) (minds : Minds) → MovedProcess i mind.view (views_of minds) (views_of (moved i mind minds))
views_move i mind minds = record {
  here = ap (λ m. m.view) (moved_here i mind minds);
  elsewhere = λ o ne. ap (λ m. m.view) (moved_elsewhere i o mind minds ne);
}

-- where one process's mind becomes another, whatever it was before, the machine's views move in that process's alone
pub views_move_on : (i : ℕ) (first mind : Mind) (minds : Minds)
    → MovedProcess i mind.view (views_of (moved i first minds)) (views_of (moved i mind minds))
views_move_on i first mind minds = record {
  here = ap (λ m. m.view) (moved_here i mind minds);
  elsewhere = λ o ne. ap (λ m. m.view) (moved_elsewhere i o mind minds ne ∙ sym (moved_elsewhere i o first minds ne));
}

-- a mind with the view with which its process makes the step, and the minds of all with it
abbrev pub with_view : ProcessView → Mind → Mind
with_view v mind = record mind { view = v }

-- the minds of all once process i has begun what its step is about
abbrev pub begun_minds : ℕ → ProcessView → Minds → Minds
begun_minds i v minds = moved i (with_view v (minds i)) minds

-- what the rule says of the table
pub table_of : (sizes : Sizes) (words : List ℕ) (minds : Minds) (history : List Entry) (i : ℕ) → MindsHold sizes words minds history
    → i < sizes.processes → TableMeets sizes words (views_of minds) history i
table_of sizes words minds history i holds low = record { shape = holds.shape; whole = holds.whole; low = low; meets = holds.meets }

-- the mind of a process has its number, and it holds what its entries say
pub mind_number : (sizes : Sizes) (words : List ℕ) (minds : Minds) (history : List Entry) (i : ℕ) → MindsHold sizes words minds history
    → i < sizes.processes → number_of (minds i) ≡ i
mind_number sizes words minds history i holds low = number_holds sizes (word_at sizes words) (views_of minds) history i low holds.meets

-- by its entries a mind holds what the history says that its process holds
pub mind_holds : (sizes : Sizes) (words : List ℕ) (minds : Minds) (history : List Entry) (i : ℕ) → MindsHold sizes words minds history
    → i < sizes.processes → held_in (minds i) ≡ grip (own history i)
mind_holds sizes words minds history i holds low =
    ap (λ n. grip (own (minds i).seen n)) (mind_number sizes words minds history i holds low) ∙ ap grip (holds.sees i low).own_seen

-- the step is due once what it is about has begun
pub step_is_due : (sizes : Sizes) (words : List ℕ) (minds : Minds) (history : List Entry) (i : ℕ) (a : About)
    → MindsHold sizes words minds history → i < sizes.processes → MayTurn sizes a (minds i)
    → StepIsDue sizes words (views_of (begun_minds i (turning a (minds i).view) minds)) history i
step_is_due sizes words minds history i (about.Alone wish) holds low may =
    let v = turning (about.Alone wish) (minds i).view in
    moves_are_due sizes words (views_of minds) (views_of (begun_minds i v minds)) history i wish
    (table_of sizes words minds history i holds low) may (views_move i (with_view v (minds i)) minds)
step_is_due sizes words minds history i (about.InCall call) holds low (may, held) =
    let v = turning (about.InCall call) (minds i).view in
    let block = subst (λ blocks. BlockIsHeld blocks call) (mind_holds sizes words minds history i holds low) held in
    calls_are_due sizes words (views_of minds) (views_of (begun_minds i v minds)) history i call true
    (table_of sizes words minds history i holds low) may (λ e. block) (views_move i (with_view v (minds i)) minds)

-- there the process has that view
pub begun_here : (i : ℕ) (v : ProcessView) (minds : Minds) → views_of (begun_minds i v minds) i ≡ v
begun_here i v minds = ap (λ m. m.view) (moved_here i (with_view v (minds i)) minds)
