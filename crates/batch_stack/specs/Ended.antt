-- what the end of a transfer tells of its process and of the stack
use Rattle.std.specs.Prelude.{◌≡◌, ℕ, ◌+◌, true, List, [], ◌∷◌, ◌++◌}
use mathlib.Core.Option.{some}
use lib.ListN.{get_elem?}
use Rattle.word_layout.specs.Sizes.{Sizes}
use Rattle.word_layout.specs.Names.{word_at}
use Rattle.transfer_machine.specs.States.{StackState}
use Rattle.transfer_invariant.specs.Memory.{Words, States, state_tag}
use Rattle.batch_invariant.specs.Batches.{ProcessViews}
use Rattle.stack_invariant.specs.Emptied.{MetNothing}
use Rattle.chain_invariant.specs.Chains.{IsChainOf, times_pooled}
use Rattle.interleaving_core.specs.Invariant as machine
use Rattle.interleaving_core.specs.StateLaws.{HasStates, HadFewMoments}
use Rattle.pool_table.specs.declared.about.About.{About}
use Rattle.pool_table.specs.Minds.{number_of}
use Rattle.pool_table.specs.Views.{SeatView}
use Rattle.pool_table.specs.Rule.{Holds, views_of}
use Rattle.pool_table.specs.Turns.{turning}
use Rattle.pool_table.specs.Transfers.{transfer_about}
use Rattle.pool_table.specs.Steps.{MadeOn}
use Rattle.batch_stack.specs.declared.progress.Progress.{Progress}
use Rattle.batch_stack.specs.declared.progress.Progress.TheVariants.{Going, Took, Empty, Gave}

-- a batch is a whole chain of blocks, and stands at one place alone: of all spares, all batches on their way, and the content
pub record IsWholeBatch (sizes : Sizes) (words : Words) (s : StackState) (views : ProcessViews) (head : ℕ) : Type 0 where
  pub chain : List ℕ
  pub leads : IsChainOf words (head + 1) sizes.length chain
  pub once : times_pooled sizes s views head ≡ 1

-- a take got this batch: its process has it as its newest spare, and it is whole wherever the rule holds with its view
pub record HasTaken (about : About) (v x : SeatView) (head : ℕ) : Type 0 where
  pub spare : x.mind.view.pool.heads ≡ (turning about v.mind.view).pool.heads ++ head ∷ []
  pub whole : (words : List ℕ) (views : List SeatView) (place : ℕ) (h : Holds words views) → get_elem? views place ≡ some x
      → (ghosts : machine.Ghosts) → machine.Holds x.sizes (word_at x.sizes words) (views_of h.minds) h.history ghosts
      → IsWholeBatch x.sizes (word_at x.sizes words) (ghosts.states (state_tag (word_at x.sizes words))) (views_of h.minds) head

-- these words have states in which an exchange applied the take of a seat's process to an empty content
pub record HadNothing (about : About) (v : SeatView) (words : List ℕ) : Type 0 where
  pub states : States
  pub had : HasStates v.sizes words states
  pub met : MetNothing v.sizes (word_at v.sizes words) states (number_of v.mind) (transfer_about about v)

-- so had the words that the step was made on
pub record MetEmptyStack (about : About) (v x : SeatView) : Type 0 where
  pub word : ℕ
  pub made : MadeOn about v word x
  pub nothing : HadNothing about v made.words

-- a take found nothing: it met an empty stack; its process's plan says dry, and so wherever the rule holds with its view few blocks were
-- unheld at a place of the history that isn't before that take
pub record FoundNothing (about : About) (v x : SeatView) : Type 0 where
  pub met : MetEmptyStack about v x
  pub dry : x.mind.view.pool.plan.dry ≡ true
  pub few : (words : List ℕ) (views : List SeatView) (place : ℕ) (h : Holds words views) → get_elem? views place ≡ some x
      → HadFewMoments x.sizes words h.history (number_of x.mind) x.mind.view

-- what an answer tells: of a batch taken, and of a take that found nothing
abbrev pub EndTells : About → SeatView → SeatView → Progress → Type 0
EndTells about v x Going = Unit {0}
EndTells about v x (Took head) = HasTaken about v x head
EndTells about v x Empty = FoundNothing about v x
EndTells about v x Gave = Unit {0}
