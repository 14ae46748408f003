-- what a step of one process leaves of the words and views of all
use Rattle.std.specs.Prelude.{◌≡◌, ℕ, List, slice_set}
use Rattle.word_layout.specs.Sizes.{Sizes}
use Rattle.transfer_machine.specs.Words.{acted, met_word}
use Rattle.pool_machine.specs.declared.view.ProcessView.{ProcessView}
use Rattle.pool_machine.specs.declared.event.Happened.{Happened}
use Rattle.interleaving_core.specs.Steps.{next_action, next_met, next_answer}

-- a view made its next step on the old words, and that is what happened
pub record Stepped (sizes : Sizes) (v : ProcessView) (words new : List ℕ) (x : ProcessView) (happened : Happened) : Type 0 where
  pub acts : new ≡ acted sizes words (next_action sizes v)
  pub meets : x ≡ next_met sizes v (met_word sizes words (next_action sizes v))
  pub answers : happened ≡ next_answer v (met_word sizes words (next_action sizes v))

-- the process made the next step of this view on the old words, and that is what happened
pub record Turned (sizes : Sizes) (by : ℕ) (v : ProcessView) (words : List ℕ) (views : List ProcessView)
    (new : List ℕ) (after : List ProcessView) (happened : Happened) : Type 0 where
  pub acts : new ≡ acted sizes words (next_action sizes v)
  pub meets : after ≡ slice_set views by (next_met sizes v (met_word sizes words (next_action sizes v)))
  pub answers : happened ≡ next_answer v (met_word sizes words (next_action sizes v))
