-- the batches in transit and in the content: all that a change of the state moves, wherever the spares of the processes come from
use Rattle.std.specs.Prelude.{◌≡◌, ℕ, ◌+◌, ◌<◌, if◌then◌else◌, nat_lt}
use Rattle.process_sums.specs.Sums.{total}
use Rattle.word_layout.specs.Sizes.{Sizes, most_blocks}
use Rattle.transfer_machine.specs.States.{StackState}
use Rattle.batch_invariant.specs.Places.{moving}
use Rattle.batch_invariant.specs.Batches.{ProcessViews, ReplyMatches, weight}

-- the weight of the batches in transit and in the content
unfoldable pub transit_weight : Sizes → StackState → ProcessViews → (ℕ → ℕ) → ℕ
transit_weight sizes s views f =
    total sizes.processes (λ i. weight f (moving s i (views i).transfer)) + total s.height (λ k. f (s.content k))

-- counts 1 for a number that is no head of any pool, 0 for others
abbrev pub is_large : ℕ → ℕ
is_large head = if nat_lt head most_blocks then 0 else 1

-- all heads in transit and in the content fit a word
pub record HeadsFit (sizes : Sizes) (s : StackState) (views : ProcessViews) : Type 0 where
  pub none_large : transit_weight sizes s views is_large ≡ 0

-- a state becomes another: batches move between what is in transit and the content alone, and replies match where they did before
pub record Carried (sizes : Sizes) (s t : StackState) (views : ProcessViews) : Type 0 where
  pub same_weight : (f : ℕ → ℕ) → transit_weight sizes t views f ≡ transit_weight sizes s views f
  pub matches : (o : ℕ) → o < sizes.processes → ReplyMatches s o (views o).transfer → ReplyMatches t o (views o).transfer
