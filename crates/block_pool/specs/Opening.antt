-- the passes of a pool at its opening
use Rattle.std.specs.Prelude.{◌≡◌, ℕ, ◌<◌, Some, List, [], length, slice_get}
use Rattle.atomic_table.specs.Seated.{TableId}
use Rattle.word_layout.specs.Sizes.{Sizes, transfer_bound}
use Rattle.transfer_schedule.specs.Numbers as schedule
use Rattle.block_pool.specs.Passing.{Pooled, Passed}

-- the pass of a process at the opening: it has seen nothing, holds nothing and has made no step
abbrev pub opened_pass : TableId → Sizes → ℕ → Passed
opened_pass table sizes number = record {
  table = table;
  sizes = sizes;
  number = number;
  seen = [];
  own = [];
  held = [];
  known = [];
  plan = schedule.opening sizes.length (transfer_bound sizes) sizes.quantum;
  age = 0;
  moves = 0;
}

-- the passes are those of all processes of the pool at its opening, in the order of their numbers
pub record AreOpenedPasses (pool : Pooled) (passes : List Passed) : Type 0 where
  pub many : length passes ≡ pool.sizes.processes
  pub each : (number : ℕ) → number < pool.sizes.processes → slice_get passes number ≡ Some (opened_pass pool.table pool.sizes number)
