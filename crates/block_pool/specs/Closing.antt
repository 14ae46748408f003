-- what closing a pool asks of its passes, and what it leaves
use Rattle.std.specs.Prelude.{◌≡◌, ℕ, zero, suc, ◌<◌, ◌==◌, if◌then◌else◌, Some, List, [], ◌∷◌, ◌++◌, length, take, slice_get, slice_set}
use Rattle.std.specs.Prelude.{count_by}
use Rattle.std.specs.List.{All}
use Rattle.word_layout.specs.Sizes.{Sizes, limits_of}
use Rattle.pool_model.specs.declared.entry.Entry.{Entry}
use Rattle.pool_model.specs.History.{own, held}
use Rattle.pool_model.specs.Legal.{IsLegal}
use Rattle.pool_table.specs.Minds.{Mind, number_of}
use Rattle.pool_table.specs.Views.{SeatView, longest_in}
use Rattle.block_pool.specs.Passing.{Pooled, Passed, IsOf}
use Rattle.block_pool.specs.Opening.{AreOpenedPasses}
use Rattle.block_pool.specs.Calls.{SamePass}

-- the passes are all those of the pool, in whatever order: each is of it, and that of each process is there once
pub record AreAllPasses (pool : Pooled) (passes : List Passed) : Type 0 where
  pub many : length passes ≡ pool.sizes.processes
  pub each : All (IsOf pool) passes
  pub once : (n : ℕ) → n < pool.sizes.processes → count_by (λ pass. pass.number == n) passes ≡ 1

-- so they are where they stand in the order of their processes
pub record AreInOrder (pool : Pooled) (passes : List Passed) : Type 0 where
  pub many : length passes ≡ pool.sizes.processes
  pub each : (n : ℕ) (pass : Passed) → slice_get passes n ≡ Some pass → IsOf pool pass × (pass.number ≡ n)

-- passes in the order of their processes are all passes of the pool, each once
abbrev pub OrderedAreAll : Type 0
OrderedAreAll = (pool : Pooled) (passes : List Passed) → AreInOrder pool passes → AreAllPasses pool passes

-- at the opening they do, and a call of one of them leaves it so
abbrev pub OpenedAreInOrder : Type 0
OpenedAreInOrder = (pool : Pooled) (passes : List Passed) → AreOpenedPasses pool passes → AreInOrder pool passes

-- a call with one of them keeps them in order
abbrev pub CallsKeepOrder : Type 0
CallsKeepOrder = (pool : Pooled) (passes : List Passed) (n : ℕ) (old new : Passed) → AreInOrder pool passes → slice_get passes n ≡ Some old
    → SamePass old new → AreInOrder pool (slice_set passes n new)

-- a settled pool: its shape, how many moves each process had made, by its number, and the one history
pub record Settlement : Type 0 where
  pub sizes : Sizes
  pub moves : List ℕ
  pub history : List Entry

-- it fits a pass of the pool: it has that one's moves, its history has that one's entries and no more of its process, and begins with what
-- that one had seen
pub record FitsPass (settled : Settlement) (pass : Passed) : Type 0 where
  pub moves : slice_get settled.moves pass.number ≡ Some pass.moves
  pub entries : own settled.history pass.number ≡ pass.own
  pub begins : take (length pass.seen) settled.history ≡ pass.seen

-- the pool was closed with these passes: one legal history fits them all
pub record IsClosed (pool : Pooled) (passes : List Passed) (settled : Settlement) : Type 0 where
  pub shape : settled.sizes ≡ pool.sizes
  pub legal : IsLegal (limits_of pool.sizes) settled.history
  pub each : All (FitsPass settled) passes

-- the moves of process n, by these minds
abbrev pub moves_in : ℕ → List Mind → ℕ
moves_in n [] = 0
moves_in n (mind ∷ minds) = if number_of mind == n then mind.moves else moves_in n minds

-- those of the first so many processes
abbrev pub moves_by : ℕ → List Mind → List ℕ
moves_by zero minds = []
moves_by (suc n) minds = moves_by n minds ++ moves_in n minds ∷ []

-- what a seat tells that has taken in those of all other processes
abbrev pub settlement_of : Sizes → SeatView → Settlement
settlement_of sizes v = record {
  sizes = sizes;
  moves = moves_by sizes.processes (v.mind ∷ v.taken);
  history = longest_in (v.mind ∷ v.taken);
}

-- what a settled pool keeps: its history is legal, and the blocks that are held after it are counted
pub record SettledFits (settled : Settlement) (holding : ℕ) : Type 0 where
  pub legal : IsLegal (limits_of settled.sizes) settled.history
  pub counted : holding ≡ length (held settled.history)
