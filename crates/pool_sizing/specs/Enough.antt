-- How many batches a pool needs that refuses nobody.
use Rattle.std.specs.Prelude.{◌≡◌, ℕ, ◌+◌, ◌<◌, ◌≤◌, List, ◌++◌, length, Contains}
use Rattle.pool_model.specs.declared.entry.Entry.{Entry}
use Rattle.pool_model.specs.declared.entry.Entry.TheVariants.{Dry}
use Rattle.pool_model.specs.Limits.{greatest_slack}
use Rattle.pool_model.specs.History.{held}
use Rattle.pool_model.specs.Legal.{IsLegal}
use Rattle.word_layout.specs.Sizes.{Sizes, IsShape, sizes, blocks, limits_of}

-- a pool has more blocks than its processes may withhold and hold together, if they hold at most so many
abbrev pub HasEnough : Sizes → ℕ → Type 0
HasEnough pool live = greatest_slack (limits_of pool) + live < blocks pool

-- so many batches make a shape with these processes and this quantum, and it has enough blocks
pub record AreEnough (processes quantum live batches : ℕ) : Type 0 where
  pub length : ℕ
  pub is_shape : IsShape (sizes processes batches 0 quantum length)
  pub enough : HasEnough (sizes processes batches 0 quantum length) live

-- so many batches are enough, and fewer aren't
pub record AreLeastEnough (processes quantum live batches : ℕ) : Type 0 where
  pub enough : AreEnough processes quantum live batches
  pub least : (fewer : ℕ) → AreEnough processes quantum live fewer → batches ≤ fewer

-- at no moment of the history are more than so many blocks held
abbrev pub HoldsAtMost : ℕ → List Entry → Type 0
HoldsAtMost live history = (past rest : List Entry) → past ++ rest ≡ history → length (held past) ≤ live

-- a pool with enough blocks refuses nobody, in all legal histories in which at most so many are held
abbrev pub EnoughAreNotRefused : Type 0
EnoughAreNotRefused =
    (pool : Sizes) (live : ℕ) (history : List Entry) → HasEnough pool live → IsLegal (limits_of pool) history → HoldsAtMost live history
    → (by : ℕ) → Contains history (Dry by) → ⊥
