-- Players that are ready to play over a pool.
use Rattle.std.specs.Prelude.{◌≡◌, ℕ, ◌≤◌, List, [], length, map, vec_capacity}
use Rattle.word_layout.specs.Sizes.{Sizes}
use Rattle.block_pool.specs.Closing.{AreInOrder}
use Rattle.block_pool.specs.Opening.{AreOpenedPasses}
use Rattle.block_pool.specs.Passing.{Passed, Pooled}
use Rattle.pass_players.specs.Gathered.{AreReady}
use Rattle.pass_players.specs.Together.{MayPlayTogether}
use Rattle.pass_players.specs.declared.preparing.Prepared.{Prepared}
use Rattle.pass_players.specs.declared.preparing.Room.{Room}

-- the pool that is played over
abbrev pub pool_in : {P O G : Type 0} → Prepared P O G → Pooled
pool_in prepared = prepared.pool

-- the passes that play, in the order of their scripts
abbrev pub passes_in : {P O G : Type 0} → Prepared P O G → List Passed
passes_in prepared = map (λ one. one.pass) prepared.players.items

-- empty vectors, with room for so many players and so many gates
pub record HasRoom {P O G : Type 0} (players gates : ℕ) (room : Room P O G) : Type 0 where
  pub no_gated : room.gated.items ≡ []
  pub no_passes : room.passes.items ≡ []
  pub no_outcomes : room.outcomes.items ≡ []
  pub no_gates : room.gates.items ≡ []
  pub for_gated : players ≤ vec_capacity room.gated
  pub for_passes : players ≤ vec_capacity room.passes
  pub for_outcomes : players ≤ vec_capacity room.outcomes
  pub for_gates : gates ≤ vec_capacity room.gates

-- the passes are those of the pool, each may play the script of its place and has a player that is ready for it, and there is room for them
-- and for so many gates
pub record IsPrepared {S P O G : Type 0} (suits : Sizes → S → Type 0) (most_calls : S → ℕ) (is_ready : S → P → Type 0) (scripts : List S)
    (gates : ℕ) (prepared : Prepared P O G) : Type 0 where
  pub in_order : AreInOrder (pool_in prepared) (passes_in prepared)
  pub may : MayPlayTogether suits most_calls (pool_in prepared) (passes_in prepared) scripts
  pub many : length prepared.players.items ≡ length scripts
  pub ready : AreReady is_ready scripts prepared.players.items
  pub room : HasRoom (length scripts) gates prepared.room

-- the pool has this shape, and its passes are as it was opened with them
pub record IsFresh {P O G : Type 0} (sizes : Sizes) (prepared : Prepared P O G) : Type 0 where
  pub shape : (pool_in prepared).sizes ≡ sizes
  pub opened : AreOpenedPasses (pool_in prepared) (passes_in prepared)
