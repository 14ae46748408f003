-- what a process owes before a call
use Rattle.std.specs.Prelude.{ℕ, ◌+◌, ◌*◌, ◌<◌, ◌^◌}
use Rattle.word_layout.specs.Packing.{most_age}
use Rattle.word_layout.specs.Sizes.{Sizes, transfer_bound}
use Rattle.block_pool.specs.Passing.{Passed}
use Rattle.pool_stress.specs.declared.stopping.Call.{Call}
use Rattle.pool_stress.specs.declared.stopping.Call.TheVariants.{Allocate, Search, Free}

-- a search is made by a pass that may begin a transfer
abbrev pub MayCall : Call → Passed → Type 0
MayCall Allocate pass = Unit {0}
MayCall Search pass = pass.age < most_age pass.sizes
MayCall Free pass = Unit {0}

-- the counter has room for the steps of any call
abbrev pub HasRoom : Sizes → ℕ → Type 0
HasRoom sizes made = made + 2 * transfer_bound sizes + sizes.quantum + 1 < 2 ^ 64
