-- The pools that a table offers, and the cheapest of them.
use Rattle.std.specs.Prelude.{◌≡◌, ◌⊎◌, ℕ, ◌-◌, ◌≤◌, ◌^◌, ◌&&◌, Bool, List, [], ◌∷◌, Option, Some, None, flat_map, map, filter, drop}
use Rattle.std.specs.Prelude.{length, nat_le, nat_lt, slice_get, if◌then◌else◌}
use Rattle.std.specs.List.{All, Contains}
use Rattle.pool_fit.specs.declared.choice.Choice.{Choice}
use Rattle.pool_fit.specs.declared.classes.SizeClass.{SizeClass}
use Rattle.pool_fit.specs.declared.rows.EnoughPool.{EnoughPool}
use Rattle.pool_fit.specs.declared.rows.QuantumRow.{QuantumRow}
use Rattle.pool_fit.specs.declared.sizes.SizeRow.{SizeRow}

-- a pool that is offered, if there is one
abbrev pub offer_of : ℕ → ℕ → Option EnoughPool → List Choice
offer_of size quantum None = []
offer_of size quantum (Some pool) = record { size = size; quantum = quantum; batches = pool.batches; bytes = pool.bytes } ∷ []

-- the pools of one size
abbrev pub offers_of_size : SizeRow → List Choice
offers_of_size row = flat_map (λ (one : QuantumRow). offer_of row.size one.quantum one.pool) row.quanta.items

-- the pools of the sizes that leave out at most so many allocations
abbrev pub offers_of : ℕ → List SizeRow → List Choice
offers_of most rows = flat_map (λ (row : SizeRow). if nat_le row.big most then offers_of_size row else []) rows

-- how many allocations a size leaves out, where there is one
abbrev pub left_out_by : Option SizeRow → ℕ
left_out_by None = 0
left_out_by (Some row) = row.big

-- how many allocations the last size leaves out
abbrev pub left_out : List SizeRow → ℕ
left_out rows = left_out_by (slice_get rows (length rows - 1))

-- none of the offers takes fewer bytes than the one that is chosen, if there are any
abbrev pub IsCheapest : List Choice → Option Choice → Type 0
IsCheapest offers None = offers ≡ []
IsCheapest offers (Some choice) = Contains offers choice × All (λ (other : Choice). choice.bytes ≤ other.bytes) offers

-- whether some allocation rounds up to this power of two, and a block can have so many bytes
abbrev pub is_proposable : SizeClass → Bool
is_proposable class = nat_lt 0 class.count && nat_lt class.exponent 32

-- the sizes that allocations round up to
abbrev pub rounded_sizes : List SizeClass → List ℕ
rounded_sizes classes = map (λ (class : SizeClass). 2 ^ class.exponent) (filter is_proposable classes)

-- how many sizes are proposed at most
abbrev pub most_proposed : ℕ
most_proposed = 8

-- the eight greatest of them, or all
abbrev pub proposed_sizes : List SizeClass → List ℕ
proposed_sizes classes = drop (length (rounded_sizes classes) - most_proposed) (rounded_sizes classes)

-- the one of two that takes fewer bytes, where the first may be missing
abbrev pub IsCheaper : Option Choice → Choice → Choice → Type 0
IsCheaper None other choice = choice ≡ other
IsCheaper (Some best) other choice = ((choice ≡ best) ⊎ (choice ≡ other)) × (choice.bytes ≤ best.bytes) × (choice.bytes ≤ other.bytes)
