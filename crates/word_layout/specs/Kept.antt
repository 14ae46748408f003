-- what a shape keeps
use Rattle.std.specs.Prelude.{◌≡◌}
use Rattle.word_layout.specs.Sizes.{Sizes, IsShape}
use Rattle.word_layout.specs.Names.{slots_start, nexts_start, data_start}
use Rattle.word_layout.specs.Packing.{most_age}
use Rattle.word_layout.specs.declared.shape.Shape.TheInside.{Inside}

-- the numbers of a shape
abbrev pub sizes_of : Inside → Sizes
sizes_of shape = record {
  processes = shape.processes;
  batches = shape.batches;
  words = shape.words;
  quantum = shape.quantum;
  length = shape.length;
}

-- the numbers are within their limits, the places that are kept are those where its words begin, and the age is the greatest
pub record KeepsItsPlaces (shape : Inside) : Type 0 where
  pub is_shape : IsShape (sizes_of shape)
  pub first_slot : slots_start (sizes_of shape) ≡ shape.first_slot
  pub first_next : nexts_start (sizes_of shape) ≡ shape.first_next
  pub first_data : data_start (sizes_of shape) ≡ shape.first_data
  pub last_age : most_age (sizes_of shape) ≡ shape.last_age
