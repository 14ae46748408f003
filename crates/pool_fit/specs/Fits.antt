-- The whole table of some traces.
use Rattle.std.specs.Prelude.{◌≡◌, ℕ, List, [], ◌∷◌, map}
use Rattle.std.specs.List.{range_with_len}
use Rattle.mtrace_reader.specs.declared.trace.Trace.{Trace}
use Rattle.word_layout.specs.Sizes.{Sizes}
use Rattle.pool_fit.specs.declared.classes.SizeClass.{SizeClass}
use Rattle.pool_fit.specs.declared.fitting.Table.{Table}
use Rattle.pool_fit.specs.Choices.{IsCheapest, left_out, offers_of, proposed_sizes}
use Rattle.pool_fit.specs.Classes.{class_of}
use Rattle.pool_fit.specs.SizeRows.{AreSizeRows, moves_of_all}

-- the sizes that are asked for, or those that are proposed where none are
abbrev pub sizes_for : List ℕ → List SizeClass → List ℕ
sizes_for [] classes = proposed_sizes classes
sizes_for (size ∷ sizes) classes = size ∷ sizes

-- the allocations of some traces by their size
abbrev pub classes_of : List Trace → List SizeClass
classes_of traces = map (class_of (moves_of_all traces)) (range_with_len 0 65)

-- the table of the traces, for pools like the smallest ones, where these sizes are asked for
pub record IsFit (traces : List Trace) (smallest : List Sizes) (asked : List ℕ) (table : Table) : Type 0 where
  pub classes : table.classes.items ≡ classes_of traces
  pub sizes : AreSizeRows traces smallest (sizes_for asked (classes_of traces)) table.sizes.items
  pub choice : IsCheapest (offers_of (left_out table.sizes.items) table.sizes.items) table.choice
