-- What blocks of one size are asked for.
use Rattle.std.specs.Prelude.{◌≡◌, ℕ, ◌^◌, ◌<◌, List, Some, length, map, sum_by, slice_get}
use Rattle.mtrace_reader.specs.declared.trace.Trace.{Trace}
use Rattle.mtrace_reader.specs.declared.steps.Script.{Script}
use Rattle.mtrace_reader.specs.Script.{script_of}
use Rattle.trace_player.specs.Plain.{peaks_without_refusals}
use Rattle.word_layout.specs.Sizes.{Sizes}
use Rattle.pool_fit.specs.declared.moves.Move.{Move}
use Rattle.pool_fit.specs.declared.rows.QuantumRow.{QuantumRow}
use Rattle.pool_fit.specs.declared.sizes.SizeRow.{SizeRow}
use Rattle.pool_fit.specs.Moves.{moves_of, waste_of}
use Rattle.pool_fit.specs.Rows.{IsQuantumRow}

-- the trace has so few operations that they can be counted
abbrev pub HasFewOperations : Trace → Type 0
HasFewOperations trace = length trace.operations < 2 ^ 32

-- the scripts of some traces, where a block has `size` bytes
abbrev pub scripts_of : List Trace → ℕ → List Script
scripts_of traces size = map (λ trace. script_of trace size) traces

-- what the operations of some traces take and give
abbrev pub moves_of_all : List Trace → List (List Move)
moves_of_all traces = map (λ trace. moves_of trace.operations) traces

-- there is a row for each key, in their order, and each is of its key
pub record AreRowsFor {A B : Type 0} (Is : A → B → Type 0) (keys : List A) (rows : List B) : Type 0 where
  pub one_each : length rows ≡ length keys
  pub each : (k : ℕ) (key : A) (row : B) → slice_get keys k ≡ Some key → slice_get rows k ≡ Some row → Is key row

-- a row for each of the smallest pools
abbrev pub AreQuantumRows : List Sizes → ℕ → ℕ → List QuantumRow → Type 0
AreQuantumRows smallest size live rows = AreRowsFor (λ (pool : Sizes). IsQuantumRow pool.processes pool.quantum size live) smallest rows

-- what blocks of `size` bytes are asked for by these traces, with a row for each of the smallest pools
pub record IsSizeRow (traces : List Trace) (smallest : List Sizes) (size : ℕ) (row : SizeRow) : Type 0 where
  pub size_of : row.size ≡ size
  pub news : row.news ≡ sum_by (λ (script : Script). script.news) (scripts_of traces size)
  pub big : row.big ≡ sum_by (λ (script : Script). script.big) (scripts_of traces size)
  pub peak : row.peak ≡ peaks_without_refusals (scripts_of traces size)
  pub waste : row.waste ≡ sum_by (waste_of size) (moves_of_all traces)
  pub quanta : AreQuantumRows smallest size row.peak row.quanta.items

-- what blocks of each of these sizes are asked for
abbrev pub AreSizeRows : List Trace → List Sizes → List ℕ → List SizeRow → Type 0
AreSizeRows traces smallest sizes rows = AreRowsFor (IsSizeRow traces smallest) sizes rows
