-- What holds of the pools of a table.
use Rattle.std.specs.Prelude.{◌≡◌, ℕ, ◌≤◌, Some, Bool, List, length, slice_get}
use Rattle.pool_model.specs.declared.entry.Entry.{Entry}
use Rattle.pool_model.specs.History.{own}
use Rattle.pool_model.specs.Legal.{IsLegal}
use Rattle.enough_blocks.specs.Enough.{NoneIsDry}
use Rattle.mtrace_reader.specs.declared.steps.Script.{Script}
use Rattle.mtrace_reader.specs.declared.trace.Trace.{Trace}
use Rattle.trace_player.specs.Fit.{Fits}
use Rattle.trace_player.specs.Plain.{peaks_without_refusals}
use Rattle.word_layout.specs.Sizes.{Sizes, IsShape, limits_of}
use Rattle.pool_fit.specs.declared.rows.EnoughPool.{EnoughPool}
use Rattle.pool_fit.specs.Rows.{IsLeastPool}
use Rattle.pool_fit.specs.SizeRows.{scripts_of}

-- the entries of process k are the calls for script k, with some refusals
abbrev pub FitScripts : List Script → List Entry → Type 0
FitScripts scripts history = (k : ℕ) (script : Script) → slice_get scripts k ≡ Some script
    → (refused : List Bool) × Fits k script refused (own history k)

-- a pool of these processes and this quantum, with as many batches as the least pool for these traces or more, refuses nothing, whatever
-- its processes do that play the traces
abbrev pub LeastPoolsRefuseNothing : Type 0
LeastPoolsRefuseNothing = (traces : List Trace) (size : ℕ) (least : EnoughPool) (pool : Sizes) (history : List Entry) → IsShape pool
    → IsLeastPool pool.processes pool.quantum size (peaks_without_refusals (scripts_of traces size)) least → least.batches ≤ pool.batches
    → IsLegal (limits_of pool) history → length traces ≡ pool.processes → FitScripts (scripts_of traces size) history → NoneIsDry history
