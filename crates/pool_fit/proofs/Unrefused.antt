-- A pool of a table refuses nothing.
use Rattle.std.proofs.Common.{◌≡◌, ℕ, ◌+◌, ◌*◌, ◌<◌, zero, suc, List, [], ◌∷◌, subst, ◌∙◌, arith, Some}
use Rattle.std.specs.Prelude.{slice_get, sum_by}
use Rattle.std.proofs.Math.Nat.{mul-le-mul_right}
use Rattle.std.proofs.lemmas.List.{length-map}
use Rattle.std.proofs.lemmas.Option.{same_Some}
use Rattle.enough_blocks.proofs.Enough.{nothing_is_refused}
use Rattle.pool_model.specs.History.{own}
use Rattle.mtrace_reader.specs.declared.steps.Script.{Script}
use Rattle.mtrace_reader.specs.declared.trace.Trace.{Trace}
use Rattle.mtrace_reader.specs.Script.{IsWellFormed, script_of}
use Rattle.mtrace_reader.proofs.WellFormed.{IsWellFormed-script_of}
use Rattle.trace_player.specs.Tally.{no_refusals, peak_of}
use Rattle.trace_player.proofs.Unrefused.{holds-at-most-peak}
use Rattle.word_layout.specs.Sizes.{blocks, limits_of}
use Rattle.word_layout.proofs.Lengths.{one_length}
use Rattle.pool_fit.specs.Laws.{LeastPoolsRefuseNothing}
use Rattle.pool_fit.specs.SizeRows.{scripts_of}

-- the script of a trace is well formed
formed_at : (traces : List Trace) (size k : ℕ) (script : Script) → slice_get (scripts_of traces size) k ≡ Some script
    → IsWellFormed script
formed_at [] size k script at = absurd cc
formed_at (trace ∷ traces) size zero script at =
    subst IsWellFormed (same_Some (script_of trace size) script at) (IsWellFormed-script_of size trace.cut trace.operations)
formed_at (trace ∷ traces) size (suc k) script at = formed_at traces size k script at

-- with as many batches as the least pool or more, its blocks are more than the slack and the peaks together
pub least_pools : LeastPoolsRefuseNothing
unfolding blocks
least_pools traces size least pool history shape is few legal each fit =
    let enough = is.least.enough in
    let same = one_length pool.processes pool.quantum enough.length pool.length enough.is_shape.least_length shape.least_length in
    let above = subst (λ (l : ℕ). 5 * pool.processes * l + peaks < least.batches * l) same enough.enough in
    nothing_is_refused (λ (script : Script). peak_of (no_refusals script) script.steps) (limits_of pool) history scripts legal
    (length-map traces (λ (trace : Trace). script_of trace size) ∙ each)
    (λ k script at. let one = fit k script at in
    holds-at-most-peak k script one.0 (own history k) (formed_at traces size k script at) one.1)
    (omega (arith, above, mul-le-mul_right {m = least.batches} {n = pool.batches} pool.length few))
  where
    scripts : List Script
    scripts = scripts_of traces size

    peaks : ℕ
    peaks = sum_by (λ (script : Script). peak_of (no_refusals script) script.steps) scripts
