-- With enough blocks nothing is refused.
use Rattle.std.proofs.Common.{◌≡◌, ℕ, List, [], sym, ap, ◌∙◌, subst, arith, Some, false}
use Rattle.std.specs.Prelude.{All, slice_get}
use Rattle.std.specs.List.{flat_map}
use Rattle.std.proofs.lemmas.Option.{get_or_from_slice_get, slice_get_within}
use Rattle.std.proofs.lemmas.List.{length-replicate}
use Rattle.pool_model.specs.declared.entry.Entry.{Entry}
use Rattle.pool_model.specs.History.{own}
use Rattle.pool_model.proofs.Places.{slice_get_as_long}
use Rattle.enough_blocks.specs.Enough.{HoldsAtMost, NoneIsDry}
use Rattle.enough_blocks.proofs.Enough.{nothing_is_refused}
use Rattle.enough_blocks.proofs.Lists.{same_as_mapped}
use Rattle.enough_blocks.proofs.Refusals.{none_of_own}
use Rattle.mtrace_reader.specs.declared.steps.Script.{Script}
use Rattle.mtrace_reader.specs.Script.{IsWellFormed}
use Rattle.trace_player.specs.declared.tally.Tally.{Tally}
use Rattle.trace_player.specs.Tally.{no_refusals, peak_of, tally_of}
use Rattle.trace_player.specs.Fit.{Fits, IsTallied, calls_of}
use Rattle.trace_player.proofs.Unrefused.{calls_without_refusals, holds-at-most-peak, none_refused}
use Rattle.pool_runs.specs.Enough.{EnoughBlocksRefuseNothing}

-- where none of its entries is a refusal, its tally is that without refusals
tally_is : (k : ℕ) (script : Script) (entries : List Entry) (tally : Tally) → IsWellFormed script → IsTallied k script entries tally
    → NoneIsDry entries → tally ≡ tally_of script (no_refusals script)
tally_is k script entries tally formed one none =
    let calls : NoneIsDry (flat_map (calls_of k one.refused one.fits.blocks) script.steps) = subst NoneIsDry one.fits.step_by_step none in
    let alike = calls_without_refusals k one.refused (no_refusals script) one.fits.blocks (none_refused script.news) [] script.steps
    formed.leaves (λ slot has. absurd (omega (arith, has.1))) calls in
    let fits : Fits k script (no_refusals script) entries = record {
      one_each = length-replicate script.news false;
      blocks = one.fits.blocks;
      step_by_step = one.fits.step_by_step ∙ alike;
    } in
    one.tallied ∙ ap (tally_of script) (sym (one.only (no_refusals script) fits))

-- a script is well formed where all are
formed_at : (scripts : List Script) (k : ℕ) (script : Script) → All IsWellFormed scripts → slice_get scripts k ≡ Some script
    → IsWellFormed script
formed_at scripts k script formed at =
    subst IsWellFormed (get_or_from_slice_get scripts k script script at) (formed k script (slice_get_within scripts k script at))

pub enough_blocks : EnoughBlocksRefuseNothing
enough_blocks limits history scripts tallies legal each formed tallied enough =
    let peak : Script → ℕ = λ script. peak_of (no_refusals script) script.steps in
    let few : (k : ℕ) (script : Script) → slice_get scripts k ≡ Some script → HoldsAtMost (peak script) (own history k) = λ k script at.
    let tally = slice_get_as_long tallies scripts k script (sym tallied.one_each) at in
    let one = tallied.each k script tally.0 at tally.1 in
    holds-at-most-peak k script one.refused (own history k) (formed_at scripts k script formed at) one.fits in
    let none = nothing_is_refused peak limits history scripts legal each few enough in
    same_as_mapped (λ script. tally_of script (no_refusals script)) scripts tallies tallied.one_each
    (λ k script tally at found.
    tally_is k script (own history k) tally (formed_at scripts k script formed at) (tallied.each k script tally at found)
    (none_of_own history k none))
