use Rattle.std.proofs.Common.{arith, ap, [], ◌+◌, get_or}
use Rattle.std.proofs.lemmas.Option.{slice_get_within}
use Rattle.trace_player.specs.Report.{columns_of}
use Rattle.pool_cli.proofs.Sums.{added_next, column_at}
use Rattle.pool_cli.proofs.report.add_columns.Goals as goal

pub loop-place-preserved : goal.loop-place-preserved
loop-place-preserved c =
    let here = column_at c.columns-columns.result c.args.tally.now c.loop-place.place (record { ref_ptr = (0, 0); now = [] }, 0) c.columns-columns.ensures (omega arith) in
    added_next (columns_of c.args.tally.now) _ c.loop-place.sums c.loop-place.place _ _ _ (omega arith) c.loop-place-test.element_fits.fits here (ap (λ n. get_or c.loop-place.sums c.loop-place.place 0 + n) c.from.ensures) c.loop-place.invariant

pub returns-clause-added : goal.returns-clause-added
returns-clause-added c = λ place column at.
    let within = slice_get_within (columns_of c.args.tally.now) place column at in
    c.loop-place.invariant.added place column (omega arith) at
