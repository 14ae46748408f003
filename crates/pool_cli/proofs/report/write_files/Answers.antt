use Rattle.std.proofs.lemmas.Result.{err_from_is_err_and}
use Rattle.trace_player.specs.Report.{lines_from}
use Rattle.pool_cli.proofs.Reports.{line_at, lines_one_by_one}
use Rattle.pool_cli.proofs.Texts.{texts_more, texts_part}
use Rattle.pool_cli.proofs.report.write_files.Goals as goal

pub loop-index-preserved : goal.loop-index-preserved
loop-index-preserved g c =
    texts_more line_at lines_from lines_one_by_one g.K.Sink _ _ _ c.args.tallies.now c.loop-index.index _ c.loop-index-test.true
    c.loop-index.invariant c.in_ok-write_file.ensures

pub returns-in_err-write_file : goal.returns-in_err-write_file
returns-in_err-write_file g c =
    let p = err_from_is_err_and c.from_residual.result c.from_residual.ensures.1 in
    rw p.1 (texts_part line_at lines_from lines_one_by_one g.K.Sink _ _ _ c.args.tallies.now c.loop-index.index _ _ _
    c.loop-index-test.true c.loop-index.invariant c.in_err-write_file.ensures)
