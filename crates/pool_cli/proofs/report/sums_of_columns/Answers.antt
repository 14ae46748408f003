use Rattle.std.proofs.Common.{List, arith, subst}
use Rattle.std.proofs.lemmas.List.{take_all}
use Rattle.trace_player.specs.declared.tally.Tally.{Tally}
use Rattle.trace_player.specs.Report.{sums_of}
use Rattle.pool_cli.proofs.Sums.{HasNumbers, numbers_next, numbers_none, zeros}
use Rattle.pool_cli.proofs.report.sums_of_columns.Goals as goal

pub loop-tally-init : goal.loop-tally-init
loop-tally-init c = record {
  summed = numbers_none 10;
  small = λ k. omega (arith, zeros 10 k);
}

pub add_columns-requires : goal.add_columns-requires
add_columns-requires c = λ place within. omega (arith, c.loop-tally.invariant.small place)

pub loop-tally-preserved : goal.loop-tally-preserved
loop-tally-preserved c = record {
  summed = numbers_next c.args.tallies.now c.loop-tally.tally-index _ c.loop-tally.sums _ c.loop-tally-test.true c.loop-tally.invariant.summed c.add_columns.ensures.added;
  small = λ k. omega (arith, c.loop-tally.invariant.small k, c.add_columns.ensures.small k);
}

pub returns : goal.returns
returns c =
    let Has : List Tally → Type 0 = λ tallies. HasNumbers (sums_of tallies) c.loop-tally.sums in
    subst Has (take_all c.loop-tally.tally-index c.args.tallies.now c.loop-tally-test.false) c.loop-tally.invariant.summed
