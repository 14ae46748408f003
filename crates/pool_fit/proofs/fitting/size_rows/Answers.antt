use Rattle.std.proofs.Common.{arith, get_or}
use Rattle.std.proofs.lemmas.List.{get_or_default}
use Rattle.pool_fit.specs.SizeRows.{IsSizeRow}
use Rattle.pool_fit.proofs.Tables.{rows_more}
use Rattle.pool_fit.proofs.fitting.size_rows.Goals as goal

pub loop-size-preserved : goal.loop-size-preserved
loop-size-preserved c =
    let sizes = c.args.sizes.now in
    let k = c.loop-size.size-index in
    let next = rows_more (IsSizeRow c.args.traces.now c.args.smallest.now) sizes k (get_or sizes k 0) c.loop-size.rows.items
    c.in_ok-size_row.field-0 (omega arith) (get_or_default sizes k 0 (get_or sizes k 0) (omega arith)) c.loop-size.invariant
    c.in_ok-size_row.ensures in
    rw c.in_ok-push.ensures.items next
