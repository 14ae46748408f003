use Rattle.std.proofs.Common.{refl}
use Rattle.trace_player.specs.Report.{report}
use Rattle.pool_cli.specs.Replies.{replies}
use Rattle.pool_cli.proofs.Endings.{has_printed}
use Rattle.pool_cli.proofs.printing.print.Goals as goal

pub returns-in_ok-prepared-in-Traces-clause-printed : goal.returns-in_ok-prepared-in-Traces-clause-printed
returns-in_ok-prepared-in-Traces-clause-printed g c =
    let played = c.play_traces-played.result in
    let settled = rw (c.replace-taken.ensures.value, c.in_ok-prepared-in-Traces.ensures.shape, c.as_slice-in-Traces-2.ensures.value)
    at c.play_traces-played.ensures in
    has_printed g.K.Sink _ _ _ c.printed.result played.settled (report played.outcomes.items) c.write_report-written.result
    c.printed.ensures.settled c.printed.ensures.ending (rw c.in-Traces.is (played.outcomes.items, settled, refl))
    (rw (← c.deref.ensures.value) c.write_report-written.ensures)

pub returns-in_ok-prepared-in-Stores-clause-printed : goal.returns-in_ok-prepared-in-Stores-clause-printed
returns-in_ok-prepared-in-Stores-clause-printed g c =
    let played = c.play_stores-played.result in
    let settled = rw (
      c.replace-taken-in-Stores.ensures.value,
      c.in_ok-prepared-in-Stores.ensures.shape,
      c.as_slice-in-Stores-3.ensures.value,
    ) at c.play_stores-played.ensures in
    has_printed g.K.Sink _ _ _ c.printed-in-Stores.result played.settled (replies played.outcomes.items)
    c.write_all_replies-written.result c.printed-in-Stores.ensures.settled c.printed-in-Stores.ensures.ending
    (rw c.in-Stores.is (played.outcomes.items, settled, refl))
    (rw (← c.deref-in-Stores.ensures.value) c.write_all_replies-written.ensures)
