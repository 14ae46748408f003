use Rattle.std.proofs.Common.{◌∙◌}
use Rattle.std.proofs.lemmas.List.{get_or_default}
use Rattle.pool_machine.specs.Pools.{opening_view}
use Rattle.interleaving_core.proofs.turn.call_process.Goals as goal

pub call_view-requires-clause-invariant : goal.call_view-requires-clause-invariant
call_view-requires-clause-invariant c =
    let seat = c.index_mut-view.ensures in
    let table = c.deref_mut.ensures in
    rw (
      table.value,
      seat.value ∙ get_or_default c.args.views.now.items c.args.event.now.by _
          (opening_view c.args.shape.now c.args.event.now.by) c.requires.low,
    ) c.requires.invariant
