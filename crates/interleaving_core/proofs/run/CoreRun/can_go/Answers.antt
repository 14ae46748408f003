use Rattle.std.proofs.Common.{◌∙◌, refl, ap, arith}
use Rattle.interleaving_core.specs.Moves.{holds_for}
use Rattle.interleaving_core.proofs.Runs.{run_lengths, may_go_here}
use Rattle.interleaving_core.proofs.run.CoreRun.can_go.Goals as goal

pub index-requires : goal.index-requires
index-requires c = omega (arith, c.self.inside.views.ok, (run_lengths _ _ _ refl c.self.invariant).views)

pub returns : goal.returns
returns c =
    let test = c.if-event-processes.false in
    let value = c.processes.ensures.value in
    let list = c.deref.ensures in
    may_go_here _ _ _ c.args.event.now.by c.args.event.now.call _ _ _ c.self.view_is c.self.invariant (rw value at test) c.index.ensures
    (c.held_by-holds.ensures ∙ ap (λ holders. holds_for holders c.args.event.now.by c.args.event.now.call) list.value) c.may_go.ensures
