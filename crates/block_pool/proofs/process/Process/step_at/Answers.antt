use Rattle.std.proofs.Common.{sym, ◌∙◌, arith}
use Rattle.block_pool.proofs.Going.{can_move}
use Rattle.block_pool.proofs.process.Process.step_at.Goals as goal

pub action_at-action-requires-clause-act : goal.action_at-action-requires-clause-act
action_at-action-requires-clause-act g c = (can_move _ _ _ c.args.self.now c.requires.moving).go.act

pub meet_at-requires-clause-act : goal.meet_at-requires-clause-act
meet_at-requires-clause-act g c = (can_move _ _ _ c.args.self.now c.requires.moving).go.act

pub move_pool-requires-clause-busy : goal.move_pool-requires-clause-busy
move_pool-requires-clause-busy g c = λ e. (can_move _ _ _ c.args.self.now c.requires.moving).go.busy (sym c.requires.next ∙ e)

pub move_pool-requires-clause-few : goal.move_pool-requires-clause-few
move_pool-requires-clause-few g c =
    let few = (can_move _ _ _ c.args.self.now c.requires.moving).left.few c.requires.paced in omega (arith, few, c.requires.quantum)

pub move_pool-requires-clause-small : goal.move_pool-requires-clause-small
move_pool-requires-clause-small g c =
    let few = (can_move _ _ _ c.args.self.now c.requires.moving).left.few c.requires.paced in omega arith

pub move_pool-requires-clause-count : goal.move_pool-requires-clause-count
move_pool-requires-clause-count g c = (can_move _ _ _ c.args.self.now c.requires.moving).go.count
