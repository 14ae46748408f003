use Rattle.std.proofs.Common.{arith, ◌∙◌}
use Rattle.batch_stack.proofs.Parts.{announces_fit, announces_next}
use Rattle.batch_stack.proofs.transfer.next_action.Goals as goal

pub overflow_add-view : goal.overflow_add-view
overflow_add-view c = let young = (announces_fit c.args.shape.now c.args.view.now c.requires c.in-Announce.is).young in omega arith

pub store_of_announcement-requires-clause-number : goal.store_of_announcement-requires-clause-number
store_of_announcement-requires-clause-number c =
    let young = (announces_fit c.args.shape.now c.args.view.now c.requires c.in-Announce.is).young in omega arith

pub store_of_announcement-requires-clause-wish : goal.store_of_announcement-requires-clause-wish
store_of_announcement-requires-clause-wish c = (announces_fit c.args.shape.now c.args.view.now c.requires c.in-Announce.is).wish

pub returns-in-Announce : goal.returns-in-Announce
returns-in-Announce c = c.store_of_announcement.ensures ∙ announces_next c.args.shape.now c.args.view.now c.in-Announce.is
