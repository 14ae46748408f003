use Rattle.std.proofs.Common.{◌∙◌, sym, ap, subst}
use Rattle.transfer_machine.specs.Machine.{CanMeet}
use Rattle.transfer_machine.specs.Words.{met_word}
use Rattle.pool_machine.specs.Pools.{view_met}
use Rattle.pool_machine.proofs.step.step_words.Goals as goal

pub meet-requires-clause-meet : goal.meet-requires-clause-meet
meet-requires-clause-meet c =
    subst (CanMeet c.args.shape.now c.args.view.now.transfer)
    (sym (c.act-word.ensures.met ∙ ap (met_word c.args.shape.now c.args.words.now) c.action-action.ensures.action)) c.requires.can.meet

pub returns-clause-view : goal.returns-clause-view
returns-clause-view c =
    c.meet.ensures ∙ ap (view_met c.args.shape.now c.args.view.now)
    (c.act-word.ensures.met ∙ ap (met_word c.args.shape.now c.args.words.now) c.action-action.ensures.action)
