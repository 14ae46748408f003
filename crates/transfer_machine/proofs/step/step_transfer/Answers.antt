use Rattle.std.proofs.Common.{◌∙◌, ap}
use Rattle.transfer_machine.specs.Machine.{met_of}
use Rattle.transfer_machine.specs.Words.{met_word}
use Rattle.transfer_machine.proofs.step.step_transfer.Goals as goal

pub returns-clause-view : goal.returns-clause-view
returns-clause-view c =
    c.meet.ensures ∙ ap (met_of c.args.shape.now c.args.view.now)
    (c.act-word.ensures.met ∙ ap (met_word c.args.shape.now c.args.words.now) c.action-action.ensures.action)
