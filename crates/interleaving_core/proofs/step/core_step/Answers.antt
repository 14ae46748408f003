use Rattle.interleaving_core.proofs.Tables.{among_allowed, among_step}
use Rattle.interleaving_core.proofs.step.core_step.Goals as goal

pub kind_of-kind-requires : goal.kind_of-kind-requires
kind_of-kind-requires c = λ calls own.
    let can = (among_allowed c.args.shape.now c.args.words.now c.args.view.now c.processes.ensures.shape c.requires.busy
    c.requires.invariant).call_act calls in
    rw own at can

pub returns-clause-invariant : goal.returns-clause-invariant
returns-clause-invariant c = λ others past meets.
    rw (c.make_step.ensures.words, c.make_step.ensures.view)
    (among_step c.args.shape.now c.args.words.now c.args.view.now others past c.processes.ensures.shape c.requires.whole
    c.requires.invariant.low c.requires.busy meets)
