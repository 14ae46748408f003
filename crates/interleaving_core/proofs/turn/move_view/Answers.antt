use Rattle.interleaving_core.proofs.Tables.{among_idle, among_fits, among_moving}
use Rattle.interleaving_core.proofs.Runs.{moving_next}
use Rattle.interleaving_core.proofs.turn.move_view.Goals as goal

pub begin_at_rest-requires-clause-idle : goal.begin_at_rest-requires-clause-idle
begin_at_rest-requires-clause-idle c =
    among_idle c.args.shape.now c.args.words.now c.args.view.now c.processes.ensures.shape c.requires.invariant

pub begin_at_rest-requires-clause-fits : goal.begin_at_rest-requires-clause-fits
begin_at_rest-requires-clause-fits c =
    among_fits c.args.shape.now c.args.words.now c.args.view.now c.args.wish c.processes.ensures.shape c.requires.invariant

pub make_step-requires-clause-busy : goal.make_step-requires-clause-busy
make_step-requires-clause-busy c =
    rw c.begin_at_rest.ensures
    (moving_next c.args.shape.now c.args.words.now c.args.view.now c.args.wish c.requires.moves c.requires.invariant)

pub make_step-requires-clause-invariant : goal.make_step-requires-clause-invariant
make_step-requires-clause-invariant c =
    rw c.begin_at_rest.ensures
    (among_moving c.args.shape.now c.args.words.now c.args.view.now c.args.wish c.processes.ensures.shape c.requires.moves
    c.requires.invariant)
