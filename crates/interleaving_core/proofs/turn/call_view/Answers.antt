use Rattle.interleaving_core.proofs.Tables.{among_can_begin, among_calling}
use Rattle.interleaving_core.proofs.Runs.{calling_next}
use Rattle.interleaving_core.proofs.turn.call_view.Goals as goal

pub begin_between-requires : goal.begin_between-requires
begin_between-requires c = record {
  can = among_can_begin c.args.shape.now c.args.words.now c.args.view.now c.processes.ensures.shape c.requires.invariant.among;
}

pub make_step-requires-clause-busy : goal.make_step-requires-clause-busy
make_step-requires-clause-busy c =
    rw c.begin_between.ensures (calling_next c.args.shape.now c.args.words.now c.args.view.now c.args.call c.requires.invariant.among)

pub make_step-requires-clause-invariant : goal.make_step-requires-clause-invariant
make_step-requires-clause-invariant c =
    rw c.begin_between.ensures
    (among_calling c.args.shape.now c.args.words.now c.args.view.now c.args.call c.args.holds c.processes.ensures.shape c.requires.goes
    c.requires.invariant)
