use Rattle.std.proofs.Common.{[]}
use Rattle.interleaving_core.specs.Runs.{opens, IsRun}
use Rattle.interleaving_core.proofs.Runs.{run_fits}
use Rattle.interleaving_core.proofs.run.CoreRun.open.Goals as goal

opens_run : (c : goal.After-result-1)
    → IsRun c.args.shape.now [] []
    (record {
      sizes = c.args.shape.now;
      words = c.in_ok-words.words.items;
      views = c.in_ok-views.views.items;
      holders = c.in_ok-holders.holders.items;
    })
opens_run c =
    let seats = c.in_ok-views.ensures in
    let opening = c.in_ok-words.ensures in
    let free = c.in_ok-holders.ensures in
    rw (seats, free) (opens c.in_ok-words.words.items c.processes.ensures.shape opening)

pub invariant_of-result : goal.invariant_of-result
invariant_of-result c = ([], [], opens_run c)

pub returns-clause-run : goal.returns-clause-run
returns-clause-run c = opens_run c

pub returns-clause-invariant : goal.returns-clause-invariant
returns-clause-invariant c = (run_fits c.args.shape.now [] [] _ (opens_run c)).meets
