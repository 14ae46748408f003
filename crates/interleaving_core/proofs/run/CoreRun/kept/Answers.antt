use Rattle.std.proofs.Common.{◌∙◌}
use Rattle.interleaving_core.proofs.Opens.{content_said}
use Rattle.interleaving_core.proofs.Runs.{run_fits}
use Rattle.interleaving_core.proofs.CallLaws.{kept_read, kept_small, kept_five, process_low}
use Rattle.interleaving_core.proofs.run.CoreRun.kept.Goals as goal

pub kept_by-requires-clause-says : goal.kept_by-requires-clause-says
kept_by-requires-clause-says c =
    let (past, history, run) = c.self.invariant in
    let fits = run_fits _ past history _ run in
    let table = c.deref.ensures in
    rw table.value (content_said _ _ _ history fits.whole fits.meets)

pub kept_by-requires-clause-low : goal.kept_by-requires-clause-low
kept_by-requires-clause-low c = process_low _ _ c.args.process c.self.view_is c.requires

pub kept_by-requires-clause-few : goal.kept_by-requires-clause-few
kept_by-requires-clause-few c =
    let (past, history, run) = c.self.invariant in
    rw (kept_read _ _ c.args.process c.deref.result.now c.view.result.now c.self.view_is c.deref.ensures.value c.view.ensures)
    (kept_small _ _ history c.args.process c.self.view_is (run_fits _ past history _ run) c.requires)

pub returns-clause-value : goal.returns-clause-value
returns-clause-value c =
    c.kept_by.ensures ∙ kept_read _ _ c.args.process c.deref.result.now c.view.result.now c.self.view_is c.deref.ensures.value
    c.view.ensures

pub returns-clause-few : goal.returns-clause-few
returns-clause-few c =
    let (past, history, run) = c.self.invariant in
    rw (c.kept_by.ensures ∙ kept_read _ _ c.args.process c.deref.result.now c.view.result.now c.self.view_is c.deref.ensures.value
    c.view.ensures) (kept_five _ _ history c.args.process c.self.view_is (run_fits _ past history _ run) c.requires)
