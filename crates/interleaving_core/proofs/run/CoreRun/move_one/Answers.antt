use Rattle.std.proofs.Common.{◌∙◌, refl, sym, subst}
use Rattle.interleaving_core.specs.Moves.{CoreState}
use Rattle.interleaving_core.specs.Runs.{IsRun, Moves}
use Rattle.interleaving_core.proofs.Runs.{run_fits, run_lengths, run_due, run_ignores, run_turned, turned_state, turned_answer}
use Rattle.interleaving_core.proofs.run.CoreRun.move_one.Goals as goal

pub returns-then-not-can_move-clause-run : goal.returns-then-not-can_move-clause-run
returns-then-not-can_move-clause-run c =
    λ past history run. run_ignores _ past history _ (Moves c.args.by c.args.wish) (sym c.can_move.ensures ∙ c.if-not-can_move.true) run

pub returns-then-not-can_move-clause-invariant : goal.returns-then-not-can_move-clause-invariant
returns-then-not-can_move-clause-invariant c = λ past history run.
    (run_fits _ _ _ _ (returns-then-not-can_move-clause-run c past history run)).meets

pub move_process-happened-requires-clause-low : goal.move_process-happened-requires-clause-low
move_process-happened-requires-clause-low c =
    (run_due _ _ _ (Moves c.args.by c.args.wish) _ c.self.view_is c.self.invariant c.can_move.ensures c.if-not-can_move.false).low

pub move_process-happened-requires-clause-whole : goal.move_process-happened-requires-clause-whole
move_process-happened-requires-clause-whole c = (run_lengths _ _ _ refl c.self.invariant).words

pub move_process-happened-requires-clause-invariant : goal.move_process-happened-requires-clause-invariant
move_process-happened-requires-clause-invariant c =
    (run_due _ _ _ (Moves c.args.by c.args.wish) _ c.self.view_is c.self.invariant c.can_move.ensures c.if-not-can_move.false).among

pub invariant_of-self : goal.invariant_of-self
invariant_of-self c =
    let (past, history, run) = c.self.invariant in (
      _,
      _,
      run_turned _ past history _ _ (Moves c.args.by c.args.wish) _ _ _ _ _ c.self.view_is c.can_move.ensures c.if-not-can_move.false
          c.move_process-happened.ensures c.note.ensures run,
    )

pub returns-clause-answer : goal.returns-clause-answer
returns-clause-answer c =
    turned_answer _ _ (Moves c.args.by c.args.wish) _ _ _ _ c.self.view_is c.can_move.ensures c.if-not-can_move.false
    c.move_process-happened.ensures

pub returns-clause-state : goal.returns-clause-state
returns-clause-state c =
    turned_state _ _ (Moves c.args.by c.args.wish) _ _ _ _ _ c.self.view_is c.can_move.ensures c.if-not-can_move.false
    c.move_process-happened.ensures c.note.ensures

pub returns-clause-run : goal.returns-clause-run
returns-clause-run c = λ past history run.
    run_turned _ past history _ _ (Moves c.args.by c.args.wish) _ _ _ _ _ c.self.view_is c.can_move.ensures c.if-not-can_move.false
    c.move_process-happened.ensures c.note.ensures (subst (λ (x : CoreState). IsRun x.sizes past history x) (sym c.self.view_is) run)

pub returns-clause-invariant : goal.returns-clause-invariant
returns-clause-invariant c = λ past history run. (run_fits _ _ _ _ (returns-clause-run c past history run)).meets
