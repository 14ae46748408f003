use Rattle.std.proofs.Common.{◌∙◌, refl, sym, subst}
use Rattle.interleaving_core.specs.Moves.{CoreState}
use Rattle.interleaving_core.specs.Runs.{IsRun, Events}
use Rattle.interleaving_core.proofs.Runs.{run_fits, run_lengths, run_due, run_ignores, run_turned, turned_state, turned_answer}
use Rattle.interleaving_core.proofs.run.CoreRun.event.Goals as goal

pub returns-then-not-can_go-clause-run : goal.returns-then-not-can_go-clause-run
returns-then-not-can_go-clause-run c =
    λ past history run. run_ignores _ past history _ (Events c.args.event.now.by c.args.event.now.call)
    (sym c.can_go.ensures ∙ c.if-not-can_go.true) run

pub returns-then-not-can_go-clause-invariant : goal.returns-then-not-can_go-clause-invariant
returns-then-not-can_go-clause-invariant c = λ past history run.
    (run_fits _ _ _ _ (returns-then-not-can_go-clause-run c past history run)).meets

pub call_process-happened-requires-clause-low : goal.call_process-happened-requires-clause-low
call_process-happened-requires-clause-low c =
    (run_due _ _ _ (Events c.args.event.now.by c.args.event.now.call) _ c.self.view_is c.self.invariant c.can_go.ensures
    c.if-not-can_go.false).low

pub call_process-happened-requires-clause-whole : goal.call_process-happened-requires-clause-whole
call_process-happened-requires-clause-whole c = (run_lengths _ _ _ refl c.self.invariant).words

pub call_process-happened-requires-clause-invariant : goal.call_process-happened-requires-clause-invariant
call_process-happened-requires-clause-invariant c =
    let list = c.deref.ensures in
    rw (c.held_by-holds.ensures, list.value)
    (run_due _ _ _ (Events c.args.event.now.by c.args.event.now.call) _ c.self.view_is c.self.invariant c.can_go.ensures
    c.if-not-can_go.false).among

pub invariant_of-self : goal.invariant_of-self
invariant_of-self c =
    let (past, history, run) = c.self.invariant in (
      _,
      _,
      run_turned _ past history _ _ (Events c.args.event.now.by c.args.event.now.call) _ _ _ _ _ c.self.view_is c.can_go.ensures
          c.if-not-can_go.false c.call_process-happened.ensures c.note.ensures run,
    )

pub returns-clause-answer : goal.returns-clause-answer
returns-clause-answer c =
    turned_answer _ _ (Events c.args.event.now.by c.args.event.now.call) _ _ _ _ c.self.view_is c.can_go.ensures c.if-not-can_go.false
    c.call_process-happened.ensures

pub returns-clause-state : goal.returns-clause-state
returns-clause-state c =
    turned_state _ _ (Events c.args.event.now.by c.args.event.now.call) _ _ _ _ _ c.self.view_is c.can_go.ensures c.if-not-can_go.false
    c.call_process-happened.ensures c.note.ensures

pub returns-clause-run : goal.returns-clause-run
returns-clause-run c = λ past history run.
    run_turned _ past history _ _ (Events c.args.event.now.by c.args.event.now.call) _ _ _ _ _ c.self.view_is c.can_go.ensures
    c.if-not-can_go.false c.call_process-happened.ensures c.note.ensures
    (subst (λ (x : CoreState). IsRun x.sizes past history x) (sym c.self.view_is) run)

pub returns-clause-invariant : goal.returns-clause-invariant
returns-clause-invariant c = λ past history run. (run_fits _ _ _ _ (returns-clause-run c past history run)).meets
