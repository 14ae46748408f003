use Rattle.std.proofs.Common.{ap, sym, ◌∙◌, ◌++◌, ◌∷◌, [], arith}
use Rattle.interleaving_core.specs.Runs.{opening_views}
use Rattle.interleaving_core.proofs.Runs.{opening_none, opening_more}
use Rattle.interleaving_core.proofs.turn.opening_views.Goals as goal

pub loop-process-init : goal.loop-process-init
loop-process-init c = let made = c.in_ok-views.ensures in made.items ∙ sym (opening_none c.args.shape.now)

pub loop-process-preserved : goal.loop-process-preserved
loop-process-preserved c =
    let pushed = c.in_ok-push.ensures in
    pushed.items ∙ ap (λ xs. xs ++ c.open.result ∷ []) c.loop-process.invariant ∙ ap
    (λ v. opening_views c.args.shape.now c.loop-process.process ++ v ∷ []) c.open.ensures ∙ sym
    (opening_more c.args.shape.now c.loop-process.process)

pub returns : goal.returns
returns c =
    c.loop-process.invariant ∙ ap (opening_views c.args.shape.now)
    (omega (arith, c.loop-process-test.false, c.loop-process.auto.process-end, c.processes-process-end.ensures.value))
