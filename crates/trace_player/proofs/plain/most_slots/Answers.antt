use Rattle.std.proofs.Common.{arith, ◌≤◌, take, sym, subst}
use Rattle.std.proofs.lemmas.List.{take_all}
use Rattle.std.proofs.lemmas.List.Elements.{All-more, All-weaker, All-same}
use Rattle.mtrace_reader.specs.declared.steps.Script.{Script}
use Rattle.trace_player.proofs.plain.most_slots.Goals as goal

pub loop-script-preserved : goal.loop-script-preserved
loop-script-preserved c =
    let enough : Script → Type 0 = λ script. script.news ≤ c.max-most.result in
    let before : c.loop-script.most ≤ c.max-most.result = grind arith in
    let this : c.script-item.result.news ≤ c.max-most.result = grind arith in
    All-more enough c.args.scripts.now c.loop-script.script-index c.script-item.result c.loop-script-test.true
    (All-weaker (λ script. script.news ≤ c.loop-script.most) enough (λ script le. omega (arith, le, before))
    (take c.loop-script.script-index c.args.scripts.now) c.loop-script.invariant)
    (subst enough c.script-item.is this)

pub returns : goal.returns
returns c =
    All-same (λ script. script.news ≤ c.loop-script.most) c.args.scripts.now (take c.loop-script.script-index c.args.scripts.now)
    (sym (take_all c.loop-script.script-index c.args.scripts.now c.loop-script-test.false)) c.loop-script.invariant
