use Rattle.std.proofs.Common.{◌-◌, sym, subst, arith}
use Rattle.timer_wheel.specs.Places.{Places}
use Rattle.timer_wheel.specs.Serving.{Serves}
use Rattle.timer_wheel.proofs.Chains.{found_at, relinked_again}
use Rattle.timer_wheel.proofs.Serving.{holds_moved, serves_rewritten}
use Rattle.timer_wheel.proofs.steps.relink.Goals as goal

pub get-timer-requires-clause-object : goal.get-timer-requires-clause-object
get-timer-requires-clause-object g c =
    c.requires.held (c.args.before - 1) c.in-Some.object
    (found_at c.args.places.now (c.args.before - 1) _ _ _ (omega (arith, c.requires.before, c.if-before-eq0.false)) c.take.ensures.value
    c.in-Some.is)

pub set-requires-clause-object : goal.set-requires-clause-object
set-requires-clause-object g c =
    holds_moved 4 c.in-Some.object.block _ _ c.args.pass.now c.get-timer.new.pass c.get-timer.ensures.pass
    (c.requires.held (c.args.before - 1) c.in-Some.object
    (found_at c.args.places.now (c.args.before - 1) _ _ _ (omega (arith, c.requires.before, c.if-before-eq0.false)) c.take.ensures.value
    c.in-Some.is))

pub returns-in-Some-clause-places : goal.returns-in-Some-clause-places
returns-in-Some-clause-places g c =
    relinked_again c.args.before c.args.next c.args.places.now c.take.new.self c.in-Some.object c.set.new.object c.get-timer.result
    c.if-before-eq0.false
    (found_at c.args.places.now (c.args.before - 1) _ _ _ (omega (arith, c.requires.before, c.if-before-eq0.false)) c.take.ensures.value
    c.in-Some.is)
    c.get-timer.ensures.value c.set.ensures.object

pub returns-in-Some-clause-serves : goal.returns-in-Some-clause-serves
returns-in-Some-clause-serves g c = λ runs.
    let at = found_at c.args.places.now (c.args.before - 1) _ _ _ (omega (arith, c.requires.before, c.if-before-eq0.false))
    c.take.ensures.value c.in-Some.is in
    subst (λ (p : Places). Serves 8 0 c.args.steps.now c.set.new.steps c.args.places.now p runs runs c.args.pass.now c.set.new.pass)
    (sym (relinked_again c.args.before c.args.next c.args.places.now c.take.new.self c.in-Some.object c.set.new.object c.get-timer.result
    c.if-before-eq0.false at c.get-timer.ensures.value c.set.ensures.object))
    (serves_rewritten c.args.before c.args.next c.args.steps.now c.get-timer.new.steps c.set.new.steps c.args.places.now c.in-Some.object
    c.get-timer.result c.args.pass.now c.get-timer.new.pass c.set.new.pass _ c.if-before-eq0.false at c.requires.held c.requires.apart
    c.get-timer.ensures.value c.get-timer.ensures.pass c.set.ensures.pass c.set.ensures.kept c.set.ensures.others c.get-timer.ensures.steps
    c.set.ensures.steps runs)
