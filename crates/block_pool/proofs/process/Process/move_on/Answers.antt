use Rattle.std.proofs.Common.{refl, ap, ◌∙◌, arith}
use Rattle.block_pool.proofs.Going.{can_move}
use Rattle.block_pool.proofs.Moving.{runs_moving, moves_on, moves_end, moved_more, aged_more, plan_stays, plan_ends, plan_goes_on}
use Rattle.block_pool.proofs.process.Process.move_on.Goals as goal

pub returns-then-step-clause-owning : goal.returns-then-step-clause-owning
returns-then-step-clause-owning g c =
    let x = c.loop-made.self in
    let go = runs_moving _ _ _ _ x (omega (arith, c.loop-made-test.true)) c.loop-made.invariant.running in
    moves_end _ _ _ x c.step.new.self _ c.requires.paced c.if-step.true go c.step.ensures.moved

pub returns-then-step-clause-plan : goal.returns-then-step-clause-plan
returns-then-step-clause-plan g c =
    plan_ends _ _ _ _ _ _ c.if-step.true c.requires.pending (omega arith) (omega (arith, c.loop-made-test.true))
    c.loop-made.invariant.plan c.step.ensures.moved.pool.plan

pub returns-then-step-clause-age : goal.returns-then-step-clause-age
returns-then-step-clause-age g c =
    let x = c.loop-made.self in
    let go = runs_moving _ _ _ _ x (omega (arith, c.loop-made-test.true)) c.loop-made.invariant.running in
    (aged_more _ _ _ _ x c.step.new.self _ go c.step.ensures.moved c.loop-made.invariant.age).within

pub loop-made-preserved : goal.loop-made-preserved
loop-made-preserved g c =
    let x = c.loop-made.self in
    let h = c.loop-made.invariant in
    let same = c.step.ensures.one.same in
    let moved = c.step.ensures.moved in
    let go = runs_moving _ _ _ _ x (omega (arith, c.loop-made-test.true)) h.running in
    let within = (can_move _ _ _ x go).go.count.within in
    let same_done = ap (λ p. p.done) h.plan in
    let same_bound = ap (λ p. p.bound) h.plan in
    record {
      seat = (same.0 ∙ h.seat.0, same.1 ∙ h.seat.1);
      steps = omega (arith, h.steps, c.step.ensures.one.tick);
      running = moves_on _ _ _ _ x c.step.new.self _ c.requires.paced c.requires.most c.if-step.false go moved;
      moved = moved_more _ _ _ _ _ x.seat.view c.step.new.self.seat.view _ go moved.stepped refl (λ _. refl) h.moved;
      plan = plan_stays _ _ _ _ _ c.if-step.false h.plan moved.pool.plan;
      within = λ _. omega (arith, within, same_done, same_bound);
      age = aged_more _ _ _ _ x c.step.new.self _ go moved h.age;
    }

pub returns-clause-plan : goal.returns-clause-plan
returns-clause-plan g c = plan_goes_on _ _ _ _ c.requires.pending c.loop-made.invariant.plan c.ran.ensures
