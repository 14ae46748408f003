use Rattle.std.proofs.Common.{refl, ap, subst, arith}
use Rattle.pool_machine.specs.declared.call.Call.TheVariants.{Allocate}
use Rattle.block_pool.specs.Moves.{MovedOn, PlanRuns}
use Rattle.block_pool.proofs.Calls.{due_begins, begun_plan, begun_age, begun_quantum, number_is, call_made, allocate_entries}
use Rattle.block_pool.proofs.process.Process.allocate.Goals as goal

pub begin-requires : goal.begin-requires
begin-requires g c = due_begins _ c.args.self.now c.requires.ready.between

pub run_pending-made-requires-clause-quantum : goal.run_pending-made-requires-clause-quantum
run_pending-made-requires-clause-quantum g c =
    begun_quantum _ c.args.self.now c.begin.new.self c.requires.ready.between c.begin.ensures.pool

pub returns-clause-called : goal.returns-clause-called
returns-clause-called g c =
    let x = c.args.self.now in
    let ran = c.run_pending-made in
    let r = ran.new.self in
    let allocated = c.own_allocate.ensures.made in
    let own = allocated.made in
    let moved = subst (λ s. MovedOn s.view ran.result r.seat.view) c.begin.ensures.seat ran.ensures.moved in
    let number = number_is _ _ _ _ own.word x.seat.view r _ ran.ensures.owning own.stepped moved in
    let entries = allocate_entries Allocate _ own.word _ r refl number allocated.block in
    let plan = begun_plan x c.begin.new.self c.begin.ensures.pool in
    let age = ran.ensures.age in
    let same = ap (λ t. t.age) own.transfer in
    let begun = begun_age x c.begin.new.self c.begin.ensures.transfer in (
      record {
        moved = ran.result;
        few = ran.ensures.few;
        steps = omega (arith, ran.ensures.steps, c.own_allocate.ensures.one.tick);
        made = call_made _ _ _ _ _ x.seat.view r _ ran.ensures.owning moved own entries;
        ran = r.pool.plan;
        runs = subst (λ p. PlanRuns c.args.shape.now.quantum p ran.result r.pool.plan) plan ran.ensures.plan;
        own = allocated.plan;
        age = omega (arith, age, same, begun);
      },
      allocated.none,
    )
