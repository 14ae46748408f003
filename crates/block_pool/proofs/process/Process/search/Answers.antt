use Rattle.std.proofs.Common.{refl, sym, ap, ◌∙◌, subst, arith, ◌+◌}
use Rattle.pool_machine.specs.declared.call.Call.TheVariants.{Search}
use Rattle.block_pool.specs.Moves.{MovedOn}
use Rattle.block_pool.specs.Searching.{PlanEnds}
use Rattle.block_pool.proofs.Calls.{begun_plan, begun_age, number_is, call_made, allocate_entries}
use Rattle.block_pool.proofs.Searching.{chosen_begins, plan_bound, chosen_bound, same_bound, few_steps, moved_both, was_refused_now}
use Rattle.block_pool.proofs.process.Process.search.Goals as goal

pub run_met-requires-clause-room : goal.run_met-requires-clause-room
run_met-requires-clause-room g c =
    let bound = plan_bound _ c.args.self.now c.requires.ready.between in omega (arith, bound, c.requires.room)

pub begin-requires : goal.begin-requires
begin-requires g c = chosen_begins _ c.run_met.new.self c.run_met.ensures.chooses

pub run_begun-requires-clause-room : goal.run_begun-requires-clause-room
run_begun-requires-clause-room g c =
    let bound = plan_bound _ c.args.self.now c.requires.ready.between in
    let kept = same_bound _ _ _ c.run_met.ensures.plan in
    let few = few_steps _ _ _ c.run_met.ensures.plan in
    let begun = ap (λ p. p.bound) (begun_plan c.run_met.new.self c.begin.new.self c.begin.ensures.pool) in
    let chosen = chosen_bound c.run_met.new.self.pool.plan in
    omega (arith, bound, kept, few, begun, chosen, c.run_met.ensures.steps, c.requires.room)

pub own_allocate-requires-clause-may : goal.own_allocate-requires-clause-may
own_allocate-requires-clause-may g c =
    let bound = plan_bound _ c.args.self.now c.requires.ready.between in
    let kept = same_bound _ _ _ c.run_met.ensures.plan in
    let few = few_steps _ _ _ c.run_met.ensures.plan in
    let begun = ap (λ p. p.bound) (begun_plan c.run_met.new.self c.begin.new.self c.begin.ensures.pool) in
    let chosen = chosen_bound c.run_met.new.self.pool.plan in
    let more = few_steps _ _ _ c.run_begun.ensures.plan in
    record {
      of_table = c.run_begun.ensures.seat.0 ∙ (ap (λ s. s.table) c.begin.ensures.seat
          ∙ (c.run_met.ensures.seat.0 ∙ c.requires.ready.of_table));
      whole = c.requires.ready.whole;
      room = omega (arith, bound, kept, few, begun, chosen, more, c.run_met.ensures.steps, c.run_begun.ensures.steps, c.requires.room);
      can = c.run_begun.ensures.owning.can;
    }

pub returns-clause-called : goal.returns-clause-called
returns-clause-called g c =
    let x = c.args.self.now in
    let met = c.run_met in
    let ran = c.run_begun in
    let r = ran.new.self in
    let allocated = c.own_allocate.ensures.made in
    let own = allocated.made in
    let second = subst (λ s. MovedOn s.view ran.result r.seat.view) c.begin.ensures.seat ran.ensures.moved in
    let moved = moved_both _ _ _ _ _ met.ensures.moved second in
    let number = number_is _ Search 0 _ own.word x.seat.view r _ ran.ensures.owning own.stepped moved in
    let entries = allocate_entries Search _ own.word _ r refl number allocated.block in
    let plan = begun_plan met.new.self c.begin.new.self c.begin.ensures.pool in
    let bound = plan_bound _ x c.requires.ready.between in
    let kept = same_bound _ _ _ met.ensures.plan in
    let few = few_steps _ _ _ met.ensures.plan in
    let more = few_steps _ _ _ ran.ensures.plan in
    let begun = ap (λ p. p.bound) plan in
    let chosen = chosen_bound met.new.self.pool.plan in
    let age = ran.ensures.age in
    let met_age = met.ensures.age in
    let same = ap (λ t. t.age) own.transfer in
    let begun_now = begun_age met.new.self c.begin.new.self c.begin.ensures.transfer in (
      record {
        moved = met.result + ran.result;
        few = omega (arith, bound, kept, few, begun, chosen, more);
        steps = omega (arith, met.ensures.steps, ran.ensures.steps, c.own_allocate.ensures.one.tick);
        call = call_made _ Search 0 _ _ x.seat.view r _ ran.ensures.owning moved own entries;
        ran = r.pool.plan;
        sought = record {
          met = met.result;
          ended = met.new.self.pool.plan;
          ends = met.ensures.plan;
          begun = ran.result;
          runs = subst (λ p. PlanEnds p ran.result r.pool.plan) plan ran.ensures.plan;
          all = refl;
        };
        own = allocated.plan;
        age = omega (arith, age, met_age, same, begun_now);
      },
      allocated.none,
    )

pub returns-clause-now : goal.returns-clause-now
returns-clause-now g c = λ none.
    let x = c.args.self.now in
    let met = c.run_met in
    let ran = c.run_begun in
    let r = ran.new.self in
    let allocated = c.own_allocate.ensures.made in
    let own = allocated.made in
    let second = subst (λ s. MovedOn s.view ran.result r.seat.view) c.begin.ensures.seat ran.ensures.moved in
    was_refused_now _ _ x.seat r c.own_allocate.new.self.seat own.word (moved_both _ _ _ _ _ met.ensures.moved second) ran.ensures.owning
    own.stepped (sym allocated.block ∙ none)
