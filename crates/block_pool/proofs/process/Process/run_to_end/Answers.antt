use Rattle.std.proofs.Common.{ap, ◌∙◌, arith}
use Rattle.block_pool.proofs.Searching.{can_seek, seeks_on, seek_ends, sought_more, sought_aged, plan_on, plan_run}
use Rattle.block_pool.proofs.process.Process.run_to_end.Goals as goal

pub returns-then-seek-clause-run : goal.returns-then-seek-clause-run
returns-then-seek-clause-run g c =
    seek_ends _ _ c.loop-chosen.self c.seek.new.self _ c.if-seek.true c.loop-chosen.invariant.seeking c.seek.ensures.sought

pub returns-then-seek-clause-plan : goal.returns-then-seek-clause-plan
returns-then-seek-clause-plan g c =
    plan_run _ _ _ _ c.loop-chosen.self c.seek.new.self _ c.if-seek.true c.loop-chosen.invariant.seeking c.seek.ensures.sought
    c.loop-chosen.invariant.plan

pub returns-then-seek-clause-age : goal.returns-then-seek-clause-age
returns-then-seek-clause-age g c = λ most h.
    (sought_aged _ _ most c.loop-chosen.self c.seek.new.self _ c.loop-chosen.invariant.seeking c.seek.ensures.sought
    (c.loop-chosen.invariant.age most h)).within

pub loop-chosen-preserved : goal.loop-chosen-preserved
loop-chosen-preserved g c =
    let x = c.loop-chosen.self in
    let h = c.loop-chosen.invariant in
    let same = c.seek.ensures.one.same in
    let m = c.seek.ensures.sought in
    record {
      seat = (same.0 ∙ h.seat.0, same.1 ∙ h.seat.1);
      steps = omega (arith, h.steps, c.seek.ensures.one.tick);
      seeking = seeks_on _ _ x c.seek.new.self _ c.if-seek.false h.seeking m;
      moved = sought_more _ _ _ _ x c.seek.new.self _ h.seeking m h.moved;
      plan = plan_on _ _ _ _ x c.seek.new.self _ c.if-seek.false h.seeking m h.plan;
      age = λ most a. sought_aged _ _ most x c.seek.new.self _ h.seeking m (h.age most a);
    }

pub overflow_add-made : goal.overflow_add-made
overflow_add-made g c =
    let h = c.loop-chosen.invariant in
    let within = (can_seek _ _ c.loop-chosen.self h.seeking).go.count.within in
    omega (arith, within, ap (λ p. p.done) h.plan, ap (λ p. p.bound) h.plan, c.requires.room)

pub seek-requires-clause-may : goal.seek-requires-clause-may
seek-requires-clause-may g c =
    let h = c.loop-chosen.invariant in
    let within = (can_seek _ _ c.loop-chosen.self h.seeking).go.count.within in
    record {
      of_table = h.seat.0 ∙ c.requires.seat;
      whole = c.requires.words;
      room = omega (arith, h.steps, within, ap (λ p. p.done) h.plan, ap (λ p. p.bound) h.plan, c.requires.room);
      can = h.seeking.can;
    }

pub loop-chosen-smaller : goal.loop-chosen-smaller
loop-chosen-smaller g c =
    let x = c.loop-chosen.self in
    let h = c.loop-chosen.invariant in
    let within = (can_seek _ _ x h.seeking).go.count.within in
    let next = plan_on _ _ _ _ x c.seek.new.self _ c.if-seek.false h.seeking c.seek.ensures.sought h.plan in
    omega (arith, within, ap (λ p. p.done) h.plan, ap (λ p. p.bound) h.plan, ap (λ p. p.done) next, ap (λ p. p.bound) next)
