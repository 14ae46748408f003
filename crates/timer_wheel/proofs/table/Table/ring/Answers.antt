use Rattle.std.proofs.Common.{◌≡◌, ◌+◌, ◌-◌, ◌<◌, ◌≤◌, Some, None, length, refl, ap, sym, subst, ◌∙◌, arith}
use Rattle.std.proofs.lemmas.Nat.{mod_below}
use Rattle.block_pool.specs.Passing.{Passed, HasAge}
use Rattle.timer_wheel.specs.Places.{Places, running_of, value_at}
use Rattle.timer_wheel.specs.Serving.{AreHeld}
use Rattle.timer_wheel.proofs.Serving.{are_held_moved}
use Rattle.timer_wheel.proofs.Turning.{turns_begin, turns_few, turns_item, turns_left}
use Rattle.timer_wheel.proofs.Turning.{turns_on, turns_out, turns_room, turns_rung, turns_serves}
use Rattle.timer_wheel.proofs.Turning.{turns_spot, turns_young}
use Rattle.timer_wheel.proofs.Walking.{meets_some}
use Rattle.timer_wheel.proofs.Wheels.{running_ended}
use Rattle.timer_wheel.proofs.table.Table.ring.Goals as goal

pub walk-init : goal.walk-init
walk-init g c =
    let was = c.args.self.now in (
      turns_begin c.args.moment c.list_of-list.result was.places.items was.free.items was.lists.items (running_of was.changes) was.running
          c.index.result.now.first c.args.out.now c.args.steps.now c.args.pass.now c.index.result.now c.requires.table
          c.list_of-list.ensures
          c.requires.held c.index.ensures refl,
      c.requires.backs,
    )

pub read-requires-clause-held : goal.read-requires-clause-held
read-requires-clause-held g c =
    subst (λ (p : Places). AreHeld p c.walk.pass) (sym c.as_slice.ensures.value) c.walk.invariant.0.serves.holds

pub returns-in_default-clause-left : goal.returns-in_default-clause-left
returns-in_default-clause-left g c =
    let was = c.args.self.now in
    let now = c.walk.self in
    let read : value_at now.places.items (c.walk.at - 1) ≡ None
    = ap (λ (p : Places). value_at p (c.walk.at - 1)) (sym c.as_slice.ensures.value) ∙ sym c.read.ensures.value ∙ c.in_default.is in
    let rings = c.walk.invariant.0.rings in
    absurd (meets_some now.places.items c.walk.at rings.rest c.walk-test.true rings.walk.leads read)

pub returns-in_default-clause-rung : goal.returns-in_default-clause-rung
returns-in_default-clause-rung g c =
    let was = c.args.self.now in
    let now = c.walk.self in
    let read : value_at now.places.items (c.walk.at - 1) ≡ None
    = ap (λ (p : Places). value_at p (c.walk.at - 1)) (sym c.as_slice.ensures.value) ∙ sym c.read.ensures.value ∙ c.in_default.is in
    let rings = c.walk.invariant.0.rings in
    absurd (meets_some now.places.items c.walk.at rings.rest c.walk-test.true rings.walk.leads read)

pub returns-in_default-clause-serves : goal.returns-in_default-clause-serves
returns-in_default-clause-serves g c =
    let was = c.args.self.now in
    let now = c.walk.self in
    let read : value_at now.places.items (c.walk.at - 1) ≡ None
    = ap (λ (p : Places). value_at p (c.walk.at - 1)) (sym c.as_slice.ensures.value) ∙ sym c.read.ensures.value ∙ c.in_default.is in
    let rings = c.walk.invariant.0.rings in
    absurd (meets_some now.places.items c.walk.at rings.rest c.walk-test.true rings.walk.leads read)

pub bounds-out-count : goal.bounds-out-count
bounds-out-count g c =
    let was = c.args.self.now in
    let now = c.walk.self in
    let read : value_at now.places.items (c.walk.at - 1) ≡ Some c.in-Some.timer
    = ap (λ (p : Places). value_at p (c.walk.at - 1)) (sym c.as_slice.ensures.value) ∙ sym c.read.ensures.value ∙ c.in-Some.is in
    let long : length (running_of was.changes) ≤ length c.args.out.now = omega (arith, c.requires.table.many, c.requires.out) in
    turns_item c.args.moment c.list_of-list.result was.places.items now.places.items now.free.items was.lists.items now.lists.items
    (running_of was.changes) (running_of now.changes) was.running now.running c.walk.before c.walk.at c.args.out.now c.walk.out
    c.walk.count c.args.steps.now c.walk.steps c.args.pass.now c.walk.pass c.walk.invariant.0 c.walk-test.true c.in-Some.timer read long
    c.if-timer-moment.true

pub overflow_add-count : goal.overflow_add-count
overflow_add-count g c =
    let was = c.args.self.now in
    let now = c.walk.self in
    let read : value_at now.places.items (c.walk.at - 1) ≡ Some c.in-Some.timer
    = ap (λ (p : Places). value_at p (c.walk.at - 1)) (sym c.as_slice.ensures.value) ∙ sym c.read.ensures.value ∙ c.in-Some.is in
    let few = turns_few c.args.moment c.list_of-list.result was.places.items now.places.items now.free.items was.lists.items now.lists.items
    (running_of was.changes) (running_of now.changes) was.running now.running c.walk.before c.walk.at c.args.out.now c.walk.out
    c.walk.count c.args.steps.now c.walk.steps c.args.pass.now c.walk.pass c.walk.invariant.0 c.walk-test.true c.in-Some.timer read
    c.if-timer-moment.true in
    omega (arith, few, c.requires.table.many, c.requires.table.few, c.requires.small.room)

pub remove-requires-clause-young : goal.remove-requires-clause-young
remove-requires-clause-young g c =
    let was = c.args.self.now in
    let now = c.walk.self in
    let read : value_at now.places.items (c.walk.at - 1) ≡ Some c.in-Some.timer
    = ap (λ (p : Places). value_at p (c.walk.at - 1)) (sym c.as_slice.ensures.value) ∙ sym c.read.ensures.value ∙ c.in-Some.is in
    subst HasAge (sym c.in-Some.ensures.pass)
    (turns_young c.args.moment c.list_of-list.result was.places.items now.places.items now.free.items was.lists.items now.lists.items
    (running_of was.changes) (running_of now.changes) was.running now.running c.walk.before c.walk.at c.args.out.now c.walk.out
    c.walk.count c.args.steps.now c.walk.steps c.args.pass.now c.walk.pass c.walk.invariant.0 c.walk-test.true c.in-Some.timer read
    c.requires.table.many c.requires.young)

pub remove-requires-clause-held : goal.remove-requires-clause-held
remove-requires-clause-held g c =
    let was = c.args.self.now in
    let now = c.walk.self in
    are_held_moved now.places.items _ c.walk.pass c.read.new.pass c.in-Some.ensures.pass c.walk.invariant.0.serves.holds

pub remove-requires-clause-backs : goal.remove-requires-clause-backs
remove-requires-clause-backs g c = c.walk.invariant.1

pub remove-requires-clause-spot : goal.remove-requires-clause-spot
remove-requires-clause-spot g c =
    let was = c.args.self.now in
    let now = c.walk.self in
    let read : value_at now.places.items (c.walk.at - 1) ≡ Some c.in-Some.timer
    = ap (λ (p : Places). value_at p (c.walk.at - 1)) (sym c.as_slice.ensures.value) ∙ sym c.read.ensures.value ∙ c.in-Some.is in
    let some : 0 < length was.lists.items = omega (arith, c.requires.table.some) in
    let low : c.list_of-list.result < length now.lists.items
    = subst (λ n. c.list_of-list.result < n) (sym c.walk.invariant.0.many)
    (subst (λ k. k < length was.lists.items) (sym c.list_of-list.ensures) (mod_below c.args.moment (length was.lists.items) some)) in
    turns_spot c.args.moment c.list_of-list.result was.places.items now.places.items now.free.items was.lists.items now.lists.items
    (running_of was.changes) (running_of now.changes) was.running now.running c.walk.before c.walk.at c.args.out.now c.walk.out
    c.walk.count c.args.steps.now c.walk.steps c.args.pass.now c.walk.pass c.walk.invariant.0 c.walk-test.true c.in-Some.timer read low

pub remove-requires-clause-room : goal.remove-requires-clause-room
remove-requires-clause-room g c =
    let was = c.args.self.now in
    let now = c.walk.self in
    let read : value_at now.places.items (c.walk.at - 1) ≡ Some c.in-Some.timer
    = ap (λ (p : Places). value_at p (c.walk.at - 1)) (sym c.as_slice.ensures.value) ∙ sym c.read.ensures.value ∙ c.in-Some.is in
    let room = turns_room c.args.moment c.list_of-list.result was.places.items now.places.items now.free.items was.lists.items
    now.lists.items
    (running_of was.changes) (running_of now.changes) was.running now.running c.walk.before c.walk.at c.args.out.now c.walk.out
    c.walk.count c.args.steps.now c.walk.steps c.args.pass.now c.walk.pass c.walk.invariant.0 c.walk-test.true c.in-Some.timer read
    c.requires.table.many in
    let sizes : c.read.new.pass.sizes.quantum ≡ c.walk.pass.sizes.quantum
    = ap (λ (p : Passed). p.sizes.quantum) c.in-Some.ensures.pass in
    let quantum : c.walk.pass.sizes.quantum ≡ c.args.pass.now.sizes.quantum
    = ap (λ z. z.quantum) c.walk.invariant.0.serves.same.sizes in
    omega (arith, room, sizes, quantum, c.in-Some.ensures.steps, c.requires.room)

pub walk-smaller-then-timer-moment : goal.walk-smaller-then-timer-moment
walk-smaller-then-timer-moment g c =
    let was = c.args.self.now in
    let now = c.walk.self in
    let read : value_at now.places.items (c.walk.at - 1) ≡ Some c.in-Some.timer
    = ap (λ (p : Places). value_at p (c.walk.at - 1)) (sym c.as_slice.ensures.value) ∙ sym c.read.ensures.value ∙ c.in-Some.is in
    let room = turns_room c.args.moment c.list_of-list.result was.places.items now.places.items now.free.items was.lists.items
    now.lists.items
    (running_of was.changes) (running_of now.changes) was.running now.running c.walk.before c.walk.at c.args.out.now c.walk.out
    c.walk.count c.args.steps.now c.walk.steps c.args.pass.now c.walk.pass c.walk.invariant.0 c.walk-test.true c.in-Some.timer read
    c.requires.table.many in
    omega (arith, room, c.in-Some.ensures.steps, c.remove.ensures.serves.steps.steps)

pub walk-preserved-then-timer-moment : goal.walk-preserved-then-timer-moment
walk-preserved-then-timer-moment g c =
    let was = c.args.self.now in
    let now = c.walk.self in
    let read : value_at now.places.items (c.walk.at - 1) ≡ Some c.in-Some.timer
    = ap (λ (p : Places). value_at p (c.walk.at - 1)) (sym c.as_slice.ensures.value) ∙ sym c.read.ensures.value ∙ c.in-Some.is in
    let long : length (running_of was.changes) ≤ length c.args.out.now = omega (arith, c.requires.table.many, c.requires.out) in (
      turns_out c.args.moment c.list_of-list.result was.places.items now.places.items now.free.items was.lists.items now.lists.items
          (running_of was.changes) (running_of now.changes) was.running now.running c.walk.before c.walk.at c.args.out.now c.walk.out
          c.walk.count c.args.steps.now c.walk.steps c.args.pass.now c.walk.pass c.walk.invariant.0 c.walk-test.true c.in-Some.timer read
          c.read.new.pass c.remove.new.pass c.read.new.steps c.remove.new.steps
          c.remove.new.self.running (c.walk.count + 1) c.remove.new.self.places.items c.remove.new.self.free.items
          c.remove.new.self.lists.items
          (running_of c.remove.new.self.changes) _ c.if-timer-moment.true long c.in-Some.ensures.pass c.in-Some.ensures.steps
          c.remove.ensures.table c.remove.ensures.room c.remove.ensures.lists
          (running_ended now.changes c.remove.new.self.changes c.in-Some.timer.number c.remove.ensures.ended) c.remove.ensures.goes_on
          c.remove.ensures.serves refl refl,
      c.remove.ensures.backs,
    )

pub walk-smaller : goal.walk-smaller
walk-smaller g c =
    let was = c.args.self.now in
    let now = c.walk.self in
    let read : value_at now.places.items (c.walk.at - 1) ≡ Some c.in-Some.timer
    = ap (λ (p : Places). value_at p (c.walk.at - 1)) (sym c.as_slice.ensures.value) ∙ sym c.read.ensures.value ∙ c.in-Some.is in
    let room = turns_room c.args.moment c.list_of-list.result was.places.items now.places.items now.free.items was.lists.items
    now.lists.items
    (running_of was.changes) (running_of now.changes) was.running now.running c.walk.before c.walk.at c.args.out.now c.walk.out
    c.walk.count c.args.steps.now c.walk.steps c.args.pass.now c.walk.pass c.walk.invariant.0 c.walk-test.true c.in-Some.timer read
    c.requires.table.many in
    omega (arith, room, c.in-Some.ensures.steps)

pub walk-preserved : goal.walk-preserved
walk-preserved g c =
    let was = c.args.self.now in
    let now = c.walk.self in
    let read : value_at now.places.items (c.walk.at - 1) ≡ Some c.in-Some.timer
    = ap (λ (p : Places). value_at p (c.walk.at - 1)) (sym c.as_slice.ensures.value) ∙ sym c.read.ensures.value ∙ c.in-Some.is in (
      turns_on c.args.moment c.list_of-list.result was.places.items now.places.items now.free.items was.lists.items now.lists.items
          (running_of was.changes) (running_of now.changes) was.running now.running c.walk.before c.walk.at c.args.out.now c.walk.out
          c.walk.count c.args.steps.now c.walk.steps c.args.pass.now c.walk.pass c.walk.invariant.0 c.walk-test.true c.in-Some.timer read
          c.read.new.pass c.read.new.steps c.if-timer-moment.false
          c.in-Some.ensures.pass c.in-Some.ensures.steps,
      c.walk.invariant.1,
    )

pub returns-clause-left : goal.returns-clause-left
returns-clause-left g c =
    let was = c.args.self.now in
    let now = c.walk.self in
    turns_left c.args.moment c.list_of-list.result was.places.items now.places.items now.free.items was.lists.items now.lists.items
    (running_of was.changes) (running_of now.changes) was.running now.running c.walk.before c.walk.at c.args.out.now c.walk.out
    c.walk.count c.args.steps.now c.walk.steps c.args.pass.now c.walk.pass c.walk.invariant.0 c.walk-test.false

pub returns-clause-rung : goal.returns-clause-rung
returns-clause-rung g c =
    let was = c.args.self.now in
    let now = c.walk.self in
    turns_rung c.args.moment c.list_of-list.result was.places.items now.places.items now.free.items was.lists.items now.lists.items
    (running_of was.changes) (running_of now.changes) was.running now.running c.walk.before c.walk.at c.args.out.now c.walk.out
    c.walk.count c.args.steps.now c.walk.steps c.args.pass.now c.walk.pass c.walk.invariant.0 c.walk-test.false

pub returns-clause-serves : goal.returns-clause-serves
returns-clause-serves g c =
    let was = c.args.self.now in
    let now = c.walk.self in
    turns_serves c.args.moment c.list_of-list.result was.places.items now.places.items now.free.items was.lists.items now.lists.items
    (running_of was.changes) (running_of now.changes) was.running now.running c.walk.before c.walk.at c.args.out.now c.walk.out
    c.walk.count c.args.steps.now c.walk.steps c.args.pass.now c.walk.pass c.walk.invariant.0 c.requires.table.many
