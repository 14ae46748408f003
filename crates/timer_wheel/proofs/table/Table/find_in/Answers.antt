use Rattle.std.proofs.Common.{◌≡◌, ◌-◌, Some, None, length, ap, sym, subst, ◌∙◌, refl}
use Rattle.timer_wheel.specs.Places.{Places, IsChain, in_list, running_of, value_at}
use Rattle.timer_wheel.specs.Serving.{AreHeld}
use Rattle.timer_wheel.proofs.Serving.{are_held_moved}
use Rattle.timer_wheel.proofs.Walking.{meets_some, seeks_begins, seeks_ended, seeks_found, seeks_on, seeks_read}
use Rattle.timer_wheel.proofs.table.Table.find_in.Goals as goal

pub walk-init : goal.walk-init
walk-init g c =
    let was = c.args.self.now in
    seeks_begins c.args.number was.places.items c.index.result.now
    (in_list (length was.lists.items) c.args.list (running_of was.changes)) c.index.result.now.first c.args.steps.now c.args.pass.now
    (subst (λ ends. IsChain was.places.items ends
    (in_list (length was.lists.items) c.args.list (running_of was.changes))) (sym c.index.ensures)
    (c.requires.table.chains c.args.list c.index.result.now c.requires.list)) refl

pub read-requires-clause-held : goal.read-requires-clause-held
read-requires-clause-held g c =
    subst (λ (p : Places). AreHeld p c.walk.pass) (sym c.as_slice.ensures.value)
    (are_held_moved c.args.self.now.places.items _ c.args.pass.now c.walk.pass c.walk.invariant.pass c.requires.held)

pub returns-in_err-timer-clause-found : goal.returns-in_err-timer-clause-found
returns-in_err-timer-clause-found g c =
    let read : value_at c.args.self.now.places.items (c.walk.at - 1) ≡ None
    = ap (λ (p : Places). value_at p (c.walk.at - 1)) (sym c.as_slice.ensures.value) ∙ sym c.read.ensures.value ∙ c.in_err-timer.was in
    absurd (meets_some c.args.self.now.places.items c.walk.at c.walk.invariant.rest c.walk-test.true c.walk.invariant.walk.leads read)

pub returns-in_err-timer-clause-steps : goal.returns-in_err-timer-clause-steps
returns-in_err-timer-clause-steps g c =
    let read : value_at c.args.self.now.places.items (c.walk.at - 1) ≡ None
    = ap (λ (p : Places). value_at p (c.walk.at - 1)) (sym c.as_slice.ensures.value) ∙ sym c.read.ensures.value ∙ c.in_err-timer.was in
    absurd (meets_some c.args.self.now.places.items c.walk.at c.walk.invariant.rest c.walk-test.true c.walk.invariant.walk.leads read)

pub returns-then-timer-number-clause-found : goal.returns-then-timer-number-clause-found
returns-then-timer-number-clause-found g c =
    let was = c.args.self.now in
    let read : value_at was.places.items (c.walk.at - 1) ≡ Some c.in_ok-timer.timer
    = ap (λ (p : Places). value_at p (c.walk.at - 1)) (sym c.as_slice.ensures.value) ∙ sym c.read.ensures.value ∙ c.in_ok-timer.was in (
      seeks_found c.args.number c.args.list (length was.lists.items) was.places.items (running_of was.changes) c.walk.before c.walk.at
          c.args.steps.now c.walk.steps c.args.pass.now c.walk.pass c.in_ok-timer.timer _ c.walk.invariant c.walk-test.true read
          c.requires.list
          refl,
      c.if-timer-number.true,
    )

pub returns-then-timer-number-clause-steps : goal.returns-then-timer-number-clause-steps
returns-then-timer-number-clause-steps g c =
    let was = c.args.self.now in
    seeks_read c.args.number was.places.items (in_list (length was.lists.items) c.args.list (running_of was.changes)) c.walk.before
    c.walk.at
    c.args.steps.now c.walk.steps c.args.pass.now c.walk.pass c.read.new.pass c.read.new.steps c.walk.invariant c.walk-test.true
    c.in_ok-timer.ensures.pass c.in_ok-timer.ensures.steps

pub walk-preserved : goal.walk-preserved
walk-preserved g c =
    let was = c.args.self.now in
    let read : value_at was.places.items (c.walk.at - 1) ≡ Some c.in_ok-timer.timer
    = ap (λ (p : Places). value_at p (c.walk.at - 1)) (sym c.as_slice.ensures.value) ∙ sym c.read.ensures.value ∙ c.in_ok-timer.was in
    seeks_on c.args.number was.places.items (in_list (length was.lists.items) c.args.list (running_of was.changes)) c.walk.before c.walk.at
    c.args.steps.now c.walk.steps c.args.pass.now c.walk.pass c.read.new.pass c.in_ok-timer.timer c.read.new.steps c.walk.invariant
    c.walk-test.true read c.if-timer-number.false c.in_ok-timer.ensures.pass c.in_ok-timer.ensures.steps

pub returns-clause-found : goal.returns-clause-found
returns-clause-found g c =
    let was = c.args.self.now in
    seeks_ended c.args.number was.places.items (in_list (length was.lists.items) c.args.list (running_of was.changes)) c.walk.before
    c.walk.at c.args.steps.now c.walk.steps c.args.pass.now c.walk.pass c.walk.invariant c.walk-test.false
