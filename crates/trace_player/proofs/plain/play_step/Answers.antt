use Rattle.std.proofs.Common.{◌-◌, ◌^◌, refl, arith, sym}
use Rattle.trace_player.proofs.Naming.{place_within, leave_within}
use Rattle.trace_player.proofs.Plays.{refused_few}
use Rattle.trace_player.proofs.Steps.{played_got, played_dry, played_back, played_passed}
use Rattle.trace_player.proofs.plain.play_step.Goals as goal

pub bounds-slots-slot : goal.bounds-slots-slot
bounds-slots-slot c =
    place_within c.requires.done _ _ (rw c.in-Place.is at c.requires.may_come) (rw c.in-Place.is at c.requires.room)

pub count_refused-requires : goal.count_refused-requires
count_refused-requires c =
    omega (arith, refused_few _ _ _ _ _ _ _ _ _ (2 ^ 64 - 1) c.requires.played.plays c.requires.few)

pub bounds-slots-slot-in-Leave : goal.bounds-slots-slot-in-Leave
bounds-slots-slot-in-Leave c =
    let next = rw c.in-Leave.is at c.requires.may_come in
    leave_within _ _ c.requires.done _ _ c.requires.played.plays.names next.0 (rw c.in-Leave.is at c.requires.room)

pub returns-in-Some : goal.returns-in-Some
returns-in-Some c = λ script done old may played.
    let within = place_within c.requires.done _ _ (rw c.in-Place.is at c.requires.may_come) (rw c.in-Place.is at c.requires.room) in
    let next = rw c.in-Place.is at may in
    rw c.in-Place.is (played_got _ script done old _ _ _ _ _ c.in-Place.slot c.in-Some.block next within c.in-Some.ensures.some
    c.count_given.ensures played)

pub returns-in-None : goal.returns-in-None
returns-in-None c = λ script done old may played.
    let next = rw c.in-Place.is at may in
    rw (c.in-Place.is, c.in-None.ensures.none) (played_dry _ script done old _ _ _ _ c.in-Place.slot next
    (c.in-None.ensures.full.0 refl) c.count_refused.ensures played)

pub returns-in-Some-take : goal.returns-in-Some-take
returns-in-Some-take c = λ script done old may played.
    let own = rw c.in-Leave.is at c.requires.may_come in
    let within = leave_within _ _ c.requires.done _ _ c.requires.played.plays.names own.0 (rw c.in-Leave.is at c.requires.room) in
    let next = rw c.in-Leave.is at may in
    rw (c.in-Leave.is, c.take.ensures.after)
    (played_back _ script done old _ _ _ _ _ c.in-Leave.slot c.in-Some-take.block next.0 within
    (sym c.in-Some-take.ensures.value) c.back.ensures.freed c.count_freed.ensures played)

pub returns-in_default : goal.returns-in_default
returns-in_default c = λ script done old may played.
    let own = rw c.in-Leave.is at c.requires.may_come in
    let within = leave_within _ _ c.requires.done _ _ c.requires.played.plays.names own.0 (rw c.in-Leave.is at c.requires.room) in
    let next = rw c.in-Leave.is at may in
    rw (c.in-Leave.is, c.take.ensures.after)
    (played_passed _ script done old _ _ _ c.in-Leave.slot next.0 next.1 within (sym c.in_default.ensures.value) played)
