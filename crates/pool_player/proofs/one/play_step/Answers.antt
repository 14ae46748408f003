use Rattle.std.proofs.Common.{◌-◌, ◌^◌, refl, arith}
use Rattle.trace_player.proofs.Naming.{place_within, leave_within}
use Rattle.trace_player.proofs.Plays.{refused_few}
use Rattle.pool_player.proofs.Playing.{age-le, left-some, so_far_got, so_far_dry, so_far_back, so_far_passed}
use Rattle.pool_player.proofs.Slots.{block_at}
use Rattle.pool_player.proofs.one.play_step.Goals as goal

pub bounds-slots-slot : goal.bounds-slots-slot
bounds-slots-slot g c =
    let next = c.requires in
    place_within next.done _ _ (rw c.in-Place.is at next.may_come) (rw c.in-Place.is at next.room)

pub allocate-requires-clause-age : goal.allocate-requires-clause-age
allocate-requires-clause-age g c = omega (arith, c.requires.young, age-le c.requires.played)

pub free-requires-clause-age : goal.free-requires-clause-age
free-requires-clause-age g c = omega (arith, c.requires.young, age-le c.requires.played)

pub count_refused-requires : goal.count_refused-requires
count_refused-requires g c =
    let next = c.requires in
    omega (arith, refused_few _ _ _ _ _ _ _ _ _ (2 ^ 64 - 1) next.played.plays (omega arith))

pub bounds-slots-slot-in-Leave : goal.bounds-slots-slot-in-Leave
bounds-slots-slot-in-Leave g c =
    let next = c.requires in
    let may = rw c.in-Leave.is at next.may_come in
    leave_within _ _ next.done _ _ next.played.plays.names may.0 (rw c.in-Leave.is at next.room)

pub returns-in-Got : goal.returns-in-Got
returns-in-Got g c = λ script done first start may played.
    let next = c.requires in
    let within = place_within next.done _ _ (rw c.in-Place.is at next.may_come) (rw c.in-Place.is at next.room) in
    let at = rw c.in-Place.is at may in
    rw c.in-Place.is
    (so_far_got script done first _ _ start _ _ _ _ _ played c.in-Place.slot c.in-Got.block at within c.in-Got.ensures.calls
    (c.in-Got.ensures.free _ refl) c.count_given.ensures)

pub returns-in-Dry : goal.returns-in-Dry
returns-in-Dry g c = λ script done first start may played.
    let at = rw c.in-Place.is at may in
    rw c.in-Place.is
    (so_far_dry script done first _ _ start _ _ _ _ _ played c.in-Place.slot at c.in-Dry.ensures.calls c.count_refused.ensures)

pub free-requires-clause-held : goal.free-requires-clause-held
free-requires-clause-held g c =
    let next = c.requires in
    let own = rw c.in-Leave.is at next.may_come in
    let within = leave_within _ _ next.done _ _ next.played.plays.names own.0 (rw c.in-Leave.is at next.room) in
    let has = block_at c.args.slots.now c.in-Leave.slot _ _ _ within c.take.ensures.value c.in-Some.is in
    (next.played.plays.holds.filled c.in-Leave.slot _ has).held

pub count_freed-requires-clause-some : goal.count_freed-requires-clause-some
count_freed-requires-clause-some g c =
    let next = c.requires in
    let own = rw c.in-Leave.is at next.may_come in
    let within = leave_within _ _ next.done _ _ next.played.plays.names own.0 (rw c.in-Leave.is at next.room) in
    left-some next.played.plays c.in-Leave.slot _ within
    (block_at c.args.slots.now c.in-Leave.slot _ _ _ within c.take.ensures.value c.in-Some.is)

pub returns-in-Some : goal.returns-in-Some
returns-in-Some g c = λ script done first start may played.
    let next = c.requires in
    let own = rw c.in-Leave.is at next.may_come in
    let within = leave_within _ _ next.done _ _ next.played.plays.names own.0 (rw c.in-Leave.is at next.room) in
    let at = rw c.in-Leave.is at may in
    let has = block_at c.args.slots.now c.in-Leave.slot _ _ _ within c.take.ensures.value c.in-Some.is in
    rw (c.in-Leave.is, c.take.ensures.after)
    (so_far_back script done first _ _ start _ _ _ _ _ played c.in-Leave.slot c.in-Some.block at.0 within has c.free.ensures
    c.count_freed.ensures)

pub returns-in_default : goal.returns-in_default
returns-in_default g c = λ script done first start may played.
    let next = c.requires in
    let own = rw c.in-Leave.is at next.may_come in
    let within = leave_within _ _ next.done _ _ next.played.plays.names own.0 (rw c.in-Leave.is at next.room) in
    let at = rw c.in-Leave.is at may in
    let none = block_at c.args.slots.now c.in-Leave.slot _ _ _ within c.take.ensures.value c.in_default.is in
    rw (c.in-Leave.is, c.take.ensures.after)
    (so_far_passed script done first _ start _ _ _ c.in-Leave.slot at.0 at.1 within none played)
