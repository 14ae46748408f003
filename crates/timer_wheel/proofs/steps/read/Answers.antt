use Rattle.std.proofs.Common.{arith}
use Rattle.timer_wheel.proofs.Chains.{found_at}
use Rattle.timer_wheel.proofs.steps.read.Goals as goal

pub get-requires-clause-object : goal.get-requires-clause-object
get-requires-clause-object g c =
    c.requires.held c.args.place c.in-Some.object
    (found_at c.args.places.now c.args.place _ _ _ (omega (arith, c.if-place-places.false)) c.index-places-place.is c.in-Some.is)
