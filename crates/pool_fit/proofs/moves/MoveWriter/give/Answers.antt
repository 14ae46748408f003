use Rattle.std.proofs.Common.{arith}
use Rattle.std.proofs.lemmas.Grind.{common_steps}
use Rattle.pool_fit.proofs.LiveBytes.{lookup-live_but}
use Rattle.pool_fit.proofs.moves.MoveWriter.give.Goals as goal

pub returns-in_ok-push-in-Some : goal.returns-in_ok-push-in-Some
returns-in_ok-push-in-Some c = λ walk at.
    grind (arith, common_steps, lookup-live_but, at.same_bytes c.args.address)
