use Rattle.std.proofs.Common.{arith}
use Rattle.std.proofs.lemmas.Grind.{common_steps}
use Rattle.mtrace_reader.proofs.LivePairs.{lookup-live_but}
use Rattle.mtrace_reader.proofs.walk.ScriptWriter.release.Goals as goal

pub returns-in_ok-push-in-Some-Slot-clause-follows :
    goal.returns-in_ok-push-in-Some-Slot-clause-follows
returns-in_ok-push-in-Some-Slot-clause-follows c = λ walk at.
    grind (arith, common_steps, lookup-live_but, at.same_names c.args.address)

pub returns-in-Some-Big-clause-follows : goal.returns-in-Some-Big-clause-follows
returns-in-Some-Big-clause-follows c = λ walk at.
    grind (arith, common_steps, lookup-live_but, at.same_names c.args.address)
