use Rattle.std.proofs.Common.{arith}
use Rattle.std.proofs.lemmas.Grind.{common_steps}
use Rattle.store_script.proofs.Following.{follows_set}
use Rattle.store_script.proofs.replies.PlainStore.set.Goals as goal

pub returns-clause-follows : goal.returns-clause-follows
returns-clause-follows c = λ walk at.
    follows_set c.args.self.now _ walk c.args.key c.in-Some.value at (grind (arith, common_steps)) (grind (arith, common_steps))
    (grind (arith, common_steps)) c.args.index c.args.number (λ q. grind (arith, common_steps))
