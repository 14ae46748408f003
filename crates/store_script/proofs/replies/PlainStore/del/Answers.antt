use Rattle.std.proofs.Common.{arith}
use Rattle.std.proofs.lemmas.Grind.{common_steps}
use Rattle.store_script.proofs.Following.{follows_del}
use Rattle.store_script.proofs.replies.PlainStore.del.Goals as goal

pub returns-clause-follows : goal.returns-clause-follows
returns-clause-follows c = λ walk at.
    follows_del c.args.self.now _ walk c.args.key c.in-Some.field-0 at (grind (arith, common_steps)) (grind (arith, common_steps))
    (grind (arith, common_steps)) (λ q. grind (arith, common_steps))
