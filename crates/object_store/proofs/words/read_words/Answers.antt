use Rattle.std.proofs.Common.{arith}
use Rattle.object_store.proofs.Padded.{padded_same}
use Rattle.object_store.proofs.words.read_words.Goals as goal

pub returns-clause-known : goal.returns-clause-known
returns-clause-known g c = λ words padded knows.
    padded_same c.args.count c.loop-index.words words c.loop-index.invariant.eight padded
    (λ place low. c.loop-index.invariant.read place _ (omega arith) (knows place low))
    (λ place high. c.loop-index.invariant.rest place (omega arith))
