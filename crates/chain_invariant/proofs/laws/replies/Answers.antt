use Rattle.batch_invariant.proofs.Steps.{ends_answer}
use Rattle.chain_invariant.proofs.laws.replies.Goals as goal

pub returns : goal.returns
returns c sizes words s views held i word li chains step last = ends_answer s i (views i).transfer word (chains.hold.replies i li) step last
