use Rattle.batch_invariant.proofs.Installing.{same_carried}
use Rattle.chain_invariant.proofs.Moves.{next_chains, carried_chains}
use Rattle.chain_invariant.proofs.laws.states.Goals as goal

pub returns-clause-next : goal.returns-clause-next
returns-clause-next c sizes words s views held announcements heard shape le chains present = record {
  batch_blocks = chains.batch_blocks;
  current_blocks = chains.current_blocks;
  hold = next_chains sizes words s views chains.batch_blocks chains.current_blocks held announcements heard shape le chains.hold present;
}

pub returns-clause-same : goal.returns-clause-same
returns-clause-same c sizes words s t views held chains same = record {
  batch_blocks = chains.batch_blocks;
  current_blocks = chains.current_blocks;
  hold = carried_chains sizes words s t views chains.batch_blocks chains.current_blocks held chains.hold
      (same_carried sizes s t views same);
}
