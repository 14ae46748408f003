use Rattle.chain_invariant.proofs.Gives.{stack_has_room, heads_are_blocks, heads_are_apart, gives_are_blocks}
use Rattle.chain_invariant.proofs.laws.heads.Goals as goal

pub returns-clause-room : goal.returns-clause-room
returns-clause-room c sizes words s views held shape chains = stack_has_room sizes words s views held shape chains

pub returns-clause-blocks : goal.returns-clause-blocks
returns-clause-blocks c sizes words s views held shape chains = heads_are_blocks sizes words s views held shape chains

pub returns-clause-apart : goal.returns-clause-apart
returns-clause-apart c sizes words s views held head shape chains = heads_are_apart sizes words s views held head shape chains

pub returns-clause-gives : goal.returns-clause-gives
returns-clause-gives c sizes words s views held i shape chains li = gives_are_blocks sizes words s views held i shape chains li
