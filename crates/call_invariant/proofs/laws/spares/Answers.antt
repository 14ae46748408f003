use Rattle.call_invariant.proofs.Owned.{block_has_source, no_block_has_none, allocates_have_spare, frees_have_room, holders_may_free}
use Rattle.call_invariant.proofs.laws.spares.Goals as goal

pub returns-clause-blocks : goal.returns-clause-blocks
returns-clause-blocks c pool = (block_has_source pool, no_block_has_none pool)

pub returns-clause-opened : goal.returns-clause-opened
returns-clause-opened c sizes i v ledger h spare = allocates_have_spare sizes i v ledger h spare

pub returns-clause-room : goal.returns-clause-room
returns-clause-room c sizes i v ledger h s own changes held fresh = frees_have_room sizes i v ledger h s own changes held fresh

pub returns-clause-held : goal.returns-clause-held
returns-clause-held c account entries block counts balance held = holders_may_free account entries block counts balance held
