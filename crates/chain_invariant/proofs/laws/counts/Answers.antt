use Rattle.std.proofs.Common.{refl}
use Rattle.transfer_schedule.specs.Numbers.{is_idle}
use Rattle.chain_invariant.proofs.Counts.{blocks_counted, few_free}
use Rattle.chain_invariant.proofs.Empty.{found_few}
use Rattle.chain_invariant.proofs.Kept.{kept_is_withheld}
use Rattle.chain_invariant.proofs.laws.counts.Goals as goal

pub returns-clause-all : goal.returns-clause-all
returns-clause-all c sizes words s views held chains =
    blocks_counted sizes words s views chains.batch_blocks chains.current_blocks held chains.hold

pub returns-clause-few : goal.returns-clause-few
returns-clause-few c sizes words s views held most chains none few =
    few_free sizes words s views chains.batch_blocks chains.current_blocks held chains.hold none most few

pub returns-clause-kept : goal.returns-clause-kept
returns-clause-kept c sizes s i v counts = kept_is_withheld sizes s i v (is_idle v.pool.plan.pending) refl counts

pub returns-clause-empty : goal.returns-clause-empty
returns-clause-empty c sizes words s views held v i most shape li chains installs take applied nothing few =
    found_few sizes words s views held v i shape li chains installs take applied nothing most few
