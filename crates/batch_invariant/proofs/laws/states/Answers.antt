use Rattle.batch_invariant.proofs.Installing.{next_carried, same_carried, drafted_carried}
use Rattle.batch_invariant.proofs.laws.states.Goals as goal

pub returns-clause-next : goal.returns-clause-next
returns-clause-next c sizes s views announcements heard le fits present = next_carried sizes s views announcements heard le fits present

pub returns-clause-same : goal.returns-clause-same
returns-clause-same c sizes s t views same = same_carried sizes s t views same

pub returns-clause-drafted : goal.returns-clause-drafted
returns-clause-drafted c sizes s views v fits installs = drafted_carried sizes s views v fits installs
