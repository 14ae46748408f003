use Rattle.call_invariant.proofs.Standing.{some_quantum}
use Rattle.call_invariant.proofs.Begun.{changing_call_begins, keeping_call_begins, search_chooses}
use Rattle.call_invariant.proofs.laws.beginnings.Goals as goal

pub returns-clause-changing : goal.returns-clause-changing
returns-clause-changing c sizes i v ledger holds call h s between may changes =
    changing_call_begins sizes i v ledger call changes s between may.young h

pub returns-clause-keeping : goal.returns-clause-keeping
returns-clause-keeping c sizes i v ledger call h between keeps = keeping_call_begins sizes i v ledger call keeps between h

pub returns-clause-choosing : goal.returns-clause-choosing
returns-clause-choosing c sizes i v ledger h s choosing = search_chooses sizes i v ledger (some_quantum sizes s.fit) choosing h
