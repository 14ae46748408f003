use Rattle.std.proofs.Common.{subst, length}
use Rattle.pool_model.specs.Legal.{IsLegal}
use Rattle.pool_model.proofs.Histories.{legal_take}
use Rattle.history_invariant.proofs.laws.beginnings.Goals as goal

pub returns-clause-all : goal.returns-clause-all
returns-clause-all c limits bound quantum history ledgers place h = legal_take limits history place h.legal

pub returns-clause-seen : goal.returns-clause-seen
returns-clause-seen c limits bound quantum history ledgers i lt h =
    let f = h.each i lt in
    subst (IsLegal limits) f.sees.beginning (legal_take limits history (length (ledgers i).seen) h.legal)
