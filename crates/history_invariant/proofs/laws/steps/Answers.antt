use Rattle.history_invariant.proofs.Fitting.{step_kept}
use Rattle.history_invariant.proofs.GoingOn.{going_fits, going_sees}
use Rattle.history_invariant.proofs.laws.steps.Goals as goal

pub returns : goal.returns
returns c limits bound quantum history ledgers after i ledger sizes lt h goes moved =
    step_kept limits bound quantum history ledgers after i ledger lt h
    (going_fits limits bound quantum history i (ledgers i) ledger sizes (h.each i lt) goes)
    (going_sees (ledgers i) ledger goes) moved
