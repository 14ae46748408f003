-- Ledgers between two steps of one process that are made at one moment.
use Rattle.std.proofs.Common.{ℕ, arith}
use Rattle.std.proofs.lemmas.Bool.Decides.{nat_tests}
use Rattle.history_invariant.specs.Ledger.{Ledger, Ledgers}
use Rattle.history_invariant.specs.Steps.{Replaced, with_ledger}

-- the first step leads to the ledgers with the first ledger
pub replaced_with : (i : ℕ) (ledger : Ledger) (ledgers : Ledgers) → Replaced i ledger ledgers (with_ledger i ledger ledgers)
replaced_with i ledger ledgers = record { here = grind (arith, nat_tests); elsewhere = λ other ne. grind (arith, nat_tests) }
