use Rattle.std.proofs.Common.{refl}
use Rattle.pool_model.specs.declared.entry.Entry.TheVariants.{Got, Back, Dry}
use Rattle.history_invariant.specs.Steps.{got_one, got_none, gave_back}
use Rattle.history_invariant.proofs.Shared.{legal_shared}
use Rattle.history_invariant.proofs.Fitting.{entry_kept}
use Rattle.history_invariant.proofs.Entering.{got_owes, back_owes, refusal_owes}
use Rattle.history_invariant.proofs.laws.entries.Goals as goal

pub returns-clause-gots : goal.returns-clause-gots
returns-clause-gots c limits bound quantum history ledgers after i block lt h phase some low free moved =
    entry_kept limits bound quantum history ledgers after (Got i block) i (got_one (ledgers i).account) lt h refl
    (got_owes limits bound quantum history i block (ledgers i) lt (h.each i lt) phase some low free) moved

pub returns-clause-backs : goal.returns-clause-backs
returns-clause-backs c limits bound quantum history ledgers after i block lt h phase mine moved =
    entry_kept limits bound quantum history ledgers after (Back i block) i (gave_back (ledgers i).account) lt h refl
    (back_owes limits bound quantum history i block (ledgers i) lt (legal_shared limits history h.legal) (h.each i lt) phase mine) moved

pub returns-clause-refusals : goal.returns-clause-refusals
returns-clause-refusals c limits bound quantum history ledgers after i sizes lt h phase none moved =
    entry_kept limits bound quantum history ledgers after (Dry i) i (got_none (ledgers i).account) lt h refl
    (refusal_owes limits bound quantum history i (ledgers i) sizes lt (h.each i lt) phase none) moved
