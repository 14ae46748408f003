-- What ledgers keep while the history grows, and while one of them becomes another.
use Rattle.std.proofs.Common.{◌≡◌, ◌≢◌, ℕ, ◌+◌, ◌<◌, ◌≤◌, ◌==◌, refl, sym, ◌∙◌, ap, inl, inr, arith, List, [], ◌∷◌, ◌++◌, length, take}
use Rattle.std.proofs.Common.{drop, length-append}
use Rattle.std.proofs.Math.Seq.{take-length}
use Rattle.std.proofs.lemmas.List.{take-append-le, take-append-drop, take-take, length-take}
use Rattle.std.proofs.lemmas.List.Elements.{filter-append}
use Rattle.std.proofs.lemmas.Bool.{cases_eq}
use Rattle.pool_model.specs.declared.entry.Entry.{Entry}
use Rattle.pool_model.specs.Limits.{Limits}
use Rattle.pool_model.specs.History.{process_of, own}
use Rattle.pool_model.specs.Legal.{MayFollow, HasNet}
use Rattle.pool_model.proofs.Histories.{own_more, own_other, legal_more}
use Rattle.transfer_schedule.specs.Account.{Account, Reached}
use Rattle.transfer_schedule.proofs.Operations.{SameTransfer, same_transfer}
use Rattle.history_invariant.specs.Ledger.{Ledger, Ledgers}
use Rattle.history_invariant.specs.Fits.{CountsEntries, SeesBeginning, KeepsPlaces, HadFewSince, FoundFew, LedgerFits}
use Rattle.history_invariant.specs.Holds.{HistoryHolds}
use Rattle.history_invariant.specs.Steps.{entered, Replaced}

-- what a process has seen is no longer than the history
pub seen_within : (history : List Entry) (i : ℕ) (ledger : Ledger) → SeesBeginning history i ledger → length ledger.seen ≤ length history
seen_within history i ledger s = omega (arith, ap length s.beginning, length-take (length ledger.seen) history)

-- own entries before a place
own_split : (i place : ℕ) (history : List Entry)
    → length (own history i) ≡ length (own (take place history) i) + length (own (drop place history) i)
own_split i place history = omega (
  arith,
  ap (λ entries. length (own entries i)) (take-append-drop place history),
  ap length (filter-append (λ e. process_of e == i) (take place history) (drop place history)),
  length-append (own (take place history) i) (own (drop place history) i),
)

-- a longer beginning of the history has no fewer entries of a process
pub own_rises : (i first later : ℕ) (history : List Entry)
    → first ≤ later
    → length (own (take first history) i) ≤ length (own (take later history) i)
own_rises i first later history le =
    omega (arith, own_split i first (take later history), ap (λ entries. length (own entries i)) (take-take first later history le))

-- the number of own entries after a later place
pub own_since : (i first later : ℕ) (history : List Entry)
    → first ≤ later
    → length (own (drop later history) i) + length (own (take first history) i) ≤ length (own history i)
own_since i first later history le = omega (arith, own_split i later history, own_rises i first later history le)

-- one entry more
few_more : (limits : Limits) (history : List Entry) (entry : Entry) (start : ℕ)
    → HadFewSince limits history start
    → HadFewSince limits (history ++ entry ∷ []) start
few_more limits history entry start h = record {
  place = h.place;
  after = h.after;
  within = omega (arith, h.within, length-append history (entry ∷ []));
  few = rw (take-append-le h.place history (entry ∷ []) h.within) h.few;
}

-- an own step leaves the transfer as it was
pub record KeepsTransfer (a b : Account) : Type 0 where
  pub begun : b.begun ≡ a.begun
  pub ended : b.ended ≡ a.ended
  pub plan : SameTransfer a.plan b.plan

keeps_same : (a : Account) → KeepsTransfer a a
keeps_same a = record { begun = refl; ended = refl; plan = same_transfer a.plan }

places_more : (history : List Entry) (entry : Entry) (i : ℕ) (old new : Ledger)
    → new.begun_place ≡ old.begun_place
    → new.ended_place ≡ old.ended_place
    → KeepsTransfer old.account new.account → KeepsPlaces history i old → KeepsPlaces (history ++ entry ∷ []) i new
places_more history entry i old new b e k p = record {
  begun_within = omega (arith, b, p.begun_within, length-append history (entry ∷ []));
  begun_here =
      λ announced. rw b
      (rw (take-append-le old.begun_place history (entry ∷ []) p.begun_within) (p.begun_here (rw k.plan.done at announced) ∙ sym k.begun));
  ended_within = omega (arith, e, p.ended_within, length-append history (entry ∷ []));
  ended_here = rw e (rw (take-append-le old.ended_place history (entry ∷ []) p.ended_within) (p.ended_here ∙ sym k.ended));
}

found_more : (limits : Limits) (history : List Entry) (entry : Entry) (old new : Ledger)
    → new.begun_place ≡ old.begun_place
    → new.ended_place ≡ old.ended_place
    → new.found_nothing ≡ old.found_nothing
    → KeepsTransfer old.account new.account
    → FoundFew limits history old
    → FoundFew limits (history ++ entry ∷ []) new
found_more limits history entry old new b e n k f = record {
  pending =
      λ taking announced nothing. rw b
      (few_more limits history entry old.begun_place
      (f.pending (rw k.plan.pending at taking) (rw k.plan.done at announced) (sym n ∙ nothing)));
  dry = λ dry. rw e (few_more limits history entry old.ended_place (f.dry (sym k.plan.dry ∙ dry)));
}

-- another's entry
sees_other : (history : List Entry) (entry : Entry) (i : ℕ) (ledger : Ledger)
    → i ≢ process_of entry
    → SeesBeginning history i ledger
    → SeesBeginning (history ++ entry ∷ []) i ledger
sees_other history entry i ledger ne s = record {
  own_entries = own_other history entry i (λ e. ne (sym e)) ∙ s.own_entries;
  own_seen = s.own_seen;
  beginning = take-append-le (length ledger.seen) history (entry ∷ []) (seen_within history i ledger s) ∙ s.beginning;
}

fits_other : (limits : Limits) (bound quantum : ℕ) (history : List Entry) (entry : Entry) (i : ℕ) (ledger : Ledger) → i ≢ process_of entry
    → LedgerFits limits bound quantum history i ledger → LedgerFits limits bound quantum (history ++ entry ∷ []) i ledger
fits_other limits bound quantum history entry i ledger ne f = record {
  reached = f.reached;
  counts = f.counts;
  sees = sees_other history entry i ledger ne f.sees;
  places = places_more history entry i ledger ledger refl refl (keeps_same ledger.account) f.places;
  found = found_more limits history entry ledger ledger refl refl refl (keeps_same ledger.account) f.found;
}

-- the own entry
sees_own : (history : List Entry) (entry : Entry) (i : ℕ) (account : Account) (ledger : Ledger)
    → process_of entry ≡ i
    → SeesBeginning history i ledger
    → SeesBeginning (history ++ entry ∷ []) i (entered history entry account ledger)
sees_own history entry i account ledger mine s = record {
  own_entries = own_more history entry i mine ∙ ap (λ entries. entries ++ entry ∷ []) s.own_entries;
  own_seen = own_more history entry i mine ∙ ap (λ entries. entries ++ entry ∷ []) s.own_entries;
  beginning = take-length (history ++ entry ∷ []);
}

-- what a process's own step owes
pub record Owes (limits : Limits) (bound quantum : ℕ) (history : List Entry) (entry : Entry) (account : Account) (ledger : Ledger)
    : Type 0 where
  pub may : MayFollow limits history entry
  pub net : HasNet limits history entry
  pub reached : Reached limits.batch_length bound quantum account
  pub counts : CountsEntries account (ledger.entries ++ entry ∷ [])
  pub keeps : KeepsTransfer ledger.account account

fits_own : (limits : Limits) (bound quantum : ℕ) (history : List Entry) (entry : Entry) (i : ℕ) (account : Account) (ledger : Ledger)
    → process_of entry ≡ i
    → Owes limits bound quantum history entry account ledger
    → LedgerFits limits bound quantum history i ledger
    → LedgerFits limits bound quantum (history ++ entry ∷ []) i (entered history entry account ledger)
fits_own limits bound quantum history entry i account ledger mine o f = record {
  reached = o.reached;
  counts = o.counts;
  sees = sees_own history entry i account ledger mine f.sees;
  places = places_more history entry i ledger (entered history entry account ledger) refl refl o.keeps f.places;
  found = found_more limits history entry ledger (entered history entry account ledger) refl refl refl o.keeps f.found;
}

-- an entry keeps the history
pub entry_kept : (limits : Limits) (bound quantum : ℕ) (history : List Entry) (ledgers after : Ledgers)
    (entry : Entry) (i : ℕ) (account : Account)
    → i < limits.processes
    → HistoryHolds limits bound quantum history ledgers
    → process_of entry ≡ i
    → Owes limits bound quantum history entry account (ledgers i)
    → Replaced i (entered history entry account (ledgers i)) ledgers after
    → HistoryHolds limits bound quantum (history ++ entry ∷ []) after
entry_kept limits bound quantum history ledgers after entry i account lt h mine owes moved = record {
  legal = legal_more limits history entry h.legal owes.may owes.net;
  each = λ o lo. elim (cases_eq o i) [
    | inl e ↦ rw e (rw moved.here (fits_own limits bound quantum history entry i account (ledgers i) mine owes (h.each i lt)))
    | inr ne ↦ rw (moved.elsewhere o ne) (fits_other limits bound quantum history entry o (ledgers o) (λ e. ne (e ∙ mine)) (h.each o lo))
  ];
  longest = λ some. record { process = i; one = lt; all = ap (λ ledger. ledger.seen) moved.here };
}

-- a step that makes no entry keeps the history
pub step_kept : (limits : Limits) (bound quantum : ℕ) (history : List Entry) (ledgers after : Ledgers) (i : ℕ) (ledger : Ledger)
    → i < limits.processes
    → HistoryHolds limits bound quantum history ledgers
    → LedgerFits limits bound quantum history i ledger
    → ledger.seen ≡ (ledgers i).seen
    → Replaced i ledger ledgers after
    → HistoryHolds limits bound quantum history after
step_kept limits bound quantum history ledgers after i ledger lt h fits same moved = record {
  legal = h.legal;
  each = λ o lo. elim (cases_eq o i) [
    | inl e ↦ rw e (rw moved.here fits)
    | inr ne ↦ rw (moved.elsewhere o ne) (h.each o lo)
  ];
  longest = λ some. let s = h.longest some in record { process = s.process; one = s.one; all = seen_after s.process ∙ s.all };
}
  where
    seen_after : (o : ℕ) → (after o).seen ≡ (ledgers o).seen
    seen_after o = elim (cases_eq o i) [
      | inl e ↦ rw e (ap (λ l. l.seen) moved.here ∙ same)
      | inr ne ↦ ap (λ l. l.seen) (moved.elsewhere o ne)
    ]
