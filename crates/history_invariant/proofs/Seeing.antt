-- What the processes have seen of the one history: a join, and the longest.
use Rattle.std.proofs.Common.{◌≡◌, ℕ, ◌<◌, ◌≤◌, ◌==◌, Bool, true, false, refl, sym, ◌∙◌, ap, inl, inr, arith, zero, suc, List, [], ◌∷◌}
use Rattle.std.proofs.Common.{◌++◌, length, take, drop, length-append, append-nil}
use Rattle.std.specs.Prelude.{nat_lt, if◌then◌else◌}
use Rattle.std.proofs.lemmas.List.{take-append-drop, take_all}
use Rattle.std.proofs.lemmas.List.Elements.{filter-append}
use Rattle.std.proofs.lemmas.Bool.{cases_eq}
use Rattle.std.proofs.lemmas.Bool.Decides.{nat_tests}
use Rattle.pool_model.specs.declared.entry.Entry.{Entry}
use Rattle.pool_model.specs.Limits.{Limits}
use Rattle.pool_model.specs.History.{process_of, own}
use Rattle.history_invariant.specs.Ledger.{Ledger, Ledgers}
use Rattle.history_invariant.specs.Fits.{SeesBeginning, LedgerFits}
use Rattle.history_invariant.specs.Holds.{SomeSeesAll, HistoryHolds}
use Rattle.history_invariant.specs.Laws.{JoinsKeepHistory}
use Rattle.history_invariant.specs.Longest.{longest}
use Rattle.history_invariant.proofs.Fitting.{own_rises}

-- a beginning as long as the list is the list
no_more : (front rest all : List Entry) → all ≡ front ++ rest → length all ≤ length front → all ≡ front
no_more front [] all e le = e ∙ append-nil front
no_more front (entry ∷ rest) all e le = absurd (omega (arith, ap length e, length-append front (entry ∷ rest)))

own_parts : (i place : ℕ) (history : List Entry) → own history i ≡ own (take place history) i ++ own (drop place history) i
own_parts i place history =
    ap (λ entries. own entries i) (sym (take-append-drop place history))
    ∙ filter-append (λ e. process_of e == i) (take place history) (drop place history)

-- a longer beginning of the history has all entries of the process too
pub own_of_longer : (history seen : List Entry) (i place : ℕ)
    → own seen i ≡ own history i
    → take (length seen) history ≡ seen
    → length seen ≤ place
    → own (take place history) i ≡ own history i
own_of_longer history seen i place has_own begins le =
    sym (no_more (own (take place history) i) (own (drop place history) i) (own history i) (own_parts i place history)
    (omega (
      arith,
      own_rises i (length seen) place history le,
      ap (λ entries. length (own entries i)) begins,
      ap length has_own,
    )))

-- a process is told what another one has seen
join_sees : (history : List Entry) (i other : ℕ) (mine theirs : Ledger) → SeesBeginning history i mine → SeesBeginning history other theirs
    → length mine.seen ≤ length theirs.seen → SeesBeginning history i (record mine { seen = theirs.seen })
join_sees history i other mine theirs s t le = record {
  own_entries = s.own_entries;
  own_seen =
      ap (λ entries. own entries i) (sym t.beginning)
      ∙ (own_of_longer history mine.seen i (length theirs.seen) (s.own_seen ∙ sym s.own_entries) s.beginning le ∙ s.own_entries);
  beginning = t.beginning;
}

join_fits : (limits : Limits) (bound quantum : ℕ) (history : List Entry) (i other : ℕ) (mine theirs : Ledger)
    → LedgerFits limits bound quantum history i mine
    → SeesBeginning history other theirs → length mine.seen ≤ length theirs.seen
    → LedgerFits limits bound quantum history i (record mine { seen = theirs.seen })
join_fits limits bound quantum history i other mine theirs f t le = record {
  reached = f.reached;
  counts = f.counts;
  sees = join_sees history i other mine theirs f.sees t le;
  places = record {
    begun_within = f.places.begun_within;
    begun_here = f.places.begun_here;
    ended_within = f.places.ended_within;
    ended_here = f.places.ended_here;
  };
  found = record { pending = f.found.pending; dry = f.found.dry };
}

seen_whole : (history seen : List Entry) → take (length seen) history ≡ seen → length history ≤ length seen → seen ≡ history
seen_whole history seen beginning le = sym beginning ∙ take_all (length seen) history le

-- a process that is told what another one has seen keeps the history
pub join_holds : JoinsKeepHistory
join_holds limits bound quantum history ledgers after i other lt lo h le moved = record {
  legal = h.legal;
  each = λ o li. elim (cases_eq o i) [
    | inl e ↦
        rw e (rw moved.here (join_fits limits bound quantum history i other (ledgers i) (ledgers other) (h.each i lt) (sees other lo) le))
    | inr ne ↦ rw (moved.elsewhere o ne) (h.each o li)
  ];
  longest = λ some. longest_after (h.longest some);
}
  where
    sees : (o : ℕ) → o < limits.processes → SeesBeginning history o (ledgers o)
    sees o li = let f = h.each o li in f.sees

    theirs : length history ≤ length (ledgers other).seen → (ledgers other).seen ≡ history
    theirs whole = let t = sees other lo in seen_whole history (ledgers other).seen t.beginning whole

    longest_after : SomeSeesAll limits.processes history ledgers → SomeSeesAll limits.processes history after
    longest_after s = elim (cases_eq s.process i) [
      | inl e ↦ record {
        process = i;
        one = lt;
        all = ap (λ l. l.seen) moved.here ∙ theirs (omega (arith, le, ap (λ o. length (ledgers o).seen) e, ap length s.all));
      }
      | inr ne ↦ record { process = s.process; one = s.one; all = ap (λ l. l.seen) (moved.elsewhere s.process ne) ∙ s.all }
    ]

-- the longest of the first n: a beginning of the history, and no shorter than any of them
record IsLongest (n : ℕ) (history : List Entry) (seen : ℕ → List Entry) (all : List Entry) : Type 0 where
  beginning : take (length all) history ≡ all
  most : (i : ℕ) → i < n → length (seen i) ≤ length all

longer_of : (n : ℕ) (history : List Entry) (seen : ℕ → List Entry) (all : List Entry) (t : Bool) → (t ≡ true → length all < length (seen n))
    → (t ≡ false → length (seen n) ≤ length all) → take (length (seen n)) history ≡ seen n
    → IsLongest n history seen all
    → IsLongest (suc n) history seen (if t then seen n else all)
longer_of n history seen all true up down beginning l = record {
  beginning = beginning;
  most = λ i lt. elim (cases_eq i n) [ inl e ↦ rw e (omega arith) | inr ne ↦ omega (arith, l.most i (omega arith), up refl) ];
}
longer_of n history seen all false up down beginning l = record {
  beginning = l.beginning;
  most = λ i lt. elim (cases_eq i n) [ inl e ↦ rw e (down refl) | inr ne ↦ l.most i (omega arith) ];
}

longest_of : (n : ℕ) (history : List Entry) (seen : ℕ → List Entry)
    → ((i : ℕ) → i < n → take (length (seen i)) history ≡ seen i)
    → IsLongest n history seen (longest n seen)
unfolding longest
longest_of zero history seen beginnings = record { beginning = refl; most = λ i lt. absurd (omega arith) }
longest_of (suc n) history seen beginnings =
    longer_of n history seen (longest n seen) (nat_lt (length (longest n seen)) (length (seen n)))
    (λ e. grind (arith, nat_tests)) (λ e. grind (arith, nat_tests))
    (beginnings n (omega arith)) (longest_of n history seen (λ i lt. beginnings i (omega arith)))

-- the history is the longest that a process has seen
pub longest_is_history : (limits : Limits) (bound quantum : ℕ) (history : List Entry) (ledgers : Ledgers)
    → HistoryHolds limits bound quantum history ledgers
    → longest limits.processes (λ i. (ledgers i).seen) ≡ history
longest_is_history limits bound quantum history ledgers h = elim (cases_eq (length history) 0) [
  | inl none ↦ seen_whole history all l.beginning (omega arith)
  | inr some ↦
      let s = h.longest (omega arith) in seen_whole history all l.beginning (omega (arith, ap length s.all, l.most s.process s.one))
]
  where
    all : List Entry
    all = longest limits.processes (λ i. (ledgers i).seen)

    l : IsLongest limits.processes history (λ i. (ledgers i).seen) (longest limits.processes (λ i. (ledgers i).seen))
    l = longest_of limits.processes history (λ i. (ledgers i).seen) (λ i li. let f = h.each i li in let s = f.sees in s.beginning)
