-- The opening, exchanges of the state, and what the one history says of the held blocks.
use Rattle.std.proofs.Common.{◌≡◌, ℕ, ◌<◌, ◌≤◌, refl, ◌∙◌, ap, inl, inr, arith, List, [], length}
use Rattle.std.specs.List.{Contains}
use Rattle.std.proofs.lemmas.Bool.{cases_eq}
use Rattle.pool_model.specs.declared.entry.Entry.{Entry}
use Rattle.pool_model.specs.Limits.{Limits}
use Rattle.pool_model.specs.History.{own, held, HasFewUnheld, grip}
use Rattle.pool_model.proofs.Histories.{each_entry_none}
use Rattle.pool_model.specs.Legal.{MayFollow, HasNet}
use Rattle.transfer_schedule.specs.Account.{opens}
use Rattle.history_invariant.specs.Ledger.{Ledger, Ledgers, opening_ledger}
use Rattle.history_invariant.specs.Fits.{HadFewSince, LedgerFits}
use Rattle.history_invariant.specs.Holds.{HistoryHolds}
use Rattle.history_invariant.specs.Steps.{Emptied, stays, empties}
use Rattle.history_invariant.specs.Grips.{times, GripsAreHeld, HasOneHolder, SharesOut}
use Rattle.process_sums.proofs.Sums.{total_same, two_terms_of_total, some_term}
use Rattle.history_invariant.proofs.Times.{times_contained, contained_times}
use Rattle.history_invariant.proofs.Grips.{grip_all}
use Rattle.history_invariant.proofs.Shared.{grips_of, legal_shared}

-- the opening
opening_fits : (limits : Limits) (bound quantum i : ℕ)
    → LedgerFits limits bound quantum [] i (opening_ledger limits.batch_length bound quantum)
opening_fits limits bound quantum i = record {
  reached = opens;
  counts = record { entries = refl; gots = refl; backs = refl; unbroken = refl };
  sees = record { own_entries = refl; own_seen = refl; beginning = refl };
  places = record { begun_within = omega arith; begun_here = λ some. refl; ended_within = omega arith; ended_here = refl };
  found = record { pending = λ taking some nothing. cc; dry = λ dry. cc };
}

-- the empty history is that of the opening
pub opening_holds : (limits : Limits) (bound quantum : ℕ) (ledgers : Ledgers)
    → ((i : ℕ) → i < limits.processes → ledgers i ≡ opening_ledger limits.batch_length bound quantum)
    → HistoryHolds limits bound quantum [] ledgers
opening_holds limits bound quantum ledgers opened = record {
  legal = record { follows = each_entry_none (MayFollow limits); nets = each_entry_none (HasNet limits) };
  each = λ i li. rw (opened i li) (opening_fits limits bound quantum i);
  longest = λ some. absurd (omega arith);
}

-- an exchange: the place of a take that found nothing is the present one
pub few_now : (limits : Limits) (history : List Entry) (start : ℕ)
    → start ≤ length history
    → HasFewUnheld limits history (length history)
    → HadFewSince limits history start
few_now limits history start le few = record { place = length history; after = le; within = omega arith; few = few }

emptied_fits : (limits : Limits) (bound quantum : ℕ) (history : List Entry) (i : ℕ) (old new : Ledger)
    → LedgerFits limits bound quantum history i old
    → Emptied limits history old new → LedgerFits limits bound quantum history i new
emptied_fits limits bound quantum history i old new f stays = f
emptied_fits limits bound quantum history i old new f (empties few) = record {
  reached = f.reached;
  counts = f.counts;
  sees = record { own_entries = f.sees.own_entries; own_seen = f.sees.own_seen; beginning = f.sees.beginning };
  places = record {
    begun_within = f.places.begun_within;
    begun_here = f.places.begun_here;
    ended_within = f.places.ended_within;
    ended_here = f.places.ended_here;
  };
  found = record { pending = λ taking some nothing. few_now limits history old.begun_place f.places.begun_within few; dry = f.found.dry };
}

emptied_sees : (limits : Limits) (history : List Entry) (old new : Ledger) → Emptied limits history old new → new.seen ≡ old.seen
emptied_sees limits history old new stays = refl
emptied_sees limits history old new (empties few) = refl

-- an exchange of the state keeps the history
pub exchange_holds : (limits : Limits) (bound quantum : ℕ) (history : List Entry) (ledgers after : Ledgers)
    → HistoryHolds limits bound quantum history ledgers
    → ((i : ℕ) → i < limits.processes → Emptied limits history (ledgers i) (after i))
    → HistoryHolds limits bound quantum history after
exchange_holds limits bound quantum history ledgers after h emptied = record {
  legal = h.legal;
  each = λ i li. emptied_fits limits bound quantum history i (ledgers i) (after i) (h.each i li) (emptied i li);
  longest = λ some. let s = h.longest some in record {
    process = s.process;
    one = s.one;
    all = emptied_sees limits history (ledgers s.process) (after s.process) (emptied s.process s.one) ∙ s.all;
  };
}

-- each held block is in one grip
one_holder : (limits : Limits) (blocks : List ℕ) (grips : ℕ → List ℕ) (block : ℕ)
    → GripsAreHeld limits blocks grips
    → Contains blocks block
    → HasOneHolder limits.processes grips block
one_holder limits blocks grips block g there =
    let some = times_contained block blocks there in
    let part = some_term limits.processes (λ o. times block (grips o)) (omega (arith, g.parts block, some)) in
    record {
      process = part.place;
      one = part.within;
      holds = contained_times block (grips part.place) part.some;
      only = λ o lo mine. elim (cases_eq o part.place) [
        | inl e ↦ e
        | inr ne ↦ (
            let mine_times = times_contained block (grips o) mine in
            let both = two_terms_of_total limits.processes part.place o (λ k. times block (grips k)) part.within lo ne in
            absurd (omega (arith, g.once block, g.parts block, part.some, mine_times, both))
            )
      ];
    }

in_grip_held : (limits : Limits) (blocks : List ℕ) (grips : ℕ → List ℕ) (i block : ℕ)
    → i < limits.processes
    → GripsAreHeld limits blocks grips
    → Contains (grips i) block
    → Contains blocks block
in_grip_held limits blocks grips i block lt g mine =
    contained_times block blocks (omega (arith, times_contained block (grips i) mine, grip_all limits i block blocks grips lt g))

-- the grips of the ledgers are those of the history
ledger_grips : (limits : Limits) (history : List Entry) (ledgers : Ledgers)
    → ((i : ℕ) → i < limits.processes → own history i ≡ (ledgers i).entries)
    → GripsAreHeld limits (held history) (grips_of history)
    → GripsAreHeld limits (held history) (λ i. grip (ledgers i).entries)
ledger_grips limits history ledgers same g = record {
  once = g.once;
  parts = λ block. g.parts block
      ∙ total_same limits.processes (λ i. times block (grip (ledgers i).entries)) (λ i. times block (grips_of history i))
      (λ i li. ap (λ entries. times block (grip entries)) (same i li));
  count = g.count
      ∙ total_same limits.processes (λ i. length (grip (ledgers i).entries)) (λ i. length (grips_of history i))
      (λ i li. ap (λ entries. length (grip entries)) (same i li));
  below = g.below;
}

-- the held blocks are shared out among the processes
pub held_shared : (limits : Limits) (bound quantum : ℕ) (history : List Entry) (ledgers : Ledgers)
    → HistoryHolds limits bound quantum history ledgers
    → SharesOut limits history ledgers
held_shared limits bound quantum history ledgers h =
    let s = legal_shared limits history h.legal in
    let same : (i : ℕ) → i < limits.processes → own history i ≡ (ledgers i).entries = λ i li. (let f = h.each i li in f.sees.own_entries) in
    let g = ledger_grips limits history ledgers same s.grips in
    record {
      grips = g;
      holder = λ block there. one_holder limits (held history) (λ i. grip (ledgers i).entries) block g there;
      held = λ i block li mine. in_grip_held limits (held history) (λ i. grip (ledgers i).entries) i block li g mine;
      balance = λ i li. rw (same i li) at (s.balance i li);
    }
