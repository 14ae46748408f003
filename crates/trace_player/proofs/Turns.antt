-- Scripts that are played in turn, one script on.
use Rattle.std.proofs.Common.{◌≡◌, ◌≢◌, ℕ, ◌+◌, ◌<◌, ◌≤◌, true, false, eqb, List, [], ◌∷◌, ◌++◌, length, take}
use Rattle.std.proofs.Common.{get_or, refl, sym, ap, ◌∙◌, subst, ⊎_elim, arith, length-append, append-nil, Some}
use Rattle.std.specs.List.{AllByRecursion, flat_map, slice_get, range_with_len}
use Rattle.std.proofs.lemmas.Bool.Decides.{nat_tests}
use Rattle.std.proofs.lemmas.Option.{same_Some, get_or_from_slice_get}
use Rattle.std.proofs.lemmas.List.{map-append, take_more}
use Rattle.std.proofs.lemmas.List.Concat.{flat_map-append}
use Rattle.std.proofs.lemmas.List.Sums.{sum_by_push}
use Rattle.std.proofs.lemmas.List.Elements.{filter-append, filter_passes, All-from_get_or, recursion_from_All}
use Rattle.std.proofs.lemmas.List.FromFn.{get_or-range_with_len, length-range_with_len}
use Rattle.pool_model.specs.declared.entry.Entry.{Entry}
use Rattle.pool_model.specs.Limits.{Limits}
use Rattle.pool_model.specs.History.{own, held, process_of}
use Rattle.pool_model.specs.Legal.{IsExact}
use Rattle.pool_model.specs.Plain.{Plain, IsLeftBy}
use Rattle.pool_model.proofs.Places.{slice_get-push_cases}
use Rattle.pool_model.proofs.Histories.{exact_none}
use Rattle.pool_model.proofs.PlainSteps.{left_by_none}
use Rattle.mtrace_reader.specs.declared.steps.Script.{Script}
use Rattle.mtrace_reader.proofs.WellFormed.{range_with_len_more}
use Rattle.trace_player.specs.declared.tally.Tally.{Tally}
use Rattle.trace_player.proofs.Lists.{flat_map_same}
use Rattle.trace_player.specs.Fit.{IsTallied}
use Rattle.trace_player.specs.Playing.{IsPlayedWhole}
use Rattle.trace_player.specs.Tally.{no_refusals, peak_of, tally_of}
use Rattle.trace_player.specs.Plain.{IsInTurn, peaks_without_refusals, tallies_without_refusals}

-- where the blocks are enough for these scripts, nothing was refused, and no more blocks are held than the sum of the peaks
abbrev Spares : ℕ → List Script → List Entry → List Tally → Type 0
Spares blocks scripts history tallies =
    peaks_without_refusals scripts ≤ blocks → (tallies ≡ tallies_without_refusals scripts)
    × (length (held history) ≤ peaks_without_refusals scripts)

-- the first scripts were played in turn, which left the pool as it is
pub record PlayedSoFar (blocks : ℕ) (scripts : List Script) (count : ℕ) (pool : Plain) (tallies : List Tally) : Type 0 where
  pub history : List Entry
  pub size : pool.blocks ≡ blocks
  pub left : IsLeftBy history pool
  pub exact : (limits : Limits) → limits.processes ≡ length scripts → limits.blocks ≡ blocks → 0 < limits.batch_length
      → IsExact limits history
  pub in_turn : IsInTurn count history
  pub spares : Spares blocks (take count scripts) history tallies
  pub fresh : (i : ℕ) → count ≤ i → own history i ≡ []
  pub one_each : length tallies ≡ count
  pub each : (i : ℕ) (script : Script) (tally : Tally) → slice_get scripts i ≡ Some script → slice_get tallies i ≡ Some tally
      → IsTallied i script (own history i) tally

-- no script was played yet: the pool is opened and holds nothing
pub none_so_far : (blocks : ℕ) (scripts : List Script)
    → PlayedSoFar blocks scripts 0 (record { blocks = blocks; given = 0; returned = [] }) []
none_so_far blocks scripts = record {
  history = [];
  size = refl;
  left = left_by_none blocks;
  exact = λ limits processes same long. exact_none limits;
  in_turn = refl;
  spares = λ room. (refl, omega arith);
  fresh = λ i past. refl;
  one_each = refl;
  each = λ i script tally s t. absurd cc;
}

-- entries that are all of one process have none of another
none_of_others : (entries : List Entry) (j i : ℕ) → AllByRecursion (λ entry. eqb (process_of entry) j ≡ true) entries → i ≢ j
    → own entries i ≡ []
none_of_others [] j i mine differs = refl
none_of_others (entry ∷ entries) j i mine differs =
    let not_his : eqb (process_of entry) i ≡ false = grind (arith, nat_tests, mine.0) in
    rw not_his (none_of_others entries j i mine.1 differs)

own_of_others : (entries : List Entry) (j i : ℕ) → own entries j ≡ entries → i ≢ j → own entries i ≡ []
own_of_others entries j i mine differs =
    none_of_others entries j i
    (recursion_from_All _ entries (subst (λ (es : List Entry). (k : ℕ) (d : Entry) → k < length es
    → eqb (process_of (get_or es k d)) j ≡ true) mine
    (filter_passes (λ (entry : Entry). eqb (process_of entry) j) entries)))
    differs

below_range : (P : ℕ → Type 0) (n : ℕ) → ((k : ℕ) → k < n → P k) → AllByRecursion P (range_with_len 0 n)
below_range P n below =
    recursion_from_All P (range_with_len 0 n)
    (All-from_get_or P (range_with_len 0 n) 0
    (λ k within.
    let low : k < n = omega (arith, within, length-range_with_len 0 n) in
    subst P (sym (get_or-range_with_len 0 n k 0 low ∙ omega arith)) (below k low)))

-- the entries of process n after those of the processes below n
in_turn_more : (history entries : List Entry) (n : ℕ) → own entries n ≡ entries → own history n ≡ []
    → IsInTurn n history → IsInTurn (n + 1) (history ++ entries)
in_turn_more history entries n mine fresh in_turn =
    let both : (i : ℕ) → own (history ++ entries) i ≡ own history i ++ own entries i =
    λ i. filter-append (λ (entry : Entry). eqb (process_of entry) i) history entries in
    let earlier : flat_map (own (history ++ entries)) (range_with_len 0 n) ≡ flat_map (own history) (range_with_len 0 n) =
    flat_map_same (own (history ++ entries)) (own history) (range_with_len 0 n)
    (below_range (λ i. own (history ++ entries) i ≡ own history i) n
    (λ i low. both i ∙ ap (λ es. own history i ++ es) (own_of_others entries n i mine (omega arith)) ∙ append-nil (own history i))) in
    let last : own (history ++ entries) n ≡ entries = both n ∙ ap (λ es. es ++ own entries n) fresh ∙ mine in
    ap (λ es. es ++ entries) in_turn
    ∙ ap (λ es. flat_map (own history) (range_with_len 0 n) ++ es) (sym (append-nil entries))
    ∙ ap (λ es. es ++ (entries ++ [])) (sym earlier)
    ∙ ap (λ es. flat_map (own (history ++ entries)) (range_with_len 0 n) ++ (es ++ [])) (sym last)
    ∙ sym (flat_map-append (own (history ++ entries)) (range_with_len 0 n) (n ∷ []))
    ∙ ap (flat_map (own (history ++ entries))) (sym (range_with_len_more n))

-- where the blocks are enough for these scripts, one script on
spared_more : (blocks n : ℕ) (scripts : List Script) (script : Script) (history : List Entry) (pool new : Plain) (tallies : List Tally)
    (tally : Tally)
    → pool.blocks ≡ blocks → IsLeftBy history pool → (whole : IsPlayedWhole n script pool new tally)
    → Spares blocks scripts history tallies → Spares blocks (scripts ++ script ∷ []) (history ++ whole.entries) (tallies ++ tally ∷ [])
spared_more blocks n scripts script history pool new tallies tally size left whole spares room =
    let peak = sum_by_push (λ (s : Script). peak_of (no_refusals s) s.steps) scripts script in
    let before = spares (omega (arith, room, peak)) in
    let same = whole.enough history left (omega (arith, room, peak, before.1, size)) in (
      ap (λ ts. ts ++ tally ∷ []) before.0
          ∙ ap (λ t. tallies_without_refusals scripts ++ t ∷ []) same
          ∙ sym (map-append (λ (s : Script). tally_of s (no_refusals s)) scripts (script ∷ [])),
      omega (arith, whole.few history left, before.1, peak, ap (λ (t : Tally). t.peak) same),
    )

-- where the next script was played whole after these, one script more was played so far
pub one_more_played : (blocks : ℕ) (scripts : List Script) (n : ℕ) (pool new : Plain) (tallies : List Tally) (script : Script)
    (tally : Tally)
    → n < length scripts → slice_get scripts n ≡ Some script → PlayedSoFar blocks scripts n pool tallies
    → IsPlayedWhole n script pool new tally
    → PlayedSoFar blocks scripts (n + 1) new (tallies ++ tally ∷ [])
one_more_played blocks scripts n pool new tallies script tally within at so_far whole =
    let history = so_far.history in
    let entries = whole.entries in
    let leads = whole.leads in
    let next : take (n + 1) scripts ≡ take n scripts ++ script ∷ []
    = take_more scripts n script within ∙ ap (λ s. take n scripts ++ s ∷ []) (get_or_from_slice_get scripts n script script at) in
    let both : (i : ℕ) → own (history ++ entries) i ≡ own history i ++ own entries i =
    λ i. filter-append (λ (entry : Entry). eqb (process_of entry) i) history entries in
    let others : (i : ℕ) → i ≢ n → own (history ++ entries) i ≡ own history i =
    λ i differs. both i ∙ ap (λ es. own history i ++ es) (own_of_others entries n i leads.own_only differs) ∙ append-nil (own history i) in
    let its : own (history ++ entries) n ≡ entries =
    both n ∙ ap (λ es. es ++ own entries n) (so_far.fresh n (omega arith)) ∙ leads.own_only in
    record {
      history = history ++ entries;
      size = leads.blocks ∙ so_far.size;
      left = leads.leaves history so_far.left;
      exact = λ limits processes same long.
          leads.exact limits history (omega arith) (same ∙ sym so_far.size) long (so_far.fresh n (omega arith)) so_far.left
          (so_far.exact limits processes same long);
      in_turn = in_turn_more history entries n leads.own_only (so_far.fresh n (omega arith)) so_far.in_turn;
      spares = subst (λ (done : List Script). Spares blocks done (history ++ entries) (tallies ++ tally ∷ [])) (sym next)
          (spared_more blocks n (take n scripts) script history pool new tallies tally so_far.size so_far.left whole so_far.spares);
      fresh = λ i past. others i (omega arith) ∙ so_far.fresh i (omega arith);
      one_each = omega (arith, length-append tallies (tally ∷ []), so_far.one_each);
      each = λ i other count s t. ⊎_elim
          (λ (q : (i < length tallies) × (slice_get tallies i ≡ Some count)).
          let differs : i ≢ n = omega (arith, q.0, so_far.one_each) in
          subst (λ (es : List Entry). IsTallied i other es count) (sym (others i differs)) (so_far.each i other count s q.1))
          (λ (q : (i ≡ length tallies) × (tally ≡ count)).
          let place : n ≡ i = omega (arith, q.0, so_far.one_each) in
          let same : script ≡ other = same_Some script other (sym at ∙ ap (slice_get scripts) place ∙ s) in
          subst (λ (k : ℕ). IsTallied k other (own (history ++ entries) k) count) place
          (rw (its, sym same, sym q.1) whole.tallied))
          (slice_get-push_cases tallies tally count i t);
    }
