-- A timer is put at a free place and at the end of its list: the places are a table with it.
use Rattle.std.proofs.Common.{◌≡◌, ◌≢◌, ℕ, ◌+◌, ◌<◌, ◌≤◌, ◌==◌, true, false, None, Some, List, [], ◌∷◌, ◌++◌}
use Rattle.std.proofs.Common.{length, get_or, set, refl, sym, ap, subst, ◌∙◌, arith, ◌⊎◌, inl, inr, append-nil, length-append}
use Rattle.std.specs.Prelude.{slice_index}
use Rattle.std.proofs.lemmas.Bool.{cases_eq}
use Rattle.std.proofs.lemmas.Bool.Decides.{nat_tests}
use Rattle.std.proofs.lemmas.List.{get_or-set_same, get_or-set_other, length-set}
use Rattle.std.proofs.lemmas.List.Elements.{filter-append}
use Rattle.std.proofs.lemmas.Option.{none-some, same_Some}
use Rattle.object_store.specs.Objects.{ObjectView}
use Rattle.timer_wheel.specs.declared.record.TimerRecord.{TimerRecord}
use Rattle.timer_wheel.specs.declared.changes.Placed.{Placed}
use Rattle.timer_wheel.specs.declared.chain.Chain.{Chain}
use Rattle.timer_wheel.specs.Backs.{LeadBack, AreBacks, backed}
use Rattle.timer_wheel.specs.Places.{Places, Leads, Stands, IsChain, AreApart, ends_at, ends_joined, first_led, in_list, last_link, list_of}
use Rattle.timer_wheel.specs.Places.{object_at, record_of, relinked}
use Rattle.timer_wheel.specs.Serving.{IsFar}
use Rattle.timer_wheel.specs.Tables.{Each, AreBelow, AreFree, HasPlace, IsTable}
use Rattle.timer_wheel.proofs.Lists.{each_weaker, each_both, each_passes, filter_first, filter_next, distinct_filter, distinct_push}
use Rattle.timer_wheel.proofs.Chains.{IsStanding, within, leads_join, each_leads, leads_kept}
use Rattle.timer_wheel.proofs.Chains.{other_due, placed_apart, last_of, last_append, led_on}
use Rattle.timer_wheel.proofs.Chains.{relinked_other, relinked_length}
use Rattle.timer_wheel.proofs.Backs.{back_kept, behind, behind_last, back_join, backed_at, backed_length}
use Rattle.timer_wheel.proofs.Removing.{in_its_list, other_lists, was_linked, empty_linked}

has_place_left : (a b : List Placed) (place : ℕ) → HasPlace a place → HasPlace (a ++ b) place
has_place_left [] b place has = absurd has
has_place_left (x ∷ a) b place has = elim has [ inl e ↦ inl e | inr more ↦ inr (has_place_left a b place more) ]

has_place_last : (a : List Placed) (t : Placed) → HasPlace (a ++ t ∷ []) t.place
has_place_last [] t = inl refl
has_place_last (x ∷ a) t = inr (has_place_last a t)

-- a timer passes the test of its list
pub passes_own : (n j : ℕ) (t : Placed) → list_of n t ≡ j → (list_of n t == j) ≡ true
passes_own n j t e = grind (arith, nat_tests)

fails_other : (n j : ℕ) (t : Placed) → j ≢ list_of n t → (list_of n t == j) ≡ false
fails_other n j t ne = grind (arith, nat_tests)

module _ (places : Places) (free : List ℕ) (lists : List Chain) (running : List Placed) (count : ℕ)
    (table : IsTable places free lists running count) (t : Placed) (object : ObjectView TimerRecord)
    (is : object.value ≡ record_of t 0) (room : count < length places) (placed : t.place ≡ slice_index free count)
    (fresh : IsFar places object.block) (below : AreBelow t.number running)
    (low : list_of (length lists) t < length lists) where
  abbrev block : ℕ
  block = object.block

  abbrev k : ℕ
  k = list_of (length lists) t

  abbrev last : ℕ
  last = (ends_at lists k).last

  abbrev first : ℕ
  first = (ends_at lists k).first

  abbrev filled : Places
  filled = set places t.place (Some object)

  abbrev joined : Places
  joined = relinked last (t.place + 1) filled

  abbrev ts : List Placed
  ts = in_list (length lists) k running

  free_low : count < length free
  free_low = omega (arith, room, table.frees.all)

  was_empty : object_at places t.place ≡ None
  was_empty = ap (object_at places) placed ∙ table.frees.empty count (omega arith) free_low

  place_low : t.place < length places
  place_low = subst (λ (q : ℕ). q < length places) (sym placed) (table.frees.within count (omega arith) free_low)

  there : object_at filled t.place ≡ Some object
  there = get_or-set_same places t.place (Some object) None place_low

  stays_filled : (q : ℕ) → q ≢ t.place → object_at filled q ≡ object_at places q
  stays_filled q ne = get_or-set_other places t.place q (Some object) None ne

  not_there : (s : Placed) → IsStanding places s → s.place ≢ t.place
  not_there s at same =
      none-some (record { block = at.1.block; value = record_of s at.0 }) (sym was_empty ∙ ap (object_at places) (sym same) ∙ at.1.at)

  chain : IsChain places (ends_at lists k) ts
  chain = table.chains k _ low

  standing : Each (IsStanding places) ts
  standing = each_leads places ts first 0 chain.leads

  listed_in : (j : ℕ) → Each (λ s. list_of (length lists) s ≡ j) (in_list (length lists) j running)
  listed_in j =
      each_weaker (λ s. (list_of (length lists) s == j) ≡ true) (λ s. list_of (length lists) s ≡ j) (in_its_list (length lists) j)
      (in_list (length lists) j running) (each_passes (λ s. list_of (length lists) s == j) running)

  -- the last of the list, if any
  abbrev IsLast : Placed → Type 0
  IsLast u = (list_of (length lists) u ≡ k) × IsStanding places u

  last_one : (last_link ts ≡ 0) ⊎ ((u : Placed) × ((last_link ts ≡ u.place + 1) × IsLast u))
  last_one = last_of IsLast ts
      (each_both (λ u. list_of (length lists) u ≡ k) (IsStanding places) IsLast (λ u a b. (a, b)) ts (listed_in k) standing)

  not_last : t.place + 1 ≢ last
  not_last same = elim last_one [
    | inl none ↦ omega (arith, same, chain.last, none)
    | inr u ↦ not_there u.0 u.1.1.1 (omega (arith, same, chain.last, u.1.0))
  ]

  else_last : (j : ℕ) (s : Placed) → j ≢ k → list_of (length lists) s ≡ j → IsStanding places s → s.place + 1 ≢ last
  else_last j s ne of_list at same = elim last_one [
    | inl none ↦ omega (arith, same, chain.last, none)
    | inr u ↦ other_due places s u.0 at u.1.1.1 (other_lists (length lists) j k s u.0 of_list u.1.1.0 ne)
        (omega (arith, same, chain.last, u.1.0))
  ]

  led : Leads joined (first_led last (t.place + 1) first) ts (t.place + 1)
  led =
      led_on (t.place + 1) filled ts first 0 last chain.last
      (placed_apart places ts (distinct_filter (λ s. list_of (length lists) s == k) running table.distinct) standing)
      (leads_kept places filled ts first 0
      (each_weaker (IsStanding places) (λ s. object_at filled s.place ≡ object_at places s.place)
      (λ s at. stays_filled s.place (not_there s at)) ts standing) chain.leads)

  stands : Stands joined t 0
  stands = record {
    block = block;
    at = relinked_other last (t.place + 1) filled t.place not_last ∙ there
        ∙ ap (λ (v : TimerRecord). Some (record { block = block; value = v })) is;
  }

  its_chain : IsChain joined (ends_joined (t.place + 1) (ends_at lists k)) (ts ++ t ∷ [])
  its_chain = record {
    leads = leads_join joined ts (t ∷ []) (first_led last (t.place + 1) first) (t.place + 1) 0 led (refl, (0, (stands, refl)));
    last = sym (last_append ts t []);
  }

  its_list : in_list (length lists) k (running ++ t ∷ []) ≡ ts ++ t ∷ []
  its_list =
      filter-append (λ s. list_of (length lists) s == k) running (t ∷ [])
      ∙ ap (λ (l : List Placed). ts ++ l)
      (filter_first (λ s. list_of (length lists) s == k) t [] (passes_own (length lists) k t refl))

  other_list : (j : ℕ) → j ≢ k → in_list (length lists) j (running ++ t ∷ []) ≡ in_list (length lists) j running
  other_list j ne =
      filter-append (λ s. list_of (length lists) s == j) running (t ∷ [])
      ∙ ap (λ (l : List Placed). in_list (length lists) j running ++ l)
      (filter_next (λ s. list_of (length lists) s == j) t [] (fails_other (length lists) j t ne))
      ∙ append-nil (in_list (length lists) j running)

  stays : (q : ℕ) → q ≢ t.place → q + 1 ≢ last → object_at joined q ≡ object_at places q
  stays q ne else = relinked_other last (t.place + 1) filled q else ∙ stays_filled q ne

  other_chain : (j : ℕ) (ends : Chain) → j ≢ k → IsChain places ends (in_list (length lists) j running)
      → IsChain joined ends (in_list (length lists) j (running ++ t ∷ []))
  other_chain j ends ne is =
      let us = in_list (length lists) j running in
      subst (λ (l : List Placed). IsChain joined ends l) (sym (other_list j ne)) (record {
        leads = leads_kept places joined us ends.first 0
            (each_both (IsStanding places) (λ s. list_of (length lists) s ≡ j) (λ s. object_at joined s.place ≡ object_at places s.place)
            (λ s at of_list. stays s.place (not_there s at) (else_last j s ne of_list at))
            us (each_leads places us ends.first 0 is.leads) (listed_in j))
            is.leads;
        last = is.last;
      })

  abbrev joined_lists : List Chain
  joined_lists = set lists k (ends_joined (t.place + 1) (ends_at lists k))

  chains : (j : ℕ) (d : Chain) → j < length lists
      → IsChain joined (get_or joined_lists j d) (in_list (length lists) j (running ++ t ∷ []))
  chains j d small = elim (cases_eq j k) [
    | inl e ↦ subst (λ (i : ℕ). IsChain joined (get_or joined_lists i d) (in_list (length lists) i (running ++ t ∷ []))) (sym e)
        (subst (λ (ends : Chain). IsChain joined ends (in_list (length lists) k (running ++ t ∷ [])))
        (sym (get_or-set_same lists k (ends_joined (t.place + 1) (ends_at lists k)) d low))
        (subst (λ (l : List Placed). IsChain joined (ends_joined (t.place + 1) (ends_at lists k)) l) (sym its_list) its_chain))
    | inr ne ↦ subst (λ (ends : Chain). IsChain joined ends (in_list (length lists) j (running ++ t ∷ [])))
        (sym (get_or-set_other lists k j (ends_joined (t.place + 1) (ends_at lists k)) d ne))
        (other_chain j (get_or lists j d) ne (table.chains j d small))
  ]

  -- what stands anywhere is the timer's object at its place, or stood there
  abbrev Was : ℕ → ObjectView TimerRecord → Type 0
  Was place other =
      ((place ≡ t.place) × (block ≡ other.block))
      ⊎ ((place ≢ t.place) × ((had : ObjectView TimerRecord) × ((object_at places place ≡ Some had) × (had.block ≡ other.block))))

  was : (place : ℕ) (other : ObjectView TimerRecord) → object_at joined place ≡ Some other → Was place other
  was place other at =
      let had = was_linked last (t.place + 1) filled place other at in
      elim (cases_eq place t.place) [
        | inl e ↦ inl (
          e,
          ap (λ (o : ObjectView TimerRecord). o.block)
              (same_Some object had.0 (sym there ∙ ap (object_at filled) (sym e) ∙ had.1.0)) ∙ had.1.1,
        )
        | inr ne ↦ inr (ne, (had.0, (sym (stays_filled place ne) ∙ had.1.0, had.1.1)))
      ]

  empty_stays : (place : ℕ) → place ≢ t.place → object_at places place ≡ None → object_at joined place ≡ None
  empty_stays place ne none = empty_linked last (t.place + 1) filled place (stays_filled place ne ∙ none)

  -- the places are as many
  pub joined_length : length joined ≡ length places
  joined_length = relinked_length last (t.place + 1) filled ∙ length-set places t.place (Some object)

  are_free : AreFree joined free (count + 1)
  are_free = record {
    all = table.frees.all ∙ sym joined_length;
    within = λ i above small. subst (λ (m : ℕ). slice_index free i < m) (sym joined_length)
        (table.frees.within i (omega (arith, above)) small);
    empty = λ i above small. empty_stays (slice_index free i)
        (λ same. table.frees.distinct count i (omega arith) (omega (arith, above)) small (sym placed ∙ sym same))
        (table.frees.empty i (omega (arith, above)) small);
    distinct = λ i j above less small. table.frees.distinct i j (omega (arith, above)) less small;
  }

  apart : AreApart joined
  apart a b x y at_a at_b same = elim (was a x at_a) [
    | inl here ↦ elim (was b y at_b) [
      | inl also ↦ here.0 ∙ sym also.0
      | inr wb ↦ absurd (fresh b wb.1.0 wb.1.1.0 (wb.1.1.1 ∙ sym same ∙ sym here.1))
    ]
    | inr wa ↦ elim (was b y at_b) [
      | inl also ↦ absurd (fresh a wa.1.0 wa.1.1.0 (wa.1.1.1 ∙ same ∙ sym also.1))
      | inr wb ↦ table.apart a b wa.1.0 wb.1.0 wa.1.1.0 wb.1.1.0 (wa.1.1.1 ∙ same ∙ sym wb.1.1.1)
    ]
  ]

  -- they are a table with the timer
  pub started : IsTable joined free joined_lists (running ++ t ∷ []) (count + 1)
  started =
      let same_lists : length joined_lists ≡ length lists = length-set lists k (ends_joined (t.place + 1) (ends_at lists k)) in
      record {
        some = subst (λ (m : ℕ). 1 ≤ m) (sym same_lists) table.some;
        chains = λ j d small. subst (λ (m : ℕ). IsChain joined (get_or joined_lists j d) (in_list m j (running ++ t ∷ []))) (sym same_lists)
            (chains j d (subst (λ (m : ℕ). j < m) same_lists small));
        distinct = distinct_push t running table.distinct
            (each_weaker (λ u. u.number < t.number) (λ u. t.number ≢ u.number) (λ u less same. absurd (omega (arith, less, same)))
            running below);
        taken = λ place other at. elim (was place other at) [
          | inl here ↦ subst (λ (q : ℕ). HasPlace (running ++ t ∷ []) q) (sym here.0) (has_place_last running t)
          | inr had ↦ has_place_left running (t ∷ []) place (table.taken place had.1.0 had.1.1.0)
        ];
        apart = apart;
        many = length-append running (t ∷ []) ∙ ap (λ (m : ℕ). m + 1) table.many;
        few = subst (λ (m : ℕ). count + 1 ≤ m) (sym joined_length) (omega (arith, room));
        frees = are_free;
      }

  was_filled : (place : ℕ) (other : ObjectView TimerRecord) → object_at filled place ≡ Some other
      → ((place ≡ t.place) × (block ≡ other.block)) ⊎ ((place ≢ t.place) × (object_at places place ≡ Some other))
  was_filled place other at = elim (cases_eq place t.place) [
    | inl e ↦ inl (
      e,
      ap (λ (o : ObjectView TimerRecord). o.block)
          (same_Some object other (sym there ∙ ap (object_at filled) (sym e) ∙ at)),
    )
    | inr ne ↦ inr (ne, sym (stays_filled place ne) ∙ at)
  ]

  -- each object has a block of its own once it is put
  pub apart_filled : AreApart filled
  apart_filled a b x y at_a at_b same = elim (was_filled a x at_a) [
    | inl here ↦ elim (was_filled b y at_b) [
      | inl also ↦ here.0 ∙ sym also.0
      | inr wb ↦ absurd (fresh b y wb.1 (sym same ∙ sym here.1))
    ]
    | inr wa ↦ elim (was_filled b y at_b) [
      | inl also ↦ absurd (fresh a x wa.1 (same ∙ sym also.1))
      | inr wb ↦ table.apart a b x y wa.1 wb.1 same
    ]
  ]

  -- the link to the last of its list leads to a place
  pub last_low : last ≤ length filled
  last_low = elim last_one [
    | inl none ↦ omega (arith, chain.last, none)
    | inr u ↦ omega (arith, chain.last, u.1.0, length-set places t.place (Some object), within places u.0.place _ u.1.1.1.1.at)
  ]

  -- a block that is neither one of the places' nor the new one stays far
  pub far_joined : (other : ℕ) → other ≢ block → IsFar places other → IsFar joined other
  far_joined other ne far place one at = elim (was place one at) [
    | inl here ↦ λ same. ne (sym same ∙ sym here.1)
    | inr had ↦ λ same. far place had.1.0 had.1.1.0 (had.1.1.1 ∙ same)
  ]

  -- the timer leads back to the one before it in its list, and the others as before
  back_in : (backs : List ℕ) → AreBacks backs (length places) (length lists) running → (j : ℕ) → j < length lists
      → LeadBack (set backs t.place last) 0 (in_list (length lists) j (running ++ t ∷ []))
  back_in backs were j small =
      let us = in_list (length lists) j running in
      let its : IsChain places (ends_at lists j) us = table.chains j _ small in
      let kept : LeadBack (set backs t.place last) 0 us =
      back_kept backs 0 t.place last us
      (each_weaker (IsStanding places) (λ s. s.place ≢ t.place) not_there us (each_leads places us (ends_at lists j).first 0 its.leads))
      (were.each j small) in
      elim (cases_eq j k) [
        | inl e ↦
            let joined_is : in_list (length lists) j (running ++ t ∷ []) ≡ us ++ t ∷ [] =
            ap (λ (i : ℕ). in_list (length lists) i (running ++ t ∷ [])) e ∙ its_list
            ∙ ap (λ (i : ℕ). in_list (length lists) i running ++ t ∷ []) (sym e) in
            let last_is : last ≡ behind 0 us =
            chain.last ∙ ap (λ (i : ℕ). last_link (in_list (length lists) i running)) (sym e) ∙ sym (behind_last us) in
            subst (λ (l : List Placed). LeadBack (set backs t.place last) 0 l) (sym joined_is)
            (back_join (set backs t.place last) 0 us (t ∷ []) kept
            (get_or-set_same backs t.place last 0 (subst (λ (m : ℕ). t.place < m) (sym were.all) place_low) ∙ last_is, tt))
        | inr ne ↦ subst (λ (l : List Placed). LeadBack (set backs t.place last) 0 l) (sym (other_list j ne)) kept
      ]

  -- so they are the links back with the timer
  pub backs_started : (backs : List ℕ) → AreBacks backs (length places) (length lists) running
      → AreBacks (backed (t.place + 1) last backs) (length joined) (length joined_lists) (running ++ t ∷ [])
  backs_started backs were =
      let at : backed (t.place + 1) last backs ≡ set backs t.place last = backed_at t.place (t.place + 1) last backs refl in
      let same_lists : length joined_lists ≡ length lists = length-set lists k (ends_joined (t.place + 1) (ends_at lists k)) in
      record {
        all = backed_length (t.place + 1) last backs ∙ were.all ∙ sym joined_length;
        each = λ j small. subst (λ (b : List ℕ). LeadBack b 0 (in_list (length joined_lists) j (running ++ t ∷ []))) (sym at)
            (subst (λ (m : ℕ). LeadBack (set backs t.place last) 0 (in_list m j (running ++ t ∷ []))) (sym same_lists)
            (back_in backs were j (subst (λ (m : ℕ). j < m) same_lists small)));
      }
