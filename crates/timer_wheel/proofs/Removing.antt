-- A timer is taken out of its list and its place: the rest stays a table.
use Rattle.std.proofs.Common.{◌≡◌, ◌≢◌, ℕ, ◌+◌, ◌%◌, ◌<◌, ◌≤◌, ◌==◌, Bool, true, Option, None, Some, List, [], ◌∷◌, ◌++◌}
use Rattle.std.proofs.Common.{length, get_or, set, cond, filter, refl, sym, ap, subst, ◌∙◌, arith, ◌⊎◌, inl, inr, append-nil}
use Rattle.std.specs.Prelude.{slice_index}
use Rattle.std.proofs.lemmas.Bool.{cases_lt, cases_eq}
use Rattle.std.proofs.lemmas.Bool.Decides.{nat_tests}
use Rattle.std.proofs.lemmas.List.{get_or-set_same, get_or-set_other, get_or_past, length-set}
use Rattle.std.proofs.lemmas.Option.{none-some, same_Some}
use Rattle.object_store.specs.Objects.{ObjectView}
use Rattle.timer_wheel.specs.declared.record.TimerRecord.{TimerRecord}
use Rattle.timer_wheel.specs.declared.changes.Placed.{Placed}
use Rattle.timer_wheel.specs.declared.chain.Chain.{Chain}
use Rattle.timer_wheel.specs.Backs.{LeadBack, AreBacks, backed}
use Rattle.timer_wheel.specs.Places.{Places, Leads, Stands, IsChain, ends_at, ends_cut, first_led, in_list, last_link, list_of}
use Rattle.timer_wheel.specs.Places.{object_at, record_of, relinked, with_next}
use Rattle.timer_wheel.specs.Tables.{Each, AreDistinct, AreFree, HasPlace, IsTable}
use Rattle.timer_wheel.proofs.Lists.{each_left, each_right, each_weaker, each_both, each_filter, each_passes, filter_swap, filter_split}
use Rattle.timer_wheel.proofs.Lists.{distinct_filter, distinct_left, distinct_right, distinct_across, distinct_before, distinct_behind}
use Rattle.timer_wheel.proofs.Lists.{keep, kept_others}
use Rattle.timer_wheel.proofs.Lists.{without_one, each_other, one_fewer, other_passes, same_fails}
use Rattle.timer_wheel.proofs.Backs.{back_kept, behind, behind_last, back_split, back_join, back_first, backed_at, backed_length}
use Rattle.timer_wheel.proofs.Chains.{IsStanding, leads_split, leads_join, each_leads}
use Rattle.timer_wheel.proofs.Chains.{leads_kept, within, same_record, other_number, other_due}
use Rattle.timer_wheel.proofs.Chains.{ArePlacedApart, placed_apart, last_of, last_append}
use Rattle.timer_wheel.proofs.Chains.{led_on, relinked_other, relinked_at, relinked_length}

-- the test of a list, passed
pub in_its_list : (n k : ℕ) (t : Placed) → (list_of n t == k) ≡ true → list_of n t ≡ k
in_its_list n k t e = grind (arith, nat_tests)

-- timers of two lists are due at two moments
pub other_lists : (n j k : ℕ) (s t : Placed) → list_of n s ≡ j → list_of n t ≡ k → j ≢ k → s.due ≢ t.due
other_lists n j k s t one other ne same = ne (sym one ∙ ap (λ (d : ℕ). d % n) same ∙ other)

-- what stands behind a new link stood there before it, in its block
pub was_linked : (before next : ℕ) (places : Places) (place : ℕ) (object : ObjectView TimerRecord)
    → object_at (relinked before next places) place ≡ Some object
    → (was : ObjectView TimerRecord) × ((object_at places place ≡ Some was) × (was.block ≡ object.block))
was_linked before next places place object at = elim (cases_eq (place + 1) before) [
  | inr ne ↦ (object, (sym (relinked_other before next places place ne) ∙ at, refl))
  | inl e ↦ elim (cases_lt place (length places)) [
    | inl low ↦ found (object_at places place) refl (sym (relinked_at before next places place e low) ∙ at)
    | inr high ↦ absurd (none-some object
        (sym (get_or_past (relinked before next places) place None (subst (λ (n : ℕ). n ≤ place) (sym (relinked_length before next
        places)) high))
        ∙ at))
  ]
]
  where
    found : (o : Option (ObjectView TimerRecord)) → object_at places place ≡ o → with_next next o ≡ Some object
        → (was : ObjectView TimerRecord) × ((object_at places place ≡ Some was) × (was.block ≡ object.block))
    found None is e = absurd (none-some object e)
    found (Some was) is e = (
      was,
      (
        is,
        ap (λ (o : ObjectView TimerRecord). o.block)
            (same_Some (record was { value = record was.value { next = next } }) object e),
      ),
    )

-- where nothing stood, nothing stands
pub empty_linked : (before next : ℕ) (places : Places) (place : ℕ) → object_at places place ≡ None
    → object_at (relinked before next places) place ≡ None
empty_linked before next places place none = found (object_at (relinked before next places) place) refl
  where
    found : (o : Option (ObjectView TimerRecord)) → object_at (relinked before next places) place ≡ o
        → object_at (relinked before next places) place ≡ None
    found None e = e
    found (Some object) e =
        let was = was_linked before next places place object e in absurd (none-some was.0 (sym none ∙ was.1.0))

-- a place of another timer stays one of those that run
has_place_kept : (t : Placed) (running : List Placed) (place : ℕ) → Each (λ s. (s.number ≢ t.number) ⊎ (s ≡ t)) running
    → HasPlace running place → place ≢ t.place → HasPlace (filter (keep t.number) running) place
has_place_kept t [] place each has ne = has
has_place_kept t (s ∷ ss) place each has ne = elim each.0 [
  | inl other ↦ subst (λ (l : List Placed). HasPlace l place)
      (sym (ap (λ (b : Bool). cond b (s ∷ filter (keep t.number) ss) (filter (keep t.number) ss))
      (other_passes s.number t.number other)))
      (elim has [ inl e ↦ inl e | inr more ↦ inr (has_place_kept t ss place each.1 more ne) ])
  | inr same ↦ subst (λ (l : List Placed). HasPlace l place)
      (sym (ap (λ (b : Bool). cond b (s ∷ filter (keep t.number) ss) (filter (keep t.number) ss))
      (same_fails s.number t.number (ap (λ (u : Placed). u.number) same))))
      (elim has [
        | inl e ↦ absurd (ne (sym e ∙ ap (λ (u : Placed). u.place) same))
        | inr more ↦ has_place_kept t ss place each.1 more ne
      ])
]

module _ (places : Places) (free : List ℕ) (lists : List Chain) (running : List Placed) (count left : ℕ)
    (table : IsTable places free lists running count) (k before next : ℕ) (front : List Placed) (t : Placed) (rest : List Placed)
    (low : k < length lists) (chain : in_list (length lists) k running ≡ front ++ t ∷ rest) (led : before ≡ last_link front)
    (stands : Stands places t next) (one : left + 1 ≡ count) where
  abbrev linked : Places
  linked = relinked before next places

  abbrev emptied : Places
  emptied = set linked t.place None

  abbrev kept : List Placed
  kept = filter (keep t.number) running

  place_low : t.place < length places
  place_low = within places t.place _ stands.at

  gone : object_at emptied t.place ≡ None
  gone = get_or-set_same linked t.place None None (subst (λ (m : ℕ). t.place < m) (sym (relinked_length before next places)) place_low)

  stays_linked : (q : ℕ) → q ≢ t.place → object_at emptied q ≡ object_at linked q
  stays_linked q ne = get_or-set_other linked t.place q None None ne

  stays : (q : ℕ) → q ≢ t.place → q + 1 ≢ before → object_at emptied q ≡ object_at places q
  stays q ne else = stays_linked q ne ∙ relinked_other before next places q else

  old_chain : IsChain places (ends_at lists k) (front ++ t ∷ rest)
  old_chain = subst (λ (ts : List Placed). IsChain places (ends_at lists k) ts) chain (table.chains k _ low)

  distinct : AreDistinct (front ++ t ∷ rest)
  distinct = subst AreDistinct chain (distinct_filter (λ s. list_of (length lists) s == k) running table.distinct)

  -- each timer of the list stands
  pub standing : Each (IsStanding places) (front ++ t ∷ rest)
  standing = each_leads places (front ++ t ∷ rest) (ends_at lists k).first 0 old_chain.leads

  listed : Each (λ s. list_of (length lists) s ≡ k) (front ++ t ∷ rest)
  listed =
      each_weaker (λ s. (list_of (length lists) s == k) ≡ true) (λ s. list_of (length lists) s ≡ k) (in_its_list (length lists) k)
      (front ++ t ∷ rest)
      (subst (λ (ts : List Placed). Each (λ s. (list_of (length lists) s == k) ≡ true) ts) chain
      (each_passes (λ s. list_of (length lists) s == k) running))

  -- the timer before, if any: it is in this list, stands, and isn't one of those behind
  abbrev IsBefore : Placed → Type 0
  IsBefore u = (list_of (length lists) u ≡ k) × (IsStanding places u × Each (λ s. s.number ≢ u.number) (t ∷ rest))

  before_it : (last_link front ≡ 0) ⊎ ((u : Placed) × ((last_link front ≡ u.place + 1) × IsBefore u))
  before_it = last_of IsBefore front
      (each_both (λ u. list_of (length lists) u ≡ k) (λ u. IsStanding places u × Each (λ s. s.number ≢ u.number) (t ∷ rest)) IsBefore
      (λ u a b. (a, b)) front
      (each_left (λ s. list_of (length lists) s ≡ k) front (t ∷ rest) listed)
      (each_both (IsStanding places) (λ u. Each (λ s. s.number ≢ u.number) (t ∷ rest))
      (λ u. IsStanding places u × Each (λ s. s.number ≢ u.number) (t ∷ rest)) (λ u a b. (a, b)) front
      (each_left (IsStanding places) front (t ∷ rest) standing) (distinct_across front (t ∷ rest) distinct)))

  -- a timer of another list isn't the one before
  else_due : (j : ℕ) (s : Placed) → j ≢ k → list_of (length lists) s ≡ j → IsStanding places s → s.place + 1 ≢ before
  else_due j s ne of_list at same = elim before_it [
    | inl none ↦ omega (arith, same, led, none)
    | inr u ↦ other_due places s u.0 at u.1.1.1.0 (other_lists (length lists) j k s u.0 of_list u.1.1.0 ne)
        (omega (arith, same, led, u.1.0))
  ]

  -- nor is one behind it
  else_behind : Each (λ s. s.place + 1 ≢ before) (t ∷ rest)
  else_behind = elim before_it [
    | inl none ↦ each_weaker (IsStanding places) (λ s. s.place + 1 ≢ before) (λ s at same. omega (arith, same, led, none)) (t ∷ rest)
        (each_right (IsStanding places) front (t ∷ rest) standing)
    | inr u ↦ each_both (IsStanding places) (λ s. s.number ≢ u.0.number) (λ s. s.place + 1 ≢ before)
        (λ s at ne same. other_number places s u.0 at u.1.1.1.0 ne (omega (arith, same, led, u.1.0))) (t ∷ rest)
        (each_right (IsStanding places) front (t ∷ rest) standing) u.1.1.1.1
  ]

  -- those around it stand at other places
  front_else : Each (λ s. s.place ≢ t.place) front
  front_else = each_both (IsStanding places) (λ s. s.number ≢ t.number) (λ s. s.place ≢ t.place)
      (λ s at ne. other_number places s t at (next, stands) ne) front (each_left (IsStanding places) front (t ∷ rest) standing)
      (distinct_before front t rest distinct)

  rest_else : Each (λ s. s.place ≢ t.place) rest
  rest_else = each_both (IsStanding places) (λ s. s.number ≢ t.number) (λ s. s.place ≢ t.place)
      (λ s at ne. other_number places s t at (next, stands) ne) rest (each_right (IsStanding places) front (t ∷ rest) standing).1
      (distinct_behind front t rest distinct)

  -- the link to the timer before leads to a place, if to anything
  pub before_low : before ≤ length places
  before_low = elim before_it [
    | inl none ↦ omega (arith, led, none)
    | inr u ↦ omega (arith, led, u.1.0, within places u.0.place _ u.1.1.1.0.1.at)
  ]

  -- the timer's own place isn't touched when it is cut out of its list
  pub cut_stands : object_at linked t.place ≡ Some (record { block = stands.block; value = record_of t next })
  cut_stands = relinked_other before next places t.place else_behind.0 ∙ stands.at

  -- the chain leads on behind it
  pub rest_leads : Leads emptied next rest 0
  rest_leads =
      let split = leads_split places front (t ∷ rest) (ends_at lists k).first 0 old_chain.leads in
      let behind = split.1.1 in
      let same : behind.1.0 ≡ next =
      ap (λ (r : TimerRecord). r.next) (same_record places t t behind.1.0 next behind.1.1.0 stands refl) in
      leads_kept places emptied rest next 0
      (each_both (λ s. s.place ≢ t.place) (λ s. s.place + 1 ≢ before) (λ s. object_at emptied s.place ≡ object_at places s.place)
      (λ s ne else. stays s.place ne else) rest rest_else else_behind.1)
      (subst (λ (from : ℕ). Leads places from rest 0) same behind.1.1.1)

  front_leads : Leads emptied (first_led before next (ends_at lists k).first) front next
  front_leads =
      let split = leads_split places front (t ∷ rest) (ends_at lists k).first 0 old_chain.leads in
      leads_kept linked emptied front (first_led before next (ends_at lists k).first) next
      (each_weaker (λ s. s.place ≢ t.place) (λ s. object_at emptied s.place ≡ object_at linked s.place)
      (λ s ne. stays_linked s.place ne) front front_else)
      (led_on next places front (ends_at lists k).first split.0 before led
      (placed_apart places front (distinct_left front (t ∷ rest) distinct) (each_left (IsStanding places) front (t ∷ rest) standing))
      split.1.0)

  -- its end is that of the rest
  ends : (back : List Placed) → back ≡ rest → Leads emptied next back 0
      → first_led next before (ends_at lists k).last ≡ last_link (front ++ back)
  ends [] is leads =
      ap (λ (m : ℕ). first_led m before (ends_at lists k).last) leads ∙ led ∙ ap last_link (sym (append-nil front))
  ends (r ∷ rs) is leads =
      let some : next ≢ 0 = λ z. omega (arith, z, leads.0) in
      kept_first next before (ends_at lists k).last some ∙ old_chain.last
      ∙ ap (λ (back : List Placed). last_link (front ++ t ∷ back)) (sym is)
      ∙ last_append front t (r ∷ rs) ∙ sym (last_append front r rs)
    where
      kept_first : (a b c : ℕ) → a ≢ 0 → first_led a b c ≡ c
      kept_first a b c ne = grind (arith, nat_tests)

  new_chain : IsChain emptied (ends_cut before next (ends_at lists k)) (front ++ rest)
  new_chain = record {
    leads = leads_join emptied front rest (first_led before next (ends_at lists k).first) next 0 front_leads rest_leads;
    last = ends rest refl rest_leads;
  }

  -- its list has the others in their order
  pub its_list : in_list (length lists) k kept ≡ front ++ rest
  its_list =
      filter_swap (λ s. list_of (length lists) s == k) (keep t.number) running ∙ ap (filter (keep t.number)) chain
      ∙ without_one front t rest distinct

  around : (a : List Placed) × ((b : List Placed) × (running ≡ a ++ t ∷ b))
  around = filter_split (λ s. list_of (length lists) s == k) running front t rest chain

  others : Each (λ s. (s.number ≢ t.number) ⊎ (s ≡ t)) running
  others = subst (λ (ts : List Placed). Each (λ s. (s.number ≢ t.number) ⊎ (s ≡ t)) ts) (sym around.1.1)
      (each_other around.0 t around.1.0 (subst AreDistinct around.1.1 table.distinct))

  t_listed : list_of (length lists) t ≡ k
  t_listed = (each_right (λ s. list_of (length lists) s ≡ k) front (t ∷ rest) listed).0

  listed_in : (j : ℕ) → Each (λ s. list_of (length lists) s ≡ j) (in_list (length lists) j running)
  listed_in j =
      each_weaker (λ s. (list_of (length lists) s == j) ≡ true) (λ s. list_of (length lists) s ≡ j) (in_its_list (length lists) j)
      (in_list (length lists) j running) (each_passes (λ s. list_of (length lists) s == j) running)

  -- other lists stay
  other_list : (j : ℕ) → j ≢ k → in_list (length lists) j kept ≡ in_list (length lists) j running
  other_list j ne =
      filter_swap (λ s. list_of (length lists) s == j) (keep t.number) running
      ∙ kept_others t.number (in_list (length lists) j running)
      (each_both (λ s. (s.number ≢ t.number) ⊎ (s ≡ t)) (λ s. list_of (length lists) s ≡ j) (λ s. s.number ≢ t.number)
      (λ s either of_list. elim either [
        | inl other ↦ other
        | inr same ↦ absurd (ne (sym of_list ∙ ap (list_of (length lists)) same ∙ t_listed))
      ])
      (in_list (length lists) j running)
      (each_filter (λ s. (s.number ≢ t.number) ⊎ (s ≡ t)) (λ s. list_of (length lists) s == j) running others) (listed_in j))

  other_chain : (j : ℕ) (ends : Chain) → j ≢ k → IsChain places ends (in_list (length lists) j running)
      → IsChain emptied ends (in_list (length lists) j kept)
  other_chain j ends ne is =
      let ts = in_list (length lists) j running in
      subst (λ (l : List Placed). IsChain emptied ends l) (sym (other_list j ne)) (record {
        leads = leads_kept places emptied ts ends.first 0
            (each_both (IsStanding places) (λ s. list_of (length lists) s ≡ j) (λ s. object_at emptied s.place ≡ object_at places s.place)
            (λ s at of_list. stays s.place
            (other_due places s t at (next, stands) (other_lists (length lists) j k s t of_list t_listed ne))
            (else_due j s ne of_list at))
            ts (each_leads places ts ends.first 0 is.leads) (listed_in j))
            is.leads;
        last = is.last;
      })

  abbrev cut_lists : List Chain
  cut_lists = set lists k (ends_cut before next (ends_at lists k))

  chains : (j : ℕ) (d : Chain) → j < length lists → IsChain emptied (get_or cut_lists j d) (in_list (length lists) j kept)
  chains j d small = elim (cases_eq j k) [
    | inl e ↦ subst (λ (i : ℕ). IsChain emptied (get_or cut_lists i d) (in_list (length lists) i kept)) (sym e)
        (subst (λ (ends : Chain). IsChain emptied ends (in_list (length lists) k kept))
        (sym (get_or-set_same lists k (ends_cut before next (ends_at lists k)) d low))
        (subst (λ (ts : List Placed). IsChain emptied (ends_cut before next (ends_at lists k)) ts) (sym its_list) new_chain))
    | inr ne ↦ subst (λ (ends : Chain). IsChain emptied ends (in_list (length lists) j kept))
        (sym (get_or-set_other lists k j (ends_cut before next (ends_at lists k)) d ne))
        (other_chain j (get_or lists j d) ne (table.chains j d small))
  ]

  -- what stands anywhere stood there, at another place than the timer's
  was : (place : ℕ) (object : ObjectView TimerRecord) → object_at emptied place ≡ Some object
      → (place ≢ t.place) × ((had : ObjectView TimerRecord) × ((object_at places place ≡ Some had) × (had.block ≡ object.block)))
  was place object at = elim (cases_eq place t.place) [
    | inl e ↦ absurd (none-some object (sym gone ∙ ap (object_at emptied) (sym e) ∙ at))
    | inr ne ↦ (ne, was_linked before next places place object (sym (stays_linked place ne) ∙ at))
  ]

  empty_stays : (place : ℕ) → object_at places place ≡ None → object_at emptied place ≡ None
  empty_stays place none = elim (cases_eq place t.place) [
    | inl e ↦ ap (object_at emptied) e ∙ gone
    | inr ne ↦ stays_linked place ne ∙ empty_linked before next places place none
  ]

  emptied_length : length emptied ≡ length places
  emptied_length = length-set linked t.place None ∙ relinked_length before next places

  abbrev freed : List ℕ
  freed = set free left t.place

  left_low : left < length free
  left_low = omega (arith, one, table.few, table.frees.all)

  -- the place on top of the free ones is the timer's, and those behind it stay
  top : slice_index freed left ≡ t.place
  top = get_or-set_same free left t.place 0 left_low

  deeper : (i : ℕ) → left ≤ i → i ≢ left → (count ≤ i) × (slice_index freed i ≡ slice_index free i)
  deeper i above ne = (omega (arith, one, above, ne), get_or-set_other free left i t.place 0 ne)

  not_free : (i : ℕ) → count ≤ i → i < length free → slice_index free i ≢ t.place
  not_free i above small same =
      none-some (record { block = stands.block; value = record_of t next })
      (sym (table.frees.empty i above small) ∙ ap (object_at places) same ∙ stands.at)

  freed_length : length freed ≡ length free
  freed_length = length-set free left t.place

  are_free : AreFree emptied freed left
  are_free = record {
    all = freed_length ∙ table.frees.all ∙ sym emptied_length;
    within = λ i above small. subst (λ (m : ℕ). slice_index freed i < m) (sym emptied_length) (elim (cases_eq i left) [
      | inl e ↦ subst (λ (q : ℕ). q < length places) (sym (ap (slice_index freed) e ∙ top)) place_low
      | inr ne ↦
          let d = deeper i above ne in
          subst (λ (q : ℕ). q < length places) (sym d.1) (table.frees.within i d.0 (subst (λ (m : ℕ). i < m) freed_length small))
    ]);
    empty = λ i above small. elim (cases_eq i left) [
      | inl e ↦ ap (object_at emptied) (ap (slice_index freed) e ∙ top) ∙ gone
      | inr ne ↦
          let d = deeper i above ne in
          ap (object_at emptied) d.1
          ∙ empty_stays (slice_index free i) (table.frees.empty i d.0 (subst (λ (m : ℕ). i < m) freed_length small))
    ];
    distinct = λ i j above less small same.
        let small_j : j < length free = subst (λ (m : ℕ). j < m) freed_length small in
        let dj = deeper j (omega (arith, above, less)) (λ e. absurd (omega (arith, above, less, e))) in
        elim (cases_eq i left) [
          | inl e ↦ not_free j dj.0 small_j (sym dj.1 ∙ sym same ∙ ap (slice_index freed) e ∙ top)
          | inr ne ↦
              let di = deeper i above ne in
              table.frees.distinct i j di.0 less small_j (sym di.1 ∙ same ∙ dj.1)
        ];
  }

  -- they are a table without the timer
  pub removed : IsTable emptied freed cut_lists kept left
  removed =
      let same_lists : length cut_lists ≡ length lists = length-set lists k (ends_cut before next (ends_at lists k)) in
      record {
        some = subst (λ (m : ℕ). 1 ≤ m) (sym same_lists) table.some;
        chains = λ j d small. subst (λ (m : ℕ). IsChain emptied (get_or cut_lists j d) (in_list m j kept)) (sym same_lists)
            (chains j d (subst (λ (m : ℕ). j < m) same_lists small));
        distinct = distinct_filter (keep t.number) running table.distinct;
        taken = λ place object at.
            let w = was place object at in
            has_place_kept t running place others (table.taken place w.1.0 w.1.1.0) w.0;
        apart = λ a b x y at_a at_b same.
            let wa = was a x at_a in
            let wb = was b y at_b in
            table.apart a b wa.1.0 wb.1.0 wa.1.1.0 wb.1.1.0 (wa.1.1.1 ∙ same ∙ sym wb.1.1.1);
        many =
            let all : length running ≡ length (around.0 ++ t ∷ around.1.0) = ap length around.1.1 in
            let fewer : length (filter (keep t.number) running) + 1 ≡ length (around.0 ++ t ∷ around.1.0) =
            ap (λ (l : List Placed). length (filter (keep t.number) l) + 1) around.1.1
            ∙ one_fewer around.0 t around.1.0 (subst AreDistinct around.1.1 table.distinct) in
            omega (arith, all, fewer, one, table.many);
        few = subst (λ (m : ℕ). left ≤ m) (sym emptied_length) (omega (arith, one, table.few));
        frees = are_free;
      }

  -- the link on leads to a place, if to anything
  pub next_low : next ≤ length places
  next_low = low_in rest rest_leads
    where
      low_in : (back : List Placed) → Leads emptied next back 0 → next ≤ length places
      low_in [] l = omega (arith, l)
      low_in (r ∷ rs) l = omega (arith, l.0, within emptied r.place _ l.1.1.0.at, emptied_length)

  -- those of its list lead back without it
  its_backs : (backs : List ℕ) → AreBacks backs (length places) (length lists) running → (back : List Placed) → rest ≡ back
      → Leads emptied next back 0 → LeadBack (backed next before backs) 0 (front ++ back)
  its_backs backs were back is leads = by back is leads
    where
      split : LeadBack backs 0 front × LeadBack backs (behind 0 front) (t ∷ rest)
      split = back_split backs 0 front (t ∷ rest) (subst (LeadBack backs 0) chain (were.each k low))

      by : (back : List Placed) → rest ≡ back → Leads emptied next back 0 → LeadBack (backed next before backs) 0 (front ++ back)
      by [] is leads =
          subst (λ (b : List ℕ). LeadBack b 0 (front ++ [])) (sym (ap (λ (m : ℕ). backed m before backs) leads))
          (subst (LeadBack backs 0) (sym (append-nil front)) split.0)
      by (r ∷ rs) is leads =
          let behind_it = (each_right (IsStanding places) front (t ∷ rest) standing).1 in
          let stand : Each (IsStanding places) (r ∷ rs) = subst (Each (IsStanding places)) is behind_it in
          let front_apart : Each (λ s. s.place ≢ r.place) front =
          each_both (IsStanding places) (λ u. Each (λ s. s.number ≢ u.number) (t ∷ rest)) (λ s. s.place ≢ r.place)
          (λ s at each. other_number places s r at stand.0
          (λ same. (subst (Each (λ v. v.number ≢ s.number)) is each.1).0 (sym same)))
          front (each_left (IsStanding places) front (t ∷ rest) standing) (distinct_across front (t ∷ rest) distinct) in
          let apart : ArePlacedApart (r ∷ rs) =
          placed_apart places (r ∷ rs) (subst AreDistinct is (distinct_right front (t ∷ rest) distinct).1) stand in
          subst (λ (b : List ℕ). LeadBack b 0 (front ++ r ∷ rs)) (sym (backed_at r.place next before backs leads.0))
          (back_join (set backs r.place before) 0 front (r ∷ rs) (back_kept backs 0 r.place before front front_apart split.0)
          (subst (λ (b : ℕ). LeadBack (set backs r.place before) b (r ∷ rs)) (led ∙ sym (behind_last front))
          (back_first backs (t.place + 1) before r rs
          (subst (λ (m : ℕ). r.place < m) (sym were.all) (within places r.place _ stand.0.1.at)) apart.0
          (subst (LeadBack backs (t.place + 1)) is split.1.1))))

  -- those of another one as before
  other_backs : (backs : List ℕ) → AreBacks backs (length places) (length lists) running → (j : ℕ) → j < length lists → j ≢ k
      → (back : List Placed) → rest ≡ back → Leads emptied next back 0
      → LeadBack (backed next before backs) 0 (in_list (length lists) j running)
  other_backs backs were j small ne [] is leads =
      subst (λ (b : List ℕ). LeadBack b 0 (in_list (length lists) j running)) (sym (ap (λ (m : ℕ). backed m before backs) leads))
      (were.each j small)
  other_backs backs were j small ne (r ∷ rs) is leads =
      let us = in_list (length lists) j running in
      let its : IsChain places (ends_at lists j) us = table.chains j _ small in
      let stand : Each (IsStanding places) (r ∷ rs) =
      subst (Each (IsStanding places)) is (each_right (IsStanding places) front (t ∷ rest) standing).1 in
      let of_list : Each (λ s. list_of (length lists) s ≡ k) (r ∷ rs) =
      subst (Each (λ s. list_of (length lists) s ≡ k)) is (each_right (λ s. list_of (length lists) s ≡ k) front (t ∷ rest) listed).1 in
      subst (λ (b : List ℕ). LeadBack b 0 us) (sym (backed_at r.place next before backs leads.0))
      (back_kept backs 0 r.place before us
      (each_both (IsStanding places) (λ s. list_of (length lists) s ≡ j) (λ s. s.place ≢ r.place)
      (λ s at of_its. other_due places s r at stand.0 (other_lists (length lists) j k s r of_its of_list.0 ne))
      us (each_leads places us (ends_at lists j).first 0 its.leads) (listed_in j))
      (were.each j small))

  -- so they are the links back without the timer
  pub backs_removed : (backs : List ℕ) → AreBacks backs (length places) (length lists) running
      → AreBacks (backed next before backs) (length emptied) (length cut_lists) kept
  backs_removed backs were =
      let same_lists : length cut_lists ≡ length lists = length-set lists k (ends_cut before next (ends_at lists k)) in
      record {
        all = backed_length next before backs ∙ were.all ∙ sym emptied_length;
        each = λ j small. subst (λ (m : ℕ). LeadBack (backed next before backs) 0 (in_list m j kept)) (sym same_lists)
            (elim (cases_eq j k) [
              | inl e ↦ subst (LeadBack (backed next before backs) 0)
                  (sym (ap (λ (i : ℕ). in_list (length lists) i kept) e ∙ its_list)) (its_backs backs were rest refl rest_leads)
              | inr ne ↦ subst (LeadBack (backed next before backs) 0) (sym (other_list j ne))
                  (other_backs backs were j (subst (λ (m : ℕ). j < m) same_lists small) ne rest refl rest_leads)
            ]);
      }
