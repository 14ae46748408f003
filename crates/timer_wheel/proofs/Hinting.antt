-- The timer at a place: its spot is told by its record and its link back, without a walk.
use Rattle.std.proofs.Common.{◌≡◌, ℕ, ◌%◌, ◌<◌, ◌==◌, inl, inr, true, Option, None, Some, List, [], ◌∷◌, ◌++◌}
use Rattle.std.proofs.Common.{get_or, length, option_map, refl, sym, ap, subst, ◌∙◌, arith}
use Rattle.std.specs.Prelude.{slice_index}
use Rattle.std.proofs.lemmas.List.{get_or_default}
use Rattle.std.proofs.lemmas.List.Elements.{filter-append}
use Rattle.std.proofs.lemmas.Nat.{mod_below}
use Rattle.std.proofs.lemmas.Option.{none-some, same_Some}
use Rattle.object_store.specs.Objects.{ObjectView}
use Rattle.timer_wheel.specs.declared.record.TimerRecord.{TimerRecord}
use Rattle.timer_wheel.specs.declared.changes.Placed.{Placed}
use Rattle.timer_wheel.specs.declared.chain.Chain.{Chain}
use Rattle.timer_wheel.specs.Backs.{LeadBack, AreBacks}
use Rattle.timer_wheel.specs.Places.{Places, Stands, in_list, last_link, list_of, object_at, record_of, value_at}
use Rattle.timer_wheel.specs.Spots.{IsSpot}
use Rattle.timer_wheel.specs.Tables.{Each, HasPlace, IsTable}
use Rattle.timer_wheel.proofs.Lists.{each_right, filter_first}
use Rattle.timer_wheel.proofs.Backs.{back_split, behind_last}
use Rattle.timer_wheel.proofs.Chains.{IsStanding, within}
use Rattle.timer_wheel.proofs.Joining.{passes_own}
use Rattle.timer_wheel.proofs.Finding.{all_stand}

-- a timer among others
pub record IsAmong (place : ℕ) (running : List Placed) : Type 0 where
  pub front : List Placed
  pub t : Placed
  pub rest : List Placed
  pub is : running ≡ front ++ t ∷ rest
  pub at : t.place ≡ place

-- one that has the place
among : (place : ℕ) (running : List Placed) → HasPlace running place → IsAmong place running
among place [] has = absurd has
among place (t ∷ ts) has = elim has [
  | inl e ↦ record { front = []; t = t; rest = ts; is = refl; at = e }
  | inr more ↦
      let r = among place ts more in
      record { front = t ∷ r.front; t = r.t; rest = r.rest; is = ap (λ (l : List Placed). t ∷ l) r.is; at = r.at }
]

-- what is read at a place stands there
read_at : (places : Places) (place : ℕ) (timer : TimerRecord) → value_at places place ≡ Some timer
    → (object : ObjectView TimerRecord) × ((object_at places place ≡ Some object) × (object.value ≡ timer))
read_at places place timer read = found (object_at places place) refl
  where
    found : (o : Option (ObjectView TimerRecord)) → object_at places place ≡ o
        → (object : ObjectView TimerRecord) × ((object_at places place ≡ Some object) × (object.value ≡ timer))
    found None e = absurd (none-some timer (sym (ap (option_map (λ (o : ObjectView TimerRecord). o.value)) e) ∙ read))
    found (Some object) e = (
      object,
      (e, same_Some object.value timer (sym (ap (option_map (λ (o : ObjectView TimerRecord). o.value)) e) ∙ read)),
    )

module _ (places : Places) (free : List ℕ) (lists : List Chain) (running : List Placed) (count : ℕ)
    (table : IsTable places free lists running count) (backs : List ℕ) (were : AreBacks backs (length places) (length lists) running)
    (place : ℕ) (timer : TimerRecord) (read : value_at places place ≡ Some timer) where
  found : (object : ObjectView TimerRecord) × ((object_at places place ≡ Some object) × (object.value ≡ timer))
  found = read_at places place timer read

  -- it is a place
  pub hint_low : place < length places
  hint_low = within places place found.0 found.1.0

  it : IsAmong place running
  it = among place running (table.taken place found.0 found.1.0)

  abbrev k : ℕ
  k = timer.due % length lists

  stands : IsStanding places it.t
  stands = (each_right (IsStanding places) it.front (it.t ∷ it.rest)
      (subst (Each (IsStanding places)) it.is (all_stand places free lists running count table))).0

  timer_is : timer ≡ record_of it.t stands.0
  timer_is = sym found.1.1
      ∙ ap (λ (o : ObjectView TimerRecord). o.value)
      (same_Some found.0 (record { block = stands.1.block; value = record_of it.t stands.0 })
      (sym found.1.0 ∙ ap (object_at places) (sym it.at) ∙ stands.1.at))

  next_is : stands.0 ≡ timer.next
  next_is = ap (λ (r : TimerRecord). r.next) (sym timer_is)

  low : k < length lists
  low = mod_below timer.due (length lists) (omega (arith, table.some))

  own : (list_of (length lists) it.t == k) ≡ true
  own = passes_own (length lists) k it.t (ap (λ (r : TimerRecord). r.due % length lists) (sym timer_is))

  chain : in_list (length lists) k running ≡ in_list (length lists) k it.front ++ it.t ∷ in_list (length lists) k it.rest
  chain = ap (in_list (length lists) k) it.is
      ∙ filter-append (λ s. list_of (length lists) s == k) it.front (it.t ∷ it.rest)
      ∙ ap (λ (l : List Placed). in_list (length lists) k it.front ++ l)
      (filter_first (λ s. list_of (length lists) s == k) it.t it.rest own)

  led : slice_index backs place ≡ last_link (in_list (length lists) k it.front)
  led = ap (slice_index backs) (sym it.at)
      ∙ (back_split backs 0 (in_list (length lists) k it.front) (it.t ∷ in_list (length lists) k it.rest)
      (subst (LeadBack backs 0) chain (were.each k low))).1.0
      ∙ behind_last (in_list (length lists) k it.front)

  -- its spot: the list of its due, behind the timer to which its link back leads
  pub hint_spot : (list before : ℕ) → list ≡ k → before ≡ get_or backs place before
      → IsSpot places (length lists) running (record { list = list; before = before; place = place; timer = timer })
  hint_spot list before list_is back = record {
    front = in_list (length lists) k it.front;
    t = it.t;
    rest = in_list (length lists) k it.rest;
    is = record {
      list = subst (λ (j : ℕ). j < length lists) (sym list_is) low;
      chain = ap (λ (j : ℕ). in_list (length lists) j running) list_is ∙ chain;
      before = back ∙ get_or_default backs place before 0 (subst (λ (m : ℕ). place < m) (sym were.all) hint_low) ∙ led;
      place = sym it.at;
      timer = timer_is ∙ ap (record_of it.t) next_is;
      stands = subst (Stands places it.t) next_is stands.1;
    };
  }
