-- Chains of places: how one is cut and joined, and what another link makes of it.
use Rattle.std.proofs.Common.{◌≡◌, ◌≢◌, ℕ, ◌+◌, ◌-◌, ◌<◌, ◌==◌}
use Rattle.std.proofs.Common.{Bool, true, false, cond, Option, None, Some, List, [], ◌∷◌, ◌++◌}
use Rattle.std.proofs.Common.{length, get_or, set, refl, sym, ap, subst, ◌∙◌, arith, ◌⊎◌, inl, inr}
use Rattle.std.proofs.lemmas.Bool.{cases_lt, cases_eq}
use Rattle.std.proofs.lemmas.Bool.Decides.{nat_tests}
use Rattle.std.proofs.lemmas.List.{get_or-set_same, get_or-set_other, get_or_past, get_or_default, length-set, set-set}
use Rattle.std.proofs.lemmas.Option.{none-some, same_Some}
use Rattle.object_store.specs.Objects.{ObjectView}
use Rattle.timer_wheel.specs.declared.record.TimerRecord.{TimerRecord}
use Rattle.timer_wheel.specs.declared.changes.Placed.{Placed}
use Rattle.timer_wheel.specs.Places.{Places, Leads, Stands, first_led, last_link, object_at, record_of, relinked, with_next}
use Rattle.timer_wheel.specs.Tables.{Each, AreDistinct}
use Rattle.timer_wheel.proofs.Lists.{each_both}

-- it stands at its place, whatever its link
abbrev pub IsStanding : Places → Placed → Type 0
IsStanding places t = (next : ℕ) × Stands places t next

-- ---- cutting and joining

-- a chain of two parts is a chain of each
pub leads_split : (places : Places) (a b : List Placed) (from to : ℕ) → Leads places from (a ++ b) to
    → (mid : ℕ) × (Leads places from a mid × Leads places mid b to)
leads_split places [] b from to l = (from, (refl, l))
leads_split places (t ∷ a) b from to l =
    let r = leads_split places a b l.1.0 to l.1.1.1 in
    (r.0, ((l.0, (l.1.0, (l.1.1.0, r.1.0))), r.1.1))

-- two chains behind each other are one
pub leads_join : (places : Places) (a b : List Placed) (from mid to : ℕ) → Leads places from a mid → Leads places mid b to
    → Leads places from (a ++ b) to
leads_join places [] b from mid to l m = subst (λ (f : ℕ). Leads places f b to) (sym l) m
leads_join places (t ∷ a) b from mid to l m = (l.0, (l.1.0, (l.1.1.0, leads_join places a b l.1.0 mid to l.1.1.1 m)))

-- each timer of a chain stands at its place
pub each_leads : (places : Places) (ts : List Placed) (from to : ℕ) → Leads places from ts to → Each (IsStanding places) ts
each_leads places [] from to l = tt
each_leads places (t ∷ ts) from to l = ((l.1.0, l.1.1.0), each_leads places ts l.1.0 to l.1.1.1)

-- where the places of its timers keep what stands there, a chain stays
pub leads_kept : (old new : Places) (ts : List Placed) (from to : ℕ)
    → Each (λ t. object_at new t.place ≡ object_at old t.place) ts → Leads old from ts to → Leads new from ts to
leads_kept old new [] from to each l = l
leads_kept old new (t ∷ ts) from to each l =
    let stands = l.1.1.0 in
    (l.0, (l.1.0, (record { block = stands.block; at = each.0 ∙ stands.at }, leads_kept old new ts l.1.0 to each.1 l.1.1.1)))

-- ---- places

-- what has something at it is a place
pub within : (places : Places) (place : ℕ) (object : ObjectView TimerRecord) → object_at places place ≡ Some object → place < length places
within places place object at = elim (cases_lt place (length places)) [
  | inl low ↦ low
  | inr high ↦ absurd (none-some object (sym (get_or_past places place None high) ∙ at))
]

-- timers that stand at one place have one record but for the link
pub same_record : (places : Places) (s t : Placed) (m n : ℕ) → Stands places s m → Stands places t n → s.place ≡ t.place
    → record_of s m ≡ record_of t n
same_record places s t m n one other same =
    ap (λ (o : ObjectView TimerRecord). o.value)
    (same_Some (record { block = one.block; value = record_of s m }) (record { block = other.block; value = record_of t n })
    (sym one.at ∙ ap (object_at places) same ∙ other.at))

-- so those with other numbers, or due at other moments, stand at other places
pub other_number : (places : Places) (s t : Placed) → IsStanding places s → IsStanding places t → s.number ≢ t.number → s.place ≢ t.place
other_number places s t one other ne same =
    ne (ap (λ (r : TimerRecord). r.number) (same_record places s t one.0 other.0 one.1 other.1 same))

-- so do those that are due at other moments
pub other_due : (places : Places) (s t : Placed) → IsStanding places s → IsStanding places t → s.due ≢ t.due → s.place ≢ t.place
other_due places s t one other ne same =
    ne (ap (λ (r : TimerRecord). r.due) (same_record places s t one.0 other.0 one.1 other.1 same))

-- no two stand at one place
abbrev pub ArePlacedApart : List Placed → Type 0
ArePlacedApart [] = Unit {0}
ArePlacedApart (t ∷ ts) = Each (λ other. other.place ≢ t.place) ts × ArePlacedApart ts

-- timers with numbers of their own stand at places of their own
pub placed_apart : (places : Places) (ts : List Placed) → AreDistinct ts → Each (IsStanding places) ts → ArePlacedApart ts
placed_apart places [] d e = tt
placed_apart places (t ∷ ts) d e = (
  each_both (λ s. s.number ≢ t.number) (IsStanding places) (λ s. s.place ≢ t.place)
      (λ s ne stands. other_number places s t stands e.0 ne) ts d.0 e.1,
  placed_apart places ts d.1 e.1,
)

-- ---- the last link

-- the link to the last of some timers leads to a place of theirs, with what holds of each
pub last_of : (Fact : Placed → Type 0) (ts : List Placed) → Each Fact ts
    → (last_link ts ≡ 0) ⊎ ((u : Placed) × ((last_link ts ≡ u.place + 1) × Fact u))
last_of Fact [] e = inl refl
last_of Fact (t ∷ []) e = inr (t, (refl, e.0))
last_of Fact (t ∷ u ∷ us) e = last_of Fact (u ∷ us) e.1

last_some : (u : Placed) (us : List Placed) → last_link (u ∷ us) ≢ 0
last_some u [] e = absurd (omega (arith, e))
last_some u (v ∷ vs) e = last_some v vs e

-- the last of two lists is that of the second
pub last_append : (a : List Placed) (u : Placed) (us : List Placed) → last_link (a ++ u ∷ us) ≡ last_link (u ∷ us)
last_append [] u us = refl
last_append (t ∷ []) u us = refl
last_append (t ∷ v ∷ vs) u us = last_append (v ∷ vs) u us

-- it isn't one to a place that none of them has
last_else : (place : ℕ) (u : Placed) (us : List Placed) → Each (λ s. s.place ≢ place) (u ∷ us) → place + 1 ≢ last_link (u ∷ us)
last_else place u [] e same = e.0 (omega (arith, same))
last_else place u (v ∷ vs) e same = last_else place v vs e.1 same

-- ---- another link

-- nothing leads on before the head
pub relinked_none : (next : ℕ) (places : Places) → relinked 0 next places ≡ places
relinked_none next places = refl

-- the head stays where a timer is before
pub first_led_some : (before next first : ℕ) → before ≢ 0 → first_led before next first ≡ first
first_led_some before next first ne = grind (arith, nat_tests)

-- what the place before has then
pub relinked_some : (before next : ℕ) (places : Places) → before ≢ 0
    → relinked before next places ≡ set places (before - 1) (with_next next (object_at places (before - 1)))
relinked_some before next places ne = pick (before == 0) (grind (arith, nat_tests))
  where
    pick : (b : Bool) → b ≡ false
        → cond b places (set places (before - 1) (with_next next (object_at places (before - 1))))
        ≡ set places (before - 1) (with_next next (object_at places (before - 1)))
    pick true e = absurd (cc)
    pick false e = refl

-- it changes nothing at other places
pub relinked_other : (before next : ℕ) (places : Places) (place : ℕ) → place + 1 ≢ before
    → object_at (relinked before next places) place ≡ object_at places place
relinked_other before next places place ne = elim (cases_eq before 0) [
  | inl e ↦ ap (λ (b : ℕ). object_at (relinked b next places) place) e
  | inr some ↦
      ap (λ (p : Places). object_at p place) (relinked_some before next places some)
      ∙ get_or-set_other places (before - 1) place (with_next next (object_at places (before - 1))) None (λ e. ne (omega (arith, e, some)))
]

-- at its own the timer has the link
pub relinked_at : (before next : ℕ) (places : Places) (place : ℕ) → place + 1 ≡ before → place < length places
    → object_at (relinked before next places) place ≡ with_next next (object_at places place)
relinked_at before next places place e low =
    let some : before ≢ 0 = λ z. absurd (omega (arith, e, z)) in
    let at : before - 1 ≡ place = omega (arith, e) in
    ap (λ (p : Places). object_at p place) (relinked_some before next places some)
    ∙ ap (λ (q : ℕ). object_at (set places q (with_next next (object_at places q))) place) at
    ∙ get_or-set_same places place (with_next next (object_at places place)) None low

-- the places are as many
pub relinked_length : (before next : ℕ) (places : Places) → length (relinked before next places) ≡ length places
relinked_length before next places = elim (cases_eq before 0) [
  | inl e ↦ ap (λ (b : ℕ). length (relinked b next places)) e
  | inr some ↦
      ap length (relinked_some before next places some)
      ∙ length-set places (before - 1) (with_next next (object_at places (before - 1)))
]

relinked_stands : (before next : ℕ) (places : Places) (t : Placed) (m : ℕ) → t.place + 1 ≡ before → Stands places t m
    → Stands (relinked before next places) t next
relinked_stands before next places t m e stands = record {
  block = stands.block;
  at = relinked_at before next places t.place e (within places t.place _ stands.at) ∙ ap (with_next next) stands.at;
}

-- a chain that has timers ends with the new link
relinked_chain : (next : ℕ) (places : Places) (u : Placed) (us : List Placed) (from mid before : ℕ) → before ≡ last_link (u ∷ us)
    → ArePlacedApart (u ∷ us) → Leads places from (u ∷ us) mid → Leads (relinked before next places) from (u ∷ us) next
relinked_chain next places u [] from mid before e apart l =
    (l.0, (next, (relinked_stands before next places u l.1.0 (sym e) l.1.1.0, refl)))
relinked_chain next places u (v ∷ vs) from mid before e apart l =
    let else : u.place + 1 ≢ before = λ same. last_else u.place v vs apart.0 (same ∙ e) in
    let stands = l.1.1.0 in (
      l.0,
      (
        l.1.0,
        (
          record { block = stands.block; at = relinked_other before next places u.place else ∙ stands.at },
          relinked_chain next places v vs l.1.0 mid before e apart.1 l.1.1.1,
        ),
      ),
    )

-- a chain leads on to the new link
pub led_on : (next : ℕ) (places : Places) (front : List Placed) (from mid before : ℕ) → before ≡ last_link front
    → ArePlacedApart front → Leads places from front mid → Leads (relinked before next places) (first_led before next from) front next
led_on next places [] from mid before e apart l = ap (λ (b : ℕ). first_led b next from) e
led_on next places (u ∷ us) from mid before e apart l =
    let some : before ≢ 0 = λ z. last_some u us (sym e ∙ z) in
    subst (λ (f : ℕ). Leads (relinked before next places) f (u ∷ us) next) (sym (first_led_some before next from some))
    (relinked_chain next places u us from mid before e apart l)

-- what was read at a place stands there
pub found_at : (places : Places) (place : ℕ) (default read found : Option (ObjectView TimerRecord)) → place < length places
    → read ≡ get_or places place default → read ≡ found → object_at places place ≡ found
found_at places place default read found low was is = get_or_default places place None default low ∙ sym was ∙ is

-- the record at a place was written again with another link
pub relinked_again : (before next : ℕ) (places : Places) (given : Option (ObjectView TimerRecord)) (object again : ObjectView TimerRecord)
    (timer : TimerRecord) → before ≢ 0 → object_at places (before - 1) ≡ Some object → timer ≡ object.value
    → again ≡ record object { value = record timer { next = next } }
    → set (set places (before - 1) given) (before - 1) (Some again) ≡ relinked before next places
relinked_again before next places given object again timer some at is was =
    let linked : ObjectView TimerRecord = record object { value = record object.value { next = next } } in
    let same : again ≡ linked =
    was ∙ ap (λ (r : TimerRecord). record object { value = record r { next = next } }) is in
    set-set places (before - 1) given (Some again)
    ∙ ap (λ (o : Option (ObjectView TimerRecord)). set places (before - 1) o) (ap Some same ∙ sym (ap (with_next next) at))
    ∙ sym (relinked_some before next places some)
