-- The longest list that the seats have seen is the history.
use Rattle.std.proofs.Common.{◌≡◌, inl, inr, ℕ, ◌<◌, ◌≤◌, Bool, true, false, List, [], ◌∷◌, length, take, refl, sym, ap, ◌∙◌, subst, arith}
use Rattle.std.specs.Prelude.{nat_lt, if◌then◌else◌}
use Rattle.std.proofs.lemmas.List.{take_all}
use Rattle.std.proofs.lemmas.Bool.{cases_eq, cases_lt}
use Rattle.std.proofs.lemmas.Bool.Decides.{nat_tests}
use Rattle.word_layout.specs.Sizes.{Sizes}
use Rattle.pool_model.specs.declared.entry.Entry.{Entry}
use Rattle.pool_table.specs.Minds.{Mind, number_of}
use Rattle.pool_table.specs.Views.{SeatView, longer, minds_of, longest_in, longest}
use Rattle.pool_table.specs.Rule.{Minds, MindsHold, EachMind, EachSeat, count_in, count_seated, IsSeated, Numbered}
use Rattle.pool_table.proofs.Numbered.{counts_not}

-- a list is a beginning of the history
abbrev pub Begins : List Entry → List Entry → Type 0
Begins seen history = take (length seen) history ≡ seen

-- one that isn't shorter is all of it
pub whole_is : (history seen : List Entry) → Begins seen history → length history ≤ length seen → seen ≡ history
whole_is history seen begins le = sym begins ∙ take_all (length seen) history le

-- the longer of two beginnings is one, and is no shorter than either
longer_begins_by : (a b history : List Entry) (t : Bool) → Begins a history → Begins b history → Begins (if t then b else a) history
longer_begins_by a b history true first second = second
longer_begins_by a b history false first second = first

-- the longer of two beginnings of a history is a beginning of it
pub longer_begins : (a b history : List Entry) → Begins a history → Begins b history → Begins (longer a b) history
longer_begins a b history first second = longer_begins_by a b history (nat_lt (length a) (length b)) first second

-- and no shorter than either
pub longer_reaches : (a b : List Entry) → (length a ≤ length (longer a b)) × (length b ≤ length (longer a b))
longer_reaches a b = by (nat_lt (length a) (length b)) refl
  where
    by : (t : Bool) → nat_lt (length a) (length b) ≡ t
        → (length a ≤ length (if t then b else a)) × (length b ≤ length (if t then b else a))
    by true e = (grind (arith, nat_tests), omega arith)
    by false e = (omega arith, grind (arith, nat_tests))

-- the longest of all is no shorter than what a process has seen that has a mind in a seat
pub longest_in_reaches : (seats n : ℕ) (minds : Minds) (list : List Mind) → EachMind (IsSeated seats minds) list → 1 ≤ count_in n list
    → length (minds n).seen ≤ length (longest_in list)
longest_in_reaches seats n minds [] each has = absurd (omega arith)
longest_in_reaches seats n minds (mind ∷ list) each has = elim (cases_eq (number_of mind) n) [
  | inl e ↦
      let is : minds n ≡ mind = ap minds (sym e) ∙ each.0.1 in
      let le = (longer_reaches mind.seen (longest_in list)).0 in
      omega (arith, le, ap (λ (z : Mind). length z.seen) is)
  | inr ne ↦
      let le = longest_in_reaches seats n minds list each.1 (omega (arith, counts_not (number_of mind) n ne)) in
      let more = (longer_reaches mind.seen (longest_in list)).1 in
      omega arith
]

-- what a process with a mind in a seat has seen is no longer than the longest that any seat has
pub longest_reaches : (seats n : ℕ) (minds : Minds) (views : List SeatView) → EachSeat (IsSeated seats minds) views
    → 1 ≤ count_seated n views → length (minds n).seen ≤ length (longest views)
longest_reaches seats n minds [] each has = absurd (omega arith)
longest_reaches seats n minds (v ∷ views) each has = elim (cases_eq (count_in n (minds_of v)) 0) [
  | inl none ↦
      let le = longest_reaches seats n minds views each.1 (omega (arith, none)) in
      let more = (longer_reaches (longest_in (minds_of v)) (longest views)).1 in
      omega arith
  | inr there ↦
      let le = longest_in_reaches seats n minds (minds_of v) each.0 (omega arith) in
      let more = (longer_reaches (longest_in (minds_of v)) (longest views)).0 in
      omega arith
]

-- and it is a beginning of the history, as what each has seen is
pub longest_in_begins : (seats : ℕ) (minds : Minds) (history : List Entry) (list : List Mind)
    → ((n : ℕ) → n < seats → Begins (minds n).seen history) → EachMind (IsSeated seats minds) list → Begins (longest_in list) history
longest_in_begins seats minds history [] sees each = refl
longest_in_begins seats minds history (mind ∷ list) sees each = longer_begins mind.seen (longest_in list) history
    (subst (λ (z : Mind). Begins z.seen history) each.0.1 (sees (number_of mind) each.0.0))
    (longest_in_begins seats minds history list sees each.1)

longest_begins : (seats : ℕ) (minds : Minds) (history : List Entry) (views : List SeatView)
    → ((n : ℕ) → n < seats → Begins (minds n).seen history) → EachSeat (IsSeated seats minds) views → Begins (longest views) history
longest_begins seats minds history [] sees each = refl
longest_begins seats minds history (v ∷ views) sees each = longer_begins (longest_in (minds_of v)) (longest views) history
    (longest_in_begins seats minds history (minds_of v) sees each.0) (longest_begins seats minds history views sees each.1)

-- so it is the history, where one process has seen all
pub longest_is_history : (sizes : Sizes) (words : List ℕ) (minds : Minds) (views : List SeatView) (history : List Entry)
    → Numbered sizes minds views → MindsHold sizes words minds history → longest views ≡ history
longest_is_history sizes words minds views history numbered holds =
    let few = numbered.few in
    let begins = longest_begins numbered.seats minds history views (λ n low. (holds.sees n (omega arith)).beginning) numbered.each in
    elim (cases_eq (length history) 0) [
      | inl none ↦ whole_is history (longest views) begins (omega arith)
      | inr more ↦
          let sees = holds.whole_seen (omega arith) in
          elim (cases_lt sees.process numbered.seats) [
            | inl low ↦
                let once = numbered.once sees.process low in
                let le = longest_reaches numbered.seats sees.process minds views numbered.each (omega arith) in
                whole_is history (longest views) begins (omega (arith, le, ap length sees.all))
            | inr ge ↦
                let nothing = ap (λ (z : Mind). length z.seen) (numbered.unmade sees.process ge) in
                absurd (omega (arith, more, ap length sees.all, nothing))
          ]
    ]
