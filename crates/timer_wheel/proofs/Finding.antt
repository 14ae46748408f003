-- The running timer with a number, among all lists.
use Rattle.std.proofs.Common.{◌≡◌, ℕ, ◌+◌, ◌*◌, ◌%◌, ◌<◌, ◌≤◌, ◌==◌, inl}
use Rattle.std.proofs.Common.{inr, Bool, true, false, cond, Option, None, Some, List, [], ◌∷◌}
use Rattle.std.proofs.Common.{filter, length, option_map, refl, sym, ap, subst, ◌∙◌, arith, ltb}
use Rattle.std.proofs.lemmas.Bool.{cases_eq, false≢true}
use Rattle.std.proofs.lemmas.Bool.Decides.{nat_tests}
use Rattle.std.proofs.lemmas.List.Sums.{length-filter, count_by-le-length}
use Rattle.std.proofs.lemmas.Nat.{mod_below}
use Rattle.std.proofs.lemmas.Option.{none-some, same_Some}
use Rattle.block_pool.specs.Passing.{Passed}
use Rattle.object_store.specs.Calls.{CountedWithin}
use Rattle.object_store.specs.Objects.{ObjectView}
use Rattle.timer_wheel.specs.declared.record.TimerRecord.{TimerRecord}
use Rattle.timer_wheel.specs.declared.changes.Placed.{Placed}
use Rattle.timer_wheel.specs.declared.chain.Chain.{Chain}
use Rattle.timer_wheel.specs.Places.{Places, ends_at, in_list, list_of, object_at, record_of, value_at}
use Rattle.timer_wheel.specs.declared.chain.Spot.{Spot}
use Rattle.timer_wheel.specs.Spots.{FoundAmong, FoundIn, HaveNot}
use Rattle.timer_wheel.specs.Tables.{Each, HasPlace, IsTable}
use Rattle.timer_wheel.proofs.Chains.{IsStanding, each_leads}
use Rattle.timer_wheel.proofs.Joining.{passes_own}

-- what holds of each timer of each list holds of each that runs
pub each_by_lists : (Fact : Placed → Type 0) (lists : ℕ) (running : List Placed) → 0 < lists
    → ((k : ℕ) → k < lists → Each Fact (in_list lists k running)) → Each Fact running
each_by_lists Fact lists [] some each = tt
each_by_lists Fact lists (t ∷ ts) some each = (
  own (list_of lists t == list_of lists t) (passes_own lists (list_of lists t) t refl)
      (each (list_of lists t) (mod_below t.due lists some)),
  each_by_lists Fact lists ts some (λ k low. others k (list_of lists t == k) (each k low)),
)
  where
    own : (b : Bool) → b ≡ true
        → Each Fact (cond b (t ∷ in_list lists (list_of lists t) ts) (in_list lists (list_of lists t) ts)) → Fact t
    own true e each = each.0
    own false e each = absurd (false≢true e)

    others : (k : ℕ) (b : Bool) → Each Fact (cond b (t ∷ in_list lists k ts) (in_list lists k ts)) → Each Fact (in_list lists k ts)
    others k true each = each.1
    others k false each = each

-- each running timer stands at its place
pub all_stand : (places : Places) (free : List ℕ) (lists : List Chain) (running : List Placed) (count : ℕ)
    → IsTable places free lists running count → Each (IsStanding places) running
all_stand places free lists running count table =
    each_by_lists (IsStanding places) (length lists) running (omega (arith, table.some)) (λ k low.
    each_leads places (in_list (length lists) k running) (ends_at lists k).first 0 (table.chains k _ low).leads)

-- a timer at a place, whose record has a number, stands in the list of its due
there_it_is : (places : Places) (lists number place : ℕ) (timer : TimerRecord) (running : List Placed) → Each (IsStanding places) running
    → HasPlace running place → value_at places place ≡ Some timer → timer.number ≡ number
    → HaveNot number (in_list lists (timer.due % lists) running) → ⊥
there_it_is places lists number place timer [] stand has read is none = has
there_it_is places lists number place timer (t ∷ ts) stand has read is none = elim has [
  | inl e ↦
      let at : value_at places place ≡ Some (record_of t stand.0.0)
      = ap (value_at places) (sym e)
      ∙ ap (option_map (λ (o : ObjectView TimerRecord). o.value)) stand.0.1.at in
      let same : timer ≡ record_of t stand.0.0 = same_Some timer (record_of t stand.0.0) (sym read ∙ at) in
      let due : list_of lists t ≡ timer.due % lists = ap (λ (r : TimerRecord). r.due % lists) (sym same) in
      first (list_of lists t == timer.due % lists) (passes_own lists (timer.due % lists) t due) none
      (sym (ap (λ (r : TimerRecord). r.number) same) ∙ is)
  | inr more ↦
      there_it_is places lists number place timer ts stand.1 more read is (rest (list_of lists t == timer.due % lists) none)
]
  where
    first : (b : Bool) → b ≡ true
        → HaveNot number (cond b (t ∷ in_list lists (timer.due % lists) ts) (in_list lists (timer.due % lists) ts)) → t.number ≡ number → ⊥
    first true e none same = none.0 same
    first false e none same = false≢true e

    rest : (b : Bool) → HaveNot number (cond b (t ∷ in_list lists (timer.due % lists) ts) (in_list lists (timer.due % lists) ts))
        → HaveNot number (in_list lists (timer.due % lists) ts)
    rest true none = none.1
    rest false none = none

-- so it is found there
pub must_be_there : (places : Places) (free : List ℕ) (lists : List Chain) (running : List Placed) (count number place : ℕ)
    (timer : TimerRecord) → IsTable places free lists running count → value_at places place ≡ Some timer → timer.number ≡ number
    → HaveNot number (in_list (length lists) (timer.due % length lists) running) → ⊥
must_be_there places free lists running count number place timer table read is none = found (object_at places place) refl
  where
    found : (o : Option (ObjectView TimerRecord)) → object_at places place ≡ o → ⊥
    found None e =
        none-some timer (sym (ap (option_map (λ (o : ObjectView TimerRecord). o.value)) e) ∙ read)
    found (Some object) e =
        there_it_is places (length lists) number place timer running (all_stand places free lists running count table)
        (table.taken place object e) read is none

-- ---- how many stand in the lists before one

-- the timers of the lists before one
abbrev pub before_list : ℕ → ℕ → List Placed → List Placed
before_list lists k running = filter (λ t. ltb (list_of lists t) k) running

-- with those of one list more
pub list_more : (lists k : ℕ) (running : List Placed)
    → length (before_list lists (k + 1) running) ≡ length (before_list lists k running) + length (in_list lists k running)
list_more lists k [] = omega arith
list_more lists k (t ∷ ts) =
    at (ltb (list_of lists t) (k + 1)) (ltb (list_of lists t) k) (list_of lists t == k) (list_more lists k ts) refl refl refl
  where
    at : (a b e : Bool)
        → length (before_list lists (k + 1) ts) ≡ length (before_list lists k ts) + length (in_list lists k ts)
        → ltb (list_of lists t) (k + 1) ≡ a → ltb (list_of lists t) k ≡ b → (list_of lists t == k) ≡ e
        → length (cond a (t ∷ before_list lists (k + 1) ts) (before_list lists (k + 1) ts))
        ≡ length (cond b (t ∷ before_list lists k ts) (before_list lists k ts))
        + length (cond e (t ∷ in_list lists k ts) (in_list lists k ts))
    at true true true more x y z = absurd (grind (arith, nat_tests))
    at true true false more x y z = omega (arith, more)
    at true false true more x y z = omega (arith, more)
    at true false false more x y z = absurd (grind (arith, nat_tests))
    at false true true more x y z = absurd (grind (arith, nat_tests))
    at false true false more x y z = absurd (grind (arith, nat_tests))
    at false false true more x y z = absurd (grind (arith, nat_tests))
    at false false false more x y z = omega (arith, more)

-- no more than run
pub filter_short : (p : Placed → Bool) (xs : List Placed) → length (filter p xs) ≤ length xs
filter_short p xs = omega (arith, length-filter p xs, count_by-le-length p xs)

-- what is found in a list that has the timer is found among all
pub found_here : (number : ℕ) (places : Places) (lists list : ℕ) (running : List Placed) (r : Option Spot)
    → ¬ HaveNot number (in_list lists list running) → FoundIn number places lists list running r → FoundAmong number places lists running r
found_here number places lists list running None there found = absurd (there found)
found_here number places lists list running (Some spot) there found = found

-- so far no list has a timer with the number, and each of their timers took four steps
pub record SeeksAll (number : ℕ) (lists list : ℕ) (running : List Placed) (start steps : ℕ) (old new : Passed) : Type 0 where
  pub none : (k : ℕ) → k < list → HaveNot number (in_list lists k running)
  pub pass : new ≡ record old { moves = new.moves }
  pub counted : CountedWithin 0 (4 * length (before_list lists list running)) start steps old new

-- before the first list
pub all_begins : (number lists : ℕ) (running : List Placed) (steps : ℕ) (pass : Passed)
    → SeeksAll number lists 0 running steps steps pass pass
all_begins number lists running steps pass = record {
  none = λ k low. absurd (omega (arith, low));
  pass = refl;
  counted = record { made = 0; least = omega arith; most = omega arith; steps = omega arith; moves = omega arith };
}

-- only moves changed, twice
pub moved_again : (a b c : Passed) → b ≡ record a { moves = b.moves } → c ≡ record b { moves = c.moves } → c ≡ record a { moves = c.moves }
moved_again a b c one two = two ∙ ap (λ (p : Passed). record p { moves = c.moves }) one

-- the steps of one list more
pub all_counted : (number lists list : ℕ) (running : List Placed) (start steps later : ℕ) (old new after : Passed)
    → SeeksAll number lists list running start steps old new
    → CountedWithin 0 (4 * length (in_list lists list running)) steps later new after
    → CountedWithin 0 (4 * length (before_list lists (list + 1) running)) start later old after
all_counted number lists list running start steps later old new after seeks counted =
    let more = list_more lists list running in
    record {
      made = seeks.counted.made + counted.made;
      least = omega arith;
      most = omega (arith, more, seeks.counted.most, counted.most);
      steps = omega (arith, seeks.counted.steps, counted.steps);
      moves = omega (arith, seeks.counted.moves, counted.moves);
    }

-- one list more has none
pub all_on : (number lists list : ℕ) (running : List Placed) (start steps later : ℕ) (old new after : Passed)
    → SeeksAll number lists list running start steps old new → HaveNot number (in_list lists list running)
    → after ≡ record new { moves = after.moves }
    → CountedWithin 0 (4 * length (in_list lists list running)) steps later new after
    → SeeksAll number lists (list + 1) running start later old after
all_on number lists list running start steps later old new after seeks none pass counted = record {
  none = λ k low. elim (cases_eq k list) [
    | inl e ↦ subst (λ (i : ℕ). HaveNot number (in_list lists i running)) (sym e) none
    | inr ne ↦ seeks.none k (omega (arith, low, ne))
  ];
  pass = moved_again old new after seeks.pass pass;
  counted = all_counted number lists list running start steps later old new after seeks counted;
}

-- all steps so far are four for each running timer
pub all_most : (lists list : ℕ) (running : List Placed) (count start steps : ℕ) (old new : Passed) → length running ≡ count
    → CountedWithin 0 (4 * length (before_list lists list running)) start steps old new → CountedWithin 0 (4 * count) start steps old new
all_most lists list running count start steps old new many counted =
    let short = filter_short (λ t. ltb (list_of lists t) list) running in
    record {
      made = counted.made;
      least = omega arith;
      most = omega (arith, counted.most, short, many);
      steps = counted.steps;
      moves = counted.moves;
    }

-- there is room for the steps of one list more
pub all_room : (number lists list : ℕ) (running : List Placed) (count start steps : ℕ) (old new : Passed) → length running ≡ count
    → SeeksAll number lists list running start steps old new → steps + 4 * length (in_list lists list running) ≤ start + 4 * count
all_room number lists list running count start steps old new many seeks =
    omega (
      arith,
      many,
      seeks.counted.most,
      seeks.counted.steps,
      list_more lists list running,
      filter_short (λ t. ltb (list_of lists t) (list + 1)) running,
    )
