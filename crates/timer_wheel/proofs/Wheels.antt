-- What a wheel keeps, after each of its calls.
use Rattle.std.proofs.Common.{◌≡◌, ◌≢◌, ℕ, ◌+◌, ◌<◌, ◌≤◌, ◌==◌, Bool, true, false}
use Rattle.std.proofs.Common.{not, cond, None, Some, List, [], ◌∷◌, ◌++◌, length}
use Rattle.std.proofs.Common.{filter, map, option_map, refl, sym, ap, subst, ◌∙◌, arith}
use Rattle.std.specs.List.{find}
use Rattle.std.proofs.lemmas.Bool.{false≢true}
use Rattle.std.proofs.lemmas.Bool.Decides.{nat_tests}
use Rattle.std.proofs.lemmas.List.{length-map}
use Rattle.std.proofs.lemmas.List.Sums.{fold_push}
use Rattle.timer_wheel.specs.declared.changes.Placed.{Placed}
use Rattle.timer_wheel.specs.declared.changes.Change.{Change}
use Rattle.timer_wheel.specs.declared.changes.Change.TheVariants.{Began, Ended}
use Rattle.timer_wheel.specs.declared.chain.Chain.{Chain}
use Rattle.timer_wheel.specs.declared.chain.Spot.{Spot}
use Rattle.timer_wheel.specs.declared.record.TimerRecord.{TimerRecord}
use Rattle.timer_wheel.specs.Backs.{AreBacks}
use Rattle.timer_wheel.specs.Places.{Places, list_of, running_after, running_of, timer_of}
use Rattle.timer_wheel.specs.Ringing.{due_at, not_due_at, rung_at}
use Rattle.timer_wheel.specs.Spots.{HaveNot, IsSpot}
use Rattle.timer_wheel.specs.Timers.{Timer, has_number, is_due}
use Rattle.timer_wheel.specs.Tables.{AreBelow, AreDistinct, IsSmall, IsTable, IsWheel}
use Rattle.timer_wheel.proofs.Lists.{each_append, each_right, each_weaker, filter_split, keep, kept_others, some_before}

-- one timer more began to run
pub running_began : (old new : List Change) (t : Placed) → new ≡ old ++ Began t ∷ [] → running_of new ≡ running_of old ++ t ∷ []
running_began old new t is = ap running_of is ∙ fold_push running_after [] old (Began t)

-- the limits stay
pub small_stays : (P Q : Places) (lists later : List Chain) → length Q ≡ length P → length later ≡ length lists → IsSmall P lists
    → IsSmall Q later
small_stays P Q lists later room many small =
    record { room = omega (arith, room, small.room); few = omega (arith, many, small.few) }

-- what a wheel keeps with one timer more
pub wheel_started : (P Q : Places) (free free' : List ℕ) (lists lists' : List Chain) (backs backs' : List ℕ) (old new : List Change)
    (count count' started : ℕ) (t : Placed) → IsWheel P free lists backs (running_of old) count started
    → IsTable Q free' lists' (running_of new) count' → AreBacks backs' (length Q) (length lists') (running_of new)
    → length Q ≡ length P → length lists' ≡ length lists → new ≡ old ++ Began t ∷ [] → t.number ≡ started
    → IsWheel Q free' lists' backs' (running_of new) count' (started + 1)
wheel_started P Q free free' lists lists' backs backs' old new count count' started t wheel table back room many began number = record {
  table = table;
  back = back;
  small = small_stays P Q lists lists' room many wheel.small;
  below = subst (AreBelow (started + 1)) (sym (running_began old new t began))
      (each_append (λ u. u.number < started + 1) (running_of old) (t ∷ [])
      (each_weaker (λ u. u.number < started) (λ u. u.number < started + 1) (λ u less. omega (arith, less)) (running_of old) wheel.below)
      (omega (arith, number), tt));
}

-- ---- the list of the timers, by the timers at their places

-- the test of a number is the same
map_kept : (number : ℕ) (xs : List Placed)
    → map timer_of (filter (keep number) xs) ≡ filter (λ t. not (has_number number t)) (map timer_of xs)
map_kept number [] = refl
map_kept number (x ∷ xs) = at (x.number == number) (map_kept number xs)
  where
    at : (b : Bool) → map timer_of (filter (keep number) xs) ≡ filter (λ t. not (has_number number t)) (map timer_of xs)
        → map timer_of (cond (not b) (x ∷ filter (keep number) xs) (filter (keep number) xs))
        ≡ cond (not b) (timer_of x ∷ filter (λ t. not (has_number number t)) (map timer_of xs))
        (filter (λ t. not (has_number number t)) (map timer_of xs))
    at true more = more
    at false more = ap (λ (r : List Timer). timer_of x ∷ r) more

-- so is that of a moment
pub map_left : (moment : ℕ) (xs : List Placed)
    → map timer_of (filter (not_due_at moment) xs) ≡ filter (λ t. not (is_due moment t)) (map timer_of xs)
map_left moment [] = refl
map_left moment (x ∷ xs) = at (x.due == moment) (map_left moment xs)
  where
    at : (b : Bool) → map timer_of (filter (not_due_at moment) xs) ≡ filter (λ t. not (is_due moment t)) (map timer_of xs)
        → map timer_of (cond (not b) (x ∷ filter (not_due_at moment) xs) (filter (not_due_at moment) xs))
        ≡ cond (not b) (timer_of x ∷ filter (λ t. not (is_due moment t)) (map timer_of xs))
        (filter (λ t. not (is_due moment t)) (map timer_of xs))
    at true more = more
    at false more = ap (λ (r : List Timer). timer_of x ∷ r) more

-- what is handed out is the same
pub map_rung : (moment : ℕ) (xs : List Placed) → rung_at moment xs ≡ map (λ t. t.payload) (filter (is_due moment) (map timer_of xs))
map_rung moment [] = refl
map_rung moment (x ∷ xs) = at (x.due == moment) (map_rung moment xs)
  where
    at : (b : Bool) → rung_at moment xs ≡ map (λ t. t.payload) (filter (is_due moment) (map timer_of xs))
        → map (λ t. t.payload) (cond b (x ∷ filter (due_at moment) xs) (filter (due_at moment) xs))
        ≡ map (λ t. t.payload) (cond b (timer_of x ∷ filter (is_due moment) (map timer_of xs)) (filter (is_due moment) (map timer_of xs)))
    at true more = ap (λ (r : List ℕ). x.payload ∷ r) more
    at false more = more

-- one timer runs no more
pub running_ended : (old new : List Change) (number : ℕ) → new ≡ old ++ Ended number ∷ []
    → running_of new ≡ filter (keep number) (running_of old)
running_ended old new number is = ap running_of is ∙ fold_push running_after [] old (Ended number)

-- so it is of the timers that callers see
pub timers_ended : (old new : List Change) (number : ℕ) → new ≡ old ++ Ended number ∷ []
    → map timer_of (running_of new) ≡ filter (λ t. not (has_number number t)) (map timer_of (running_of old))
timers_ended old new number is = ap (map timer_of) (running_ended old new number is) ∙ map_kept number (running_of old)

-- none has the number: none is found, and all stay
pub none_found : (number : ℕ) (xs : List Placed) → HaveNot number xs
    → option_map (λ t. t.payload) (find (has_number number) (map timer_of xs)) ≡ None
none_found number [] none = refl
none_found number (x ∷ xs) none = at (x.number == number) (test_fails x.number number none.0) (none_found number xs none.1)
  where
    test_fails : (a b : ℕ) → a ≢ b → (a == b) ≡ false
    test_fails a b ne = grind (arith, nat_tests)

    at : (b : Bool) → b ≡ false → option_map (λ t. t.payload) (find (has_number number) (map timer_of xs)) ≡ None
        → option_map (λ t. t.payload) (cond b (Some (timer_of x)) (find (has_number number) (map timer_of xs))) ≡ None
    at true e more = absurd (false≢true (sym e))
    at false e more = more

-- so all stay
pub none_ended : (number : ℕ) (xs : List Placed) → HaveNot number xs
    → map timer_of xs ≡ filter (λ t. not (has_number number t)) (map timer_of xs)
none_ended number xs none = ap (map timer_of) (sym (kept_others number xs none)) ∙ map_kept number xs

-- the one with the number is found
pub one_found : (a : List Placed) (t : Placed) (b : List Placed) → AreDistinct (a ++ t ∷ b)
    → option_map (λ t. t.payload) (find (has_number t.number) (map timer_of (a ++ t ∷ b))) ≡ Some t.payload
one_found [] t b d = at (t.number == t.number) (grind (arith, nat_tests))
  where
    at : (e : Bool) → e ≡ true
        → option_map (λ t. t.payload) (cond e (Some (timer_of t)) (find (has_number t.number) (map timer_of b))) ≡ Some t.payload
    at true is = refl
    at false is = absurd (false≢true is)
one_found (x ∷ a) t b d =
    at (x.number == t.number) (test_fails x.number t.number (λ e. (each_right (λ other. other.number ≢ x.number) a (t ∷ b) d.0).0 (sym e)))
    (one_found a t b d.1)
  where
    test_fails : (m n : ℕ) → m ≢ n → (m == n) ≡ false
    test_fails m n ne = grind (arith, nat_tests)

    at : (e : Bool) → e ≡ false → option_map (λ t. t.payload) (find (has_number t.number) (map timer_of (a ++ t ∷ b))) ≡ Some t.payload
        → option_map (λ t. t.payload) (cond e (Some (timer_of x)) (find (has_number t.number) (map timer_of (a ++ t ∷ b)))) ≡ Some t.payload
    at true is more = absurd (false≢true (sym is))
    at false is more = more

-- so that of a spot is
pub spot_found : (places : Places) (lists number : ℕ) (running : List Placed) (spot : Spot) → AreDistinct running
    → IsSpot places lists running spot → spot.timer.number ≡ number
    → option_map (λ t. t.payload) (find (has_number number) (map timer_of running)) ≡ Some spot.timer.payload
spot_found places lists number running spot distinct is e =
    let split = filter_split (λ s. list_of lists s == spot.list) running is.front is.t is.rest is.is.chain in
    let number_is : is.t.number ≡ number = sym (ap (λ (r : TimerRecord). r.number) is.is.timer) ∙ e in
    let payload_is : is.t.payload ≡ spot.timer.payload = sym (ap (λ (r : TimerRecord). r.payload) is.is.timer) in
    let there = one_found split.0 is.t split.1.0 (subst AreDistinct split.1.1 distinct) in
    ap (λ (xs : List Placed). option_map (λ t. t.payload) (find (has_number number) (map timer_of xs))) split.1.1
    ∙ ap (λ (n : ℕ). option_map (λ t. t.payload) (find (has_number n) (map timer_of (split.0 ++ is.t ∷ split.1.0)))) (sym number_is)
    ∙ there ∙ ap Some payload_is

-- what a wheel keeps where timers only end
pub wheel_ended : (P Q : Places) (free free' : List ℕ) (lists lists' : List Chain) (backs backs' : List ℕ) (was running : List Placed)
    (count count' started : ℕ) → IsWheel P free lists backs was count started → IsTable Q free' lists' running count'
    → AreBacks backs' (length Q) (length lists') running
    → length Q ≡ length P → length lists' ≡ length lists → AreBelow started running
    → IsWheel Q free' lists' backs' running count' started
wheel_ended P Q free free' lists lists' backs backs' was running count count' started wheel table back room many below =
    record { table = table; back = back; small = small_stays P Q lists lists' room many wheel.small; below = below }

-- as many run as are counted
pub runs_all : (P : Places) (free : List ℕ) (lists : List Chain) (running : List Placed) (count : ℕ) → IsTable P free lists running count
    → length (map timer_of running) ≡ count
runs_all P free lists running count table = length-map running timer_of ∙ table.many

-- a spot is one of at least one timer
pub spot_some : (places : Places) (lists : ℕ) (running : List Placed) (spot : Spot) → IsSpot places lists running spot → 1 ≤ length running
spot_some places lists running spot is =
    some_before (λ s. list_of lists s == spot.list) running is.front is.t is.rest is.is.chain
