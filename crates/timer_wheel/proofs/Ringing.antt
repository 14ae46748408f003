-- A walk along the list of a moment, which takes out the timers that are due.
use Rattle.std.proofs.Common.{◌≡◌, ◌≢◌, ℕ, suc, ◌+◌, ◌-◌, ◌%◌, ◌<◌, ◌≤◌, ◌==◌}
use Rattle.std.proofs.Common.{◌⊎◌, inl, inr, Bool, true, false, not, cond, List, [], ◌∷◌, ◌++◌}
use Rattle.std.proofs.Common.{length, filter, map, get_or, set, drop, drop-cons, refl}
use Rattle.std.proofs.Common.{sym, ap, subst, ◌∙◌, arith, length-append, append_assoc}
use Rattle.std.proofs.lemmas.Bool.{false≢true}
use Rattle.std.proofs.lemmas.Bool.Decides.{nat_tests}
use Rattle.std.proofs.lemmas.List.{length-map}
use Rattle.std.proofs.lemmas.List.Sums.{length-filter, count_by-le-length}
use Rattle.timer_wheel.specs.declared.record.TimerRecord.{TimerRecord}
use Rattle.timer_wheel.specs.declared.changes.Placed.{Placed}
use Rattle.timer_wheel.specs.Places.{Places, Leads, in_list, last_link, list_of}
use Rattle.timer_wheel.specs.Ringing.{due_at, not_due_at, rung_at}
use Rattle.timer_wheel.specs.Tables.{Each, AreDistinct}
use Rattle.timer_wheel.proofs.Lists.{each_both, each_filter, each_passes, filter_first, filter_next, filter_swap}
use Rattle.timer_wheel.proofs.Lists.{filter_split, distinct_filter, distinct_behind, each_other, keep, kept_others, same_fails}
use Rattle.timer_wheel.proofs.Walking.{WalksTo, Meets, walk_goes}

-- ---- what is due

-- a timer of the moment passes
pub is_due : (moment : ℕ) (t : Placed) → t.due ≡ moment → due_at moment t ≡ true
is_due moment t e = grind (arith, nat_tests)

-- another one fails
pub is_not_due : (moment : ℕ) (t : Placed) → t.due ≢ moment → due_at moment t ≡ false
is_not_due moment t ne = grind (arith, nat_tests)

due_is : (moment : ℕ) (t : Placed) → due_at moment t ≡ true → t.due ≡ moment
due_is moment t e = grind (arith, nat_tests)

not_due_is : (moment : ℕ) (t : Placed) → not_due_at moment t ≡ true → t.due ≢ moment
not_due_is moment t e same = false≢true (sym (same_fails t.due moment same) ∙ e)

listed : (lists : ℕ) (list : ℕ) (t : Placed) → list_of lists t ≡ list → (list_of lists t == list) ≡ true
listed lists list t e = grind (arith, nat_tests)

-- a test that another one implies leaves the same after it
filter_within : (p q : Placed → Bool) → ((t : Placed) → p t ≡ true → q t ≡ true) → (xs : List Placed) → filter p (filter q xs) ≡ filter p xs
filter_within p q gives [] = refl
filter_within p q gives (x ∷ xs) = at (p x) (q x) (filter_within p q gives xs) refl refl
  where
    at : (b c : Bool) → filter p (filter q xs) ≡ filter p xs → p x ≡ b → q x ≡ c
        → filter p (cond c (x ∷ filter q xs) (filter q xs)) ≡ cond b (x ∷ filter p xs) (filter p xs)
    at true true more e f = filter_first p x (filter q xs) e ∙ ap (λ (r : List Placed). x ∷ r) more
    at true false more e f = absurd (false≢true (sym f ∙ gives x e))
    at false true more e f = filter_next p x (filter q xs) e ∙ more
    at false false more e f = more

-- all that are due at a moment stand in its list
pub due_in_list : (moment lists : ℕ) (running : List Placed)
    → filter (due_at moment) (in_list lists (moment % lists) running) ≡ filter (due_at moment) running
due_in_list moment lists running =
    filter_within (due_at moment) (λ t. list_of lists t == moment % lists)
    (λ t e. listed lists (moment % lists) t (ap (λ (d : ℕ). d % lists) (due_is moment t e))) running

-- where nothing is due, all are left
pub none_due : (moment : ℕ) (xs : List Placed) → filter (due_at moment) xs ≡ [] → xs ≡ filter (not_due_at moment) xs
none_due moment [] none = refl
none_due moment (x ∷ xs) none = at (due_at moment x) none (none_due moment xs)
  where
    at : (b : Bool) → cond b (x ∷ filter (due_at moment) xs) (filter (due_at moment) xs) ≡ []
        → (filter (due_at moment) xs ≡ [] → xs ≡ filter (not_due_at moment) xs)
        → x ∷ xs ≡ cond (not b) (x ∷ filter (not_due_at moment) xs) (filter (not_due_at moment) xs)
    at true none more = absurd (cc)
    at false none more = ap (λ (r : List Placed). x ∷ r) (more none)

-- no more are handed out than run
pub rung_few : (moment : ℕ) (xs : List Placed) → length (rung_at moment xs) ≤ length xs
rung_few moment xs =
    omega (
      arith,
      length-map (filter (due_at moment) xs) (λ (t : Placed). t.payload),
      length-filter (due_at moment) xs,
      count_by-le-length (due_at moment) xs,
    )

-- ---- what was handed out so far

-- the first items of the output were written
pub set_seam : (done rest : List ℕ) (x y : ℕ) → set (done ++ y ∷ rest) (length done) x ≡ done ++ x ∷ rest
set_seam [] rest x y = refl
set_seam (d ∷ done) rest x y = ap (λ (r : List ℕ). d ∷ r) (set_seam done rest x y)

drop_some : (n : ℕ) (xs : List ℕ) → n < length xs → (y : ℕ) × (drop n xs ≡ y ∷ drop (n + 1) xs)
drop_some n xs low =
    let next : suc n ≡ n + 1 = omega arith in
    (get_or xs n 0, drop-cons xs n 0 low ∙ ap (λ (k : ℕ). get_or xs n 0 ∷ drop k xs) next)

-- one payload more is written
pub handed : (done out0 out : List ℕ) (x count : ℕ) → out ≡ done ++ drop (length done) out0 → count ≡ length done
    → length done < length out0
    → set out count x ≡ (done ++ x ∷ []) ++ drop (length (done ++ x ∷ [])) out0
handed done out0 out x count is many low =
    let d = drop_some (length done) out0 low in
    let size : length (done ++ x ∷ []) ≡ length done + 1 = length-append done (x ∷ []) in
    ap (λ (o : List ℕ). set o count x) (is ∙ ap (λ (r : List ℕ). done ++ r) d.1)
    ∙ ap (λ (n : ℕ). set (done ++ d.0 ∷ drop (length done + 1) out0) n x) many
    ∙ set_seam done (drop (length done + 1) out0) x d.0
    ∙ sym (append_assoc done (x ∷ []) (drop (length done + 1) out0))
    ∙ ap (λ (n : ℕ). (done ++ x ∷ []) ++ drop n out0) (sym size)

-- ---- the walk

-- so far the timers that were due are out, in the order of starts, and those behind are still to be looked at
pub record Rings (moment lists list : ℕ) (was : List Placed) (places : Places) (running : List Placed) (before at : ℕ)
    (empty out : List ℕ) (count walked : ℕ) : Type 0 where
  pub front : List Placed
  pub rest : List Placed
  pub walk : WalksTo places (in_list lists list running) before at front rest
  pub due : filter (due_at moment) running ≡ filter (due_at moment) rest
  pub kept : filter (not_due_at moment) running ≡ filter (not_due_at moment) was
  pub done : List ℕ
  pub out_is : out ≡ done ++ drop (length done) empty
  pub many : count ≡ length done
  pub rung : done ++ rung_at moment running ≡ rung_at moment was
  pub few : walked + length rest ≤ length was

-- the timer that it meets isn't due: it stays
pub rings_on : (moment lists list : ℕ) (was : List Placed) (places : Places) (running : List Placed) (before at : ℕ)
    (empty out : List ℕ) (count walked : ℕ) (timer : TimerRecord)
    → (r : Rings moment lists list was places running before at empty out count walked) → (m : Meets places at r.rest timer)
    → timer.due ≢ moment → Rings moment lists list was places running at timer.next empty out count (walked + 1)
rings_on moment lists list was places running before at empty out count walked timer r m ne =
    let due : m.t.due ≢ moment = λ e. ne (ap (λ (q : TimerRecord). q.due) m.timer_is ∙ e) in
    let size : length r.rest ≡ length (m.t ∷ m.more) = ap length m.is in
    record {
      front = r.front ++ m.t ∷ [];
      rest = m.more;
      walk = walk_goes places (in_list lists list running) before at r.front r.rest timer r.walk m;
      due = r.due ∙ ap (filter (due_at moment)) m.is ∙ filter_next (due_at moment) m.t m.more (is_not_due moment m.t due);
      kept = r.kept;
      done = r.done;
      out_is = r.out_is;
      many = r.many;
      rung = r.rung;
      few = omega (arith, r.few, size);
    }

-- it is due: it is handed out, and taken out of its list
pub rings_out : (moment lists list : ℕ) (was : List Placed) (places later : Places) (running : List Placed) (before at : ℕ)
    (empty out : List ℕ) (count walked : ℕ) (timer : TimerRecord)
    → (r : Rings moment lists list was places running before at empty out count walked) → (m : Meets places at r.rest timer)
    → timer.due ≡ moment → AreDistinct running → length was ≤ length empty
    → ((front rest : List Placed) (t : Placed) → in_list lists list running ≡ front ++ t ∷ rest → before ≡ last_link front
    → at - 1 ≡ t.place
    → (in_list lists list (filter (keep timer.number) running) ≡ front ++ rest) × Leads later timer.next rest 0)
    → Rings moment lists list was later (filter (keep timer.number) running) before timer.next empty (set out count timer.payload) (count
    + 1)
    (walked + 1)
rings_out moment lists list was places later running before at empty out count walked timer r m due_now distinct long goes =
    let t = m.t in
    let number : timer.number ≡ t.number = ap (λ (q : TimerRecord). q.number) m.timer_is in
    let payload : timer.payload ≡ t.payload = ap (λ (q : TimerRecord). q.payload) m.timer_is in
    let due : t.due ≡ moment = sym (ap (λ (q : TimerRecord). q.due) m.timer_is) ∙ due_now in
    let chain : in_list lists list running ≡ r.front ++ t ∷ m.more
    = r.walk.all ∙ ap (λ (q : List Placed). r.front ++ q) m.is in
    let gone = goes r.front m.more t chain r.walk.last (omega (arith, m.place)) in
    let split = filter_split (λ s. list_of lists s == list) running r.front t m.more chain in
    let others : Each (λ s. (s.number ≢ t.number) ⊎ (s ≡ t)) running
    = subst (λ (ts : List Placed). Each (λ s. (s.number ≢ t.number) ⊎ (s ≡ t)) ts) (sym split.1.1)
    (each_other split.0 t split.1.0 (subst AreDistinct split.1.1 distinct)) in
    let behind : Each (λ s. s.number ≢ t.number) m.more
    = distinct_behind r.front t m.more (subst AreDistinct chain (distinct_filter (λ s. list_of lists s == list) running distinct)) in
    let first : filter (due_at moment) running ≡ t ∷ filter (due_at moment) m.more
    = r.due ∙ ap (filter (due_at moment)) m.is ∙ filter_first (due_at moment) t m.more (is_due moment t due) in
    let left : filter (due_at moment) (filter (keep timer.number) running) ≡ filter (due_at moment) m.more
    = filter_swap (due_at moment) (keep timer.number) running
    ∙ ap (filter (keep timer.number)) first
    ∙ ap (λ (n : ℕ). filter (keep n) (t ∷ filter (due_at moment) m.more)) number
    ∙ filter_next (keep t.number) t (filter (due_at moment) m.more) (same_fails t.number t.number refl)
    ∙ kept_others t.number (filter (due_at moment) m.more) (each_filter (λ s. s.number ≢ t.number) (due_at moment) m.more behind) in
    let size : length r.rest ≡ length (t ∷ m.more) = ap length m.is in
    let all_rung : r.done ++ (t.payload ∷ rung_at moment m.more) ≡ rung_at moment was
    = ap (λ (q : List Placed). r.done ++ map (λ s. s.payload) q) (sym first) ∙ r.rung in
    let total : length (r.done ++ (t.payload ∷ rung_at moment m.more)) ≡ length (rung_at moment was) = ap length all_rung in
    let low : length r.done < length empty
    = omega (arith, total, length-append r.done (t.payload ∷ rung_at moment m.more), rung_few moment was, long) in
    record {
      front = r.front;
      rest = m.more;
      walk = record { all = gone.0; last = r.walk.last; leads = gone.1 };
      due = left;
      kept = filter_swap (not_due_at moment) (keep timer.number) running
          ∙ ap (λ (n : ℕ). filter (keep n) (filter (not_due_at moment) running)) number
          ∙ kept_others t.number (filter (not_due_at moment) running)
          (each_both (λ s. (s.number ≢ t.number) ⊎ (s ≡ t)) (λ s. not_due_at moment s ≡ true) (λ s. s.number ≢ t.number)
          (λ s either passes. elim either [
            | inl other ↦ other
            | inr same ↦ absurd (not_due_is moment s passes (ap (λ (q : Placed). q.due) same ∙ due))
          ])
          (filter (not_due_at moment) running)
          (each_filter (λ s. (s.number ≢ t.number) ⊎ (s ≡ t)) (not_due_at moment) running others)
          (each_passes (not_due_at moment) running))
          ∙ r.kept;
      done = r.done ++ timer.payload ∷ [];
      out_is = handed r.done empty out timer.payload count r.out_is r.many low;
      many = ap (λ (n : ℕ). n + 1) r.many ∙ sym (length-append r.done (timer.payload ∷ []));
      rung = append_assoc r.done (timer.payload ∷ []) (rung_at moment (filter (keep timer.number) running))
          ∙ ap (λ (q : List Placed). r.done ++ timer.payload ∷ map (λ s. s.payload) q) left
          ∙ ap (λ (n : ℕ). r.done ++ n ∷ map (λ s. s.payload) (filter (due_at moment) m.more)) payload
          ∙ all_rung;
      few = omega (arith, r.few, size);
    }
