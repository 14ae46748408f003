-- Lists of running timers: what holds of each, what a test leaves, and what stays apart.
use Rattle.std.proofs.Common.{◌≡◌, ◌≢◌, ℕ, ◌+◌, ◌≤◌, ◌==◌, ◌⊎◌, inl, inr, Bool, true, false, not, cond, List, [], ◌∷◌, ◌++◌, length, filter}
use Rattle.std.proofs.Common.{refl, sym, ap, ◌∙◌, arith, length-append}
use Rattle.std.proofs.lemmas.Bool.{false≢true}
use Rattle.std.proofs.lemmas.Bool.Decides.{nat_tests}
use Rattle.std.proofs.lemmas.List.Elements.{filter-append}
use Rattle.timer_wheel.specs.declared.changes.Placed.{Placed}
use Rattle.timer_wheel.specs.Tables.{Each, AreDistinct}

-- ---- each

module _ (Fact : Placed → Type 0) where
  -- of two lists behind each other
  pub each_append : (a b : List Placed) → Each Fact a → Each Fact b → Each Fact (a ++ b)
  each_append [] b f g = g
  each_append (x ∷ a) b f g = (f.0, each_append a b f.1 g)

  -- of the first of two lists
  pub each_left : (a b : List Placed) → Each Fact (a ++ b) → Each Fact a
  each_left [] b f = tt
  each_left (x ∷ a) b f = (f.0, each_left a b f.1)

  -- of the second
  pub each_right : (a b : List Placed) → Each Fact (a ++ b) → Each Fact b
  each_right [] b f = f
  each_right (x ∷ a) b f = each_right a b f.1

  -- of those that pass a test
  pub each_filter : (p : Placed → Bool) (xs : List Placed) → Each Fact xs → Each Fact (filter p xs)
  each_filter p [] f = tt
  each_filter p (x ∷ xs) f = at (p x) (each_filter p xs f.1)
    where
      at : (b : Bool) → Each Fact (filter p xs) → Each Fact (cond b (x ∷ filter p xs) (filter p xs))
      at true g = (f.0, g)
      at false g = g

-- a fact gives another
pub each_weaker : (Fact Weaker : Placed → Type 0) → ((t : Placed) → Fact t → Weaker t) → (xs : List Placed) → Each Fact xs → Each Weaker xs
each_weaker Fact Weaker gives [] f = tt
each_weaker Fact Weaker gives (x ∷ xs) f = (gives x f.0, each_weaker Fact Weaker gives xs f.1)

-- two facts give a third
pub each_both : (One Two Both : Placed → Type 0) → ((t : Placed) → One t → Two t → Both t) → (xs : List Placed) → Each One xs → Each Two xs
    → Each Both xs
each_both One Two Both gives [] f g = tt
each_both One Two Both gives (x ∷ xs) f g = (gives x f.0 g.0, each_both One Two Both gives xs f.1 g.1)

-- ---- tests

-- what passed a test passes it
pub each_passes : (p : Placed → Bool) (xs : List Placed) → Each (λ t. p t ≡ true) (filter p xs)
each_passes p [] = tt
each_passes p (x ∷ xs) = at (p x) (each_passes p xs) refl
  where
    at : (b : Bool) → Each (λ t. p t ≡ true) (filter p xs) → p x ≡ b → Each (λ t. p t ≡ true) (cond b (x ∷ filter p xs) (filter p xs))
    at true more e = (e, more)
    at false more e = more

-- where all pass, all are left
pub filter_all : (p : Placed → Bool) (xs : List Placed) → Each (λ t. p t ≡ true) xs → filter p xs ≡ xs
filter_all p [] f = refl
filter_all p (x ∷ xs) f = at (p x) (filter_all p xs f.1) f.0
  where
    at : (b : Bool) → filter p xs ≡ xs → b ≡ true → cond b (x ∷ filter p xs) (filter p xs) ≡ x ∷ xs
    at true more e = ap (λ (r : List Placed). x ∷ r) more
    at false more e = absurd (false≢true e)

-- where none passes, none is left
pub filter_none : (p : Placed → Bool) (xs : List Placed) → Each (λ t. p t ≡ false) xs → filter p xs ≡ []
filter_none p [] f = refl
filter_none p (x ∷ xs) f = at (p x) (filter_none p xs f.1) f.0
  where
    at : (b : Bool) → filter p xs ≡ [] → b ≡ false → cond b (x ∷ filter p xs) (filter p xs) ≡ []
    at true more e = absurd (false≢true (sym e))
    at false more e = more

-- the first is left where it passes
pub filter_first : (p : Placed → Bool) (x : Placed) (xs : List Placed) → p x ≡ true → filter p (x ∷ xs) ≡ x ∷ filter p xs
filter_first p x xs e = ap (λ (b : Bool). cond b (x ∷ filter p xs) (filter p xs)) e

-- the first is left out where it fails
pub filter_next : (p : Placed → Bool) (x : Placed) (xs : List Placed) → p x ≡ false → filter p (x ∷ xs) ≡ filter p xs
filter_next p x xs e = ap (λ (b : Bool). cond b (x ∷ filter p xs) (filter p xs)) e

-- two tests leave the same in either order
pub filter_swap : (p q : Placed → Bool) (xs : List Placed) → filter p (filter q xs) ≡ filter q (filter p xs)
filter_swap p q [] = refl
filter_swap p q (x ∷ xs) = at (p x) (q x) (filter_swap p q xs) refl refl
  where
    at : (b c : Bool) → filter p (filter q xs) ≡ filter q (filter p xs) → p x ≡ b → q x ≡ c
        → filter p (cond c (x ∷ filter q xs) (filter q xs)) ≡ filter q (cond b (x ∷ filter p xs) (filter p xs))
    at true true more e f =
        filter_first p x (filter q xs) e ∙ ap (λ (r : List Placed). x ∷ r) more ∙ sym (filter_first q x (filter p xs) f)
    at true false more e f = more ∙ sym (filter_next q x (filter p xs) f)
    at false true more e f = filter_next p x (filter q xs) e ∙ more
    at false false more e f = more

-- a list that has this one after a test has it before
pub filter_split : (p : Placed → Bool) (xs front : List Placed) (t : Placed) (rest : List Placed) → filter p xs ≡ front ++ t ∷ rest
    → (a : List Placed) × ((b : List Placed) × (xs ≡ a ++ t ∷ b))
filter_split p [] [] t rest e = absurd (cc)
filter_split p [] (u ∷ us) t rest e = absurd (cc)
filter_split p (x ∷ xs) front t rest e = at (p x) front e (λ others. filter_split p xs others t rest)
  where
    later : (a : List Placed) × ((b : List Placed) × (xs ≡ a ++ t ∷ b)) → (a : List Placed) × ((b : List Placed) × (x ∷ xs ≡ a ++ t ∷ b))
    later found = (x ∷ found.0, (found.1.0, ap (λ (r : List Placed). x ∷ r) found.1.1))

    at : (b : Bool) (front : List Placed) → cond b (x ∷ filter p xs) (filter p xs) ≡ front ++ t ∷ rest
        → ((others : List Placed) → filter p xs ≡ others ++ t ∷ rest → (a : List Placed) × ((b : List Placed) × (xs ≡ a ++ t ∷ b)))
        → (a : List Placed) × ((b : List Placed) × (x ∷ xs ≡ a ++ t ∷ b))
    at false front e more = later (more front e)
    at true [] e more = let same : x ≡ t = cc in ([], (xs, ap (λ (y : Placed). y ∷ xs) same))
    at true (u ∷ us) e more = let rest_is : filter p xs ≡ us ++ t ∷ rest = cc in later (more us rest_is)

-- ---- numbers apart

-- numbers stay apart where some timers are left out
pub distinct_filter : (p : Placed → Bool) (xs : List Placed) → AreDistinct xs → AreDistinct (filter p xs)
distinct_filter p [] d = tt
distinct_filter p (x ∷ xs) d = at (p x) (distinct_filter p xs d.1)
  where
    at : (b : Bool) → AreDistinct (filter p xs) → AreDistinct (cond b (x ∷ filter p xs) (filter p xs))
    at true more = (each_filter (λ other. other.number ≢ x.number) p xs d.0, more)
    at false more = more

-- and with a new number behind them
pub distinct_push : (t : Placed) (xs : List Placed) → AreDistinct xs → Each (λ u. t.number ≢ u.number) xs → AreDistinct (xs ++ t ∷ [])
distinct_push t [] d e = (tt, tt)
distinct_push t (x ∷ xs) d e = (each_append (λ other. other.number ≢ x.number) xs (t ∷ []) d.0 (e.0, tt), distinct_push t xs d.1 e.1)

-- so they are in the first part
pub distinct_left : (a b : List Placed) → AreDistinct (a ++ b) → AreDistinct a
distinct_left [] b d = tt
distinct_left (x ∷ a) b d = (each_left (λ other. other.number ≢ x.number) a b d.0, distinct_left a b d.1)

-- and in the second
pub distinct_right : (a b : List Placed) → AreDistinct (a ++ b) → AreDistinct b
distinct_right [] b d = d
distinct_right (x ∷ a) b d = distinct_right a b d.1

-- those before have other numbers than those behind
pub distinct_across : (a b : List Placed) → AreDistinct (a ++ b) → Each (λ u. Each (λ s. s.number ≢ u.number) b) a
distinct_across [] b d = tt
distinct_across (x ∷ a) b d = (each_right (λ other. other.number ≢ x.number) a b d.0, distinct_across a b d.1)

-- those before one and behind it have other numbers
pub distinct_before : (front : List Placed) (t : Placed) (rest : List Placed) → AreDistinct (front ++ t ∷ rest)
    → Each (λ s. s.number ≢ t.number) front
distinct_before front t rest d =
    each_weaker (λ u. Each (λ s. s.number ≢ u.number) (t ∷ rest)) (λ s. s.number ≢ t.number) (λ u each same. each.0 (sym same)) front
    (distinct_across front (t ∷ rest) d)

-- those behind it have other numbers
pub distinct_behind : (front : List Placed) (t : Placed) (rest : List Placed) → AreDistinct (front ++ t ∷ rest)
    → Each (λ s. s.number ≢ t.number) rest
distinct_behind front t rest d = (distinct_right front (t ∷ rest) d).0

-- ---- one timer is taken out

-- another number is kept
pub other_passes : (a b : ℕ) → a ≢ b → not (a == b) ≡ true
other_passes a b ne = grind (arith, nat_tests)

-- the same one is left out
pub same_fails : (a b : ℕ) → a ≡ b → not (a == b) ≡ false
same_fails a b e = grind (arith, nat_tests)

-- a timer with another number
abbrev pub keep : ℕ → Placed → Bool
keep number t = not (t.number == number)

-- those with other numbers stay
pub kept_others : (number : ℕ) (xs : List Placed) → Each (λ s. s.number ≢ number) xs → filter (keep number) xs ≡ xs
kept_others number xs each =
    filter_all (keep number) xs (each_weaker (λ s. s.number ≢ number) (λ s. keep number s ≡ true) (λ s. other_passes s.number number) xs
    each)

-- of a list with one timer of its number the others are left
pub without_one : (front : List Placed) (t : Placed) (rest : List Placed) → AreDistinct (front ++ t ∷ rest)
    → filter (keep t.number) (front ++ t ∷ rest) ≡ front ++ rest
without_one front t rest d =
    filter-append (keep t.number) front (t ∷ rest)
    ∙ ap (λ (a : List Placed). a ++ filter (keep t.number) (t ∷ rest)) (kept_others t.number front (distinct_before front t rest d))
    ∙ ap (λ (b : List Placed). front ++ b)
    (filter_next (keep t.number) t rest (same_fails t.number t.number refl) ∙ kept_others t.number rest (distinct_behind front t rest d))

-- each is the one, or has another number
pub each_other : (a : List Placed) (t : Placed) (b : List Placed) → AreDistinct (a ++ t ∷ b)
    → Each (λ s. (s.number ≢ t.number) ⊎ (s ≡ t)) (a ++ t ∷ b)
each_other a t b d =
    let Fact : Placed → Type 0 = λ s. (s.number ≢ t.number) ⊎ (s ≡ t) in
    each_append Fact a (t ∷ b) (each_weaker (λ s. s.number ≢ t.number) Fact (λ s ne. inl ne) a (distinct_before a t b d))
    (inr refl, each_weaker (λ s. s.number ≢ t.number) Fact (λ s ne. inl ne) b (distinct_behind a t b d))

-- one fewer is left
pub one_fewer : (a : List Placed) (t : Placed) (b : List Placed) → AreDistinct (a ++ t ∷ b)
    → length (filter (keep t.number) (a ++ t ∷ b)) + 1 ≡ length (a ++ t ∷ b)
one_fewer a t b d =
    let left : length (filter (keep t.number) (a ++ t ∷ b)) ≡ length (a ++ b) = ap length (without_one a t b d) in
    omega (arith, left, length-append a b, length-append a (t ∷ b))

-- a list that has one after a test isn't empty
pub some_before : (p : Placed → Bool) (xs front : List Placed) (t : Placed) (rest : List Placed) → filter p xs ≡ front ++ t ∷ rest
    → 1 ≤ length xs
some_before p xs front t rest e =
    let split = filter_split p xs front t rest e in
    let size : length xs ≡ length (split.0 ++ t ∷ split.1.0) = ap length split.1.1 in
    omega (arith, size, length-append split.0 (t ∷ split.1.0))
