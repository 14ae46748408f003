-- The keys that are present after commands: each of them once.
use Rattle.std.proofs.Common.{◌≡◌, ℕ, ◌+◌, ◌≤◌, ◌==◌, suc, Bool, true, false, cond, not, eqb, Option, Some, None, List, [], ◌∷◌, length}
use Rattle.std.proofs.Common.{filter, map, inl, inr, refl, sym, ap, ◌∙◌, subst, arith}
use Rattle.std.specs.Map.{lookup}
use Rattle.std.proofs.lemmas.Bool.{cases_eq}
use Rattle.std.proofs.lemmas.Bool.Decides.{nat_tests}
use Rattle.history_invariant.specs.Grips.{times}
use Rattle.history_invariant.proofs.Times.{length_without, times_push, times_without}
use Rattle.store_script.specs.Replies.{Kept, Walk, begun, present_but}

-- the keys of some pairs
abbrev pub keys_in : List (ℕ × Kept) → List ℕ
keys_in pairs = map (λ pair. pair.0) pairs

-- each present key is present once
abbrev pub HasEachOnce : Walk → Type 0
HasEachOnce walk = (key : ℕ) → times key (keys_in walk.present) ≤ 1

pub none_at_first : HasEachOnce begun
none_at_first key = omega arith

-- the keys without one are those of the pairs without it
keys_without : (key : ℕ) (pairs : List (ℕ × Kept))
    → keys_in (filter (λ pair. not (pair.0 == key)) pairs) ≡ filter (λ other. not (other == key)) (keys_in pairs)
keys_without key [] = refl
keys_without key (pair ∷ pairs) = by_test _ _ (pair.0 == key) (keys_without key pairs)
  where
    by_test : (fewer : List (ℕ × Kept)) (keys : List ℕ) (t : Bool) → keys_in fewer ≡ keys
        → keys_in (cond (not t) (pair ∷ fewer) fewer) ≡ cond (not t) (pair.0 ∷ keys) keys
    by_test fewer keys true rest = rest
    by_test fewer keys false rest = ap (λ all. pair.0 ∷ all) rest

length_keys : (pairs : List (ℕ × Kept)) → length (keys_in pairs) ≡ length pairs
length_keys [] = refl
length_keys (pair ∷ pairs) = ap suc (length_keys pairs)

-- a key for which nothing is kept isn't present, and one for which something is kept is
abbrev pub FitsKept : Option Kept → ℕ → Type 0
FitsKept None n = n ≡ 0
FitsKept (Some before) n = 1 ≤ n

pub times_fit_kept : (key : ℕ) (pairs : List (ℕ × Kept)) → FitsKept (lookup (eqb key) pairs) (times key (keys_in pairs))
times_fit_kept key [] = refl
times_fit_kept key (pair ∷ pairs) =
    subst (FitsKept (cond (eqb key pair.0) (Some pair.1) (lookup (eqb key) pairs))) (sym (times_push key pair.0 (keys_in pairs)))
    (by_test (eqb key pair.0) (pair.0 == key) (grind (arith, nat_tests)) (lookup (eqb key) pairs) (times_fit_kept key pairs))
  where
    by_test : (t u : Bool) → t ≡ u → (found : Option Kept) → FitsKept found (times key (keys_in pairs))
        → FitsKept (cond t (Some pair.1) found) (cond u 1 0 + times key (keys_in pairs))
    by_test true true e found rest = omega arith
    by_test true false e found rest = absurd cc
    by_test false true e found rest = absurd cc
    by_test false false e None rest = omega (arith, rest)
    by_test false false e (Some before) rest = omega (arith, rest)

-- without a key there is one fewer, where that key is present once
pub one_fewer : (key : ℕ) (walk : Walk) → HasEachOnce walk → 1 ≤ times key (keys_in walk.present)
    → length (present_but walk key) + 1 ≡ length walk.present
one_fewer key walk once some =
    omega (
      arith,
      some,
      once key,
      length_without key (keys_in walk.present),
      length_keys walk.present,
      length_keys (present_but walk key),
      ap length (keys_without key walk.present),
    )

times_without_key : (key other : ℕ) (walk : Walk)
    → times other (keys_in (present_but walk key)) ≡ cond (other == key) 0 (times other (keys_in walk.present))
times_without_key key other walk = ap (times other) (keys_without key walk.present) ∙ times_without key other (keys_in walk.present)

-- a key more, which wasn't there
once_more : (key other n : ℕ) → n ≤ 1 → (key ≡ other → n ≡ 0) → cond (key == other) 1 0 + n ≤ 1
once_more key other n few none = elim (cases_eq key other) [
  | inl e ↦ grind (arith, nat_tests, none e)
  | inr ne ↦ grind (arith, nat_tests)
]

pub once_with : (key : ℕ) (now : Kept) (pairs : List (ℕ × Kept)) → ((other : ℕ) → times other (keys_in pairs) ≤ 1)
    → times key (keys_in pairs) ≡ 0 → (other : ℕ) → times other (keys_in ((key, now) ∷ pairs)) ≤ 1
once_with key now pairs once none other =
    rw (times_push other key (keys_in pairs))
    (once_more key other (times other (keys_in pairs)) (once other) (λ e. subst (λ (k : ℕ). times k (keys_in pairs) ≡ 0) e none))

-- and a key fewer
once_without : (key other n : ℕ) → n ≤ 1 → cond (other == key) 0 n ≤ 1
once_without key other n few = grind (arith, nat_tests)

pub each_once_without : (key : ℕ) (walk : Walk) → HasEachOnce walk → (other : ℕ) → times other (keys_in (present_but walk key)) ≤ 1
each_once_without key walk once other =
    rw (times_without_key key other walk) (once_without key other (times other (keys_in walk.present)) (once other))

-- and that key isn't present then
none_without : (key n : ℕ) → cond (key == key) 0 n ≡ 0
none_without key n = grind (arith, nat_tests)

-- something else is kept for a present key
pub each_once_changed : (key : ℕ) (now : Kept) (walk : Walk) → HasEachOnce walk
    → (other : ℕ) → times other (keys_in ((key, now) ∷ present_but walk key)) ≤ 1
each_once_changed key now walk once =
    once_with key now (present_but walk key) (each_once_without key walk once)
    (times_without_key key key walk ∙ none_without key (times key (keys_in walk.present)))
