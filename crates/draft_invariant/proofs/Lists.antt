-- lists of which one element is set, and either of two values
use Rattle.std.proofs.Common.{◌≡◌, arith, ℕ, ◌<◌, Bool, true, false, sym, subst, inl, inr}
use Rattle.std.proofs.Common.{List, length, get_or, set, get_or-set_same, get_or-set_other}
use Rattle.std.specs.Prelude.{if◌then◌else◌}
use Rattle.std.proofs.lemmas.Bool.{cases_eq}

-- a fact of all elements stays where it holds of the one that is set
pub set_each : (P : ℕ → Type 0) (xs : List ℕ) (i x : ℕ) → i < length xs → P x → ((k : ℕ) → P (get_or xs k 0)) → (k : ℕ)
    → P (get_or (set xs i x) k 0)
set_each P xs i x lt here there k = elim (cases_eq k i) [
  | inl e ↦ subst P (sym (rw e (get_or-set_same xs i x 0 lt))) here
  | inr ne ↦ subst P (sym (get_or-set_other xs i k x 0 ne)) (there k)
]

-- a fact of two values holds of either
pub either : (A : Type 0) (P : A → Type 0) (b : Bool) (x y : A) → P x → P y → P (if b then x else y)
either A P true x y h k = h
either A P false x y h k = k

-- no truth value is both
pub not_both : (b : Bool) → b ≡ false → b ≡ true → ⊥
not_both b e h = grind arith
