-- How choices went.
use Rattle.std.proofs.Common.{◌≡◌, ℕ, Bool, true, false, cond, not, eqb, ◌⊎◌, inl, inr, Some, refl, arith}
use Rattle.std.proofs.lemmas.Bool.Decides.{nat_tests}

-- a choice is what it is by its test, and the test tells which of both it is
pub chosen : {A : Type 0} (b : Bool) (x y z : A) → cond b x y ≡ z → ((b ≡ true) × (x ≡ z)) ⊎ ((b ≡ false) × (y ≡ z))
chosen b x y z h =
    elim b as (λ v. cond v x y ≡ z → ((v ≡ true) × (x ≡ z)) ⊎ ((v ≡ false) × (y ≡ z)))
    [ true ↦ λ e. inl (refl, e) | false ↦ λ e. inr (refl, e) ]
    h

-- a choice by the opposite of a test takes the other one
pub cond_not : {A : Type 0} (b : Bool) (x y : A) → cond (not b) x y ≡ cond b y x
cond_not true x y = refl
cond_not false x y = refl

-- where two things are there alike, they are the same
pub some_is : {A : Type 0} (x y : A) → Some x ≡ Some y → x ≡ y
some_is x y h = cc

-- a number that is the other one isn't a third one where that isn't
pub same_key : (key q k : ℕ) → eqb q k ≡ true → not (eqb k key) ≡ not (eqb key q)
same_key key q k e = grind (arith, nat_tests)
