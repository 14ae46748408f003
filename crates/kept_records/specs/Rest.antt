-- The words of a value of two numbers.
use Rattle.std.specs.Prelude.{◌≡◌, ℕ, ◌≤◌, [], ◌∷◌, slice_index}
use Rattle.std.proofs.Common.{zero, suc, refl, arith}

zeros : (place : ℕ) → slice_index (0 ∷ 0 ∷ 0 ∷ 0 ∷ 0 ∷ 0 ∷ []) place ≡ 0
zeros zero = refl
zeros (suc zero) = refl
zeros (suc (suc zero)) = refl
zeros (suc (suc (suc zero))) = refl
zeros (suc (suc (suc (suc zero)))) = refl
zeros (suc (suc (suc (suc (suc zero))))) = refl
zeros (suc (suc (suc (suc (suc (suc place)))))) = refl

-- behind the two the words are 0
pub rest_is_zero : (x y place : ℕ) → 2 ≤ place → slice_index (x ∷ y ∷ 0 ∷ 0 ∷ 0 ∷ 0 ∷ 0 ∷ 0 ∷ []) place ≡ 0
rest_is_zero x y zero above = absurd (omega arith)
rest_is_zero x y (suc zero) above = absurd (omega arith)
rest_is_zero x y (suc (suc place)) above = zeros place
