-- The words of a value of four numbers.
use Rattle.std.specs.Prelude.{◌≡◌, ℕ, ◌≤◌, [], ◌∷◌, slice_index}
use Rattle.std.proofs.Common.{zero, suc, refl, arith}

zeros : (place : ℕ) → slice_index (0 ∷ 0 ∷ 0 ∷ 0 ∷ []) place ≡ 0
zeros zero = refl
zeros (suc zero) = refl
zeros (suc (suc zero)) = refl
zeros (suc (suc (suc zero))) = refl
zeros (suc (suc (suc (suc place)))) = refl

-- behind the four the words are 0
pub rest_is_zero : (a b c d place : ℕ) → 4 ≤ place → slice_index (a ∷ b ∷ c ∷ d ∷ 0 ∷ 0 ∷ 0 ∷ 0 ∷ []) place ≡ 0
rest_is_zero a b c d zero above = absurd (omega arith)
rest_is_zero a b c d (suc zero) above = absurd (omega arith)
rest_is_zero a b c d (suc (suc zero)) above = absurd (omega arith)
rest_is_zero a b c d (suc (suc (suc zero))) above = absurd (omega arith)
rest_is_zero a b c d (suc (suc (suc (suc place)))) above = zeros place
