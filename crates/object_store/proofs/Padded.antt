-- Eight words that are read one after the other.
use Rattle.std.proofs.Common.{◌≡◌, ℕ, ◌<◌, ◌≤◌, ◌⊎◌, inl, inr, List, length, get_or, sym, ◌∙◌, subst, arith}
use Rattle.std.proofs.lemmas.Bool.{cases_lt}
use Rattle.std.proofs.lemmas.Grind.{get_or_default_zero}
use Rattle.std.proofs.lemmas.List.{same_lists}
use Rattle.object_store.specs.Objects.{IsPadded}

-- eight words that are 0 from a number on, and before it those of others that are padded so, are these
pub padded_same : (count : ℕ) (a b : List ℕ) → length a ≡ 8 → IsPadded count b
    → ((place : ℕ) → place < count → get_or a place 0 ≡ get_or b place 0)
    → ((place : ℕ) → count ≤ place → get_or a place 0 ≡ 0) → a ≡ b
padded_same count a b eight padded before behind =
    same_lists a b (eight ∙ sym padded.eight) (λ place other within.
    let inside : place < length b = omega (arith, eight, padded.eight) in
    get_or_default_zero a place other within ∙ at place ∙ sym (get_or_default_zero b place other inside))
  where
    at : (place : ℕ) → get_or a place 0 ≡ get_or b place 0
    at place = elim (cases_lt place count) [ inl low ↦ before place low | inr high ↦ behind place high ∙ sym (padded.rest place high) ]
