-- Numbers that are read one by one.
use Rattle.std.proofs.Common.{◌≡◌, ℕ, ◌<◌, ◌≤◌, List, [], ◌∷◌, ◌++◌, length, Option, None, Some, refl, ap, sym, append_assoc, append-nil}
use Rattle.std.proofs.Common.{arith}
use Rattle.std.proofs.lemmas.Bool.{lt-leb, le-leb}
use Rattle.std.proofs.lemmas.List.{length-append}
use Rattle.store_script.specs.Line.{with_number}
use Rattle.store_script.specs.Numbers.{few, behind}

-- numbers that were found go behind none
pub behind_none : (numbers : Option (List ℕ)) → behind [] numbers ≡ numbers
behind_none None = refl
behind_none (Some numbers) = refl

-- one more number was found
pub behind_more : (found : List ℕ) (number : ℕ) (numbers : Option (List ℕ))
    → behind found (with_number (Some number) numbers) ≡ behind (found ++ number ∷ []) numbers
behind_more found number None = refl
behind_more found number (Some numbers) = ap Some (sym (append_assoc found (number ∷ []) numbers))

-- five numbers and one more are too many
pub few_full : (found : List ℕ) (number : ℕ) (numbers : Option (List ℕ)) → length found ≡ 5
    → few (behind found (with_number (Some number) numbers)) ≡ None
few_full found number None full = refl
few_full found number (Some numbers) full =
    let long : 5 < length (found ++ number ∷ numbers) = omega (arith, length-append found (number ∷ numbers)) in
    rw (lt-leb _ _ long) refl

-- at most five numbers are few, where no others follow
pub few_found : (found : List ℕ) → length found ≤ 5 → few (behind found (Some [])) ≡ Some found
few_found found short = rw (append-nil found, le-leb _ _ short) refl
