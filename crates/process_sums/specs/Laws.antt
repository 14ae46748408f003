-- what holds of all sums
use Rattle.std.specs.Prelude.{◌≡◌, ◌≢◌, ℕ, ◌+◌, ◌<◌, ◌≤◌}
use Rattle.process_sums.specs.Sums.{total, SomeTerm}

-- the same terms have one sum
abbrev pub SameTermsHaveOneSum : Type 0
SameTermsHaveOneSum = (count : ℕ) (f g : ℕ → ℕ)
    → ((o : ℕ) → o < count → g o ≡ f o)
    → total count g ≡ total count f

-- a sum moves as the one term does that changes
abbrev pub OneTermMovesTheSum : Type 0
OneTermMovesTheSum = (count i : ℕ) (f g : ℕ → ℕ)
    → i < count
    → ((o : ℕ) → o < count → o ≢ i → g o ≡ f o)
    → total count g + f i ≡ total count f + g i

-- a term is at most the sum
abbrev pub TermsAreWithinTheSum : Type 0
TermsAreWithinTheSum = (count i : ℕ) (f : ℕ → ℕ) → i < count → f i ≤ total count f

-- the sum of sums, term by term, is the sum of both sums
abbrev pub SumsAddUp : Type 0
SumsAddUp = (count : ℕ) (f g : ℕ → ℕ) → total count (λ o. f o + g o) ≡ total count f + total count g

-- a sum is that of its first terms and that of the others
abbrev pub SumsHaveParts : Type 0
SumsHaveParts = (first second : ℕ) (f : ℕ → ℕ) → total (first + second) f ≡ total first f + total second (λ k. f (first + k))

-- a sum that isn't 0 has a term that isn't
abbrev pub SomeTermIsThere : Type 0
SomeTermIsThere = (count : ℕ) (f : ℕ → ℕ) → 0 < total count f → SomeTerm count f
