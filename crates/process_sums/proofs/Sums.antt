-- sums of a number of each of so many
use Rattle.std.proofs.Common.{◌≡◌, ◌≢◌, ℕ, zero, suc, ◌+◌, ◌*◌, ◌<◌, ◌≤◌, refl, inl, inr, arith, add-one}
use Rattle.std.proofs.lemmas.Bool.{cases_eq}
use Rattle.process_sums.specs.Sums.{total, SomeTerm}

-- one term more
pub total_more : (count : ℕ) (f : ℕ → ℕ) → total (count + 1) f ≡ total count f + f count
unfolding total
total_more count f = rw add-one refl

-- the same terms have one sum
pub total_same : (count : ℕ) (f g : ℕ → ℕ)
    → ((o : ℕ) → o < count → g o ≡ f o)
    → total count g ≡ total count f
unfolding total
total_same zero f g same = refl
total_same (suc count) f g same = omega (arith, total_same count f g (λ o lt. same o (omega arith)), same count (omega arith))

-- one term changes, and the sum as much
pub total_moved : (count i : ℕ) (f g : ℕ → ℕ)
    → i < count
    → ((o : ℕ) → o < count → o ≢ i → g o ≡ f o)
    → total count g + f i ≡ total count f + g i
unfolding total
total_moved zero i f g lt others = absurd (omega arith)
total_moved (suc count) i f g lt others = elim (cases_eq count i) [
  | inl e ↦ rw (← e) (omega (arith, total_same count f g (λ o l. others o (omega arith) (omega arith))))
  | inr ne ↦ omega (arith, total_moved count i f g (omega arith) (λ o l. others o (omega arith)), others count (omega arith) ne)
]

-- a term changes and keeps its value
pub total_kept : (count i : ℕ) (f g : ℕ → ℕ)
    → ((o : ℕ) → o < count → o ≢ i → g o ≡ f o)
    → g i ≡ f i
    → total count g ≡ total count f
total_kept count i f g others here =
    total_same count f g (λ o lt. elim (cases_eq o i) [ inl e ↦ rw e here | inr ne ↦ others o lt ne ])

-- term by term, no term is greater, and so the sum isn't
pub total_le : (count : ℕ) (f g : ℕ → ℕ)
    → ((o : ℕ) → o < count → f o ≤ g o)
    → total count f ≤ total count g
unfolding total
total_le zero f g le = omega arith
total_le (suc count) f g le = omega (arith, le count (omega arith), total_le count f g (λ o lt. le o (omega arith)))

-- so many terms of one value
pub total_each : (n count : ℕ) → total count (λ k. n) ≡ n * count
unfolding total
total_each n zero = omega arith
total_each n (suc count) = omega (arith, total_each n count)

-- no term is greater than a number
pub total_at_most : (n count : ℕ) (f : ℕ → ℕ)
    → ((o : ℕ) → o < count → f o ≤ n)
    → total count f ≤ n * count
total_at_most n count f le = omega (arith, total_le count f (λ o. n) le, total_each n count)

-- no term is more than 0
pub total_none : (count : ℕ) (f : ℕ → ℕ)
    → ((o : ℕ) → o < count → f o ≡ 0)
    → total count f ≡ 0
unfolding total
total_none zero f none = refl
total_none (suc count) f none = omega (arith, none count (omega arith), total_none count f (λ o lt. none o (omega arith)))

-- one term alone is more than 0
pub total_of_one : (count i : ℕ) (f : ℕ → ℕ)
    → i < count
    → ((o : ℕ) → o < count → o ≢ i → f o ≡ 0)
    → total count f ≡ f i
total_of_one count i f lt others =
    omega (arith, total_moved count i (λ o. 0) f lt others, total_none count (λ o. 0) (λ o lo. refl))

-- at most one term is more than 0, and that is 1 at most
pub total_once : (count : ℕ) (f : ℕ → ℕ)
    → ((o : ℕ) → o < count → f o ≤ 1)
    → ((o k : ℕ) → o < k → k < count → 1 ≤ f k → f o ≡ 0)
    → total count f ≤ 1
unfolding total
total_once zero f one apart = omega arith
total_once (suc count) f one apart = elim (cases_eq (f count) 0) [
  | inl e ↦ omega (arith, total_once count f (λ o lt. one o (omega arith)) (λ o k ok lk. apart o k ok (omega arith)))
  | inr ne ↦ omega (arith, one count (omega arith), total_none count f (λ o lt. apart o count lt (omega arith) (omega arith)))
]

-- a sum term by term
pub total_sums : (count : ℕ) (f g : ℕ → ℕ) → total count (λ o. f o + g o) ≡ total count f + total count g
unfolding total
total_sums zero f g = refl
total_sums (suc count) f g = omega (arith, total_sums count f g)

-- one part after the other
pub total_parts : (first second : ℕ) (f : ℕ → ℕ) → total (first + second) f ≡ total first f + total second (λ k. f (first + k))
unfolding total
total_parts first zero f = let none : first + 0 ≡ first = omega arith in rw none (omega arith)
total_parts first (suc second) f =
    let more : first + suc second ≡ (first + second) + 1 = omega arith in
    rw (more, total_more (first + second) f) (omega (arith, total_parts first second f))

-- by rows of so many terms
pub total_rows : (rows length : ℕ) (f : ℕ → ℕ) → total rows (λ r. total length (λ k. f (r * length + k))) ≡ total (rows * length) f
unfolding total
total_rows zero length f = let none : 0 * length ≡ 0 = omega arith in rw none refl
total_rows (suc rows) length f =
    let more : suc rows * length ≡ rows * length + length = omega arith in
    rw more (omega (arith, total_parts (rows * length) length f, total_rows rows length f))

-- by pairs
pub total_pairs : (count : ℕ) (f : ℕ → ℕ) → total count (λ o. f (2 * o) + f (2 * o + 1)) ≡ total (2 * count) f
unfolding total
total_pairs zero f = refl
total_pairs (suc count) f =
    let twice : 2 * suc count ≡ (2 * count + 1) + 1 = omega arith in
    rw (twice, total_more (2 * count + 1) f, total_more (2 * count) f) (omega (arith, total_pairs count f))

-- a term is at most the sum
pub term_of_total : (count i : ℕ) (f : ℕ → ℕ) → i < count → f i ≤ total count f
unfolding total
term_of_total zero i f lt = absurd (omega arith)
term_of_total (suc count) i f lt = elim (cases_eq count i) [
  | inl e ↦ rw (← e) (omega arith)
  | inr ne ↦ omega (arith, term_of_total count i f (omega arith))
]

-- and so are two terms together
pub two_terms_of_total : (count i j : ℕ) (f : ℕ → ℕ) → i < count → j < count → j ≢ i → f i + f j ≤ total count f
unfolding total
two_terms_of_total zero i j f lt low ne = absurd (omega arith)
two_terms_of_total (suc count) i j f lt low ne = elim (cases_eq count i) [
  | inl e ↦ rw (← e) (omega (arith, term_of_total count j f (omega arith)))
  | inr past ↦ elim (cases_eq count j) [
    | inl e ↦ rw (← e) (omega (arith, term_of_total count i f (omega arith)))
    | inr before ↦ omega (arith, two_terms_of_total count i j f (omega arith) (omega arith) ne)
  ]
]

-- a sum that isn't 0 has a term that isn't
pub some_term : (count : ℕ) (f : ℕ → ℕ) → 0 < total count f → SomeTerm count f
unfolding total
some_term zero f some = absurd (omega arith)
some_term (suc count) f some = elim (cases_eq (f count) 0) [
  | inl none ↦
      let term = some_term count f (omega (arith, none)) in
      record { place = term.place; within = omega (arith, term.within); some = term.some }
  | inr more ↦ record { place = count; within = omega arith; some = omega arith }
]

-- where some term of a sum is there, so is a part of another sum
pub part_of_total : (count part : ℕ) (f g : ℕ → ℕ)
    → ((o : ℕ) → o < count → 1 ≤ f o → part ≤ g o)
    → 1 ≤ total count f
    → part ≤ total count g
part_of_total count part f g parts some =
    let term = some_term count f some in
    omega (arith, parts term.place term.within term.some, term_of_total count term.place g term.within)
