-- the weight of all batches: the parts of it, and what moves leave of it
use Rattle.std.proofs.Common.{◌≡◌, ℕ, ◌+◌, ◌*◌, ◌<◌, ◌≤◌, ap, inl, inr, List, length, arith}
use Rattle.std.specs.Prelude.{slice_index}
use Rattle.std.proofs.lemmas.Bool.{cases_lt}
use Rattle.std.proofs.lemmas.List.Sums.{get_or-le-sum_by}
use Rattle.process_sums.specs.Sums.{total}
use Rattle.process_sums.proofs.Sums.{total_same, total_moved, total_le, total_each, total_sums, term_of_total, part_of_total}
use Rattle.word_layout.specs.Sizes.{Sizes}
use Rattle.transfer_machine.specs.States.{StackState}
use Rattle.pool_machine.specs.declared.view.ProcessView.{ProcessView}
use Rattle.batch_invariant.specs.Places.{moving}
use Rattle.batch_invariant.specs.Batches.{ProcessViews, MovedProcess, weight, process_weight}
use Rattle.batch_invariant.specs.Transit.{transit_weight}
use Rattle.chain_invariant.specs.Chains.{pool_weight, times_pooled, is_head}
use Rattle.chain_invariant.proofs.Weights.{counts_itself, counts_equal, weight_part, weight_le, weight_each}

-- the spares, and what is in transit or in the content
pub pool_parts : (sizes : Sizes) (s : StackState) (views : ProcessViews) (f : ℕ → ℕ)
    → pool_weight sizes s views f ≡ total sizes.processes (λ i. weight f (views i).pool.heads) + transit_weight sizes s views f
unfolding pool_weight transit_weight
pool_parts sizes s views f =
    omega (arith, total_sums sizes.processes (λ i. weight f (views i).pool.heads) (λ i. weight f (moving s i (views i).transfer)))

module _ (sizes : Sizes) (s : StackState) (views : ProcessViews) where
  -- a head at a place is one of these
  pub content_pooled : (place : ℕ) → place < s.height → 1 ≤ times_pooled sizes s views (s.content place)
  unfolding pool_weight
  content_pooled place lt =
      omega (arith, term_of_total s.height place (λ k. is_head (s.content place) (s.content k)) lt, counts_itself (s.content place))

  lists_pooled : (i head : ℕ) → i < sizes.processes → process_weight s i (views i) (is_head head) ≤ times_pooled sizes s views head
  unfolding pool_weight
  lists_pooled i head li =
      omega (arith, term_of_total sizes.processes i (λ o. process_weight s o (views o) (is_head head)) li)

  weighs_at : (xs : List ℕ) (place : ℕ) → place < length xs → 1 ≤ weight (is_head (slice_index xs place)) xs
  weighs_at xs place lt =
      omega (arith, get_or-le-sum_by (is_head (slice_index xs place)) xs place 0 lt, counts_itself (slice_index xs place))

  pub spare_pooled : (i place : ℕ) → i < sizes.processes → place < length (views i).pool.heads
      → 1 ≤ times_pooled sizes s views (slice_index (views i).pool.heads place)
  spare_pooled i place li lt = let head = slice_index (views i).pool.heads place in
      omega (arith, lists_pooled i head li, weighs_at (views i).pool.heads place lt)

  pub moving_pooled : (i head : ℕ) → i < sizes.processes → 1 ≤ weight (is_head head) (moving s i (views i).transfer)
      → 1 ≤ times_pooled sizes s views head
  moving_pooled i head li some = omega (arith, lists_pooled i head li)

  -- the weight of a head at a place is a part of all
  content_part : (f : ℕ → ℕ) (head content : ℕ) → 1 ≤ is_head head content → f head ≤ f content
  content_part f head content some = omega (arith, ap f (counts_equal head content some))

  lists_part : (f : ℕ → ℕ) (head : ℕ) (spares transit : List ℕ) → 1 ≤ weight (is_head head) spares + weight (is_head head) transit
      → f head ≤ weight f spares + weight f transit
  lists_part f head spares transit some = elim (cases_lt 0 (weight (is_head head) spares)) [
    | inl lt ↦ omega (arith, weight_part f head spares lt)
    | inr le ↦ omega (arith, weight_part f head transit (omega arith))
  ]

  pub pool_part : (f : ℕ → ℕ) (head : ℕ) → 1 ≤ times_pooled sizes s views head → f head ≤ pool_weight sizes s views f
  unfolding pool_weight
  pool_part f head some =
      let spares = λ (i : ℕ). (views i).pool.heads in
      let transit = λ (i : ℕ). moving s i (views i).transfer in
      elim (cases_lt 0 (total sizes.processes (λ i. weight (is_head head) (spares i) + weight (is_head head) (transit i)))) [
        | inl lt ↦ omega (
          arith,
          part_of_total sizes.processes (f head) (λ i. weight (is_head head) (spares i) + weight (is_head head) (transit i))
              (λ i. weight f (spares i) + weight f (transit i))
              (λ i li here. lists_part f head (spares i) (transit i) here) lt,
        )
        | inr le ↦ omega (
          arith,
          part_of_total s.height (f head) (λ k. is_head head (s.content k)) (λ k. f (s.content k))
              (λ k lk here. content_part f head (s.content k) here) (omega arith),
        )
      ]

  -- a number that is at most another one at all heads at places
  lists_le : (f g : ℕ → ℕ) → ((head : ℕ) → 1 ≤ times_pooled sizes s views head → f head ≤ g head) → (i : ℕ) → i < sizes.processes
      → process_weight s i (views i) f ≤ process_weight s i (views i) g
  lists_le f g le i li = omega (
    arith,
    weight_le f g (views i).pool.heads (λ head some. le head (omega (arith, lists_pooled i head li))),
    weight_le f g (moving s i (views i).transfer) (λ head some. le head (omega (arith, lists_pooled i head li))),
  )

  pub pool_le : (f g : ℕ → ℕ) → ((head : ℕ) → 1 ≤ times_pooled sizes s views head → f head ≤ g head)
      → pool_weight sizes s views f ≤ pool_weight sizes s views g
  unfolding pool_weight
  pool_le f g le = omega (
    arith,
    total_le sizes.processes (λ i. process_weight s i (views i) f) (λ i. process_weight s i (views i) g) (lists_le f g le),
    total_le s.height (λ k. f (s.content k)) (λ k. g (s.content k)) (λ k lk. le (s.content k) (content_pooled k lk)),
  )

  -- two numbers that agree there
  pub pool_same : (f g : ℕ → ℕ) → ((head : ℕ) → 1 ≤ times_pooled sizes s views head → g head ≡ f head)
      → pool_weight sizes s views g ≡ pool_weight sizes s views f
  pool_same f g same =
      omega (arith, pool_le f g (λ head some. omega (arith, same head some)), pool_le g f (λ head some. omega (arith, same head some)))

  -- the same number for each head
  pub pool_each : (n : ℕ) → pool_weight sizes s views (λ head. n)
      ≡ total sizes.processes (λ i. n * (length (views i).pool.heads + length (moving s i (views i).transfer))) + n * s.height
  unfolding pool_weight
  pool_each n =
      let lists = total_same sizes.processes (λ i. n * (length (views i).pool.heads + length (moving s i (views i).transfer)))
      (λ i. process_weight s i (views i) (λ head. n))
      (λ i li. omega (
        arith,
        weight_each n (views i).pool.heads,
        weight_each n (moving s i (views i).transfer),
        times_sum n (length (views i).pool.heads) (length (moving s i (views i).transfer)),
      )) in
      omega (arith, lists, total_each n s.height)
    where
      times_sum : (n a b : ℕ) → n * (a + b) ≡ n * a + n * b
      times_sum n a b = omega arith

-- one process moves: all that changes is its spares and what is in transit
pub pool_moved : (sizes : Sizes) (s : StackState) (views after : ProcessViews) (i : ℕ) (x : ProcessView) (f : ℕ → ℕ) → i < sizes.processes
    → MovedProcess i x views after
    → pool_weight sizes s after f + process_weight s i (views i) f ≡ pool_weight sizes s views f + process_weight s i x f
unfolding pool_weight
pool_moved sizes s views after i x f li moved =
    let lists = λ (v : ProcessViews) (o : ℕ). process_weight s o (v o) f in
    let all = total_moved sizes.processes i (lists views) (lists after) li
    (λ o lo ne. ap (λ v. process_weight s o v f) (moved.elsewhere o ne)) in
    let here = ap (λ v. process_weight s i v f) moved.here in
    omega (arith, all, here)
