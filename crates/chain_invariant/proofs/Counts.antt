-- what follows: heads are blocks, the stack has room, and all blocks are counted
use Rattle.std.proofs.Common.{◌≡◌, ◌≢◌, ℕ, true, ◌+◌, ◌-◌, ◌*◌, ◌<◌, ◌≤◌, ap, ◌∙◌, inl, inr, List, [], ◌∷◌, length, arith}
use Rattle.std.specs.Prelude.{slice_index, Contains}
use Rattle.std.specs.List.{All}
use Rattle.std.proofs.lemmas.Bool.{cases_lt}
use Rattle.std.proofs.lemmas.List.Sums.{sum_by-cons}
use Rattle.std.proofs.lemmas.List.Elements.{All-nil, All-cons}
use Rattle.std.proofs.Math.Nat.{mul-le-mul_right}
use Rattle.process_sums.specs.Sums.{total}
use Rattle.process_sums.proofs.Sums.{total_same, total_each, total_le, total_sums}
use Rattle.word_layout.specs.Sizes.{Sizes, blocks}
use Rattle.word_layout.specs.declared.announced.Wish.{Wish}
use Rattle.word_layout.specs.declared.announced.Wish.TheVariants.{Take, Give}
use Rattle.word_layout.specs.declared.name.WordName.TheVariants.{Next}
use Rattle.transfer_machine.specs.States.{StackState}
use Rattle.transfer_machine.specs.declared.stage.NextStep.TheVariants.{Announce}
use Rattle.transfer_invariant.specs.Memory.{Words}
use Rattle.transfer_invariant.specs.Progress.{has_announced}
use Rattle.batch_invariant.specs.Places.{given, moving}
use Rattle.batch_invariant.specs.Batches.{ProcessViews, weight}
use Rattle.batch_invariant.proofs.Moving.{moving_begun, moving_pending}
use Rattle.chain_invariant.specs.Chains.{BlockLists, ChainsHold, pool_weight, times_pooled, blocks_weight, is_head}
use Rattle.chain_invariant.specs.Laws.{IsFree, kept_blocks}
use Rattle.transfer_invariant.specs.Laws.{WishIsBlock}
use Rattle.chain_invariant.proofs.Weights.{counts_itself, has_weighs, weighs_none, weight_each}
use Rattle.chain_invariant.proofs.Pool.{pool_same, pool_each, content_pooled, spare_pooled, moving_pooled}
use Rattle.chain_invariant.proofs.Lists.{begins, code_first, empty_code}
use Rattle.chain_invariant.proofs.Places.{begin_weighs, batch_begins, current_low, batch_low, held_low, held_by_one, current_not_held}
use Rattle.chain_invariant.proofs.Places.{batch_not_held, head_low, head_weighs}

-- each element of a list meets a fact that all that weigh meet
all_low : (bound : ℕ) (xs : List ℕ) → ((b : ℕ) → 1 ≤ weight (is_head b) xs → b < bound) → All (λ b. b < bound) xs
all_low bound [] low = All-nil (λ b. b < bound)
all_low bound (x ∷ xs) low =
    All-cons (λ b. b < bound) x xs (low x (omega (arith, sum_by-cons (is_head x) x xs, counts_itself x)))
    (all_low bound xs (λ b some. low b (omega (arith, sum_by-cons (is_head b) x xs))))

given_is_block : (sizes : Sizes) (wish : Wish) → ((head : ℕ) → 1 ≤ weight (is_head head) (given wish) → head < blocks sizes)
    → WishIsBlock sizes wish
given_is_block sizes Take low = tt
given_is_block sizes (Give head) low = low head (omega (arith, sum_by-cons (is_head head) head [], counts_itself head))

-- a list and its rest
in_rest : (b first : ℕ) (rest chain : List ℕ) → chain ≡ first ∷ rest → 1 ≤ weight (is_head b) rest → 1 ≤ weight (is_head b) chain
in_rest b first rest chain is some = rw is (omega (arith, some, sum_by-cons (is_head b) first rest))

-- few blocks are free where the stack is empty and what is kept is little
few_at : (l height kept held all most : ℕ) → height ≡ 0 → kept + held + l * height ≡ all → kept ≤ most → all ≤ held + most
few_at l height kept held all most none counted few = let nothing : l * height ≡ 0 = rw none (omega arith) in
    omega (arith, counted, few, nothing)

module _ (sizes : Sizes) (words : Words) (s : StackState) (views : ProcessViews) (batches currents holds : BlockLists)
    (hold : ChainsHold sizes words s views batches currents holds) where
  -- heads are blocks
  pub content_low : (place : ℕ) → 1 ≤ sizes.length → place < s.height → s.content place < blocks sizes
  content_low place long lt =
      head_low sizes words s views batches currents holds hold (s.content place) long (content_pooled sizes s views place lt)

  pub spare_low : (i place : ℕ) → 1 ≤ sizes.length → i < sizes.processes → place < length (views i).pool.heads
      → slice_index (views i).pool.heads place < blocks sizes
  spare_low i place long li lt =
      head_low sizes words s views batches currents holds hold (slice_index (views i).pool.heads place) long
      (spare_pooled sizes s views i place li lt)

  moving_low : (i : ℕ) → 1 ≤ sizes.length → i < sizes.processes → (head : ℕ) → 1 ≤ weight (is_head head) (moving s i (views i).transfer)
      → head < blocks sizes
  moving_low i long li head some =
      head_low sizes words s views batches currents holds hold head long (moving_pooled sizes s views i head li some)

  pub transit_low : (i : ℕ) → 1 ≤ sizes.length → i < sizes.processes → All (λ head. head < blocks sizes) (moving s i (views i).transfer)
  transit_low i long li = all_low (blocks sizes) (moving s i (views i).transfer) (moving_low i long li)

  pub begun_low : (i : ℕ) → 1 ≤ sizes.length → i < sizes.processes → (views i).transfer.next ≡ Announce
      → WishIsBlock sizes (views i).transfer.wish
  begun_low i long li e = let is = moving_begun s i (views i).transfer e in
      given_is_block sizes (views i).transfer.wish (λ head some. moving_low i long li head
      (omega (arith, some, ap (weight (is_head head)) is)))

  pub pending_low : (i : ℕ) → 1 ≤ sizes.length → i < sizes.processes → has_announced (views i).transfer.next ≡ true
      → s.applied i ≢ (views i).transfer.age → WishIsBlock sizes (views i).transfer.wish
  pending_low i long li announced ne = let is = moving_pending s i (views i).transfer announced ne in
      given_is_block sizes (views i).transfer.wish (λ head some. moving_low i long li head
      (omega (arith, some, ap (weight (is_head head)) is)))

  -- the first block of the current list, and that of a spare, are free
  pub current_is_free : (i : ℕ) → i < sizes.processes → (views i).pool.plan.current ≢ 0
      → IsFree sizes holds ((views i).pool.head - 1) × (1 ≤ (views i).pool.head)
  current_is_free i li some =
      let b = begins words (views i).pool.head (views i).pool.plan.current (currents i) (omega arith) (hold.currents i li) in
      let named : b.first ≡ (views i).pool.head - 1 = omega (arith, b.named) in
      let weighs = rw named at (begin_weighs words (views i).pool.head (views i).pool.plan.current (currents i) b) in (
        record {
          low = current_low sizes words s views batches currents holds hold i ((views i).pool.head - 1) li weighs;
          free = λ o lo. weighs_none (holds o) ((views i).pool.head - 1)
              (current_not_held sizes words s views batches currents holds hold i ((views i).pool.head - 1) o li lo weighs);
        },
        omega (arith, b.named),
      )

  pub current_code : (i : ℕ) → i < sizes.processes → (views i).pool.plan.current ≡ 0 → (views i).pool.head ≡ 0
  current_code i li none = empty_code words (views i).pool.head (views i).pool.plan.current (currents i) none (hold.currents i li)

  pub current_next : (i : ℕ) → i < sizes.processes → (views i).pool.plan.current ≢ 0 → words (Next ((views i).pool.head - 1)) ≤ blocks sizes
  current_next i li some =
      let b = begins words (views i).pool.head (views i).pool.plan.current (currents i) (omega arith) (hold.currents i li) in
      let named : b.first ≡ (views i).pool.head - 1 = omega (arith, b.named) in
      let next = code_first words (words (Next b.first)) b.rest (blocks sizes) b.leads
      (λ c here. current_low sizes words s views batches currents holds hold i c li
      (in_rest c b.first b.rest (currents i) b.is here)) in
      rw named at next

  pub head_is_free : (head : ℕ) → 1 ≤ sizes.length → 1 ≤ times_pooled sizes s views head → IsFree sizes holds head
  head_is_free head long pooled = record {
    low = head_low sizes words s views batches currents holds hold head long pooled;
    free = λ o lo. weighs_none (holds o) head (batch_not_held sizes words s views batches currents holds hold head head o lo pooled
        (head_weighs sizes words s views batches currents holds hold head long pooled));
  }

  pub head_next : (head : ℕ) → 1 ≤ sizes.length → 1 ≤ times_pooled sizes s views head → words (Next head) ≤ blocks sizes
  head_next head long pooled =
      let b = batch_begins sizes words s views batches currents holds hold head long pooled in
      let named : b.first ≡ head = omega (arith, b.named) in
      let next = code_first words (words (Next b.first)) b.rest (blocks sizes) b.leads
      (λ c here. batch_low sizes words s views batches currents holds hold head c pooled
      (in_rest c b.first b.rest (batches head) b.is here)) in
      rw named at next

  -- a held block is one of the pool, and one other process doesn't hold it
  pub held_apart : (i block : ℕ) → i < sizes.processes → Contains (holds i) block
      → (block < blocks sizes) × ((o : ℕ) → o < sizes.processes → o ≢ i → ¬ Contains (holds o) block)
  held_apart i block li has =
      let some = has_weighs (holds i) block has in (
        held_low sizes words s views batches currents holds hold i block li some,
        λ o lo ne. weighs_none (holds o) block (held_by_one sizes words s views batches currents holds hold i block o li lo ne some),
      )

  -- the number of all blocks
  batches_counted : pool_weight sizes s views (λ head. weight (λ b. 1) (batches head)) ≡ pool_weight sizes s views (λ head. sizes.length)
  batches_counted = pool_same sizes s views (λ head. sizes.length) (λ head. weight (λ b. 1) (batches head))
      (λ head pooled. omega (arith, weight_each 1 (batches head), (hold.batches head pooled).size))

  lists_counted : total sizes.processes (λ i. weight (λ b. 1) (currents i) + weight (λ b. 1) (holds i))
      ≡ total sizes.processes (λ i. (views i).pool.plan.current) + total sizes.processes (λ i. length (holds i))
  lists_counted = total_same sizes.processes (λ i. (views i).pool.plan.current + length (holds i))
      (λ i. weight (λ b. 1) (currents i) + weight (λ b. 1) (holds i))
      (λ i li. omega (arith, weight_each 1 (currents i), weight_each 1 (holds i), (hold.currents i li).size))
      ∙ total_sums sizes.processes (λ i. (views i).pool.plan.current) (λ i. length (holds i))

  pub blocks_counted : total sizes.processes (λ i. kept_blocks sizes s i (views i)) + total sizes.processes (λ i. length (holds i))
      + sizes.length * s.height ≡ blocks sizes
  unfolding blocks_weight
  blocks_counted =
      let kept = total_sums sizes.processes (λ i. (views i).pool.plan.current)
      (λ i. sizes.length * (length (views i).pool.heads + length (moving s i (views i).transfer))) in
      omega (
        arith,
        hold.placed (λ b. 1),
        batches_counted,
        pool_each sizes s views sizes.length,
        lists_counted,
        kept,
        total_each 1 (blocks sizes),
      )

  pub room : 1 ≤ sizes.length → s.height ≤ sizes.batches
  unfolding blocks
  room long = few_batches s.height sizes.batches sizes.length long (omega (arith, blocks_counted))
    where
      few_batches : (height batches l : ℕ) → 1 ≤ l → l * height ≤ batches * l → height ≤ batches
      few_batches height batches l long le = elim (cases_lt batches height) [
        | inl lt ↦ absurd (omega (arith, mul-le-mul_right {m = batches + 1} {n = height} l (omega arith)))
        | inr le ↦ le
      ]

  pub few_free : s.height ≡ 0 → (most : ℕ → ℕ) → ((i : ℕ) → i < sizes.processes → kept_blocks sizes s i (views i) ≤ most i)
      → blocks sizes ≤ total sizes.processes (λ i. length (holds i)) + total sizes.processes most
  few_free none most few = few_at sizes.length s.height (total sizes.processes (λ i. kept_blocks sizes s i (views i)))
      (total sizes.processes (λ i. length (holds i))) (blocks sizes) (total sizes.processes most) none blocks_counted
      (total_le sizes.processes (λ i. kept_blocks sizes s i (views i)) most few)
