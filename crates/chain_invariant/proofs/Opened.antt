-- at the opening each batch is a run of blocks, one after the other
use Rattle.std.proofs.Common.{◌≡◌, ℕ, zero, suc, ◌+◌, ◌-◌, ◌*◌, ◌%◌, ◌<◌, ◌≤◌, ◌==◌, true, false, refl, ap, subst, ◌∙◌, List, [], ◌∷◌}
use Rattle.std.proofs.Common.{length, arith}
use Rattle.std.specs.Prelude.{if◌then◌else◌, nat_lt}
use Rattle.std.proofs.lemmas.Bool.Decides.{nat_tests}
use Rattle.std.proofs.lemmas.List.Sums.{sum_by-cons}
use Rattle.std.proofs.lemmas.Nat.{mod-mul-add}
use Rattle.process_sums.specs.Sums.{total, SomeTerm}
use Rattle.process_sums.proofs.Sums.{total_same, total_parts, total_pairs, total_rows, total_sums, some_term}
use Rattle.word_layout.specs.Sizes.{Sizes, IsShape, blocks}
use Rattle.word_layout.specs.declared.name.WordName.TheVariants.{Next}
use Rattle.word_layout.proofs.Limits.{two_blocks_a_batch, batch_within_blocks}
use Rattle.transfer_machine.specs.Opening.{opening_base, opening_slot, opening_next}
use Rattle.transfer_machine.specs.States.{StackState}
use Rattle.pool_machine.specs.Pools.{opening_view}
use Rattle.transfer_invariant.specs.Memory.{Words}
use Rattle.batch_invariant.specs.Batches.{ProcessViews, weight, process_weight}
use Rattle.batch_invariant.proofs.Moving.{moving_at_rest}
use Rattle.batch_invariant.proofs.Steps.{unannounced_matches}
use Rattle.chain_invariant.specs.Chains.{IsChain, IsChainOf, BlockLists, Chains, pool_weight, times_pooled, blocks_weight, is_head}
use Rattle.chain_invariant.proofs.Weights.{counts_equal}

-- so many numbers from a first one on
unfoldable run : ℕ → ℕ → List ℕ
run start zero = []
run start (suc count) = start ∷ run (start + 1) count

run_length : (start count : ℕ) → length (run start count) ≡ count
unfolding run
run_length start zero = refl
run_length start (suc count) = ap suc (run_length (start + 1) count)

run_weight : (f : ℕ → ℕ) (start count : ℕ) → weight f (run start count) ≡ total count (λ k. f (start + k))
unfolding run total
run_weight f start zero = refl
run_weight f start (suc count) =
    let rest = run_weight f (start + 1) count in
    let one : suc count ≡ 1 + count = omega arith in
    let first : start + 0 ≡ start = omega arith in
    let parts = total_parts 1 count (λ k. f (start + k)) in
    let shift = total_same count (λ k. f (start + 1 + k)) (λ k. f (start + (1 + k))) (λ k lt. ap f (shifted start k)) in
    let whole = ap (λ n. total n (λ k. f (start + k))) one in
    omega (arith, sum_by-cons f start (run (start + 1) count), whole, rest, parts, shift, ap f first)
  where
    shifted : (start k : ℕ) → start + (1 + k) ≡ start + 1 + k
    shifted start k = omega arith

-- a run whose next words name the following number, and none at its end
run_chain : (words : Words) (count start : ℕ) → ((j : ℕ) → j < count → words (Next (start + j)) ≡ start + j + 2)
    → words (Next (start + count)) ≡ 0 → IsChain words (start + 1) (run start (suc count))
unfolding run IsChain
run_chain words zero start inner last = let first : start + 0 ≡ start = omega arith in (refl, rw first at last)
run_chain words (suc count) start inner last =
    let first : start + 0 ≡ start = omega arith in
    let second : start + 2 ≡ start + 1 + 1 = omega arith in
    let next = rw first at (inner 0 (omega arith)) in
    let rest = run_chain words count (start + 1) (λ j lt. inner_shifted j (inner (j + 1) (omega arith))) (last_shifted last) in
    (refl, rw (next, second) rest)
  where
    inner_shifted : (j : ℕ) → words (Next (start + (j + 1))) ≡ start + (j + 1) + 2 → words (Next (start + 1 + j)) ≡ start + 1 + j + 2
    inner_shifted j e = let same : start + (j + 1) ≡ start + 1 + j = omega arith in rw same at e

    last_shifted : words (Next (start + suc count)) ≡ 0 → words (Next (start + 1 + count)) ≡ 0
    last_shifted e = let same : start + suc count ≡ start + 1 + count = omega arith in rw same at e

-- the opening's next words of a batch
rest_of : (l b j : ℕ) → j < l → (b * l + j) % l ≡ j
rest_of l b j lt = mod-mul-add b l j lt

next_at : (l block rest : ℕ) → block % l ≡ rest → rest + 1 < l → (if block % l == l - 1 then 0 else block + 2) ≡ block + 2
next_at l block rest e lt = let test : (block % l == l - 1) ≡ false = rw e (before l rest lt) in rw test refl
  where
    before : (l rest : ℕ) → rest + 1 < l → (rest == l - 1) ≡ false
    before l rest lt = grind (arith, nat_tests)

last_at : (l block : ℕ) → block % l ≡ l - 1 → (if block % l == l - 1 then 0 else block + 2) ≡ 0
last_at l block e = let test : (block % l == l - 1) ≡ true = rw e (itself (l - 1)) in rw test refl
  where
    itself : (n : ℕ) → (n == n) ≡ true
    itself n = grind (arith, nat_tests)

batch_chain : (sizes : Sizes) (words : Words) (b count : ℕ) → b < sizes.batches → count + 1 ≡ sizes.length
    → ((block : ℕ) → block < blocks sizes → words (Next block) ≡ opening_next sizes block)
    → IsChain words (b * sizes.length + 1) (run (b * sizes.length) (suc count))
batch_chain sizes words b count lb long next =
    let start = b * sizes.length in
    let within = batch_within_blocks sizes b lb in
    run_chain words count start
    (λ j lt. next (start + j) (omega arith) ∙ next_at sizes.length (start + j) j (rest_of sizes.length b j (omega arith)) (omega arith))
    (next (start + count) (omega arith) ∙ last_at sizes.length (start + count)
    (rest_of sizes.length b count (omega arith) ∙ last_of count sizes.length long))
  where
    last_of : (count l : ℕ) → count + 1 ≡ l → count ≡ l - 1
    last_of count l e = omega arith

batch_is_chain : (sizes : Sizes) (words : Words) (b : ℕ) → IsShape sizes → b < sizes.batches
    → ((block : ℕ) → block < blocks sizes → words (Next block) ≡ opening_next sizes block)
    → IsChainOf words (b * sizes.length + 1) sizes.length (run (b * sizes.length) sizes.length)
batch_is_chain sizes words b shape lb next = record { leads = leads; size = run_length (b * sizes.length) sizes.length }
  where
    count : ℕ
    count = sizes.length - 1

    more : suc count ≡ sizes.length
    more = omega (arith, two_blocks_a_batch sizes shape)

    leads : IsChain words (b * sizes.length + 1) (run (b * sizes.length) sizes.length)
    leads = subst (λ (n : ℕ). IsChain words (b * sizes.length + 1) (run (b * sizes.length) n)) more
        (batch_chain sizes words b count lb (omega (arith, more)) next)

module _ (sizes : Sizes) (words : Words) (s : StackState) (views : ProcessViews) (held : BlockLists) (shape : IsShape sizes)
    (next : (block : ℕ) → block < blocks sizes → words (Next block) ≡ opening_next sizes block)
    (height : s.height ≡ opening_base sizes) (content : (k : ℕ) → k < s.height → s.content k ≡ opening_slot sizes k)
    (seats : (i : ℕ) → i < sizes.processes → views i ≡ opening_view sizes i) (none : (i : ℕ) → i < sizes.processes → held i ≡ []) where
  -- the heads: each process has one in its current list and one spare, all others are on the stack
  on_stack : (k : ℕ) → k < opening_base sizes → opening_slot sizes k ≡ (2 * sizes.processes + k) * sizes.length
  on_stack k lt = below (opening_base sizes) k lt ((2 * sizes.processes + k) * sizes.length)
    where
      below : (base k : ℕ) → k < base → (head : ℕ) → (if nat_lt k base then head else 0) ≡ head
      below base k lt head = grind (arith, nat_tests)

  spare_weight : (f : ℕ → ℕ) (i : ℕ) → i < sizes.processes → f ((2 * i + 1) * sizes.length) ≡ process_weight s i (views i) f
  spare_weight f i li =
      rw (seats i li, moving_at_rest s i (opening_view sizes i).transfer refl)
      (omega (arith, sum_by-cons f ((2 * i + 1) * sizes.length) []))

  opened_pool : (f : ℕ → ℕ)
      → total sizes.processes (λ i. f (2 * i * sizes.length)) + pool_weight sizes s views f
      ≡ total sizes.batches (λ b. f (b * sizes.length))
  unfolding pool_weight
  opened_pool f =
      let spares = total_same sizes.processes (λ i. process_weight s i (views i) f) (λ i. f ((2 * i + 1) * sizes.length))
      (spare_weight f) in
      let both = total_sums sizes.processes (λ i. f (2 * i * sizes.length)) (λ i. f ((2 * i + 1) * sizes.length)) in
      let pairs = total_pairs sizes.processes (λ b. f (b * sizes.length)) in
      let stacked = λ (k : ℕ). f ((2 * sizes.processes + k) * sizes.length) in
      let rest = total_same (opening_base sizes) stacked (λ k. f (s.content k)) (λ k lt. ap f (content k (rw height lt) ∙ on_stack k lt)) in
      let parts = total_parts (2 * sizes.processes) (opening_base sizes) (λ b. f (b * sizes.length)) in
      let all : 2 * sizes.processes + opening_base sizes ≡ sizes.batches = omega (arith, shape.two_batches_each) in
      let whole = ap (λ n. total n (λ b. f (b * sizes.length))) all in
      let stack = ap (λ n. total n (λ k. f (s.content k))) height in
      omega (arith, spares, both, pairs, rest, parts, whole, stack)

  -- so a head at a place is that of a batch, and its run is a chain
  batch_of : (head : ℕ) → 1 ≤ times_pooled sizes s views head → SomeTerm sizes.batches (λ b. is_head head (b * sizes.length))
  batch_of head pooled = some_term sizes.batches (λ b. is_head head (b * sizes.length)) (omega (arith, pooled, opened_pool (is_head head)))

  opened_batch : (head : ℕ) → 1 ≤ times_pooled sizes s views head → IsChainOf words (head + 1) sizes.length (run head sizes.length)
  opened_batch head pooled =
      let batch = batch_of head pooled in
      let same : batch.place * sizes.length ≡ head = counts_equal head (batch.place * sizes.length) batch.some in
      rw same at (batch_is_chain sizes words batch.place shape batch.within next)

  opened_current : (i : ℕ) → i < sizes.processes
      → IsChainOf words (views i).pool.head (views i).pool.plan.current (run (2 * i * sizes.length) sizes.length)
  opened_current i li = rw (seats i li) (batch_is_chain sizes words (2 * i) shape (omega (arith, shape.two_batches_each)) next)

  -- all runs have all blocks
  all_runs : (f : ℕ → ℕ) → total sizes.batches (λ b. weight f (run (b * sizes.length) sizes.length)) ≡ total (blocks sizes) f
  unfolding blocks
  all_runs f = total_same sizes.batches (λ b. total sizes.length (λ k. f (b * sizes.length + k)))
      (λ b. weight f (run (b * sizes.length) sizes.length))
      (λ b lt. run_weight f (b * sizes.length) sizes.length)
      ∙ total_rows sizes.batches sizes.length f

  opened_placed : (f : ℕ → ℕ)
      → blocks_weight sizes s views (λ head. run head sizes.length) (λ i. run (2 * i * sizes.length) sizes.length) held f
      ≡ total (blocks sizes) f
  unfolding blocks_weight
  opened_placed f =
      let g = λ (head : ℕ). weight f (run head sizes.length) in
      let current = λ (i : ℕ). run (2 * i * sizes.length) sizes.length in
      let lists = total_same sizes.processes (λ i. g (2 * i * sizes.length)) (λ i. weight f (current i) + weight f (held i))
      (λ i li. omega (arith, ap (weight f) (none i li))) in
      omega (arith, lists, opened_pool g, all_runs f)

  pub opening_chains : Chains sizes words s views held
  opening_chains = record {
    batch_blocks = λ head. run head sizes.length;
    current_blocks = λ i. run (2 * i * sizes.length) sizes.length;
    hold = record {
      batches = opened_batch;
      currents = opened_current;
      placed = opened_placed;
      replies = λ i li. rw (seats i li) (unannounced_matches s i (opening_view sizes i).transfer refl);
    };
  }
