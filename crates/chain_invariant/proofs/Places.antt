-- what the one equation gives: each block is at one place, and is one of the pool
use Rattle.std.proofs.Common.{◌≡◌, ◌≢◌, ℕ, ◌+◌, ◌<◌, ◌≤◌, inl, inr, List, ◌∷◌, arith}
use Rattle.std.proofs.lemmas.Bool.{cases_eq, cases_lt}
use Rattle.std.proofs.lemmas.List.Sums.{sum_by-cons}
use Rattle.process_sums.proofs.Sums.{term_of_total, two_terms_of_total}
use Rattle.word_layout.specs.Sizes.{Sizes, blocks}
use Rattle.transfer_machine.specs.States.{StackState}
use Rattle.transfer_invariant.specs.Memory.{Words}
use Rattle.batch_invariant.specs.Batches.{ProcessViews, weight}
use Rattle.chain_invariant.specs.Chains.{BlockLists, ChainsHold, NextsStay, OtherNextsStay, times_pooled, blocks_weight, is_head}
use Rattle.chain_invariant.proofs.Weights.{counts_itself, counts_equal, total_past, total_one}
use Rattle.chain_invariant.proofs.Pool.{pool_part, pool_le}
use Rattle.chain_invariant.proofs.Lists.{Begins, begins, StaysAlong}

-- a chain begins with the block that its code names
first_weighs : (first : ℕ) (rest chain : List ℕ) → chain ≡ first ∷ rest → 1 ≤ weight (is_head first) chain
first_weighs first rest chain is = rw is (omega (arith, sum_by-cons (is_head first) first rest, counts_itself first))

-- the first block of a chain stands in it
pub begin_weighs : (words : Words) (code count : ℕ) (chain : List ℕ) (b : Begins words code count chain)
    → 1 ≤ weight (is_head b.first) chain
begin_weighs words code count chain b = first_weighs b.first b.rest chain b.is

module _ (sizes : Sizes) (words : Words) (s : StackState) (views : ProcessViews) (batch_blocks current_blocks held_blocks : BlockLists)
    (hold : ChainsHold sizes words s views batch_blocks current_blocks held_blocks) where
  pub one_place : (b : ℕ) → b < blocks sizes → blocks_weight sizes s views batch_blocks current_blocks held_blocks (is_head b) ≡ 1
  one_place b lt = omega (arith, hold.placed (is_head b), total_one (blocks sizes) b lt)

  pub no_place : (b : ℕ) → blocks sizes ≤ b → blocks_weight sizes s views batch_blocks current_blocks held_blocks (is_head b) ≡ 0
  no_place b le = omega (arith, hold.placed (is_head b), total_past (blocks sizes) b le)

  once : (b : ℕ) → blocks_weight sizes s views batch_blocks current_blocks held_blocks (is_head b) ≤ 1
  once b = elim (cases_lt b (blocks sizes)) [ inl lt ↦ omega (arith, one_place b lt) | inr le ↦ omega (arith, no_place b le) ]

  low : (b : ℕ) → 1 ≤ blocks_weight sizes s views batch_blocks current_blocks held_blocks (is_head b) → b < blocks sizes
  low b some = elim (cases_lt b (blocks sizes)) [ inl lt ↦ lt | inr le ↦ absurd (omega (arith, no_place b le)) ]

  -- the parts of the weight
  list_and_batch : (b i head : ℕ) → i < sizes.processes → 1 ≤ times_pooled sizes s views head
      → weight (is_head b) (current_blocks i) + weight (is_head b) (held_blocks i) + weight (is_head b) (batch_blocks head)
      ≤ blocks_weight sizes s views batch_blocks current_blocks held_blocks (is_head b)
  unfolding blocks_weight
  list_and_batch b i head li some = omega (
    arith,
    term_of_total sizes.processes i (λ o. weight (is_head b) (current_blocks o) + weight (is_head b) (held_blocks o)) li,
    pool_part sizes s views (λ h. weight (is_head b) (batch_blocks h)) head some,
  )

  list_part : (b i : ℕ) → i < sizes.processes
      → weight (is_head b) (current_blocks i) + weight (is_head b) (held_blocks i)
      ≤ blocks_weight sizes s views batch_blocks current_blocks held_blocks (is_head b)
  unfolding blocks_weight
  list_part b i li = omega (
    arith,
    term_of_total sizes.processes i
        (λ o. weight (is_head b) (current_blocks o) + weight (is_head b) (held_blocks o)) li,
  )

  batch_part : (b head : ℕ) → 1 ≤ times_pooled sizes s views head
      → weight (is_head b) (batch_blocks head) ≤ blocks_weight sizes s views batch_blocks current_blocks held_blocks (is_head b)
  unfolding blocks_weight
  batch_part b head some = omega (arith, pool_part sizes s views (λ h. weight (is_head b) (batch_blocks h)) head some)

  list_pair : (b i o : ℕ) → i < sizes.processes → o < sizes.processes → o ≢ i
      → weight (is_head b) (current_blocks i) + weight (is_head b) (held_blocks i)
      + (weight (is_head b) (current_blocks o) + weight (is_head b) (held_blocks o))
      ≤ blocks_weight sizes s views batch_blocks current_blocks held_blocks (is_head b)
  unfolding blocks_weight
  list_pair b i o li lo ne =
      let number = λ (k : ℕ). weight (is_head b) (current_blocks k) + weight (is_head b) (held_blocks k) in
      omega (arith, two_terms_of_total sizes.processes i o number li lo ne)

  -- each block at a place is one of the pool
  pub current_low : (i b : ℕ) → i < sizes.processes → 1 ≤ weight (is_head b) (current_blocks i) → b < blocks sizes
  current_low i b li some = low b (omega (arith, list_part b i li))

  pub held_low : (i b : ℕ) → i < sizes.processes → 1 ≤ weight (is_head b) (held_blocks i) → b < blocks sizes
  held_low i b li some = low b (omega (arith, list_part b i li))

  pub batch_low : (head b : ℕ) → 1 ≤ times_pooled sizes s views head → 1 ≤ weight (is_head b) (batch_blocks head) → b < blocks sizes
  batch_low head b pooled some = low b (omega (arith, batch_part b head pooled))

  -- a held block is at no other place
  pub held_once : (i b : ℕ) → i < sizes.processes → 1 ≤ weight (is_head b) (held_blocks i) → weight (is_head b) (held_blocks i) ≡ 1
  held_once i b li some = omega (arith, once b, list_part b i li)

  pub held_by_one : (i b o : ℕ) → i < sizes.processes → o < sizes.processes → o ≢ i → 1 ≤ weight (is_head b) (held_blocks i)
      → weight (is_head b) (held_blocks o) ≡ 0
  held_by_one i b o li lo ne some = omega (arith, once b, list_pair b i o li lo ne)

  held_in_no_batch : (i b head : ℕ) → i < sizes.processes → 1 ≤ times_pooled sizes s views head → 1 ≤ weight (is_head b) (held_blocks i)
      → weight (is_head b) (batch_blocks head) ≡ 0
  held_in_no_batch i b head li pooled some = omega (arith, once b, list_and_batch b i head li pooled)

  held_in_no_list_at : (i b o : ℕ) → i < sizes.processes → o < sizes.processes → 1 ≤ weight (is_head b) (held_blocks i)
      → 1 ≤ weight (is_head b) (current_blocks o) → ⊥
  held_in_no_list_at i b o li lo some here = elim (cases_eq o i) [
    | inl same ↦ let mine = rw same at here in omega (arith, once b, list_part b i li, mine)
    | inr ne ↦ omega (arith, once b, list_pair b i o li lo ne)
  ]

  held_in_no_list : (i b o : ℕ) → i < sizes.processes → o < sizes.processes → 1 ≤ weight (is_head b) (held_blocks i)
      → weight (is_head b) (current_blocks o) ≡ 0
  held_in_no_list i b o li lo some = elim (cases_lt 0 (weight (is_head b) (current_blocks o))) [
    | inl lt ↦ absurd (held_in_no_list_at i b o li lo some lt)
    | inr le ↦ omega arith
  ]

  -- nor is a block of a current list or of a batch held
  pub current_not_held : (i b o : ℕ) → i < sizes.processes → o < sizes.processes → 1 ≤ weight (is_head b) (current_blocks i)
      → weight (is_head b) (held_blocks o) ≡ 0
  current_not_held i b o li lo some = elim (cases_lt 0 (weight (is_head b) (held_blocks o))) [
    | inl lt ↦ absurd (held_in_no_list_at o b i lo li lt some)
    | inr le ↦ omega arith
  ]

  pub batch_not_held : (head b o : ℕ) → o < sizes.processes → 1 ≤ times_pooled sizes s views head
      → 1 ≤ weight (is_head b) (batch_blocks head) → weight (is_head b) (held_blocks o) ≡ 0
  batch_not_held head b o lo pooled some = omega (arith, once b, list_and_batch b o head lo pooled)

  pub current_in_no_batch : (i b head : ℕ) → i < sizes.processes → 1 ≤ times_pooled sizes s views head
      → 1 ≤ weight (is_head b) (current_blocks i) → weight (is_head b) (batch_blocks head) ≡ 0
  current_in_no_batch i b head li pooled some = omega (arith, once b, list_and_batch b i head li pooled)

  -- chains stay where next words do
  pub batch_stays : (new : Words) (head : ℕ) → NextsStay sizes words new → 1 ≤ times_pooled sizes s views head
      → StaysAlong words new (batch_blocks head)
  batch_stays new head stay pooled b some = stay b (batch_low head b pooled some)

  pub current_stays : (new : Words) (i : ℕ) → NextsStay sizes words new → i < sizes.processes → StaysAlong words new (current_blocks i)
  current_stays new i stay li b some = stay b (current_low i b li some)

  apart : (block b : ℕ) (chain : List ℕ) → weight (is_head block) chain ≡ 0 → 1 ≤ weight (is_head b) chain → b ≢ block
  apart block b chain none some e = let here = rw e at some in omega (arith, here)

  pub batch_stays_but : (new : Words) (i block head : ℕ) → i < sizes.processes → 1 ≤ weight (is_head block) (held_blocks i)
      → OtherNextsStay sizes block words new → 1 ≤ times_pooled sizes s views head
      → StaysAlong words new (batch_blocks head)
  batch_stays_but new i block head li held stay pooled b some =
      stay b (batch_low head b pooled some) (apart block b (batch_blocks head) (held_in_no_batch i block head li pooled held) some)

  pub current_stays_but : (new : Words) (i block o : ℕ) → i < sizes.processes → 1 ≤ weight (is_head block) (held_blocks i)
      → OtherNextsStay sizes block words new → o < sizes.processes
      → StaysAlong words new (current_blocks o)
  current_stays_but new i block o li held stay lo b some =
      stay b (current_low o b lo some) (apart block b (current_blocks o) (held_in_no_list i block o li lo held) some)

  -- a head at a place is the first block of its batch, so it is a block, and at no other place
  pub batch_begins : (head : ℕ) → 1 ≤ sizes.length → 1 ≤ times_pooled sizes s views head
      → Begins words (head + 1) sizes.length (batch_blocks head)
  batch_begins head long pooled = begins words (head + 1) sizes.length (batch_blocks head) long (hold.batches head pooled)

  pub head_weighs : (head : ℕ) → 1 ≤ sizes.length → 1 ≤ times_pooled sizes s views head → 1 ≤ weight (is_head head) (batch_blocks head)
  head_weighs head long pooled =
      let b = batch_begins head long pooled in
      let same : b.first ≡ head = omega (arith, b.named) in
      rw same at (begin_weighs words (head + 1) sizes.length (batch_blocks head) b)

  pub head_low : (head : ℕ) → 1 ≤ sizes.length → 1 ≤ times_pooled sizes s views head → head < blocks sizes
  head_low head long pooled = batch_low head head pooled (head_weighs head long pooled)

  head_counts : (head other : ℕ) → 1 ≤ sizes.length → 1 ≤ times_pooled sizes s views other
      → is_head head other ≤ weight (is_head head) (batch_blocks other)
  head_counts head other long pooled = elim (cases_lt 0 (is_head head other)) [
    | inl lt ↦ let same = counts_equal head other lt in
        rw same (omega (arith, counts_itself head, rw same at (head_weighs other long pooled)))
    | inr le ↦ omega arith
  ]

  pub head_once : (head : ℕ) → 1 ≤ sizes.length → times_pooled sizes s views head ≤ 1
  unfolding blocks_weight
  head_once head long =
      omega (
        arith,
        once head,
        pool_le sizes s views (is_head head) (λ other. weight (is_head head) (batch_blocks other))
            (λ other pooled. head_counts head other long pooled),
      )
