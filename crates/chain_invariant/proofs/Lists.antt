-- chains: their first blocks, and which next words they rest on
use Rattle.std.proofs.Common.{◌≡◌, ℕ, ◌+◌, ◌<◌, ◌≤◌, refl, ◌∙◌, List, [], ◌∷◌, length, arith}
use Rattle.std.proofs.lemmas.List.Sums.{sum_by-cons}
use Rattle.word_layout.specs.declared.name.WordName.TheVariants.{Next}
use Rattle.transfer_invariant.specs.Memory.{Words}
use Rattle.batch_invariant.specs.Batches.{weight}
use Rattle.chain_invariant.specs.Chains.{IsChain, IsChainOf, is_head}
use Rattle.chain_invariant.proofs.Weights.{counts_itself}

-- a chain with a block: that block, and the chain of its next word
pub record Begins (words : Words) (code count : ℕ) (chain : List ℕ) : Type 0 where
  pub first : ℕ
  pub rest : List ℕ
  pub is : chain ≡ first ∷ rest
  pub named : code ≡ first + 1
  pub leads : IsChain words (words (Next first)) rest
  pub size : length rest + 1 ≡ count

chain_begins : (words : Words) (code count : ℕ) (chain : List ℕ) → 1 ≤ count → IsChain words code chain → length chain ≡ count
    → Begins words code count chain
unfolding IsChain
chain_begins words code count [] some leads size = absurd (omega (arith, size))
chain_begins words code count (first ∷ rest) some leads size =
    record { first = first; rest = rest; is = refl; named = leads.0; leads = leads.1; size = omega (arith, size) }

-- a chain of at least one block begins with one
pub begins : (words : Words) (code count : ℕ) (chain : List ℕ) → 1 ≤ count → IsChainOf words code count chain
    → Begins words code count chain
begins words code count chain some h = chain_begins words code count chain some h.leads h.size

-- the empty chain has the code 0
chain_ends : (words : Words) (code : ℕ) (chain : List ℕ) → IsChain words code chain → length chain ≡ 0 → code ≡ 0
unfolding IsChain
chain_ends words code [] leads size = leads
chain_ends words code (first ∷ rest) leads size = absurd (omega (arith, size))

-- a chain of no block has the code 0
pub empty_code : (words : Words) (code count : ℕ) (chain : List ℕ) → count ≡ 0 → IsChainOf words code count chain → code ≡ 0
empty_code words code count chain none h = chain_ends words code chain h.leads (h.size ∙ none)

no_blocks : (chain : List ℕ) → length chain ≡ 0 → chain ≡ []
no_blocks [] size = refl
no_blocks (first ∷ rest) size = absurd (omega (arith, size))

-- a chain of no block is empty
pub empty_chain : (words : Words) (code count : ℕ) (chain : List ℕ) → count ≡ 0 → IsChainOf words code count chain → chain ≡ []
empty_chain words code count chain none h = no_blocks chain (h.size ∙ none)

-- a code other than 0 is that of the first block
pub code_first : (words : Words) (code : ℕ) (chain : List ℕ) (bound : ℕ) → IsChain words code chain
    → ((b : ℕ) → 1 ≤ weight (is_head b) chain → b < bound) → code ≤ bound
unfolding IsChain
code_first words code [] bound leads low = omega arith
code_first words code (first ∷ rest) bound leads low =
    omega (arith, leads.0, low first (omega (arith, sum_by-cons (is_head first) first rest, counts_itself first)))

-- the words may change elsewhere
abbrev pub StaysAlong : Words → Words → List ℕ → Type 0
StaysAlong words new chain = (b : ℕ) → 1 ≤ weight (is_head b) chain → new (Next b) ≡ words (Next b)

chain_same : (words new : Words) (code : ℕ) (chain : List ℕ) → StaysAlong words new chain → IsChain words code chain
    → IsChain new code chain
unfolding IsChain
chain_same words new code [] stays leads = leads
chain_same words new code (first ∷ rest) stays leads =
    let here = stays first (omega (arith, sum_by-cons (is_head first) first rest, counts_itself first)) in (
      leads.0,
      rw here (chain_same words new (words (Next first)) rest
          (λ b some. stays b (omega (arith, sum_by-cons (is_head b) first rest))) leads.1),
    )

-- a chain stays one while the next words of its blocks stay
pub chain_stays : (words new : Words) (code count : ℕ) (chain : List ℕ) → StaysAlong words new chain → IsChainOf words code count chain
    → IsChainOf new code count chain
chain_stays words new code count chain stays h = record { leads = chain_same words new code chain stays h.leads; size = h.size }

-- the rest of a chain is one, and a block before a chain makes one
rest_along : (words new : Words) (first : ℕ) (rest chain : List ℕ) → chain ≡ first ∷ rest → StaysAlong words new chain
    → StaysAlong words new rest
rest_along words new first rest chain is stays b some = stays b (rw is (omega (arith, some, sum_by-cons (is_head b) first rest)))

-- the rest of a chain after its first block is one
pub rest_chain : (words new : Words) (code count : ℕ) (chain : List ℕ) (first less : ℕ) (b : Begins words code count chain)
    → b.first ≡ first → less + 1 ≡ count → StaysAlong words new chain
    → IsChainOf new (words (Next first)) less b.rest
rest_chain words new code count chain first less b named size stays =
    let rest : IsChainOf words (words (Next first)) less b.rest = record { leads = rw named at b.leads; size = omega (arith, b.size) } in
    chain_stays words new (words (Next first)) less b.rest (rest_along words new b.first b.rest chain b.is stays) rest

-- a block whose next word leads to a chain makes one with it
pub longer_chain : (words : Words) (code count block : ℕ) (chain : List ℕ) → words (Next block) ≡ code → IsChainOf words code count chain
    → IsChainOf words (block + 1) (count + 1) (block ∷ chain)
unfolding IsChain
longer_chain words code count block chain next h = record { leads = (refl, rw next h.leads); size = omega (arith, h.size) }

-- the code 0 leads to the empty chain
pub no_chain : (words : Words) → IsChainOf words 0 0 []
unfolding IsChain
no_chain words = record { leads = refl; size = refl }
