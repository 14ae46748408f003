-- the part of the invariant that says where each block is
use Rattle.std.specs.Prelude.{◌≡◌, ◌≢◌, ℕ, ◌+◌, ◌<◌, ◌≤◌, ◌==◌, not, if◌then◌else◌, List, [], ◌∷◌, length, filter}
use Rattle.process_sums.specs.Sums.{total}
use Rattle.word_layout.specs.Sizes.{Sizes, blocks}
use Rattle.word_layout.specs.declared.name.WordName.TheVariants.{Next}
use Rattle.transfer_machine.specs.States.{StackState}
use Rattle.transfer_invariant.specs.Memory.{Words}
use Rattle.batch_invariant.specs.Batches.{ProcessViews, ReplyMatches, weight, process_weight}

-- the blocks that a code leads to by next words: none from 0, from `block + 1` that block and then those that its next word leads to
unfoldable pub IsChain : Words → ℕ → List ℕ → Type 0
IsChain words code [] = code ≡ 0
IsChain words code (block ∷ rest) = (code ≡ block + 1) × IsChain words (words (Next block)) rest

-- the same with so many blocks
pub record IsChainOf (words : Words) (code count : ℕ) (chain : List ℕ) : Type 0 where
  pub leads : IsChain words code chain
  pub size : length chain ≡ count

-- lists of blocks: of a process by its number, or of a batch by its head
abbrev pub BlockLists : Type 0
BlockLists = ℕ → List ℕ

-- the weight of all batches: of the spares of the processes, in transit, and in the content
unfoldable pub pool_weight : Sizes → StackState → ProcessViews → (ℕ → ℕ) → ℕ
pool_weight sizes s views f = total sizes.processes (λ i. process_weight s i (views i) f) + total s.height (λ k. f (s.content k))

-- counts 1 for this head or block, 0 for any other
abbrev pub is_head : ℕ → ℕ → ℕ
is_head this head = if head == this then 1 else 0

-- at how many places among them a head is
abbrev pub times_pooled : Sizes → StackState → ProcessViews → ℕ → ℕ
times_pooled sizes s views head = pool_weight sizes s views (is_head head)

-- the weight of all blocks at their places: of the current lists, held, and of the batches
unfoldable pub blocks_weight : Sizes → StackState → ProcessViews → BlockLists → BlockLists → BlockLists → (ℕ → ℕ) → ℕ
blocks_weight sizes s views batch_blocks current_blocks held_blocks f =
    total sizes.processes (λ i. weight f (current_blocks i) + weight f (held_blocks i))
    + pool_weight sizes s views (λ head. weight f (batch_blocks head))

-- each batch at a place and each current list is a chain, and each block of the pool is at one place, whatever number counts for it
pub record ChainsHold (sizes : Sizes) (words : Words) (s : StackState) (views : ProcessViews)
    (batch_blocks current_blocks held_blocks : BlockLists) : Type 0 where
  pub batches : (head : ℕ) → 1 ≤ times_pooled sizes s views head → IsChainOf words (head + 1) sizes.length (batch_blocks head)
  pub currents : (i : ℕ) → i < sizes.processes → IsChainOf words (views i).pool.head (views i).pool.plan.current (current_blocks i)
  pub placed : (f : ℕ → ℕ) → blocks_weight sizes s views batch_blocks current_blocks held_blocks f ≡ total (blocks sizes) f
  pub replies : (i : ℕ) → i < sizes.processes → ReplyMatches s i (views i).transfer

-- the same where the processes hold these blocks: there are such blocks of the batches and of the current lists
pub record Chains (sizes : Sizes) (words : Words) (s : StackState) (views : ProcessViews) (held_blocks : BlockLists) : Type 0 where
  pub batch_blocks : BlockLists
  pub current_blocks : BlockLists
  pub hold : ChainsHold sizes words s views batch_blocks current_blocks held_blocks

-- the list of one number becomes another, all others stay
pub record MovedList (number : ℕ) (list : List ℕ) (old new : BlockLists) : Type 0 where
  pub here : new number ≡ list
  pub elsewhere : (other : ℕ) → other ≢ number → new other ≡ old other

-- the next words of all blocks stay
abbrev pub NextsStay : Sizes → Words → Words → Type 0
NextsStay sizes words new = (b : ℕ) → b < blocks sizes → new (Next b) ≡ words (Next b)

-- the next words of all blocks but one stay
abbrev pub OtherNextsStay : Sizes → ℕ → Words → Words → Type 0
OtherNextsStay sizes block words new = (b : ℕ) → b < blocks sizes → b ≢ block → new (Next b) ≡ words (Next b)

-- a list without a block
abbrev pub without : ℕ → List ℕ → List ℕ
without block list = filter (λ other. not (other == block)) list
