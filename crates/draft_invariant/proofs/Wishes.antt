-- wishes of blocks, and answers that fit a reply
use Rattle.std.proofs.Common.{◌≡◌, ℕ, zero, suc, ◌+◌, ◌-◌, ◌<◌, ◌≤◌, ◌==◌, true, false, inl, inr, arith, get_or}
use Rattle.std.specs.Prelude.{nat_lt}
use Rattle.std.proofs.lemmas.Bool.{cases_eq, cases_lt}
use Rattle.std.proofs.lemmas.Bool.Decides.{nat_tests}
use Rattle.word_layout.specs.Sizes.{Sizes, most_blocks, IsShape, blocks}
use Rattle.word_layout.specs.Packing.{value_limit, value_of, tagged, wish_of, wish_code, FitsWish, FitsReply}
use Rattle.word_layout.specs.declared.announced.Wish.{Wish}
use Rattle.word_layout.specs.declared.announced.Wish.TheVariants.{Take, Give}
use Rattle.word_layout.proofs.Limits.{batches_le_blocks}
use Rattle.word_layout.proofs.Packed.{value_of-tagged, wish_code_lt}
use Rattle.transfer_machine.specs.Loads.{loaded_base, overlay_length, overlay_head}
use Rattle.transfer_machine.specs.Tries.{batch_below, take_reply, wish_reply}
use Rattle.transfer_machine.specs.declared.loaded.Loaded.{Loaded}
use Rattle.transfer_machine.specs.declared.try_draft.TryDraft.{TryDraft}
use Rattle.transfer_invariant.specs.Laws.{WishIsBlock}

-- a value has 24 bits
pub value_of_lt : (word : ℕ) → value_of word < value_limit
unfolding value_of
value_of_lt word = omega arith

-- the value of the word 0 is 0
pub value_of_zero : value_of 0 ≡ 0
unfolding value_of
value_of_zero = omega arith

-- there is a block, and there are fewer batches than a value can say
pub some_block : (sizes : Sizes) → IsShape sizes → 0 < blocks sizes
some_block sizes shape = omega (arith, batches_le_blocks sizes shape, shape.a_process, shape.two_batches_each)

-- the number of batches fits where a number of blocks does
pub few_batches : (sizes : Sizes) → IsShape sizes → sizes.batches < most_blocks + 1
few_batches sizes shape = omega (arith, batches_le_blocks sizes shape, shape.few_blocks)

-- a value of at most the number of blocks is a wish of a block, and the other way round
pub wish_of_block : (sizes : Sizes) (value : ℕ) → value ≤ blocks sizes → WishIsBlock sizes (wish_of value)
wish_of_block sizes zero h = tt
wish_of_block sizes (suc head) h = omega arith

-- a wish whose head is a block fits its word
pub wish_fits : (sizes : Sizes) (wish : Wish) → blocks sizes ≤ most_blocks → WishIsBlock sizes wish → FitsWish wish
wish_fits sizes Take few h = tt
wish_fits sizes (Give head) few h = omega arith

-- its code is at most the number of blocks
pub code_of_block : (sizes : Sizes) (wish : Wish) → WishIsBlock sizes wish → wish_code wish ≤ blocks sizes
code_of_block sizes Take h = omega arith
code_of_block sizes (Give head) h = omega arith

-- so is the value of its announcement
pub announced_block : (sizes : Sizes) (number : ℕ) (wish : Wish) → blocks sizes ≤ most_blocks → WishIsBlock sizes wish
    → value_of (tagged number (wish_code wish)) ≤ blocks sizes
announced_block sizes number wish few h =
    rw (value_of-tagged number (wish_code wish) (wish_code_lt wish (wish_fits sizes wish few h))) (code_of_block sizes wish h)

-- a loaded record says places that are slots and heads that are blocks
pub record LoadedFits (sizes : Sizes) (loaded : Loaded) : Type 0 where
  pub few : overlay_length loaded ≤ sizes.processes
  pub within : loaded_base loaded + overlay_length loaded ≤ sizes.batches
  pub heads : (x : ℕ) → x < overlay_length loaded → overlay_head loaded x < blocks sizes

-- a draft's answer names a block
below_is_block : (sizes : Sizes) (loaded : Loaded) (popped : ℕ) (draft : TryDraft) → LoadedFits sizes loaded → popped < blocks sizes
    → 0 < draft.base
    → draft.base ≤ loaded_base loaded + overlay_length loaded → batch_below loaded popped draft < blocks sizes
below_is_block sizes loaded popped draft fits pops some low = elim (cases_lt (draft.base - 1) (loaded_base loaded)) [
  | inl slot ↦ (let test : nat_lt (draft.base - 1) (loaded_base loaded) ≡ true = grind (arith, nat_tests) in rw test pops)
  | inr over ↦
      (let test : nat_lt (draft.base - 1) (loaded_base loaded) ≡ false = grind (arith, nat_tests) in
      rw test (fits.heads (draft.base - 1 - loaded_base loaded) (omega arith)))
]

take_fits : (sizes : Sizes) (loaded : Loaded) (popped : ℕ) (draft : TryDraft) → blocks sizes ≤ most_blocks → LoadedFits sizes loaded
    → popped < blocks sizes
    → ((k : ℕ) → get_or draft.heads k 0 < blocks sizes) → draft.base ≤ loaded_base loaded + overlay_length loaded
    → FitsReply (take_reply loaded popped draft)
take_fits sizes loaded popped draft few fits pops heads low = elim (cases_lt 0 draft.overlay) [
  | inl some ↦
      (let test : nat_lt 0 draft.overlay ≡ true = grind (arith, nat_tests) in let head = heads (draft.overlay - 1) in rw test (omega arith))
  | inr none ↦ (let test : nat_lt 0 draft.overlay ≡ false = grind (arith, nat_tests) in elim (cases_eq draft.base 0) [
    | inl e ↦ (let empty : (draft.base == 0) ≡ true = grind (arith, nat_tests) in rw (test, empty) tt)
    | inr ne ↦
        (let full : (draft.base == 0) ≡ false = grind (arith, nat_tests) in
        let head = below_is_block sizes loaded popped draft fits pops (omega arith) low in rw (test, full) (omega arith))
  ])
]

-- a draft's answer to a wish fits its word, where the popped head and the heads of the draft are blocks
pub answer_fits : (sizes : Sizes) (loaded : Loaded) (popped : ℕ) (draft : TryDraft) (wish : Wish) → blocks sizes ≤ most_blocks
    → LoadedFits sizes loaded
    → popped < blocks sizes
    → ((k : ℕ) → get_or draft.heads k 0 < blocks sizes) → draft.base ≤ loaded_base loaded + overlay_length loaded
    → FitsReply (wish_reply loaded popped draft wish)
answer_fits sizes loaded popped draft Take few fits pops heads low = take_fits sizes loaded popped draft few fits pops heads low
answer_fits sizes loaded popped draft (Give head) few fits pops heads low = tt
