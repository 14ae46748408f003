-- the opening meets the part on slots
use Rattle.std.proofs.Common.{◌≡◌, ℕ, ◌+◌, ◌*◌, ◌<◌, ◌≤◌, true, false, refl, ◌∙◌, ap, inl, inr, arith}
use Rattle.std.specs.Prelude.{nat_lt}
use Rattle.std.proofs.lemmas.Bool.{cases_lt}
use Rattle.std.proofs.lemmas.Bool.Decides.{nat_tests}
use Rattle.std.proofs.lemmas.List.{length-replicate}
use Rattle.word_layout.specs.Sizes.{Sizes, IsShape, blocks}
use Rattle.word_layout.specs.Names.{InRange}
use Rattle.word_layout.specs.Packing.{tag_of, value_of, value_limit}
use Rattle.word_layout.specs.declared.name.WordName.{WordName}
use Rattle.word_layout.specs.declared.name.WordName.TheVariants.{Slot}
use Rattle.word_layout.proofs.Limits.{two_blocks_a_batch, batch_within_blocks, length_le_blocks}
use Rattle.transfer_machine.specs.Opening.{opening_word, opening_base, opening_slot, opening_transfer}
use Rattle.transfer_invariant.specs.Memory.{Words, Views, state_tag, slot_tag, slot_value}
use Rattle.transfer_invariant.specs.OpeningState.{opening_state}
use Rattle.transfer_invariant.proofs.Opened.{opened_tag}
use Rattle.slot_invariant.specs.Slots.{SlotsHold, SlotsInvariant}
use Rattle.slot_invariant.proofs.Own.{nothing_known}

-- the head in a slot is a block
head_low : (t length most : ℕ) → 2 ≤ length → t * length + length ≤ most → t * length < most
head_low t length most two within = omega arith

-- the word in each slot of the opening is a block's number
pub opening_slot_low : (sizes : Sizes) → IsShape sizes → (s : ℕ) → opening_slot sizes s < blocks sizes
opening_slot_low sizes shape s = elim (cases_lt s (opening_base sizes)) [
  | inl low ↦ let test : nat_lt s (opening_base sizes) ≡ true = grind (arith, nat_tests) in
      rw test (head_low (2 * sizes.processes + s) sizes.length (blocks sizes) (two_blocks_a_batch sizes shape)
      (batch_within_blocks sizes (2 * sizes.processes + s) (omega arith)))
  | inr high ↦ let test : nat_lt s (opening_base sizes) ≡ false = grind (arith, nat_tests) in
      rw test (let two = two_blocks_a_batch sizes shape in let most = length_le_blocks sizes shape in omega arith)
]

-- a small word is its value
small_tag : (word : ℕ) → word < value_limit → tag_of word ≡ 0
unfolding tag_of
small_tag word lt = omega arith

small_value : (word : ℕ) → word < value_limit → value_of word ≡ word
unfolding value_of
small_value word lt = omega arith

module _ (sizes : Sizes) (words : Words) (shape : IsShape sizes)
    (opened : (name : WordName) → InRange sizes name → words name ≡ opening_word sizes name) where
  slot_small : (s : ℕ) → opening_slot sizes s < value_limit
  slot_small s = let low = opening_slot_low sizes shape s in let few = shape.few_blocks in omega arith

  opened_slot_tag : (s : ℕ) → s < sizes.batches → slot_tag words s ≡ 0
  unfolding slot_tag
  opened_slot_tag s lt = ap tag_of (opened (Slot s) lt) ∙ small_tag (opening_slot sizes s) (slot_small s)

  opened_slot_value : (s : ℕ) → s < sizes.batches → slot_value words s ≡ opening_slot sizes s
  unfolding slot_value
  opened_slot_value s lt = ap value_of (opened (Slot s) lt) ∙ small_value (opening_slot sizes s) (slot_small s)

  opened_hold : SlotsHold sizes words (λ m. opening_state sizes)
  unfolding opening_state
  opened_hold =
      let one : state_tag words ≡ 1 = opened_tag sizes words shape opened in
      record {
        below = λ s lt. opened_slot_value s (omega arith);
        tags = λ s lt. let tag = opened_slot_tag s lt in omega arith;
        now_low = λ s lt now. absurd (let tag = opened_slot_tag s lt in omega arith);
        now_high = λ s lt now. absurd (let tag = opened_slot_tag s lt in omega arith);
        now_value = λ s lt now. absurd (let tag = opened_slot_tag s lt in omega arith);
        before = λ m s le ge lt. absurd (omega arith);
        values = λ s lt. rw (opened_slot_value s lt) (opening_slot_low sizes shape s);
      }

  -- the opening meets the part on slots
  pub opened_slots : (views : Views) → ((i : ℕ) → i < sizes.processes → views i ≡ opening_transfer i)
      → SlotsInvariant sizes words views (λ m. opening_state sizes)
  opened_slots views seats = record {
    hold = opened_hold;
    known = λ i li. rw (seats i li) (nothing_known words (opening_transfer i) (length-replicate {A = ℕ} 32 0) refl);
  }
