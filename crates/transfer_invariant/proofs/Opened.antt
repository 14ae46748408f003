-- the opening meets the invariant
use Rattle.std.proofs.Common.{◌≡◌, ℕ, ◌*◌, ◌<◌, ◌≤◌, ◌==◌, true, false, refl, sym, ◌∙◌, ap, inl, inr, arith}
use Rattle.std.specs.Prelude.{if◌then◌else◌}
use Rattle.std.proofs.lemmas.Bool.{cases_eq, false≢true}
use Rattle.std.proofs.lemmas.Bool.Decides.{nat_tests}
use Rattle.std.proofs.lemmas.List.{length-replicate}
use Rattle.word_layout.specs.Sizes.{Sizes, IsShape, blocks, most_blocks}
use Rattle.word_layout.specs.Names.{InRange, record_words}
use Rattle.word_layout.specs.Packing.{tag_of, value_of, value_limit}
use Rattle.word_layout.specs.declared.name.WordName.{WordName}
use Rattle.word_layout.specs.declared.name.WordName.TheVariants.{State, RecordWord}
use Rattle.word_layout.proofs.Packed.{tag_of-tagged, value_of-tagged}
use Rattle.word_layout.proofs.Limits.{two_blocks_a_batch}
use Rattle.transfer_machine.specs.Opening.{opening_word, opening_record, opening_base, opening_record_word, opening_transfer}
use Rattle.transfer_invariant.specs.Memory.{Words, Views, state_tag, current_record, word_tag, word_value, state_value}
use Rattle.transfer_invariant.specs.OpeningState.{opening_state}
use Rattle.transfer_invariant.specs.Records.{CurrentRecord, StatesFit, TagsBelow, OwnRecord, LoadedState}
use Rattle.transfer_invariant.specs.Invariant.{RecordsHold}

-- there are fewer batches than a value can say
few_batches : (sizes : Sizes) → IsShape sizes → sizes.batches < value_limit
unfolding blocks
few_batches sizes shape = at_least sizes.batches sizes.length (two_blocks_a_batch sizes shape) shape.few_blocks
  where
    at_least : (b l : ℕ) → 2 ≤ l → b * l ≤ most_blocks → b < value_limit
    at_least b l two few = grind arith

-- the words of the opening record
record_word_tag : (sizes : Sizes) → IsShape sizes → (index : ℕ) → tag_of (opening_record_word sizes index) ≡ 1
record_word_tag sizes shape index = elim (cases_eq index 0) [
  | inl e ↦ rw e (tag_of-tagged 1 (opening_base sizes) (let few = few_batches sizes shape in omega arith))
  | inr ne ↦ let test : (index == 0) ≡ false = grind (arith, nat_tests) in rw test (tag_of-tagged 1 0 (omega arith))
]

record_word_value : (sizes : Sizes) → IsShape sizes → (index : ℕ)
    → value_of (opening_record_word sizes index) ≡ (if index == 0 then opening_base sizes else 0)
record_word_value sizes shape index = elim (cases_eq index 0) [
  | inl e ↦ rw e (value_of-tagged 1 (opening_base sizes) (let few = few_batches sizes shape in omega arith))
  | inr ne ↦ let test : (index == 0) ≡ false = grind (arith, nat_tests) in rw test (value_of-tagged 1 0 (omega arith))
]

opening_value : (sizes : Sizes) (index : ℕ)
    → state_value sizes.processes (opening_state sizes) index ≡ (if index == 0 then opening_base sizes else 0)
unfolding state_value opening_state
opening_value sizes index = grind (arith, nat_tests)

tag_of-zero : tag_of 0 ≡ 0
unfolding tag_of
tag_of-zero = refl

module _ (sizes : Sizes) (words : Words) (shape : IsShape sizes)
    (opened : (name : WordName) → InRange sizes name → words name ≡ opening_word sizes name) where
  -- the opening's state has the number 1
  pub opened_tag : state_tag words ≡ 1
  unfolding state_tag
  opened_tag = ap tag_of (opened State tt) ∙ tag_of-tagged 1 (opening_record sizes) (let few = shape.few_processes in omega arith)

  opened_record : current_record words ≡ opening_record sizes
  unfolding current_record
  opened_record = ap value_of (opened State tt) ∙ value_of-tagged 1 (opening_record sizes) (let few = shape.few_processes in omega arith)

  opened_word : (index : ℕ) → index < record_words sizes → words (RecordWord (opening_record sizes) index) ≡ opening_record_word sizes index
  opened_word index lt =
      opened (RecordWord (opening_record sizes) index) (omega arith, lt) ∙
      (let test : (opening_record sizes == opening_record sizes) ≡ true = grind (arith, nat_tests) in rw test refl)

  opened_current : CurrentRecord sizes words (λ m. opening_state sizes)
  unfolding word_tag word_value
  opened_current = record {
    row = rw opened_record (omega arith);
    tags = λ index lt. rw (opened_record, opened_tag) (ap tag_of (opened_word index lt) ∙ record_word_tag sizes shape index);
    values = λ index lt.
        rw opened_record (ap value_of (opened_word index lt) ∙ record_word_value sizes shape index ∙ sym (opening_value sizes index));
  }

  opened_states : StatesFit sizes words (λ m. opening_state sizes)
  unfolding opening_state
  opened_states m le = record {
    base = omega arith;
    overlay = omega arith;
    within = omega arith;
    heads = λ place ge lt. absurd (omega arith);
  }

  opened_tags : TagsBelow sizes words
  unfolding word_tag
  opened_tags row index lr lk = elim (cases_eq row (opening_record sizes)) [
    | inl e ↦ rw (e, ap tag_of (opened_word index lk), record_word_tag sizes shape index) (omega arith)
    | inr ne ↦ let test : (row == opening_record sizes) ≡ false = grind (arith, nat_tests) in
        let word : words (RecordWord row index) ≡ 0 = opened (RecordWord row index) (lr, lk) ∙ rw test refl in
        let zero_tag : tag_of (words (RecordWord row index)) ≡ 0 = ap tag_of word ∙ tag_of-zero in omega (arith, zero_tag)
  ]

  opened_own : (i : ℕ) → i < sizes.processes → OwnRecord sizes words i (opening_transfer i)
  opened_own i li = record {
    index = omega arith;
    next = omega arith;
    apart = λ e. let r = opened_record in absurd (omega arith);
    installed = omega arith;
    tried = λ h. absurd (false≢true h);
    stored_tags = λ k lt. absurd (omega arith);
    stored_values = λ k lt. absurd (omega arith);
  }

  opened_loaded : (i : ℕ) → LoadedState sizes words (λ m. opening_state sizes) (opening_transfer i)
  opened_loaded i = record {
    room = length-replicate {A = ℕ} 66 0;
    past = λ h. absurd (false≢true h);
    row = λ h. absurd (false≢true h);
    same = λ h. absurd (false≢true h);
    tags = λ h. absurd (false≢true h);
    values = λ h. absurd (false≢true h);
    loaded = λ k lt. absurd (omega arith);
  }

  -- the opening meets the parts on the state and the records
  pub opened_invariant : (views : Views) → ((i : ℕ) → i < sizes.processes → views i ≡ opening_transfer i)
      → RecordsHold sizes words views (λ m. opening_state sizes)
  opened_invariant views seats = record {
    current = opened_current;
    states_fit = opened_states;
    tags_below = opened_tags;
    own = λ i li. rw (seats i li) (opened_own i li);
    loaded = λ i li. rw (seats i li) (opened_loaded i);
    owners = λ i owner li lo. rw (seats i li) (λ h. absurd (false≢true h));
  }
