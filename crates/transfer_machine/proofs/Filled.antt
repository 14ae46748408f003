-- words that are set one after the other
use Rattle.std.proofs.Common.{◌≡◌, ◌≢◌, ℕ, ◌+◌, ◌*◌, ◌<◌, ◌≤◌, Bool, true, false, refl, sym, ◌∙◌}
use Rattle.std.proofs.Common.{ap, subst, inl, inr, arith, List, length, set, length-set}
use Rattle.std.specs.Prelude.{if◌then◌else◌, nat_lt, replicate}
use Rattle.std.proofs.lemmas.Bool.{cases_eq}
use Rattle.std.proofs.lemmas.Bool.Decides.{nat_tests}
use Rattle.std.proofs.lemmas.List.{length-replicate, get_or-replicate}
use Rattle.word_layout.specs.Sizes.{Sizes, blocks}
use Rattle.word_layout.specs.Names.{InRange, place, table_words, record_words, word_at, set_word}
use Rattle.word_layout.specs.declared.name.WordName.{WordName}
use Rattle.word_layout.specs.declared.name.WordName.TheVariants.{State, Announcement, RecordWord, Slot, Next, Data}
use Rattle.word_layout.proofs.Placed.{place_below, same_from_place, word_at-set_word_same, word_at-set_word_other}
use Rattle.transfer_machine.specs.Opening.{opening_word, opening_record, AreOpening}
use Rattle.transfer_machine.specs.Filling.{Fills, opening_record_below, slot_below, next_below}

-- the head of a batch is a block
pub head_within : (batch batches length : ℕ) → batch < batches → batch * length ≤ batches * length
head_within batch batches length h = grind arith

-- setting a word leaves the length
set_word_length : (sizes : Sizes) (words : List ℕ) (name : WordName) (word : ℕ) → length (set_word sizes words name word) ≡ length words
unfolding set_word
set_word_length sizes words name word = length-set words (place sizes name) word

-- the words are filled up to one name, which is set next
filled_here : (sizes : Sizes) (words old : List ℕ) (more : WordName → Bool) (at name : WordName) → length words ≡ table_words sizes
    → InRange sizes at → more at ≡ true
    → name ≡ at
    → word_at sizes (set_word sizes words at (opening_word sizes at)) name
    ≡ (if more name then opening_word sizes name else word_at sizes old name)
filled_here sizes words old more at name whole h on e =
    rw (e, on) (word_at-set_word_same sizes words at (opening_word sizes at) whole h)

filled_elsewhere : (sizes : Sizes) (words old : List ℕ) (below more : WordName → Bool) (at name : WordName) → InRange sizes at
    → InRange sizes name → name ≢ at
    → more name ≡ below name
    → word_at sizes words name ≡ (if below name then opening_word sizes name else word_at sizes old name)
    → word_at sizes (set_word sizes words at (opening_word sizes at)) name
    ≡ (if more name then opening_word sizes name else word_at sizes old name)
filled_elsewhere sizes words old below more at name h k ne same was =
    word_at-set_word_other sizes words at name (opening_word sizes at) h k ne ∙ rw same was

-- words that hold the opening's word at some names hold it at one name more, once that name's word is set
pub filled_more : (sizes : Sizes) (words old : List ℕ) (below more : WordName → Bool) (at : WordName) → length old ≡ table_words sizes
    → InRange sizes at
    → more at ≡ true
    → ((name : WordName) → name ≢ at → more name ≡ below name) → Fills sizes below old words
    → Fills sizes more old (set_word sizes words at (opening_word sizes at))
filled_more sizes words old below more at whole h on same was = record {
  same_length = set_word_length sizes words at (opening_word sizes at) ∙ was.same_length;
  each = λ name k. elim (cases_eq (place sizes name) (place sizes at)) [
    | inl e ↦ filled_here sizes words old more at name (was.same_length ∙ whole) h on (same_from_place sizes name at k h e)
    | inr ne ↦
        (let apart : name ≢ at = λ e. ne (ap (place sizes) e) in
        filled_elsewhere sizes words old below more at name h k apart (same name apart) (was.each name k))
  ];
}

-- a slot more
slot_more : (slot : ℕ) (name : WordName) → name ≢ Slot slot → slot_below (slot + 1) name ≡ slot_below slot name
slot_more slot State ne = refl
slot_more slot (Announcement process) ne = refl
slot_more slot (RecordWord row index) ne = refl
slot_more slot (Slot other) ne = let apart : other ≢ slot = λ e. ne (ap Slot e) in grind (arith, nat_tests)
slot_more slot (Next block) ne = refl
slot_more slot (Data block index) ne = refl

slot_on : (slot : ℕ) → slot_below (slot + 1) (Slot slot) ≡ true
slot_on slot = grind (arith, nat_tests)

-- words that hold the opening's slots below one hold one more, once that slot is set
pub slots_filled : (sizes : Sizes) (words old new : List ℕ) (slot : ℕ) → length old ≡ table_words sizes → slot < sizes.batches
    → Fills sizes (slot_below slot) old words
    → new ≡ set_word sizes words (Slot slot) (opening_word sizes (Slot slot)) → Fills sizes (slot_below (slot + 1)) old new
slots_filled sizes words old new slot whole h was set =
    subst (Fills sizes (slot_below (slot + 1)) old) (sym set)
    (filled_more sizes words old (slot_below slot) (slot_below (slot + 1)) (Slot slot) whole h (slot_on slot) (slot_more slot) was)

no_slot : (name : WordName) → slot_below 0 name ≡ false
no_slot State = refl
no_slot (Announcement process) = refl
no_slot (RecordWord row index) = refl
no_slot (Slot other) = grind (arith, nat_tests)
no_slot (Next block) = refl
no_slot (Data block index) = refl

-- before the first slot is set, all words are as they were
pub slots_begun : (sizes : Sizes) (words : List ℕ) → Fills sizes (slot_below 0) words words
slots_begun sizes words = record { same_length = refl; each = λ name h. rw (no_slot name) refl }

-- a next word more
next_more : (block : ℕ) (name : WordName) → name ≢ Next block → next_below (block + 1) name ≡ next_below block name
next_more block State ne = refl
next_more block (Announcement process) ne = refl
next_more block (RecordWord row index) ne = refl
next_more block (Slot slot) ne = refl
next_more block (Next other) ne = let apart : other ≢ block = λ e. ne (ap Next e) in grind (arith, nat_tests)
next_more block (Data other index) ne = refl

next_on : (block : ℕ) → next_below (block + 1) (Next block) ≡ true
next_on block = grind (arith, nat_tests)

-- words that hold the opening's next words below a block hold one more, once that block's is set
pub nexts_filled : (sizes : Sizes) (words old new : List ℕ) (block : ℕ) → length old ≡ table_words sizes → block < blocks sizes
    → Fills sizes (next_below block) old words
    → new ≡ set_word sizes words (Next block) (opening_word sizes (Next block)) → Fills sizes (next_below (block + 1)) old new
nexts_filled sizes words old new block whole h was set =
    subst (Fills sizes (next_below (block + 1)) old) (sym set)
    (filled_more sizes words old (next_below block) (next_below (block + 1)) (Next block) whole h (next_on block) (next_more block) was)

no_next : (name : WordName) → next_below 0 name ≡ false
no_next State = refl
no_next (Announcement process) = refl
no_next (RecordWord row index) = refl
no_next (Slot slot) = refl
no_next (Next other) = grind (arith, nat_tests)
no_next (Data block index) = refl

-- before the first next word is set, all words are as they were
pub nexts_begun : (sizes : Sizes) (words : List ℕ) → Fills sizes (next_below 0) words words
nexts_begun sizes words = record { same_length = refl; each = λ name h. rw (no_next name) refl }

-- a word of the opening record more
word_more : (sizes : Sizes) (index : ℕ) (name : WordName) → name ≢ RecordWord (opening_record sizes) index
    → opening_record_below sizes (index + 1) name ≡ opening_record_below sizes index name
word_more sizes index State ne = refl
word_more sizes index (Announcement process) ne = refl
word_more sizes index (RecordWord row other) ne = elim (cases_eq row (opening_record sizes)) [
  | inl e ↦
      (let apart : other ≢ index = λ f. ne (ap (λ r. RecordWord r other) e ∙ ap (RecordWord (opening_record sizes)) f) in
      grind (arith, nat_tests))
  | inr away ↦ grind (arith, nat_tests)
]
word_more sizes index (Slot slot) ne = refl
word_more sizes index (Next block) ne = refl
word_more sizes index (Data block other) ne = refl

word_on : (sizes : Sizes) (index : ℕ) → opening_record_below sizes (index + 1) (RecordWord (opening_record sizes) index) ≡ true
word_on sizes index = grind (arith, nat_tests)

-- the opening record that is filled below an index is filled by one word more, once that word is set
pub words_filled : (sizes : Sizes) (words old new : List ℕ) (row index : ℕ) → length old ≡ table_words sizes → index < record_words sizes
    → row ≡ opening_record sizes
    → Fills sizes (opening_record_below sizes index) old words
    → new ≡ set_word sizes words (RecordWord row index) (opening_word sizes (RecordWord row index))
    → Fills sizes (opening_record_below sizes (index + 1)) old new
words_filled sizes words old new row index whole h current was set =
    let here : new ≡ set_word sizes words (RecordWord (opening_record sizes) index)
    (opening_word sizes (RecordWord (opening_record sizes) index)) =
    set ∙ ap (λ r. set_word sizes words (RecordWord r index) (opening_word sizes (RecordWord r index))) current in
    subst (Fills sizes (opening_record_below sizes (index + 1)) old) (sym here)
    (filled_more sizes words old (opening_record_below sizes index) (opening_record_below sizes (index + 1))
    (RecordWord (opening_record sizes) index) whole (omega arith, h) (word_on sizes index) (word_more sizes index) was)

no_word : (sizes : Sizes) (name : WordName) → opening_record_below sizes 0 name ≡ false
no_word sizes State = refl
no_word sizes (Announcement process) = refl
no_word sizes (RecordWord row index) = grind (arith, nat_tests)
no_word sizes (Slot slot) = refl
no_word sizes (Next block) = refl
no_word sizes (Data block index) = refl

-- before its first word is set, all words are as they were
pub words_begun : (sizes : Sizes) (words : List ℕ) → Fills sizes (opening_record_below sizes 0) words words
words_begun sizes words = record { same_length = refl; each = λ name h. rw (no_word sizes name) refl }

-- a word of another name than the state's is as it was
not_state : (sizes : Sizes) (words : List ℕ) (name : WordName) → InRange sizes name → name ≢ State
    → word_at sizes (set_word sizes words State (opening_word sizes State)) name ≡ word_at sizes words name
not_state sizes words name h apart = word_at-set_word_other sizes words State name (opening_word sizes State) tt h apart

-- words that are all 0
zero_word : (sizes : Sizes) (name : WordName) → InRange sizes name → word_at sizes (replicate (table_words sizes) 0) name ≡ 0
unfolding word_at
zero_word sizes name h = get_or-replicate (table_words sizes) (place sizes name) 0 0 (place_below sizes name h)

-- a test that holds
taken_where : (n count x y : ℕ) → n < count → (if nat_lt n count then x else y) ≡ x
taken_where n count x y h = grind (arith, nat_tests)

-- a record word once those of the opening record are set and the others are 0
record_word_opened : (sizes : Sizes) (row index old : ℕ) → index < record_words sizes → old ≡ 0
    → (if opening_record_below sizes (record_words sizes) (RecordWord row index) then opening_word sizes (RecordWord row index) else old)
    ≡ opening_word sizes (RecordWord row index)
record_word_opened sizes row index old h zero = grind (arith, nat_tests)

-- what the four fillings make of words that are all 0
opened_word : (sizes : Sizes) (a b c d : List ℕ) (name : WordName) → InRange sizes name
    → a ≡ set_word sizes (replicate (table_words sizes) 0) State (opening_word sizes State)
    → Fills sizes (opening_record_below sizes (record_words sizes)) a b → Fills sizes (slot_below sizes.batches) b c
    → Fills sizes (next_below (blocks sizes)) c d
    → word_at sizes d name ≡ opening_word sizes name
opened_word sizes a b c d State h first rec slots nexts =
    nexts.each State h ∙ slots.each State h ∙ rec.each State h ∙ ap (λ words. word_at sizes words State) first
    ∙ word_at-set_word_same sizes (replicate (table_words sizes) 0) State (opening_word sizes State)
    (length-replicate (table_words sizes) 0) h
opened_word sizes a b c d (Announcement process) h first rec slots nexts =
    let apart : Announcement process ≢ State = λ e. grind arith in
    nexts.each (Announcement process) h ∙ slots.each (Announcement process) h ∙ rec.each (Announcement process) h
    ∙ ap (λ words. word_at sizes words (Announcement process)) first
    ∙ not_state sizes (replicate (table_words sizes) 0) (Announcement process) h apart ∙ zero_word sizes (Announcement process) h
opened_word sizes a b c d (RecordWord row index) h first rec slots nexts =
    let apart : RecordWord row index ≢ State = λ e. grind arith in
    let old : word_at sizes a (RecordWord row index) ≡ 0 =
    ap (λ words. word_at sizes words (RecordWord row index)) first
    ∙ not_state sizes (replicate (table_words sizes) 0) (RecordWord row index) h apart ∙ zero_word sizes (RecordWord row index) h in
    nexts.each (RecordWord row index) h ∙ slots.each (RecordWord row index) h ∙ rec.each (RecordWord row index) h
    ∙ record_word_opened sizes row index (word_at sizes a (RecordWord row index)) h.1 old
opened_word sizes a b c d (Slot slot) h first rec slots nexts =
    nexts.each (Slot slot) h ∙ slots.each (Slot slot) h ∙ taken_where slot sizes.batches (opening_word sizes (Slot slot))
    (word_at sizes b (Slot slot)) h
opened_word sizes a b c d (Next block) h first rec slots nexts =
    nexts.each (Next block) h ∙ taken_where block (blocks sizes) (opening_word sizes (Next block)) (word_at sizes c (Next block)) h
opened_word sizes a b c d (Data block index) h first rec slots nexts =
    let apart : Data block index ≢ State = λ e. grind arith in
    nexts.each (Data block index) h ∙ slots.each (Data block index) h ∙ rec.each (Data block index) h
    ∙ ap (λ words. word_at sizes words (Data block index)) first
    ∙ not_state sizes (replicate (table_words sizes) 0) (Data block index) h apart ∙ zero_word sizes (Data block index) h

-- the state set, then the opening record, the slots and the next words filled, make of words that are all 0 those of the opening
pub opened : (sizes : Sizes) (old a b c d : List ℕ) → old ≡ replicate (table_words sizes) 0
    → a ≡ set_word sizes old State (opening_word sizes State)
    → Fills sizes (opening_record_below sizes (record_words sizes)) a b → Fills sizes (slot_below sizes.batches) b c
    → Fills sizes (next_below (blocks sizes)) c d
    → AreOpening sizes d
opened sizes old a b c d zeros first rec slots nexts =
    let set : a ≡ set_word sizes (replicate (table_words sizes) 0) State (opening_word sizes State) =
    first ∙ ap (λ words. set_word sizes words State (opening_word sizes State)) zeros in
    record {
      whole =
          nexts.same_length ∙ slots.same_length ∙ rec.same_length ∙ ap length set
          ∙ set_word_length sizes (replicate (table_words sizes) 0) State (opening_word sizes State)
          ∙ length-replicate (table_words sizes) 0;
      each = λ name h. opened_word sizes a b c d name h set rec slots nexts;
    }
