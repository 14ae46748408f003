-- a name and its place
use Rattle.std.proofs.Common.{◌≡◌, ℕ, ◌+◌, ◌-◌, ◌*◌, ◌/◌, ◌%◌, ◌<◌, ◌≤◌, ◌≢◌, cond, eqb, ltb, sym, ◌∙◌, ap, inl, inr, arith, List, length, get_or-set_same, get_or-set_other}
use Rattle.std.proofs.Math.Nat.{mul-le-mul_left}
use Rattle.std.proofs.lemmas.Bool.{cases_lt}
use Rattle.std.proofs.lemmas.Bool.Decides.{nat_tests}
use Rattle.std.proofs.lemmas.Nat.{mul-add-lt, div-mul-add, mod-mul-add, div_below, mod_below, div-add-mod'}
use Rattle.word_layout.specs.Sizes.{Sizes, blocks}
use Rattle.word_layout.specs.Names.{place, InRange, records, record_words, slots_start, nexts_start, data_start, table_words, word_at, set_word}
use Rattle.word_layout.specs.declared.name.WordName.{WordName}
use Rattle.word_layout.specs.declared.name.WordName.TheVariants.{State, Announcement, RecordWord, Slot, Next, Data}

-- every place is in the table
pub place_below : (sizes : Sizes) (name : WordName) → InRange sizes name → place sizes name < table_words sizes
unfolding place table_words data_start nexts_start slots_start
place_below sizes State h = omega arith
place_below sizes (Announcement process) h = omega arith
place_below sizes (RecordWord row index) h = omega (arith, mul-add-lt row (record_words sizes) index (records sizes) h.0 h.1)
place_below sizes (Slot slot) h = omega arith
place_below sizes (Next block) h = omega arith
place_below sizes (Data block index) h = omega (arith, mul-add-lt block sizes.words index (blocks sizes) h.0 h.1)

-- the name of a record's word, counted from the first record's first
abbrev record_word_name : Sizes → ℕ → WordName
record_word_name sizes at = RecordWord (at / record_words sizes) (at % record_words sizes)

-- the name of a place
unfoldable pub name_at : Sizes → ℕ → WordName
name_at sizes n =
    cond (eqb n 0) State
    (cond (ltb n (1 + sizes.processes)) (Announcement (n - 1))
    (cond (ltb n (slots_start sizes)) (record_word_name sizes (n - (1 + sizes.processes)))
    (cond (ltb n (nexts_start sizes)) (Slot (n - slots_start sizes))
    (cond (ltb n (data_start sizes)) (Next (n - nexts_start sizes))
    (Data ((n - data_start sizes) / sizes.words) ((n - data_start sizes) % sizes.words))))))

state_named : (sizes : Sizes) → name_at sizes (place sizes State) ≡ State
unfolding place name_at
state_named sizes = grind (arith, nat_tests)

announcement_named : (sizes : Sizes) (process : ℕ)
    → process < sizes.processes
    → name_at sizes (place sizes (Announcement process)) ≡ Announcement process
unfolding place name_at
announcement_named sizes process h = grind (arith, nat_tests)

record_word_named : (sizes : Sizes) (row index : ℕ)
    → row < records sizes
    → index < record_words sizes
    → name_at sizes (place sizes (RecordWord row index)) ≡ RecordWord row index
unfolding place name_at slots_start
record_word_named sizes row index h k = grind (
  arith,
  nat_tests,
  mul-add-lt row (record_words sizes) index (records sizes) h k,
  div-mul-add row (record_words sizes) index k,
  mod-mul-add row (record_words sizes) index k,
)

slot_named : (sizes : Sizes) (slot : ℕ) → slot < sizes.batches → name_at sizes (place sizes (Slot slot)) ≡ Slot slot
unfolding place name_at nexts_start slots_start
slot_named sizes slot h = grind (arith, nat_tests)

next_named : (sizes : Sizes) (block : ℕ) → block < blocks sizes → name_at sizes (place sizes (Next block)) ≡ Next block
unfolding place name_at data_start nexts_start slots_start
next_named sizes block h = grind (arith, nat_tests)

data_named : (sizes : Sizes) (block index : ℕ)
    → block < blocks sizes
    → index < sizes.words
    → name_at sizes (place sizes (Data block index)) ≡ Data block index
unfolding place name_at data_start nexts_start slots_start
data_named sizes block index h k = grind (
  arith,
  nat_tests,
  mul-add-lt block sizes.words index (blocks sizes) h k,
  div-mul-add block sizes.words index k,
  mod-mul-add block sizes.words index k,
)

-- the place of a name leads back to the name
pub name_at-place : (sizes : Sizes) (name : WordName) → InRange sizes name → name_at sizes (place sizes name) ≡ name
name_at-place sizes State h = state_named sizes
name_at-place sizes (Announcement process) h = announcement_named sizes process h
name_at-place sizes (RecordWord row index) h = record_word_named sizes row index h.0 h.1
name_at-place sizes (Slot slot) h = slot_named sizes slot h
name_at-place sizes (Next block) h = next_named sizes block h
name_at-place sizes (Data block index) h = data_named sizes block index h.0 h.1

-- names with one place are one name
pub same_from_place : (sizes : Sizes) (x y : WordName) → InRange sizes x → InRange sizes y → place sizes x ≡ place sizes y → x ≡ y
same_from_place sizes x y hx hy e = sym (name_at-place sizes x hx) ∙ ap (name_at sizes) e ∙ name_at-place sizes y hy

-- different names have different places
pub places_apart : (sizes : Sizes) (x y : WordName) → InRange sizes x → InRange sizes y → x ≢ y → place sizes x ≢ place sizes y
places_apart sizes x y hx hy apart e = apart (same_from_place sizes x y hx hy e)

-- a word that was set is read
pub word_at-set_word_same : (sizes : Sizes) (words : List ℕ) (name : WordName) (word : ℕ)
    → length words ≡ table_words sizes
    → InRange sizes name
    → word_at sizes (set_word sizes words name word) name ≡ word
unfolding word_at set_word
word_at-set_word_same sizes words name word whole h =
    let within : place sizes name < length words = omega (arith, place_below sizes name h) in
    get_or-set_same words (place sizes name) word 0 within

-- and every other word stays
pub word_at-set_word_other : (sizes : Sizes) (words : List ℕ) (name other : WordName) (word : ℕ)
    → InRange sizes name
    → InRange sizes other
    → other ≢ name
    → word_at sizes (set_word sizes words name word) other ≡ word_at sizes words other
unfolding word_at set_word
word_at-set_word_other sizes words name other word h k apart =
    get_or-set_other words (place sizes name) (place sizes other) word 0 (places_apart sizes other name k h apart)

-- a product that isn't 0 has no factor that is 0
some_factor : (a b n : ℕ) → n < a * b → 0 < b
some_factor a b n h =
    elim (cases_lt 0 b) [
      | inl some ↦ some
      | inr none ↦ absurd (omega (arith, mul-le-mul_left {m = b} {n = 0} a none))
    ]

-- n lies in the records: its name
record_word_at : (sizes : Sizes) (n : ℕ)
    → 1 + sizes.processes ≤ n
    → n < slots_start sizes
    → (name : WordName) × InRange sizes name × (place sizes name ≡ n)
unfolding place slots_start
record_word_at sizes n low high =
    let at : ℕ = n - (1 + sizes.processes) in
    let within : at < records sizes * record_words sizes = omega arith in (
      RecordWord (at / record_words sizes) (at % record_words sizes),
      (div_below at (record_words sizes) (records sizes) (omega arith) within, mod_below at (record_words sizes) (omega arith)),
      omega (arith, div-add-mod' at (record_words sizes)),
    )

-- n lies past the next words: its name
data_at : (sizes : Sizes) (n : ℕ)
    → data_start sizes ≤ n
    → n < table_words sizes
    → (name : WordName) × InRange sizes name × (place sizes name ≡ n)
unfolding place table_words
data_at sizes n low high =
    let at : ℕ = n - data_start sizes in
    let within : at < blocks sizes * sizes.words = omega arith in
    let some : 0 < sizes.words = some_factor (blocks sizes) sizes.words at within in (
      Data (at / sizes.words) (at % sizes.words),
      (div_below at sizes.words (blocks sizes) some within, mod_below at sizes.words some),
      omega (arith, div-add-mod' at sizes.words),
    )

-- each place in the table is some name's
pub named : (sizes : Sizes) (n : ℕ) → n < table_words sizes → (name : WordName) × InRange sizes name × (place sizes name ≡ n)
unfolding place nexts_start data_start
named sizes n h =
    elim (cases_lt n 1) [
      | inl first ↦ (State, tt, omega arith)
      | inr past_state ↦ elim (cases_lt n (1 + sizes.processes)) [
        | inl before ↦ (Announcement (n - 1), omega arith, omega arith)
        | inr past_announcements ↦ elim (cases_lt n (slots_start sizes)) [
          | inl before ↦ record_word_at sizes n past_announcements before
          | inr past_records ↦ elim (cases_lt n (nexts_start sizes)) [
            | inl before ↦ (Slot (n - slots_start sizes), omega arith, omega arith)
            | inr past_slots ↦ elim (cases_lt n (data_start sizes)) [
              | inl before ↦ (Next (n - nexts_start sizes), omega arith, omega arith)
              | inr past_nexts ↦ data_at sizes n past_nexts h
            ]
          ]
        ]
      ]
    ]
