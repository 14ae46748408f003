-- the reading of a whole record: its words are those that its process loads
use Rattle.std.proofs.Common.{◌≡◌, ◌≢◌, ℕ, ◌+◌, ◌<◌, ◌≤◌, ◌==◌, Bool, true, false, List, length, refl, sym, ap, ◌∙◌, subst, inl, inr, arith}
use Rattle.std.proofs.Common.{get_or-set_same, get_or-set_other}
use Rattle.std.specs.Prelude.{if◌then◌else◌, nat_lt, slice_index, slice_set}
use Rattle.std.proofs.lemmas.Bool.{cases_eq}
use Rattle.std.proofs.lemmas.Bool.Decides.{nat_tests}
use Rattle.word_layout.specs.Sizes.{Sizes}
use Rattle.word_layout.specs.Names.{record_words}
use Rattle.word_layout.specs.Packing.{tag_of, value_of}
use Rattle.word_layout.specs.declared.name.WordName.TheVariants.{RecordWord}
use Rattle.transfer_machine.specs.Loads.{loaded_tag, loaded_record}
use Rattle.transfer_machine.specs.Machine.{met_at, met_of, record_word_loaded}
use Rattle.transfer_machine.specs.Stages.{is_rest}
use Rattle.transfer_machine.specs.declared.action.Action.TheVariants.{Load}
use Rattle.transfer_machine.specs.declared.loaded.Loaded.{Loaded}
use Rattle.transfer_machine.specs.declared.transfer.TransferView.{TransferView}
use Rattle.pool_machine.specs.declared.view.ProcessView.{ProcessView}
use Rattle.interleaving_core.specs.Steps.{next_action}
use Rattle.pool_table.specs.declared.about.About.{About}
use Rattle.pool_table.specs.declared.about.About.TheVariants.{Alone, InCall}
use Rattle.pool_table.specs.Turns.{turning}
use Rattle.pool_table.specs.Views.{SeatView}
use Rattle.pool_table.specs.Steps.{CanStep, Stepped}
use Rattle.pool_table.specs.Transfers.{Agrees, transfer_about}
use Rattle.pool_table.proofs.Transfers.{DueOn, due_there, transfer_steps, goes_on_alone}
use Rattle.versioned_records.specs.declared.reader.ReadStep.{ReadStep}
use Rattle.versioned_records.specs.declared.reader.ReadStep.TheVariants.{Going, Whole, Moved}
use Rattle.versioned_records.specs.Loads.{IsToLoad, read_step}
use Rattle.versioned_records.specs.Reading.{Reading, CanRead, CanReadOn, HasRead, HasReadOn, reading_after}
use Rattle.versioned_records.proofs.Loading.{HasState, load_is_next, load_within, tag_never_lower, moved_on, whole_has_state, whole_tests}

-- the room of the record words that a process loads
due_room : (sizes : Sizes) (words : List ℕ) (v : ProcessView) → DueOn sizes words v → length v.transfer.loaded.record_words ≡ 66
due_room sizes words v d =
    let (ghosts, holds) = d.due.table.meets in
    let loaded = holds.stack.transfers.records.loaded d.process d.due.table.low in
    subst (λ (w : ProcessView). length w.transfer.loaded.record_words ≡ 66) d.here loaded.room

-- how far the reading is, by its tests
not_moved : (moved last : Bool) → (if moved then Moved else (if last then Whole else Going)) ≢ Moved → moved ≡ false
not_moved true last e = absurd (e refl)
not_moved false last e = refl

going_tests : (moved last : Bool) → (if moved then Moved else (if last then Whole else Going)) ≡ Going → (moved ≡ false) × (last ≡ false)
going_tests true last e = absurd (cc)
going_tests false true e = absurd (cc)
going_tests false false e = (refl, refl)

-- the words of a transfer that loaded one more of the state
loaded_words_by : (sizes : Sizes) (second : Bool) (index : ℕ) (loaded : Loaded) (t : TransferView) (last : Bool)
    → (index + 1 == record_words sizes) ≡ last
    → (record_word_loaded sizes second index loaded t).loaded ≡ loaded
loaded_words_by sizes second index loaded t true e = rw e refl
loaded_words_by sizes second index loaded t false e = rw e refl

met_stays : (sizes : Sizes) (t : TransferView) (tag row index word : ℕ) (d : IsToLoad t tag row index) → nat_lt tag (tag_of word) ≡ false
    → met_of sizes t word
    ≡ record_word_loaded sizes d.second index (record t.loaded { record_words = slice_set t.loaded.record_words index word }) t
met_stays sizes t tag row index word d low =
    let stays : nat_lt (loaded_tag t.loaded) (tag_of word) ≡ false = ap (λ k. nat_lt k (tag_of word)) d.same_tag ∙ low in
    ap (met_at sizes t word) d.next ∙ rw stays refl

met_words : (sizes : Sizes) (t : TransferView) (tag row index word : ℕ) → IsToLoad t tag row index → nat_lt tag (tag_of word) ≡ false
    → (met_of sizes t word).loaded.record_words ≡ slice_set t.loaded.record_words index word
met_words sizes t tag row index word d low =
    let loaded = record t.loaded { record_words = slice_set t.loaded.record_words index word } in
    ap (λ (u : TransferView). u.loaded.record_words) (met_stays sizes t tag row index word d low)
    ∙ ap (λ (l : Loaded). l.record_words) (loaded_words_by sizes d.second index loaded t (index + 1 == record_words sizes) refl)

-- where that wasn't the last one, the next is to be loaded
goes_to_next : (sizes : Sizes) (second : Bool) (tag row index : ℕ) (loaded : Loaded) (t : TransferView)
    → (index + 1 == record_words sizes) ≡ false → loaded_tag loaded ≡ tag → loaded_record loaded ≡ row
    → IsToLoad (record_word_loaded sizes second index loaded t) tag row (index + 1)
goes_to_next sizes second tag row index loaded t e same_tag same_row =
    rw e (record { second = second; next = refl; same_tag = same_tag; same_row = same_row })

met_next : (sizes : Sizes) (t : TransferView) (tag row index word : ℕ) → IsToLoad t tag row index
    → read_step sizes tag index word ≡ Going → IsToLoad (met_of sizes t word) tag row (index + 1)
met_next sizes t tag row index word d e =
    let (low, more) = going_tests (nat_lt tag (tag_of word)) (index + 1 == record_words sizes) e in
    let loaded = record t.loaded { record_words = slice_set t.loaded.record_words index word } in
    subst (λ u. IsToLoad u tag row (index + 1)) (sym (met_stays sizes t tag row index word d low))
    (goes_to_next sizes d.second tag row index loaded t more d.same_tag d.same_row)

whole_is_last : (sizes : Sizes) (tag index word : ℕ) → read_step sizes tag index word ≡ Whole → index + 1 ≡ record_words sizes
whole_is_last sizes tag index word e =
    let (low, last) = whole_tests (nat_lt tag (tag_of word)) (index + 1 == record_words sizes) e in
    grind (arith, nat_tests)

to_load_goes : (t : TransferView) (tag row index : ℕ) → IsToLoad t tag row index → is_rest t.next ≡ false
to_load_goes t tag row index d = ap is_rest d.next

-- two lists that agree on what was read agree after the same word is set next in both
set_alike : (xs ys : List ℕ) (index word k : ℕ) → index < length xs → index < length ys
    → ((j : ℕ) → j < index → slice_index xs j ≡ slice_index ys j) → k < index + 1
    → slice_index (slice_set xs index word) k ≡ slice_index (slice_set ys index word) k
set_alike xs ys index word k hx hy same lt = elim (cases_eq k index) [
  | inl at ↦ rw at (get_or-set_same xs index word 0 hx ∙ sym (get_or-set_same ys index word 0 hy))
  | inr apart ↦ get_or-set_other xs index k word 0 apart ∙ (same k (omega arith) ∙ sym (get_or-set_other ys index k word 0 apart))
]

-- once a reader's words are those of a process that has the state, it has read that
read_is_state : (x : SeatView) (s : Reading) → HasState x s.tag
    → ((k : ℕ) → k < record_words x.sizes → slice_index s.words k ≡ slice_index x.mind.view.transfer.loaded.record_words k) → HasRead x s
read_is_state x s h same = record {
  values = λ words views place held at ghosts holds index lt.
      ap value_of (same index lt) ∙ h.values words views place held at ghosts holds index lt;
  present = λ words views place held at ghosts holds now index lt.
      ap value_of (same index lt) ∙ h.present words views place held at ghosts holds now index lt;
}

-- what a reader that waits for no later state has loaded, it loaded of this one
whole_not_moved : (answer : ReadStep) → answer ≡ Whole → answer ≢ Moved
whole_not_moved answer e m = absurd (cc)

going_not_moved : (answer : ReadStep) → answer ≡ Going → answer ≢ Moved
going_not_moved answer e m = absurd (cc)

-- a record has few words
few_words : (sizes : Sizes) (a : About) (v : SeatView) → CanStep sizes a v → record_words sizes ≤ 66
few_words sizes a v c =
    let d = due_there sizes a v c in
    let small : sizes.processes ≤ 32 = subst (λ (z : Sizes). z.processes ≤ 32) c.shape d.due.table.shape.few_processes in
    omega (arith, small)

reads_below : (sizes : Sizes) (a : About) (v : SeatView) (r : Reading) → CanStep sizes a v → CanRead a v r → r.index < 66
reads_below sizes a v r c reads =
    let within = load_within sizes a v r.tag r.row r.index c reads.loads in
    let bound = few_words sizes a v c in
    omega (arith, within, bound)

-- the load of a reader's next word, as it happened
module _ (sizes : Sizes) (a : About) (v x : SeatView) (r : Reading) (word : ℕ) (c : CanStep sizes a v) (reads : CanRead a v r)
    (s : Stepped a v word x) where
  own_agrees : Agrees a v (transfer_about a v)
  own_agrees = record { same = refl; moves = reads.loads.moves }

  mirrors : x.mind.view.transfer ≡ met_of sizes (transfer_about a v) word
  mirrors = transfer_steps sizes a v x (transfer_about a v) (met_of sizes (transfer_about a v) word) word c own_agrees s refl

  reads_same : length r.words ≡ 66 → read_step sizes r.tag r.index word ≢ Moved → (k : ℕ) → k < r.index + 1
      → slice_index (slice_set r.words r.index word) k ≡ slice_index x.mind.view.transfer.loaded.record_words k
  reads_same room moved k lt =
      let t = transfer_about a v in
      let low = not_moved (nat_lt r.tag (tag_of word)) (r.index + 1 == record_words sizes) moved in
      let words = ap (λ (u : TransferView). u.loaded.record_words) mirrors
      ∙ met_words sizes t r.tag r.row r.index word reads.loads.loads low in
      let its_room = due_room v.sizes c.among.words (turning a v.mind.view) (due_there sizes a v c) in
      let low_index = reads_below sizes a v r c reads in
      let alike = set_alike r.words t.loaded.record_words r.index word k (omega (arith, room, low_index))
      (omega (arith, its_room, low_index)) reads.same lt in
      alike ∙ ap (λ xs. slice_index xs k) (sym words)

  reads_on : r.sizes ≡ sizes → length r.words ≡ 66 → (answer : ReadStep) → answer ≡ read_step sizes r.tag r.index word
      → HasReadOn a v r x (reading_after answer word r) answer
  reads_on shape room answer e =
      let same : x.sizes ≡ sizes = ap (λ (z : SeatView). z.sizes) s.stays ∙ c.shape in
      let agree = λ (n : answer ≢ Moved). reads_same room (λ m. n (e ∙ m)) in (
        word,
        record {
          stepped = s;
          answered = e ∙ ap (λ z. read_step z r.tag r.index word) (sym shape);
          never_lower = tag_never_lower sizes a v x r.tag r.row r.index word c reads.loads s;
          read = refl;
          moved = λ m. moved_on sizes a v x r.tag r.row r.index word c reads.loads s (sym e ∙ m);
          same = agree;
          whole = λ w.
              let state = whole_has_state sizes a v x r.tag r.row r.index word c reads.loads s (sym e ∙ w) in
              let last = whole_is_last sizes r.tag r.index word (sym e ∙ w) in
              read_is_state x (reading_after answer word r) state
              (λ k lt. agree (whole_not_moved answer w) k (subst (λ n. k < n) (sym last) (subst (λ z. k < record_words z) same lt)));
        },
      )

-- outside any call the reader goes on
can_read_on : (sizes : Sizes) (a : About) (v x : SeatView) (r : Reading) (word : ℕ) → CanStep sizes a v → CanRead a v r
    → Stepped a v word x → length r.words ≡ 66 → (answer : ReadStep) → answer ≡ read_step sizes r.tag r.index word → answer ≡ Going
    → CanReadOn sizes a x (reading_after answer word r)
can_read_on sizes (Alone wish) v x r word c reads s room answer e goes =
    let t = transfer_about (Alone wish) v in
    let u = met_of sizes t word in
    let to_load = met_next sizes t r.tag r.row r.index word reads.loads.loads (sym e ∙ goes) in
    let same = reads_same sizes (Alone wish) v x r word c reads s room (λ m. going_not_moved answer goes (e ∙ m)) in
    let mirrored = mirrors sizes (Alone wish) v x r word c reads s in
    λ next.
    let on = goes_on_alone sizes wish next v x t u word c (own_agrees sizes (Alone wish) v x r word c reads s) s refl
    (to_load_goes u r.tag r.row (r.index + 1) to_load) in
    let its = on.1.same in (
      on.0,
      record {
        going = goes;
        loads = record {
          moves = on.1.moves;
          loads = subst (λ z. IsToLoad z r.tag r.row (r.index + 1)) (sym its) to_load;
        };
        same = λ k lt. same k lt ∙ ap (λ (z : TransferView). slice_index z.loaded.record_words k) (mirrored ∙ sym its);
      },
    )
can_read_on sizes (InCall call) v x r word c reads s room answer e goes = tt

-- the same of a reader's fields, before and after
pub load_seen : (a b : About) (v : SeatView) (r old : Reading) → r ≡ old → b ≡ a → CanRead a v old
    → Load (RecordWord r.row r.index) ≡ next_action r.sizes (turning b v.mind.view)
load_seen a b v r old e same reads =
    let reads_so = subst (CanRead a v) (sym e) reads in
    subst (λ z. Load (RecordWord r.row r.index) ≡ next_action r.sizes (turning z v.mind.view)) (sym same)
    (load_is_next r.sizes a v r.tag r.row r.index reads_so.loads)

-- a reader's index is in the record
pub within_seen : (a : About) (v : SeatView) (r old : Reading) → r ≡ old → CanStep old.sizes a v → CanRead a v old
    → r.index < record_words r.sizes
within_seen a v r old e can reads =
    subst (λ (o : Reading). o.index < record_words o.sizes) (sym e) (load_within old.sizes a v old.tag old.row old.index can reads.loads)

-- so it is below the most words of a record
pub below_seen : (a : About) (v : SeatView) (r old : Reading) → r ≡ old → CanStep old.sizes a v → CanRead a v old → r.index < 66
below_seen a v r old e can reads = subst (λ (o : Reading). o.index < 66) (sym e) (reads_below old.sizes a v old can reads)

module _ (a b : About) (v x : SeatView) (r old s : Reading) (word : ℕ) (answer : ReadStep) (e : r ≡ old) (same : b ≡ a)
    (can : CanStep old.sizes a v) (reads : CanRead a v old) (stepped : Stepped b v word x) (room : length r.words ≡ 66)
    (answered : answer ≡ read_step r.sizes r.tag r.index word) (after : s ≡ reading_after answer word r) where
  can_so : CanStep r.sizes a v
  can_so = subst (λ (o : Reading). CanStep o.sizes a v) (sym e) can

  reads_so : CanRead a v r
  reads_so = subst (CanRead a v) (sym e) reads

  met : Stepped a v word x
  met = subst (λ z. Stepped z v word x) same stepped

  pub read_seen : HasReadOn a v old x s answer
  read_seen =
      let read = reads_on r.sizes a v x r word can_so reads_so met refl room answer answered in
      subst (λ o. HasReadOn a v o x s answer) e (subst (λ z. HasReadOn a v r x z answer) (sym after) read)

  pub read_on_seen : answer ≡ Going → CanReadOn old.sizes a x s
  read_on_seen goes =
      let on = can_read_on r.sizes a v x r word can_so reads_so met room answer answered goes in
      subst (λ (o : Reading). CanReadOn o.sizes a x s) e (subst (CanReadOn r.sizes a x) (sym after) on)
