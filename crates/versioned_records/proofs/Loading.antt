-- the load of a record word: it is the machine's next step, and what the invariant says of the word
use Rattle.std.proofs.Common.{◌≡◌, ℕ, ◌+◌, ◌<◌, ◌≤◌, ◌==◌, Bool, true, false, List, refl, sym, ap, ◌∙◌, subst, inl, inr, arith}
use Rattle.std.specs.Prelude.{if◌then◌else◌, nat_lt, slice_set}
use Rattle.std.proofs.lemmas.Bool.{cases_eq}
use Rattle.std.proofs.lemmas.Bool.Decides.{nat_tests}
use Rattle.word_layout.specs.Sizes.{Sizes}
use Rattle.word_layout.specs.Names.{record_words, word_at}
use Rattle.word_layout.specs.Packing.{tag_of}
use Rattle.word_layout.specs.declared.name.WordName.TheVariants.{State, RecordWord}
use Rattle.transfer_machine.specs.Loads.{loaded_tag, overlay_length, record_value}
use Rattle.transfer_machine.specs.Machine.{action_at, action_of, met_at, met_of, record_word_loaded, CanActAt}
use Rattle.transfer_machine.specs.Words.{met_word}
use Rattle.transfer_machine.specs.declared.action.Action.TheVariants.{Load}
use Rattle.transfer_machine.specs.declared.loaded.Loaded.{Loaded}
use Rattle.transfer_machine.specs.declared.stage.TryStep.TheVariants.{LoadAnnouncement, LoadCoveredSlot}
use Rattle.transfer_machine.specs.declared.transfer.TransferView.{TransferView}
use Rattle.transfer_invariant.specs.Memory.{Words, States, state_tag, current_record, word_tag, word_value, state_value}
use Rattle.transfer_invariant.specs.Progress.{has_loaded, has_loaded_state, loaded_words, loaded_in_try}
use Rattle.transfer_invariant.specs.Records.{CurrentRecord, LoadedState}
use Rattle.pool_machine.specs.declared.view.ProcessView.{ProcessView}
use Rattle.interleaving_core.specs.StepLaws.{word_met}
use Rattle.interleaving_core.specs.Steps.{next_action}
use Rattle.pool_table.specs.declared.about.About.{About}
use Rattle.pool_table.specs.Minds.{Mind}
use Rattle.pool_table.specs.Turns.{turning}
use Rattle.pool_table.specs.Views.{SeatView}
use Rattle.pool_table.specs.Steps.{CanStep, Stepped, answered}
use Rattle.pool_table.specs.Transfers.{Agrees, transfer_about, WhereverSeated}
use Rattle.pool_table.proofs.Transfers.{DueOn, due_on, transfer_can_act, transfer_acts_next, transfer_steps}
use Rattle.pool_table.proofs.Turns.{seat_of}
use Rattle.versioned_records.specs.declared.reader.ReadStep.TheVariants.{Going, Whole, Moved}
use Rattle.versioned_records.specs.Loads.{read_step, IsToLoad, LoadsWord, HasMovedOn}

-- the record words that a seat's process has loaded are those of the state with this tag: wherever the rule holds with its view, they
-- have that state's values, and so has the current record while that is the state
pub record HasState (v : SeatView) (tag : ℕ) : Type 0 where
  pub values : WhereverSeated v (λ words states. (index : ℕ) → index < record_words v.sizes
      → record_value v.mind.view.transfer.loaded index ≡ state_value v.sizes.processes (states tag) index)
  pub present : WhereverSeated v (λ words states. state_tag words ≡ tag → (index : ℕ) → index < record_words v.sizes
      → record_value v.mind.view.transfer.loaded index ≡ word_value words (current_record words) index)

-- the process makes that transfer
own_agrees : (a : About) (v : SeatView) (tag row index : ℕ) → LoadsWord a v tag row index → Agrees a v (transfer_about a v)
own_agrees a v tag row index l = record { same = refl; moves = l.moves }

-- the load is its next action
loads_action : (sizes : Sizes) (t : TransferView) (tag row index : ℕ) → IsToLoad t tag row index
    → Load (RecordWord row index) ≡ action_of sizes t
loads_action sizes t tag row index d =
    ap (λ r. Load (RecordWord r index)) (sym d.same_row) ∙ sym (ap (action_at sizes t) d.next)

-- the load of a record word is the next action
pub load_is_next : (sizes : Sizes) (a : About) (v : SeatView) (tag row index : ℕ) → LoadsWord a v tag row index
    → Load (RecordWord row index) ≡ next_action sizes (turning a v.mind.view)
load_is_next sizes a v tag row index l =
    let t = transfer_about a v in
    transfer_acts_next sizes a v t (Load (RecordWord row index)) (own_agrees a v tag row index l)
    (loads_action sizes t tag row index l.loads)

-- its word is one of a record
pub load_within : (sizes : Sizes) (a : About) (v : SeatView) (tag row index : ℕ) → CanStep sizes a v → LoadsWord a v tag row index
    → index < record_words sizes
load_within sizes a v tag row index c l =
    let t = transfer_about a v in
    let can = transfer_can_act sizes a v t c (own_agrees a v tag row index l) in
    (subst (CanActAt sizes t) l.loads.next can).1

-- the word that it loads has the tag of the state or a higher one
loaded_tag_is_low : (sizes : Sizes) (words : Words) (states : States) (t : TransferView) (tag row index word : ℕ)
    → LoadedState sizes words states t → IsToLoad t tag row index → index < record_words sizes → words (RecordWord row index) ≡ word
    → tag ≤ tag_of word
unfolding word_tag
loaded_tag_is_low sizes words states t tag row index word h d lt found =
    let low = h.tags (ap has_loaded d.next) index lt in
    rw (d.same_tag, d.same_row, found) at low

-- and where it is a higher one the state is another by now
loaded_state_is_past : (sizes : Sizes) (words : Words) (states : States) (t : TransferView) (tag row index word : ℕ)
    → CurrentRecord sizes words states → LoadedState sizes words states t → IsToLoad t tag row index → index < record_words sizes
    → words (RecordWord row index) ≡ word → tag < tag_of word → tag < tag_of (words State)
unfolding word_tag state_tag current_record
loaded_state_is_past sizes words states t tag row index word current h d lt found above =
    let has = ap has_loaded d.next in
    let past = h.past has in
    let low = rw d.same_tag at past in
    elim (cases_eq tag (tag_of (words State))) [
      | inl e ↦
          let row_same = h.same has (d.same_tag ∙ e) in
          let here = current.tags index lt in
          let its = rw (sym row_same, d.same_row, found) at here in
          absurd (omega (arith, e, its, above))
      | inr ne ↦ omega (arith, low)
    ]

-- what the words say in which a load found its word
stood_low : (sizes : Sizes) (words : List ℕ) (v : ProcessView) (tag row index word : ℕ) → DueOn sizes words v
    → IsToLoad v.transfer tag row index → index < record_words sizes → word_at sizes words (RecordWord row index) ≡ word → tag ≤ tag_of word
stood_low sizes words v tag row index word d l lt found =
    let (ghosts, holds) = d.due.table.meets in
    let loaded = holds.stack.transfers.records.loaded d.process d.due.table.low in
    loaded_tag_is_low sizes (word_at sizes words) ghosts.states v.transfer tag row index word
    (subst (λ (w : ProcessView). LoadedState sizes (word_at sizes words) ghosts.states w.transfer) d.here loaded) l lt found

stood_past : (sizes : Sizes) (words : List ℕ) (v : ProcessView) (tag row index word : ℕ) → DueOn sizes words v
    → IsToLoad v.transfer tag row index → index < record_words sizes → word_at sizes words (RecordWord row index) ≡ word
    → tag < tag_of word → tag < tag_of (word_at sizes words State)
stood_past sizes words v tag row index word d l lt found above =
    let (ghosts, holds) = d.due.table.meets in
    let records = holds.stack.transfers.records in
    let loaded = records.loaded d.process d.due.table.low in
    loaded_state_is_past sizes (word_at sizes words) ghosts.states v.transfer tag row index word records.current
    (subst (λ (w : ProcessView). LoadedState sizes (word_at sizes words) ghosts.states w.transfer) d.here loaded) l lt found above

-- how far the reading is, by its tests
pub whole_tests : (moved last : Bool) → (if moved then Moved else (if last then Whole else Going)) ≡ Whole → (moved ≡ false) × (last ≡ true)
whole_tests true last e = absurd (cc)
whole_tests false true e = (refl, refl)
whole_tests false false e = absurd (cc)

moved_tests : (moved last : Bool) → (if moved then Moved else (if last then Whole else Going)) ≡ Moved → moved ≡ true
moved_tests true last e = refl
moved_tests false true e = absurd (cc)
moved_tests false false e = absurd (cc)

-- once the last word is loaded the record is
pub record LoadedAll (sizes : Sizes) (u : TransferView) (tag : ℕ) : Type 0 where
  pub has : has_loaded u.next ≡ true
  pub all : loaded_words (record_words sizes) u.next ≡ record_words sizes
  pub same_tag : loaded_tag u.loaded ≡ tag

after_has : (none : Bool) → has_loaded_state (if none then LoadAnnouncement 0 else LoadCoveredSlot 0) ≡ true
after_has true = refl
after_has false = refl

after_all : (words : ℕ) (none : Bool) → loaded_in_try words (if none then LoadAnnouncement 0 else LoadCoveredSlot 0) ≡ words
after_all words true = refl
after_all words false = refl

recorded_all : (sizes : Sizes) (second : Bool) (index tag : ℕ) (loaded : Loaded) (t : TransferView)
    → (index + 1 == record_words sizes) ≡ true → loaded_tag loaded ≡ tag
    → LoadedAll sizes (record_word_loaded sizes second index loaded t) tag
recorded_all sizes second index tag loaded t e same = rw e (record {
  has = after_has (overlay_length loaded == 0);
  all = after_all (record_words sizes) (overlay_length loaded == 0);
  same_tag = same;
})

whole_met : (sizes : Sizes) (t : TransferView) (tag row index word : ℕ) → IsToLoad t tag row index
    → read_step sizes tag index word ≡ Whole → LoadedAll sizes (met_of sizes t word) tag
whole_met sizes t tag row index word d e =
    let (not_moved, last) = whole_tests (nat_lt tag (tag_of word)) (index + 1 == record_words sizes) e in
    let stays : nat_lt (loaded_tag t.loaded) (tag_of word) ≡ false = ap (λ k. nat_lt k (tag_of word)) d.same_tag ∙ not_moved in
    let loaded = record t.loaded { record_words = slice_set t.loaded.record_words index word } in
    let all = recorded_all sizes d.second index tag loaded t last d.same_tag in
    subst (λ s. LoadedAll sizes (met_at sizes t word s) tag) (sym d.next) (rw stays all)

-- of the words that are loaded, wherever the rule holds
all_has_state : (x : SeatView) (tag : ℕ) → x.of_process ≡ true → LoadedAll x.sizes x.mind.view.transfer tag → HasState x tag
all_has_state x tag e all = record {
  values = λ words views place h at ghosts holds index lt.
      let s = seat_of words views place x h at e in
      let loaded = holds.stack.transfers.records.loaded _ s.low in
      let mine = subst (λ (m : Mind). LoadedState x.sizes (word_at x.sizes words) ghosts.states m.view.transfer) s.here loaded in
      let value = mine.loaded index (rw all.all lt) in
      rw all.same_tag at value;
  present = λ words views place h at ghosts holds now index lt.
      let s = seat_of words views place x h at e in
      let records = holds.stack.transfers.records in
      let loaded = records.loaded _ s.low in
      let mine = subst (λ (m : Mind). LoadedState x.sizes (word_at x.sizes words) ghosts.states m.view.transfer) s.here loaded in
      let value = mine.loaded index (rw all.all lt) in
      value ∙ (ap (λ k. state_value x.sizes.processes (ghosts.states k) index) (all.same_tag ∙ sym now)
      ∙ sym (records.current.values index lt));
}

-- the load of a record word, as it happened
module _ (sizes : Sizes) (a : About) (v x : SeatView) (tag row index word : ℕ) (c : CanStep sizes a v)
    (l : LoadsWord a v tag row index) (s : Stepped a v word x) where
  found : word_at v.sizes s.made.words (RecordWord row index) ≡ word
  found =
      let acts = sym (load_is_next v.sizes a v tag row index l) in
      let met = word_met v.sizes s.made.words (turning a v.mind.view) in
      sym (s.made.answers ∙ (ap (λ action. answered action met) acts ∙ ap (met_word v.sizes s.made.words) acts))

  due : DueOn v.sizes s.made.words (turning a v.mind.view)
  due = due_on sizes a v s.made.words s.made.views s.made.number c s.made.held s.made.seated

  within : index < record_words v.sizes
  within = subst (λ z. index < record_words z) (sym c.shape) (load_within sizes a v tag row index c l)

  pub tag_never_lower : tag ≤ tag_of word
  tag_never_lower = stood_low v.sizes s.made.words (turning a v.mind.view) tag row index word due l.loads within found

  pub moved_on : read_step sizes tag index word ≡ Moved → HasMovedOn v.sizes s.made.words tag
  moved_on e =
      let above = moved_tests (nat_lt tag (tag_of word)) (index + 1 == record_words sizes) e in
      stood_past v.sizes s.made.words (turning a v.mind.view) tag row index word due l.loads within found (grind (arith, nat_tests))

  pub whole_has_state : read_step sizes tag index word ≡ Whole → HasState x tag
  whole_has_state e =
      let t = transfer_about a v in
      let same : x.sizes ≡ sizes = ap (λ (z : SeatView). z.sizes) s.stays ∙ c.shape in
      let process : x.of_process ≡ true = ap (λ (z : SeatView). z.of_process) s.stays ∙ c.of_process in
      let mirrors = transfer_steps sizes a v x t (met_of sizes t word) word c (own_agrees a v tag row index l) s refl in
      let all = whole_met sizes t tag row index word l.loads e in
      all_has_state x tag process
      (subst (λ z. LoadedAll z x.mind.view.transfer tag) (sym same) (subst (λ u. LoadedAll sizes u tag) (sym mirrors) all))
