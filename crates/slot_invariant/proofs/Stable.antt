-- what the changes of the words leave of the facts on slots, and of those of other views
use Rattle.std.proofs.Common.{◌≡◌, ◌≢◌, ℕ, ◌+◌, ◌<◌, ◌≤◌, true, refl, ◌∙◌, inl, inr, arith}
use Rattle.std.specs.Prelude.{◌⊎◌}
use Rattle.std.proofs.lemmas.Bool.{cases_eq, cases_lt}
use Rattle.word_layout.specs.Sizes.{Sizes}
use Rattle.transfer_machine.specs.Loads.{loaded_tag, overlay_length}
use Rattle.transfer_machine.specs.declared.transfer.TransferView.{TransferView}
use Rattle.transfer_machine.specs.declared.stage.NextStep.{NextStep}
use Rattle.transfer_invariant.specs.Memory.{Words, States, state_tag, slot_tag, slot_value}
use Rattle.transfer_invariant.specs.Progress.{has_record, at_covered_slot, at_slot_exchange, passed_before}
use Rattle.transfer_invariant.specs.Records.{StatesFit}
use Rattle.slot_invariant.specs.Slots.{slot_to_pass, SlotsHold, SlotsKnown}
use Rattle.slot_invariant.proofs.Changes.{SlotsStay, SlotExchanged}
use Rattle.slot_invariant.proofs.Covers.{Covers}

-- at a covered slot the record is loaded
pub covered_has_record : (s : NextStep) → at_covered_slot s ≡ true → has_record s ≡ true
covered_has_record s h = grind arith

-- an exchange of a slot is a step at a covered slot
pub exchange_is_covered : (s : NextStep) → at_slot_exchange s ≡ true → at_covered_slot s ≡ true
exchange_is_covered s h = grind arith

-- the slots that a view passed are covered, and before an exchange the next one is too
few_passed : (covered : ℕ) (s : NextStep) → (at_covered_slot s ≡ true → passed_before covered s < covered)
    → passed_before covered s ≤ covered
few_passed covered s h = grind arith

-- the slots that a view passed lie within the table
pub passed_low : (sizes : Sizes) (m : Words) (states : States) (v : TransferView) → SlotsKnown m v → Covers sizes m states v
    → has_record v.next ≡ true
    → slot_to_pass v ≤ sizes.batches
passed_low sizes m states v h c has =
    let few = few_passed (overlay_length v.loaded) v.next h.within in let within = c.within has in omega arith

-- the slot that a view is about to exchange lies within the table
pub next_low : (sizes : Sizes) (m : Words) (states : States) (v : TransferView) → SlotsKnown m v → Covers sizes m states v
    → at_slot_exchange v.next ≡ true
    → slot_to_pass v < sizes.batches
next_low sizes m states v h c at =
    let covered = exchange_is_covered v.next at in
    let few = h.within covered in let within = c.within (covered_has_record v.next covered) in omega arith

-- no slot changes, nor does the state
pub stay_hold : (sizes : Sizes) (m n : Words) (states : States) → StatesFit sizes m states → SlotsHold sizes m states → SlotsStay sizes m n
    → state_tag n ≡ state_tag m
    → SlotsHold sizes n states
stay_hold sizes m n states fits h s e =
    let low : (t place : ℕ) → t ≤ state_tag m → place < (states t).height → place < sizes.batches =
    λ t place le lt. let k = (fits t le).within in omega arith in
    let now = fits (state_tag m) (omega arith) in
    record {
      below =
          λ a lt. let lt' : a < (states (state_tag m)).base = rw e at lt in
          rw (e, s.values a (low (state_tag m) a (omega arith) (let k = now.base in omega arith))) (h.below a lt');
      tags = λ a lt. rw (e, s.tags a lt) (h.tags a lt);
      now_low = λ a lt t. rw e (h.now_low a lt (rw (e, s.tags a lt) at t));
      now_high = λ a lt t. rw e (h.now_high a lt (rw (e, s.tags a lt) at t));
      now_value = λ a lt t. rw (e, s.values a lt) (h.now_value a lt (rw (e, s.tags a lt) at t));
      before = λ t a le ge lt. let old : t < state_tag m = rw e at le in rw (s.tags a (low t a (omega arith) lt)) (h.before t a old ge lt);
      values = λ a lt. rw (s.values a lt) (h.values a lt);
    }

-- where no slot changes and the state doesn't, what a view knows of the slots stays
pub stay_known : (sizes : Sizes) (m n : Words) (states : States) (v : TransferView) → Covers sizes m states v → SlotsKnown m v
    → SlotsStay sizes m n → state_tag n ≡ state_tag m
    → SlotsKnown n v
stay_known sizes m n states v c h s e = record {
  room = h.room;
  within = h.within;
  passed =
      λ has now a ge lt. rw (e, s.tags a (let k = passed_low sizes m states v h c has in omega arith)) (h.passed has (rw e at now) a ge lt);
  low = h.low;
  stays_tag = λ at now. let k = next_low sizes m states v h c at in rw (e, s.tags (slot_to_pass v) k) (h.stays_tag at (rw e at now));
  stays_value =
      λ at now. let k = next_low sizes m states v h c at in
      rw (e, s.tags (slot_to_pass v) k, s.values (slot_to_pass v) k) (h.stays_value at (rw e at now));
}

-- a covered slot gets the present state's tag and content
pub exchange_hold : (sizes : Sizes) (m n : Words) (states : States) (slot : ℕ) → StatesFit sizes m states → SlotsHold sizes m states
    → SlotExchanged sizes m n slot (state_tag m) ((states (state_tag m)).content slot)
    → (states (state_tag m)).base ≤ slot → slot < (states (state_tag m)).height → SlotsHold sizes n states
exchange_hold sizes m n states slot fits h s ge lt =
    let low : (t place : ℕ) → t ≤ state_tag m → place < (states t).height → place < sizes.batches =
    λ t place le lp. let k = (fits t le).within in omega arith in
    let now = fits (state_tag m) (omega arith) in
    let tag : (a : ℕ) → a < sizes.batches → slot_tag n a ≡ state_tag m → (a ≡ slot) ⊎ (slot_tag m a ≡ state_tag m) =
    λ a la t. elim (cases_eq a slot) [ inl ea ↦ inl ea | inr ne ↦ inr (rw (s.tags a la ne) at t) ] in
    record {
      below =
          λ a la. let old : a < (states (state_tag m)).base = rw s.state at la in
          rw (s.state, s.values a (low (state_tag m) a (omega arith) (let k = now.base in omega arith)) (λ ea. absurd (omega arith)))
          (h.below a old);
      tags =
          λ a la. elim (cases_eq a slot) [
            | inl ea ↦ rw (ea, s.tag_here, s.state) (omega arith)
            | inr ne ↦
                rw (s.tags a la ne, s.state) (h.tags a la)
          ];
      now_low = λ a la t. rw s.state (elim (tag a la (rw s.state at t)) [ inl ea ↦ rw ea ge | inr old ↦ h.now_low a la old ]);
      now_high = λ a la t. rw s.state (elim (tag a la (rw s.state at t)) [ inl ea ↦ rw ea lt | inr old ↦ h.now_high a la old ]);
      now_value =
          λ a la t. rw s.state (elim (cases_eq a slot) [
            | inl ea ↦ rw (ea, s.value_here) refl
            | inr ne ↦
                rw (s.values a la ne) (h.now_value a la (rw (s.tags a la ne, s.state) at t))
          ]);
      before =
          λ t a le from to. let old : t < state_tag m = rw s.state at le in
          elim (cases_eq a slot) [
            | inl ea ↦ rw (ea, s.tag_here) (omega arith)
            | inr ne ↦
                rw (s.tags a (low t a (omega arith) to) ne) (h.before t a old from to)
          ];
      values =
          λ a la. elim (cases_eq a slot) [
            | inl ea ↦ rw (ea, s.value_here) (now.heads slot ge lt)
            | inr ne ↦
                rw (s.values a la ne) (h.values a la)
          ];
    }

exchanged_tag : (sizes : Sizes) (m n : Words) (slot value a : ℕ) → SlotExchanged sizes m n slot (state_tag m) value → a < sizes.batches
    → slot_tag m a ≡ state_tag m
    → slot_tag n a ≡ state_tag m
exchanged_tag sizes m n slot value a s la old = elim (cases_eq a slot) [ inl e ↦ rw (e, s.tag_here) refl | inr ne ↦ s.tags a la ne ∙ old ]

-- where a covered slot gets the present state's tag, what any view knows of the slots stays
pub exchange_known : (sizes : Sizes) (m n : Words) (states : States) (slot value : ℕ) (v : TransferView) → Covers sizes m states v
    → SlotsKnown m v → SlotExchanged sizes m n slot (state_tag m) value
    → SlotsKnown n v
exchange_known sizes m n states slot value v c h s = record {
  room = h.room;
  within = h.within;
  passed =
      λ has now a ge lt. rw s.state (exchanged_tag sizes m n slot value a s (let k = passed_low sizes m states v h c has in omega arith)
      (h.passed has (rw s.state at now) a ge lt));
  low = h.low;
  stays_tag = λ at now ne. elim (cases_eq (slot_to_pass v) slot) [
    | inl e ↦ absurd (ne (rw (e, s.tag_here, s.state) refl))
    | inr apart ↦
        let same = s.tags (slot_to_pass v) (next_low sizes m states v h c at) apart in
        same ∙ h.stays_tag at (rw s.state at now) (rw (same, s.state) at ne)
  ];
  stays_value = λ at now ne. elim (cases_eq (slot_to_pass v) slot) [
    | inl e ↦ absurd (ne (rw (e, s.tag_here, s.state) refl))
    | inr apart ↦
        let low = next_low sizes m states v h c at in
        s.values (slot_to_pass v) low apart ∙ h.stays_value at (rw s.state at now) (rw (s.tags (slot_to_pass v) low apart, s.state) at ne)
  ];
}

-- a state is installed: the slots below its base hold the content of the state before it
pub install_hold : (sizes : Sizes) (m n : Words) (states later : States) → StatesFit sizes m states → SlotsHold sizes m states
    → SlotsStay sizes m n
    → state_tag n ≡ state_tag m + 1
    → ((t : ℕ) → t ≤ state_tag m → later t ≡ states t)
    → (later (state_tag m + 1)).base ≤ (states (state_tag m)).height
    → ((s : ℕ) → s < (later (state_tag m + 1)).base → (later (state_tag m + 1)).content s ≡ (states (state_tag m)).content s)
    → ((s : ℕ) → (states (state_tag m)).base ≤ s → s < (states (state_tag m)).height → slot_tag m s ≡ state_tag m)
    → SlotsHold sizes n later
install_hold sizes m n states later fits h s e same lies kept passed =
    let low : (t place : ℕ) → t ≤ state_tag m → place < (states t).height → place < sizes.batches =
    λ t place le lp. let k = (fits t le).within in omega arith in
    let none : (a : ℕ) → a < sizes.batches → slot_tag n a ≢ state_tag n =
    λ a la t. absurd (let k = h.tags a la in let old = s.tags a la in omega arith) in
    record {
      below = λ a la. let new : a < (later (state_tag m + 1)).base = rw e at la in
          let placed : a < (states (state_tag m)).height = omega arith in
          rw (e, s.values a (low (state_tag m) a (omega arith) placed), kept a new) (content a placed);
      tags = λ a la. rw (e, s.tags a la) (let k = h.tags a la in omega arith);
      now_low = λ a la t. absurd (none a la t);
      now_high = λ a la t. absurd (none a la t);
      now_value = λ a la t. absurd (none a la t);
      before = λ t a le from to. let within : t ≤ state_tag m = omega arith in
          let from' : (states t).base ≤ a = rw (same t within) at from in
          let to' : a < (states t).height = rw (same t within) at to in
          rw (s.tags a (low t a within to')) (covered t a within from' to');
      values = λ a la. rw (s.values a la) (h.values a la);
    }
  where
    content : (a : ℕ) → a < (states (state_tag m)).height → slot_value m a ≡ (states (state_tag m)).content a
    content a lt = elim (cases_lt a (states (state_tag m)).base) [
      | inl below ↦ h.below a below
      | inr ge ↦ h.now_value a (let k = (fits (state_tag m) (omega arith)).within in omega arith) (passed a ge lt)
    ]

    covered : (t a : ℕ) → t ≤ state_tag m → (states t).base ≤ a → a < (states t).height → t ≤ slot_tag m a
    covered t a le ge lt = elim (cases_eq t (state_tag m)) [
      | inl now ↦ let k = passed a (rw now at ge) (rw now at lt) in omega arith
      | inr ne ↦ h.before t a (omega arith) ge lt
    ]

-- whoever loaded a state loaded an earlier one
pub install_known : (sizes : Sizes) (m n : Words) (states : States) (v : TransferView) → Covers sizes m states v → SlotsKnown m v
    → state_tag n ≡ state_tag m + 1
    → SlotsKnown n v
install_known sizes m n states v c h e =
    let earlier : has_record v.next ≡ true → loaded_tag v.loaded ≢ state_tag n = λ has now. absurd (let k = c.past has in omega arith) in
    record {
      room = h.room;
      within = h.within;
      passed = λ has now. absurd (earlier has now);
      low = h.low;
      stays_tag = λ at now. absurd (earlier (covered_has_record v.next (exchange_is_covered v.next at)) now);
      stays_value = λ at now. absurd (earlier (covered_has_record v.next (exchange_is_covered v.next at)) now);
    }
