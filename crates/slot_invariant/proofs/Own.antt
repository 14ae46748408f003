-- what the moving view knows of the slots after its step
use Rattle.std.proofs.Common.{◌≡◌, ℕ, ◌+◌, ◌<◌, ◌≤◌, Bool, true, false, refl, sym, ◌∙◌, inl}
use Rattle.std.proofs.Common.{inr, arith, length, get_or, set, get_or-set_same, length-set}
use Rattle.std.proofs.lemmas.Bool.{cases_eq, false≢true}
use Rattle.std.proofs.lemmas.Bool.Decides.{nat_tests}
use Rattle.word_layout.specs.Packing.{tag_of, value_of}
use Rattle.transfer_machine.specs.Loads.{loaded_tag, loaded_base, overlay_length}
use Rattle.transfer_machine.specs.Machine.{after_slot, after_record}
use Rattle.transfer_machine.specs.declared.loaded.Loaded.{Loaded}
use Rattle.transfer_machine.specs.declared.transfer.TransferView.{TransferView}
use Rattle.transfer_machine.specs.declared.stage.NextStep.TheVariants.{Try}
use Rattle.transfer_machine.specs.declared.stage.TryStep.TheVariants.{ExchangeSlot}
use Rattle.transfer_invariant.specs.Memory.{Words, state_tag, slot_tag, slot_value}
use Rattle.transfer_invariant.specs.Progress.{has_record, at_covered_slot, at_slot_exchange, passed_before}
use Rattle.transfer_invariant.specs.Progress.{covered_in_try, slot_exchange_in_try, passed_in_try}
use Rattle.slot_invariant.specs.Slots.{passed_slots, SlotsKnown}
use Rattle.slot_invariant.proofs.Stable.{covered_has_record, exchange_is_covered}

both : (t : Bool) → t ≡ false → t ≡ true → ⊥
both t f h = false≢true (sym f ∙ h)

-- without a whole record a view knows no more than the room of its array
pub nothing_known : (n : Words) (x : TransferView) → length x.loaded.slots ≡ 32 → has_record x.next ≡ false → SlotsKnown n x
nothing_known n x room none =
    let not_covered : at_covered_slot x.next ≡ true → ⊥ = λ at. both (has_record x.next) none (covered_has_record x.next at) in
    let not_exchange : at_slot_exchange x.next ≡ true → ⊥ = λ at. not_covered (exchange_is_covered x.next at) in
    record {
      room = room;
      within = λ at. absurd (not_covered at);
      passed = λ has. absurd (both (has_record x.next) none has);
      low = λ at. absurd (not_exchange at);
      stays_tag = λ at. absurd (not_exchange at);
      stays_value = λ at. absurd (not_exchange at);
    }

-- the whole record is loaded: no slot is passed
pub record_known : (n : Words) (x : TransferView) (second : Bool) → length x.loaded.slots ≡ 32 → x.next ≡ Try second (after_record x.loaded)
    → SlotsKnown n x
record_known n x second room e = record {
  room = room;
  within = rw e (first_within x.loaded);
  passed =
      λ has now s ge lt. absurd (let k : passed_before (overlay_length x.loaded) x.next ≡ 0 = rw e (first_passed x.loaded) in omega arith);
  low = rw e (λ at. absurd (first_not_exchange x.loaded at));
  stays_tag = rw e (λ at. absurd (first_not_exchange x.loaded at));
  stays_value = rw e (λ at. absurd (first_not_exchange x.loaded at));
}
  where
    first_within : (loaded : Loaded) → covered_in_try (after_record loaded) ≡ true
        → passed_in_try (overlay_length loaded) (after_record loaded) < overlay_length loaded
    first_within loaded at = grind (arith, nat_tests)

    first_passed : (loaded : Loaded) → passed_in_try (overlay_length loaded) (after_record loaded) ≡ 0
    first_passed loaded = grind (arith, nat_tests)

    first_not_exchange : (loaded : Loaded) → slot_exchange_in_try (after_record loaded) ≡ true → ⊥
    first_not_exchange loaded at = grind (arith, nat_tests)

-- past the covered slots a view goes on
pub record GoesPast (v x : TransferView) : Type 0 where
  pub was : has_record v.next ≡ true
  pub state : x.loaded.state ≡ v.loaded.state
  pub record_words : x.loaded.record_words ≡ v.loaded.record_words
  pub slots : x.loaded.slots ≡ v.loaded.slots
  pub all : passed_slots v ≡ overlay_length v.loaded
  pub past : at_covered_slot x.next ≡ false
  pub none : passed_slots x ≤ overlay_length x.loaded

-- a view that goes on past the covered slots keeps what it knows of the slots
pub past_known : (n : Words) (v x : TransferView) → SlotsKnown n v → GoesPast v x → SlotsKnown n x
past_known n v x h g =
    let not_exchange : at_slot_exchange x.next ≡ true → ⊥ = λ at. both (at_covered_slot x.next) g.past (exchange_is_covered x.next at) in
    let base : loaded_base x.loaded ≡ loaded_base v.loaded = rw g.record_words refl in
    let length_same : overlay_length x.loaded ≡ overlay_length v.loaded = rw g.record_words refl in
    record {
      room = rw g.slots h.room;
      within = λ at. absurd (both (at_covered_slot x.next) g.past at);
      passed = λ has now s ge lt. h.passed g.was (rw g.state at now) s (omega arith) (let all = g.all in let none = g.none in omega arith);
      low = λ at. absurd (not_exchange at);
      stays_tag = λ at. absurd (not_exchange at);
      stays_value = λ at. absurd (not_exchange at);
    }

-- a covered slot that has the present state's tag, while that is the loaded state, is passed
pub slot_known : (n : Words) (v x : TransferView) (second : Bool) (offset : ℕ) → SlotsKnown n v → has_record v.next ≡ true
    → passed_slots v ≡ offset
    → offset < overlay_length v.loaded
    → x.loaded.state ≡ v.loaded.state → x.loaded.record_words ≡ v.loaded.record_words → length x.loaded.slots ≡ 32
    → x.next ≡ Try second (after_slot v.loaded offset)
    → (loaded_tag v.loaded ≡ state_tag n → slot_tag n (loaded_base v.loaded + offset) ≡ state_tag n) → SlotsKnown n x
slot_known n v x second offset h has at lt es er room e now =
    let base : loaded_base x.loaded ≡ loaded_base v.loaded = rw er refl in
    let covered : overlay_length x.loaded ≡ overlay_length v.loaded = rw er refl in
    record {
      room = room;
      within = rw (e, covered) (λ a. next_within v.loaded offset lt a);
      passed = λ _ same s ge low. elim (cases_eq s (loaded_base v.loaded + offset)) [
        | inl here ↦ rw here (now (rw es at same))
        | inr ne ↦
            h.passed has (rw es at same) s (omega arith) (let k : passed_slots x ≡ offset + 1 = rw (e, covered)
            (next_passed v.loaded offset) in omega arith)
      ];
      low = rw e (λ a. absurd (next_not_exchange v.loaded offset a));
      stays_tag = rw e (λ a. absurd (next_not_exchange v.loaded offset a));
      stays_value = rw e (λ a. absurd (next_not_exchange v.loaded offset a));
    }
  where
    next_within : (loaded : Loaded) (offset : ℕ) → offset < overlay_length loaded → covered_in_try (after_slot loaded offset) ≡ true
        → passed_in_try (overlay_length loaded) (after_slot loaded offset) < overlay_length loaded
    next_within loaded offset lt at = grind (arith, nat_tests)

    next_passed : (loaded : Loaded) (offset : ℕ) → passed_in_try (overlay_length loaded) (after_slot loaded offset) ≡ offset + 1
    next_passed loaded offset = grind (arith, nat_tests)

    next_not_exchange : (loaded : Loaded) (offset : ℕ) → slot_exchange_in_try (after_slot loaded offset) ≡ true → ⊥
    next_not_exchange loaded offset at = grind (arith, nat_tests)

-- a covered slot is loaded whose tag is lower
pub lower_known : (n : Words) (v x : TransferView) (second : Bool) (offset word : ℕ) → SlotsKnown n v → has_record v.next ≡ true
    → passed_slots v ≡ offset → offset < overlay_length v.loaded
    → overlay_length v.loaded ≤ 32
    → x.loaded.state ≡ v.loaded.state → x.loaded.record_words ≡ v.loaded.record_words → x.loaded.slots ≡ set v.loaded.slots offset word
    → x.next ≡ Try second (ExchangeSlot offset)
    → tag_of word < loaded_tag v.loaded → slot_tag n (loaded_base v.loaded + offset) ≡ tag_of word
    → slot_value n (loaded_base v.loaded + offset) ≡ value_of word
    → SlotsKnown n x
lower_known n v x second offset word h has at lt few es er el e low tag value =
    let base : loaded_base x.loaded ≡ loaded_base v.loaded = rw er refl in
    let covered : overlay_length x.loaded ≡ overlay_length v.loaded = rw er refl in
    let loaded : get_or x.loaded.slots offset 0 ≡ word = rw el (get_or-set_same v.loaded.slots offset word 0 (omega (arith, h.room))) in
    record {
      room = rw el (length-set v.loaded.slots offset word ∙ h.room);
      within = rw (e, covered) (λ a. lt);
      passed = rw (e, base, es) (λ a same s ge below. h.passed has same s ge (omega arith));
      low = rw (e, loaded, es) (λ a. low);
      stays_tag = rw (e, base, loaded) (λ a same ne. tag);
      stays_value = rw (e, base, loaded) (λ a same ne. value);
    }
