-- what the actions of the views do to the slots
use Rattle.std.proofs.Common.{◌≡◌, ◌≢◌, ℕ, ◌<◌, ◌==◌, true, false, refl, ◌∙◌, ap, inl, inr}
use Rattle.std.specs.Prelude.{◌⊎◌}
use Rattle.std.proofs.lemmas.Bool.{cases_eq}
use Rattle.word_layout.specs.Sizes.{Sizes}
use Rattle.word_layout.specs.Packing.{tag_of, value_of, tagged, value_limit}
use Rattle.word_layout.specs.declared.name.WordName.{WordName}
use Rattle.word_layout.specs.declared.name.WordName.TheVariants.{State, Announcement, RecordWord, Slot, Next, Data}
use Rattle.word_layout.proofs.Packed.{tag_of-tagged, value_of-tagged}
use Rattle.transfer_machine.specs.Words.{name_of, left_by}
use Rattle.transfer_machine.specs.declared.action.Action.{Action}
use Rattle.transfer_machine.specs.declared.action.Action.TheVariants.{Exchange}
use Rattle.transfer_invariant.specs.Memory.{Words, Acted, slot_tag, slot_value}
use Rattle.transfer_invariant.proofs.Acts.{exchanges_slot}
use Rattle.slot_invariant.proofs.Changes.{SlotsStay, SlotExchanged}

-- a name is that slot or it isn't
is_or_not_slot : (s : ℕ) (x : WordName) → (Slot s ≡ x) ⊎ (Slot s ≢ x)
is_or_not_slot s State = inr (λ e. cc)
is_or_not_slot s (Announcement process) = inr (λ e. cc)
is_or_not_slot s (RecordWord row index) = inr (λ e. cc)
is_or_not_slot s (Slot slot) = elim (cases_eq s slot) [ inl e ↦ inl (rw e refl) | inr ne ↦ inr (λ e. ne cc) ]
is_or_not_slot s (Next block) = inr (λ e. cc)
is_or_not_slot s (Data block index) = inr (λ e. cc)

-- an action that leaves the word that it meets leaves all slots
left_slot : (sizes : Sizes) (action : Action) (m n : Words) (s : ℕ) → Acted sizes action m n
    → left_by action (m (name_of action)) ≡ m (name_of action) → s < sizes.batches → (Slot s ≡ name_of action) ⊎ (Slot s ≢ name_of action)
    → n (Slot s) ≡ m (Slot s)
left_slot sizes action m n s a left h (inl e) = rw e (a.here ∙ left)
left_slot sizes action m n s a left h (inr ne) = a.elsewhere (Slot s) h ne

-- so no slot changes by it
pub leaves_slots : (sizes : Sizes) (action : Action) (m n : Words) → Acted sizes action m n
    → left_by action (m (name_of action)) ≡ m (name_of action)
    → SlotsStay sizes m n
unfolding slot_tag slot_value
leaves_slots sizes action m n a left = record {
  tags = λ s lt. ap tag_of (left_slot sizes action m n s a left lt (is_or_not_slot s (name_of action)));
  values = λ s lt. ap value_of (left_slot sizes action m n s a left lt (is_or_not_slot s (name_of action)));
}

-- so does one on a word that is no slot
pub misses_slots : (sizes : Sizes) (action : Action) (m n : Words) → Acted sizes action m n → ((s : ℕ) → Slot s ≢ name_of action)
    → SlotsStay sizes m n
unfolding slot_tag slot_value
misses_slots sizes action m n a other =
    let slots : (s : ℕ) → s < sizes.batches → n (Slot s) ≡ m (Slot s) = λ s lt. a.elsewhere (Slot s) lt (other s) in
    record { tags = λ s lt. ap tag_of (slots s lt); values = λ s lt. ap value_of (slots s lt) }

-- a slot is exchanged, or not
pub slot_exchanged : (sizes : Sizes) (slot old tag value : ℕ) (m n : Words) → value < value_limit → (m (Slot slot) == old) ≡ true
    → Acted sizes (Exchange (Slot slot) old (tagged tag value)) m n
    → SlotExchanged sizes m n slot tag value
unfolding slot_tag slot_value
slot_exchanged sizes slot old tag value m n fits same a =
    let here : n (Slot slot) ≡ tagged tag value = rw same at a.here in
    let slots : (s : ℕ) → s < sizes.batches → s ≢ slot → n (Slot s) ≡ m (Slot s) = λ s lt ne. a.elsewhere (Slot s) lt (λ e. ne cc) in
    record {
      state = (exchanges_slot sizes slot old (tagged tag value) m n a).state;
      tag_here = ap tag_of here ∙ tag_of-tagged tag value fits;
      value_here = ap value_of here ∙ value_of-tagged tag value fits;
      tags = λ s lt ne. ap tag_of (slots s lt ne);
      values = λ s lt ne. ap value_of (slots s lt ne);
    }

-- where the slot isn't the word that the exchange expects, no slot changes
pub slot_not_exchanged : (sizes : Sizes) (slot old new : ℕ) (m n : Words) → (m (Slot slot) == old) ≡ false
    → Acted sizes (Exchange (Slot slot) old new) m n
    → SlotsStay sizes m n
slot_not_exchanged sizes slot old new m n differs a = leaves_slots sizes (Exchange (Slot slot) old new) m n a (rw differs refl)
