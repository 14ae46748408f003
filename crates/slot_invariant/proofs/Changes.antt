-- the classes of changes of the words, as far as the slots are concerned
use Rattle.std.proofs.Common.{◌≡◌, ◌≢◌, ℕ, ◌<◌}
use Rattle.word_layout.specs.Sizes.{Sizes}
use Rattle.transfer_invariant.specs.Memory.{Words, state_tag, slot_tag, slot_value}

-- no slot changes
pub record SlotsStay (sizes : Sizes) (old new : Words) : Type 0 where
  pub tags : (s : ℕ) → s < sizes.batches → slot_tag new s ≡ slot_tag old s
  pub values : (s : ℕ) → s < sizes.batches → slot_value new s ≡ slot_value old s

-- a slot becomes one with this tag and value
pub record SlotExchanged (sizes : Sizes) (old new : Words) (slot tag value : ℕ) : Type 0 where
  pub state : state_tag new ≡ state_tag old
  pub tag_here : slot_tag new slot ≡ tag
  pub value_here : slot_value new slot ≡ value
  pub tags : (s : ℕ) → s < sizes.batches → s ≢ slot → slot_tag new s ≡ slot_tag old s
  pub values : (s : ℕ) → s < sizes.batches → s ≢ slot → slot_value new s ≡ slot_value old s
