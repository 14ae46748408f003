-- the numbers of a view's next step are in range
use Rattle.std.proofs.Common.{◌≡◌, ℕ, ◌+◌, ◌-◌, ◌<◌, ◌≤◌, ◌==◌, Bool, true, arith, get_or}
use Rattle.std.specs.Prelude.{nat_lt, ◌&&◌}
use Rattle.std.proofs.lemmas.Bool.Decides.{nat_tests}
use Rattle.word_layout.specs.Packing.{value_limit}
use Rattle.word_layout.specs.Sizes.{Sizes, most_blocks, blocks}
use Rattle.transfer_machine.specs.Loads.{loaded_tag, loaded_base, overlay_length, loaded_reply}
use Rattle.transfer_machine.specs.NextStates.{IsLoaded}
use Rattle.transfer_machine.specs.States.{StackState}
use Rattle.transfer_machine.specs.Tries.{pops_slot, is_pending, is_take, announced_wish, drafted_value, CanApply}
use Rattle.transfer_machine.specs.declared.loaded.Loaded.{Loaded}
use Rattle.transfer_machine.specs.declared.try_draft.TryDraft.{TryDraft}
use Rattle.transfer_machine.specs.declared.transfer.TransferView.{TransferView}
use Rattle.transfer_invariant.specs.Memory.{Words, States}
use Rattle.transfer_invariant.specs.Progress.{has_record}
use Rattle.transfer_invariant.specs.Records.{StateFits, StatesFit, LoadedState}
use Rattle.transfer_invariant.proofs.Loaded.{loaded_is, record_has}
use Rattle.draft_invariant.proofs.Wishes.{LoadedFits, answer_fits}

state_loaded_fits : (sizes : Sizes) (loaded : Loaded) (s : StackState) → IsLoaded sizes.processes loaded s → StateFits sizes s
    → LoadedFits sizes loaded
state_loaded_fits sizes loaded s l f = record {
  few = omega (arith, l.base, l.height, f.overlay);
  within = omega (arith, l.height, f.within);
  heads = λ x lt. rw (l.overlay x lt) (f.heads (s.base + x) (omega arith) (omega (arith, l.base, l.height)));
}

-- the numbers that a view with a whole record loaded are in range, as those of the loaded state are
pub loaded_fits : (sizes : Sizes) (words : Words) (states : States) (v : TransferView) → StatesFit sizes words states
    → LoadedState sizes words states v
    → has_record v.next ≡ true
    → LoadedFits sizes v.loaded
loaded_fits sizes words states v fits h has =
    state_loaded_fits sizes v.loaded (states (loaded_tag v.loaded)) (loaded_is sizes words states v fits h has)
    (fits (loaded_tag v.loaded) (h.past (record_has v.next has)))

-- a take that gets its batch from a slot
pub record IsSlotBelow (loaded : Loaded) (draft : TryDraft) : Type 0 where
  pub some : 0 < draft.base
  pub below : draft.base - 1 < loaded_base loaded

slot_below : (b t z : Bool) (loaded : Loaded) (draft : TryDraft)
    → (b && (t && (z && (nat_lt 0 draft.base && nat_lt (draft.base - 1) (loaded_base loaded))))) ≡ true
    → IsSlotBelow loaded draft
slot_below b t z loaded draft e = grind (arith, nat_tests)

-- a take that pops a slot finds one below the loaded base
pub popped_below : (processes : ℕ) (loaded : Loaded) (process word : ℕ) (draft : TryDraft)
    → pops_slot processes loaded process word draft ≡ true
    → IsSlotBelow loaded draft
popped_below processes loaded process word draft e =
    slot_below (is_pending word (loaded_reply processes loaded process)) (is_take (announced_wish word)) (draft.overlay == 0) loaded draft e

-- an announcement can be applied
pub can_apply : (sizes : Sizes) (loaded : Loaded) (process word popped : ℕ) (draft : TryDraft) → sizes.processes ≤ 32
    → blocks sizes ≤ most_blocks
    → process < sizes.processes
    → draft.overlay ≤ process → LoadedFits sizes loaded → popped < blocks sizes
    → ((k : ℕ) → get_or draft.heads k 0 < blocks sizes) → draft.base ≤ loaded_base loaded + overlay_length loaded
    → CanApply sizes.processes loaded process word popped draft
can_apply sizes loaded process word popped draft few small among over fits block heads low = record {
  few = few;
  among = among;
  room = omega arith;
  near = omega (arith, fits.few);
  answer = answer_fits sizes loaded popped draft (announced_wish word) small fits block heads low;
}

-- what a draft makes a record of has values
pub drafted_value_lt : (sizes : Sizes) (draft : TryDraft) (index : ℕ) → sizes.batches < most_blocks + 1 → blocks sizes ≤ most_blocks
    → draft.base ≤ sizes.batches
    → draft.overlay ≤ 32
    → ((k : ℕ) → get_or draft.heads k 0 < blocks sizes) → ((k : ℕ) → get_or draft.replies k 0 < value_limit)
    → drafted_value sizes.processes draft index < value_limit
drafted_value_lt sizes draft index few small base over heads replies =
    let head = heads (index - 2) in
    let reply = replies (index - (sizes.processes + 2)) in
    grind (arith, nat_tests)
