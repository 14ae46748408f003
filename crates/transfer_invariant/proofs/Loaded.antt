-- a whole record that was loaded is that of the loaded state
use Rattle.std.proofs.Common.{◌≡◌, ℕ, ◌+◌, ◌-◌, ◌<◌, ◌≤◌, ◌==◌, Bool, true, false, refl, ◌∙◌, arith}
use Rattle.std.specs.Prelude.{nat_lt}
use Rattle.std.proofs.lemmas.Bool.Decides.{nat_tests}
use Rattle.word_layout.specs.Sizes.{Sizes}
use Rattle.word_layout.specs.Names.{record_words}
use Rattle.transfer_machine.specs.Loads.{loaded_tag, loaded_base, overlay_length, record_value}
use Rattle.transfer_machine.specs.Machine.{after_try}
use Rattle.transfer_machine.specs.States.{StackState}
use Rattle.transfer_machine.specs.NextStates.{IsLoaded}
use Rattle.transfer_machine.specs.declared.loaded.Loaded.{Loaded}
use Rattle.transfer_machine.specs.declared.transfer.TransferView.{TransferView}
use Rattle.transfer_machine.specs.declared.stage.NextStep.{NextStep}
use Rattle.transfer_invariant.specs.Memory.{Words, States, state_value}
use Rattle.transfer_invariant.specs.Progress.{has_loaded, has_record, loaded_words}
use Rattle.transfer_invariant.specs.Records.{StateFits, StatesFit, LoadedState}

-- the values that the words of a state's record have
pub value_base : (processes : ℕ) (s : StackState) → state_value processes s 0 ≡ s.base
unfolding state_value
value_base processes s = refl

-- a record's second word is the length of the overlay
pub value_length : (processes : ℕ) (s : StackState) → state_value processes s 1 ≡ s.height - s.base
unfolding state_value
value_length processes s = refl

value_head : (processes x : ℕ) (s : StackState) → x < processes → x < s.height - s.base
    → state_value processes s (2 + x) ≡ s.content (s.base + x)
unfolding state_value
value_head processes x s few low =
    let not_base : (2 + x == 0) ≡ false = grind (arith, nat_tests) in
    let not_length : (2 + x == 1) ≡ false = grind (arith, nat_tests) in
    let head : nat_lt (2 + x) (processes + 2) ≡ true = grind (arith, nat_tests) in
    let place : 2 + x - 2 ≡ x = omega arith in
    let inside : nat_lt x (s.height - s.base) ≡ true = grind (arith, nat_tests) in
    rw (not_base, not_length, head, place, inside) refl

-- the words behind the overlay's are the replies of the processes
pub value_reply : (processes i : ℕ) (s : StackState) → state_value processes s (processes + 2 + i) ≡ s.reply i
unfolding state_value
value_reply processes i s = grind (arith, nat_tests)

-- the loaded words
whole_has : (words : ℕ) (s : NextStep) → 1 ≤ words → loaded_words words s ≡ words → has_loaded s ≡ true
whole_has words s some e = grind arith

whole_is : (sizes : Sizes) (loaded : Loaded) (s : StackState) → StateFits sizes s
    → ((k : ℕ) → k < record_words sizes → record_value loaded k ≡ state_value sizes.processes s k) → IsLoaded sizes.processes loaded s
whole_is sizes loaded s fits h =
    let base : loaded_base loaded ≡ s.base = h 0 (omega arith) ∙ value_base sizes.processes s in
    let length : overlay_length loaded ≡ s.height - s.base = h 1 (omega arith) ∙ value_length sizes.processes s in
    let few = fits.overlay in
    let ordered = fits.base in
    record {
      base = base;
      height = omega arith;
      overlay = λ x lt. h (2 + x) (omega arith) ∙ value_head sizes.processes x s (omega arith) (omega arith);
      replies = λ i lt. h (sizes.processes + 2 + i) (omega arith) ∙ value_reply sizes.processes i s;
    }

-- a view that loaded as many words as a record has, loaded the state of that number
pub whole_record : (sizes : Sizes) (words : Words) (states : States) (v : TransferView) → StatesFit sizes words states
    → LoadedState sizes words states v → loaded_words (record_words sizes) v.next ≡ record_words sizes
    → IsLoaded sizes.processes v.loaded (states (loaded_tag v.loaded))
whole_record sizes words states v fits h whole =
    let past = h.past (whole_has (record_words sizes) v.next (omega arith) whole) in
    whole_is sizes v.loaded (states (loaded_tag v.loaded)) (fits (loaded_tag v.loaded) past) (λ k lt. h.loaded k (rw whole lt))

-- a view with a whole record has loaded that of the loaded state
pub record_whole : (words : ℕ) (s : NextStep) → has_record s ≡ true → loaded_words words s ≡ words
record_whole words s has = grind arith

-- a view with a whole record has loaded the state
pub record_has : (s : NextStep) → has_record s ≡ true → has_loaded s ≡ true
record_has s has = grind arith

-- a view with a whole record loaded the state of that number
pub loaded_is : (sizes : Sizes) (words : Words) (states : States) (v : TransferView) → StatesFit sizes words states
    → LoadedState sizes words states v → has_record v.next ≡ true → IsLoaded sizes.processes v.loaded (states (loaded_tag v.loaded))
loaded_is sizes words states v fits h has = whole_record sizes words states v fits h (record_whole (record_words sizes) v.next has)

-- where a try has ended no record is loaded
pub ended_has_none : (second : Bool) → has_record (after_try second) ≡ false
ended_has_none second = grind arith
