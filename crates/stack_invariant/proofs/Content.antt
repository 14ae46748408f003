-- the words show the present state, and what steps make of it
use Rattle.std.proofs.Common.{◌≡◌, ℕ, ◌+◌, ◌-◌, ◌<◌, ◌≤◌, ◌==◌, true, false, sym, ◌∙◌, ap, inl, inr, arith}
use Rattle.std.specs.Prelude.{nat_lt}
use Rattle.std.proofs.lemmas.Bool.{cases_lt}
use Rattle.std.proofs.lemmas.Bool.Decides.{nat_tests}
use Rattle.word_layout.specs.Sizes.{Sizes}
use Rattle.word_layout.specs.Names.{record_words}
use Rattle.transfer_machine.specs.States.{StackState}
use Rattle.transfer_invariant.specs.Memory.{Words, States, state_tag, current_record, word_value, slot_value, state_value}
use Rattle.transfer_invariant.specs.Records.{CurrentRecord, StateFits}
use Rattle.transfer_invariant.proofs.Loaded.{value_base, value_reply}
use Rattle.slot_invariant.specs.Slots.{SlotsHold}
use Rattle.draft_invariant.specs.NextState.{SameState}
use Rattle.stack_invariant.specs.Shown.{shown_base, shown_height, shown_head, Shows, SameContent}
use Rattle.stack_invariant.specs.Gives.{present}
use Rattle.stack_invariant.specs.Laws.{WordsShowState}

-- the values of the words of a state's record: how far the height is from the base, and the heads from it on
value_height : (processes : ℕ) (s : StackState) → s.base ≤ s.height → s.base + state_value processes s 1 ≡ s.height
unfolding state_value
value_height processes s le = omega arith

value_content : (processes place : ℕ) (s : StackState) → s.base ≤ place → place < s.height → place < s.base + processes
    → state_value processes s (2 + (place - s.base)) ≡ s.content place
unfolding state_value
value_content processes place s ge lt few =
    let x = place - s.base in
    let not_base : (2 + x == 0) ≡ false = grind (arith, nat_tests) in
    let not_length : (2 + x == 1) ≡ false = grind (arith, nat_tests) in
    let head : nat_lt (2 + x) (processes + 2) ≡ true = grind (arith, nat_tests) in
    let inside : nat_lt (2 + x - 2) (s.height - s.base) ≡ true = grind (arith, nat_tests) in
    let here : s.base + (2 + x - 2) ≡ place = omega arith in
    rw (not_base, not_length, head, inside) (ap s.content here)

-- a head below the base, and one from there on
head_below : (words : Words) (s : StackState) (place : ℕ) → shown_base words ≡ s.base → place < s.base
    → slot_value words place ≡ s.content place → shown_head words place ≡ s.content place
unfolding shown_head
head_below words s place e lt h = let test : nat_lt place (shown_base words) ≡ true = grind (arith, nat_tests) in rw test h

head_above : (words : Words) (s : StackState) (place : ℕ) → shown_base words ≡ s.base → s.base ≤ place
    → word_value words (current_record words) (2 + (place - s.base)) ≡ s.content place
    → shown_head words place ≡ s.content place
unfolding shown_head
head_above words s place e ge h = let test : nat_lt place (shown_base words) ≡ false = grind (arith, nat_tests) in rw (test, e) h

-- the words show the present state
base_shown : (sizes : Sizes) (words : Words) (states : States) → CurrentRecord sizes words states
    → shown_base words ≡ (present words states).base
unfolding shown_base
base_shown sizes words states c = c.values 0 (omega arith) ∙ value_base sizes.processes (present words states)

height_shown : (sizes : Sizes) (words : Words) (states : States) → 1 < record_words sizes → CurrentRecord sizes words states
    → (present words states).base ≤ (present words states).height
    → shown_height words ≡ (present words states).height
unfolding shown_height
height_shown sizes words states two c le =
    rw (base_shown sizes words states c, c.values 1 two) (value_height sizes.processes (present words states) le)

content_shown : (sizes : Sizes) (words : Words) (states : States) → CurrentRecord sizes words states
    → StateFits sizes (present words states) → SlotsHold sizes words states
    → (place : ℕ) → place < (present words states).height → shown_head words place ≡ (present words states).content place
content_shown sizes words states c fits slots place lt =
    let s = present words states in
    let base = base_shown sizes words states c in
    elim (cases_lt place s.base) [
      | inl below ↦ head_below words s place base below (slots.below place below)
      | inr ge ↦
          let few : place < s.base + sizes.processes = omega (arith, fits.overlay) in
          head_above words s place base ge (c.values (2 + (place - s.base)) (omega arith) ∙ value_content sizes.processes place s ge lt few)
    ]

-- the words show the present state
pub words_show : WordsShowState
words_show sizes words views states h =
    let c = h.transfers.records.current in
    let fits = h.transfers.records.states_fit (state_tag words) (omega arith) in
    record {
      base = base_shown sizes words states c;
      height = height_shown sizes words states (omega arith) c fits.base;
      content = content_shown sizes words states c fits h.slots.hold;
      reply = λ o lo. c.values (sizes.processes + 2 + o) (omega arith) ∙ value_reply sizes.processes o (present words states);
    }

-- two memories that show the same state, and one that shows a state that is the same as another
pub same_content : (processes : ℕ) (old new : Words) (s : StackState) → Shows processes old s → Shows processes new s → SameContent old new
same_content processes old new s h k = record {
  height = k.height ∙ sym h.height;
  content = λ place lt. let low : place < s.height = rw h.height at lt in k.content place low ∙ sym (h.content place low);
}

-- words that show a state show each that is the same as it
pub shows_same : (processes : ℕ) (words : Words) (s t : StackState) → Shows processes words s → SameState processes s t
    → Shows processes words t
shows_same processes words s t h k = record {
  base = h.base ∙ k.base;
  height = h.height ∙ k.height;
  content = λ place lt. h.content place (rw k.height lt) ∙ k.content place lt;
  reply = λ o lo. h.reply o lo ∙ k.reply o lo;
}
