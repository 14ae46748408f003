-- what views loaded stays in range
use Rattle.std.proofs.Common.{◌≡◌, ℕ, ◌+◌, ◌<◌, ◌≤◌, ◌==◌, Bool, refl, length, set}
use Rattle.std.proofs.Common.{arith}
use Rattle.std.specs.Prelude.{nat_lt}
use Rattle.word_layout.specs.Sizes.{Sizes, IsShape, blocks}
use Rattle.word_layout.specs.Packing.{tag_of, value_of, most_age}
use Rattle.word_layout.specs.Names.{record_words}
use Rattle.word_layout.specs.declared.announced.Wish.{Wish}
use Rattle.transfer_machine.specs.Loads.{loaded_base, loaded_tag}
use Rattle.transfer_machine.specs.Machine.{action_of, met_in_try, met_at, met_of, begun, installed, try_ended, record_word_loaded}
use Rattle.transfer_machine.specs.Opening.{opening_transfer}
use Rattle.transfer_machine.specs.Tries.{pops_slot}
use Rattle.transfer_machine.specs.Words.{name_of}
use Rattle.transfer_machine.specs.declared.transfer.TransferView.{TransferView}
use Rattle.transfer_machine.specs.declared.stage.NextStep.{NextStep}
use Rattle.transfer_machine.specs.declared.stage.NextStep.TheVariants.{Rest, Announce, Try, LoadFinalState, LoadReply}
use Rattle.transfer_machine.specs.declared.stage.TryStep.{TryStep}
use Rattle.transfer_machine.specs.declared.stage.TryStep.TheVariants.{LoadState, LoadRecordWord, LoadCoveredSlot, ExchangeSlot}
use Rattle.transfer_machine.specs.declared.stage.TryStep.TheVariants.{LoadAnnouncement, LoadPoppedSlot, StoreRecordWord, ExchangeState}
use Rattle.transfer_invariant.specs.Memory.{Words, Views, States, slot_value}
use Rattle.draft_invariant.proofs.Keeps.{zero_at}
use Rattle.draft_invariant.proofs.Lists.{set_each, either}
use Rattle.draft_invariant.proofs.Wishes.{some_block, value_of_zero}
use Rattle.stack_invariant.specs.Loads.{LoadsFit}
use Rattle.stack_invariant.specs.Stack.{StackHolds, Supplied}
use Rattle.stack_invariant.proofs.Follows.{each_process}

-- a view with the same age, announcements and slots
same_loads : (sizes : Sizes) (v x : TransferView) → LoadsFit sizes v → x.age ≡ v.age
    → x.loaded.announcements ≡ v.loaded.announcements → x.loaded.slots ≡ v.loaded.slots → LoadsFit sizes x
same_loads sizes v x h age announcements slots = record {
  age = rw age h.age;
  numbers = rw announcements h.numbers;
  slots = rw slots h.slots;
}

-- the words that a step loads are in range
record MeetsInRange (sizes : Sizes) (v : TransferView) (word : ℕ) : Type 0 where
  young : v.next ≡ Announce → v.age < most_age sizes
  room_announcements : length v.loaded.announcements ≡ 32
  room_slots : length v.loaded.slots ≡ 32
  among : (second : Bool) (process : ℕ) → v.next ≡ Try second (LoadAnnouncement process) → process < 32
  number : (second : Bool) (process : ℕ) → v.next ≡ Try second (LoadAnnouncement process) → tag_of word ≤ most_age sizes
  covered : (second : Bool) (offset : ℕ) → v.next ≡ Try second (LoadCoveredSlot offset) → offset < 32
  slot : (second : Bool) (offset : ℕ) → v.next ≡ Try second (LoadCoveredSlot offset) → value_of word < blocks sizes

-- the view after a step of a try
met_in_range : (sizes : Sizes) (v : TransferView) (word : ℕ) (second : Bool) (step : TryStep) → v.next ≡ Try second step
    → MeetsInRange sizes v word → LoadsFit sizes v → LoadsFit sizes (met_in_try sizes v word second step)
met_in_range sizes v word second LoadState e r h = same_loads sizes v _ h refl refl refl
met_in_range sizes v word second (LoadRecordWord index) e r h =
    let loaded = record v.loaded { record_words = set v.loaded.record_words index word } in
    either TransferView (LoadsFit sizes) (nat_lt (loaded_tag v.loaded) (tag_of word)) (try_ended second v)
    (record_word_loaded sizes second index loaded v) (same_loads sizes v _ h refl refl refl)
    (either TransferView (LoadsFit sizes) (index + 1 == record_words sizes) _ _ (same_loads sizes v _ h refl refl refl)
    (same_loads sizes v _ h refl refl refl))
met_in_range sizes v word second (LoadCoveredSlot offset) e r h = record {
  age = h.age;
  numbers = h.numbers;
  slots = set_each (λ x. value_of x < blocks sizes) v.loaded.slots offset word (rw r.room_slots (r.covered second offset e))
      (r.slot second offset e) h.slots;
}
met_in_range sizes v word second (ExchangeSlot offset) e r h = same_loads sizes v _ h refl refl refl
met_in_range sizes v word second (LoadAnnouncement process) e r h =
    let heard = set_each (λ x. tag_of x ≤ most_age sizes) v.loaded.announcements process word
    (rw r.room_announcements (r.among second process e)) (r.number second process e) h.numbers in
    either TransferView (LoadsFit sizes) (pops_slot sizes.processes v.loaded process word v.draft) _ _
    (record { age = h.age; numbers = heard; slots = h.slots }) (record { age = h.age; numbers = heard; slots = h.slots })
met_in_range sizes v word second (LoadPoppedSlot process) e r h = same_loads sizes v _ h refl refl refl
met_in_range sizes v word second (StoreRecordWord index) e r h = same_loads sizes v _ h refl refl refl
met_in_range sizes v word second ExchangeState e r h =
    either TransferView (LoadsFit sizes) (word == v.loaded.state) (installed v) (try_ended second v) (same_loads sizes v _ h refl refl refl)
    (same_loads sizes v _ h refl refl refl)

-- the view after any step
met_range : (sizes : Sizes) (v : TransferView) (word : ℕ) (next : NextStep) → v.next ≡ next → MeetsInRange sizes v word → LoadsFit sizes v
    → LoadsFit sizes (met_at sizes v word next)
met_range sizes v word Rest e r h = h
met_range sizes v word Announce e r h =
    let young = r.young e in record { age = omega (arith, young); numbers = h.numbers; slots = h.slots }
met_range sizes v word (Try second step) e r h = met_in_range sizes v word second step e r h
met_range sizes v word LoadFinalState e r h = same_loads sizes v _ h refl refl refl
met_range sizes v word LoadReply e r h = same_loads sizes v _ h refl refl refl

-- what the parts give for it: announcements have the ages of their processes, slots hold blocks
range_met : (sizes : Sizes) (words : Words) (views : Views) (states : States) (i : ℕ) → IsShape sizes → i < sizes.processes
    → StackHolds sizes words views states → Supplied sizes words states (views i)
    → MeetsInRange sizes (views i) (words (name_of (action_of sizes (views i))))
unfolding slot_value
range_met sizes words views states i shape li h s =
    let v = views i in
    let view = h.drafts.each i li in
    let process = each_process sizes words views states i li h in
    record {
      young = s.age;
      room_announcements = view.room.announcements;
      room_slots = (h.slots.known i li).room;
      among = λ second k e. let low : k < sizes.processes = rw e at view.among in omega (arith, low, shape.few_processes);
      number = λ second k e. rw e (rw ((h.helping.announced k (rw e at view.among)).tag) (h.loads k (rw e at view.among)).age);
      covered = λ second k e. omega (arith, process.covers.load second k e, process.overlay (rw e refl), shape.few_processes);
      slot = λ second k e. rw e (h.slots.hold.values (loaded_base v.loaded + k) (process.loads_slot second k e));
    }

-- a step keeps the view in range
pub loads_met : (sizes : Sizes) (words : Words) (views : Views) (states : States) (i : ℕ) → IsShape sizes → i < sizes.processes
    → StackHolds sizes words views states → Supplied sizes words states (views i)
    → LoadsFit sizes (met_of sizes (views i) (words (name_of (action_of sizes (views i)))))
loads_met sizes words views states i shape li h s =
    met_range sizes (views i) (words (name_of (action_of sizes (views i)))) (views i).next refl
    (range_met sizes words views states i shape li h s) (h.loads i li)

-- a beginning
pub loads_begun : (sizes : Sizes) (wish : Wish) (v : TransferView) → LoadsFit sizes v → LoadsFit sizes (begun wish v)
loads_begun sizes wish v h = same_loads sizes v (begun wish v) h refl refl refl

-- the opening
pub loads_opened : (sizes : Sizes) (i : ℕ) → IsShape sizes → LoadsFit sizes (opening_transfer i)
unfolding tag_of
loads_opened sizes i shape = record {
  age = omega arith;
  numbers = λ k. rw (zero_at 32 k) (omega arith);
  slots = λ k. rw (zero_at 32 k, value_of_zero) (some_block sizes shape);
}
