-- the steps that change no slot and no state
use Rattle.std.proofs.Common.{◌≡◌, ℕ, ◌+◌, ◌<◌, ◌≤◌, ◌==◌, Bool, true, false, refl, ◌∙◌, inl, inr, arith, set, length-set}
use Rattle.std.specs.Prelude.{if◌then◌else◌, nat_lt}
use Rattle.std.proofs.lemmas.Bool.{cases_eq}
use Rattle.std.proofs.lemmas.Bool.Decides.{nat_tests}
use Rattle.word_layout.specs.Sizes.{Sizes}
use Rattle.word_layout.specs.Names.{record_words}
use Rattle.word_layout.specs.Packing.{tag_of}
use Rattle.word_layout.specs.declared.name.WordName.TheVariants.{Slot}
use Rattle.transfer_machine.specs.Loads.{loaded_tag, loaded_base, overlay_length}
use Rattle.transfer_machine.specs.Tries.{begun_draft, after_announcement}
use Rattle.transfer_machine.specs.Machine.{try_ended, after_slot, after_record, after_heard}
use Rattle.transfer_machine.specs.Machine.{after_stored, record_word_loaded, popped_loaded}
use Rattle.transfer_machine.specs.declared.loaded.Loaded.{Loaded}
use Rattle.transfer_machine.specs.declared.transfer.TransferView.{TransferView}
use Rattle.transfer_machine.specs.declared.try_draft.TryDraft.{TryDraft}
use Rattle.transfer_machine.specs.declared.stage.NextStep.TheVariants.{Try}
use Rattle.transfer_machine.specs.declared.stage.TryStep.TheVariants.{LoadRecordWord, LoadCoveredSlot, ExchangeSlot}
use Rattle.transfer_machine.specs.declared.stage.TryStep.TheVariants.{LoadAnnouncement, LoadPoppedSlot, StoreRecordWord}
use Rattle.transfer_invariant.proofs.Loaded.{ended_has_none}
use Rattle.transfer_invariant.specs.Memory.{Words, Views, States, Moved, state_tag, slot_tag, slot_value}
use Rattle.transfer_invariant.specs.Progress.{has_record, covered_in_try, passed_in_try}
use Rattle.transfer_invariant.specs.Invariant.{RecordsHold}
use Rattle.slot_invariant.specs.Slots.{SlotsHold, SlotsKnown, SlotsInvariant, passed_slots}
use Rattle.slot_invariant.proofs.Changes.{SlotsStay}
use Rattle.slot_invariant.proofs.Covers.{Covers, covers}
use Rattle.slot_invariant.proofs.Stable.{stay_hold, stay_known}
use Rattle.slot_invariant.proofs.Own.{nothing_known, record_known, past_known, slot_known, lower_known}

-- the part after a step, of the words, of the moving view and of the others
pub slots_move : (sizes : Sizes) (n : Words) (views after : Views) (states : States) (i : ℕ) (x : TransferView) → SlotsHold sizes n states
    → SlotsKnown n x → ((o : ℕ) → o < sizes.processes → SlotsKnown n (views o)) → Moved i x views after
    → SlotsInvariant sizes n after states
slots_move sizes n views after states i x hold known others moved = record {
  hold = hold;
  known = λ o lo. elim (cases_eq o i) [ inl e ↦ rw e (rw moved.here known) | inr ne ↦ rw (moved.elsewhere o ne) (others o lo) ];
}

-- what each view covers
pub view_covers : (sizes : Sizes) (m : Words) (views : Views) (states : States) (o : ℕ) → RecordsHold sizes m views states
    → o < sizes.processes
    → Covers sizes m states (views o)
view_covers sizes m views states o inv lo = covers sizes m states (views o) inv.states_fit (inv.loaded o lo)

-- slots and the state stay
pub slots_stay : (sizes : Sizes) (m n : Words) (views after : Views) (states : States) (i : ℕ) (x : TransferView) → i < sizes.processes
    → RecordsHold sizes m views states
    → SlotsInvariant sizes m views states
    → SlotsStay sizes m n → state_tag n ≡ state_tag m → (SlotsKnown n (views i) → SlotsKnown n x) → Moved i x views after
    → SlotsInvariant sizes n after states
slots_stay sizes m n views after states i x li inv h s e own moved =
    let others : (o : ℕ) → o < sizes.processes → SlotsKnown n (views o) =
    λ o lo. stay_known sizes m n states (views o) (view_covers sizes m views states o inv lo) (h.known o lo) s e in
    slots_move sizes n views after states i x (stay_hold sizes m n states inv.states_fit h.hold s e) (own (others i li)) others moved

-- either of two views knows it
pub either_known : (n : Words) (t : Bool) (a b : TransferView) → SlotsKnown n a → SlotsKnown n b → SlotsKnown n (if t then a else b)
either_known n true a b h k = h
either_known n false a b h k = k

-- a try ends
pub ended_known : (n : Words) (v : TransferView) (second : Bool) → SlotsKnown n v → SlotsKnown n (try_ended second v)
ended_known n v second h = nothing_known n (try_ended second v) h.room (ended_has_none second)

-- a record word is loaded
pub record_word_known : (sizes : Sizes) (n : Words) (v : TransferView) (second : Bool) (index word : ℕ) (t : Bool) → SlotsKnown n v
    → SlotsKnown n (if t
    then try_ended second v
    else record_word_loaded sizes second index (record v.loaded { record_words = set v.loaded.record_words index word }) v)
record_word_known sizes n v second index word t h =
    let loaded = record v.loaded { record_words = set v.loaded.record_words index word } in
    either_known n t (try_ended second v) _ (ended_known n v second h)
    (either_known n (index + 1 == record_words sizes) _ _
    (record_known n (record v { loaded = loaded; next = Try second (after_record loaded); draft = begun_draft loaded v.draft }) second
    h.room refl)
    (nothing_known n (record v { loaded = loaded; next = Try second (LoadRecordWord (index + 1)) }) h.room refl))

-- an announcement is loaded
heard_past : (sizes : Sizes) (process : ℕ) → covered_in_try (after_heard sizes process) ≡ false
heard_past sizes process = grind (arith, nat_tests)

heard_passed : (sizes : Sizes) (process covered : ℕ) → passed_in_try covered (after_heard sizes process) ≤ covered
heard_passed sizes process covered = grind (arith, nat_tests)

heard_known : (sizes : Sizes) (n : Words) (v : TransferView) (loaded : Loaded) (draft : TryDraft) (second : Bool) (process : ℕ)
    → SlotsKnown n v → has_record v.next ≡ true → passed_slots v ≡ overlay_length v.loaded
    → loaded.state ≡ v.loaded.state → loaded.record_words ≡ v.loaded.record_words → loaded.slots ≡ v.loaded.slots
    → SlotsKnown n (record v { loaded = loaded; next = Try second (after_heard sizes process); draft = draft })
heard_known sizes n v loaded draft second process h was all state words slots =
    past_known n v (record v { loaded = loaded; next = Try second (after_heard sizes process); draft = draft }) h (record {
      was = was;
      state = state;
      record_words = words;
      slots = slots;
      all = all;
      past = heard_past sizes process;
      none = heard_passed sizes process (overlay_length loaded);
    })

-- a loaded announcement leaves what a view knows of the slots
pub announcement_known : (sizes : Sizes) (n : Words) (v : TransferView) (second : Bool) (process word : ℕ) (t : Bool) → SlotsKnown n v
    → v.next ≡ Try second (LoadAnnouncement process)
    → SlotsKnown n (let loaded = record v.loaded { announcements = set v.loaded.announcements process word } in
    if t
    then record v { loaded = loaded; next = Try second (LoadPoppedSlot process) }
    else record v {
      loaded = loaded;
      next = Try second (after_heard sizes process);
      draft = after_announcement sizes.processes v.loaded process word 0 v.draft;
    })
announcement_known sizes n v second process word t h e =
    let loaded = record v.loaded { announcements = set v.loaded.announcements process word } in
    let draft = after_announcement sizes.processes v.loaded process word 0 v.draft in
    either_known n t _ _
    (past_known n v (record v { loaded = loaded; next = Try second (LoadPoppedSlot process) }) h
    (record { was = rw e refl; state = refl; record_words = refl; slots = refl; all = rw e refl; past = refl; none = omega arith }))
    (heard_known sizes n v loaded draft second process h (rw e refl) (rw e refl) refl refl refl)

-- the slot of a taken batch is loaded
pub popped_known : (sizes : Sizes) (n : Words) (v : TransferView) (second : Bool) (process word : ℕ) → SlotsKnown n v
    → v.next ≡ Try second (LoadPoppedSlot process) → SlotsKnown n (popped_loaded sizes second process word v)
popped_known sizes n v second process word h e =
    let x = popped_loaded sizes second process word v in
    heard_known sizes n v x.loaded x.draft second process h (rw e refl) (rw e refl) refl refl refl

-- a record word is stored
stored_past : (sizes : Sizes) (index : ℕ) → covered_in_try (after_stored sizes index) ≡ false
stored_past sizes index = grind (arith, nat_tests)

stored_passed : (sizes : Sizes) (index covered : ℕ) → passed_in_try covered (after_stored sizes index) ≤ covered
stored_passed sizes index covered = grind (arith, nat_tests)

-- so does a stored record word
pub stored_known : (sizes : Sizes) (n : Words) (v : TransferView) (second : Bool) (index : ℕ) → SlotsKnown n v
    → v.next ≡ Try second (StoreRecordWord index) → SlotsKnown n (record v { next = Try second (after_stored sizes index) })
stored_known sizes n v second index h e = past_known n v (record v { next = Try second (after_stored sizes index) }) h (record {
  was = rw e refl;
  state = refl;
  record_words = refl;
  slots = refl;
  all = rw e refl;
  past = stored_past sizes index;
  none = stored_passed sizes index (overlay_length v.loaded);
})

-- a covered slot is loaded
below_test : (a b : ℕ) → nat_lt a b ≡ true → a < b
below_test a b h = grind (arith, nat_tests)

not_below_test : (a b : ℕ) → nat_lt a b ≡ false → b ≤ a
not_below_test a b h = grind (arith, nat_tests)

-- once a covered slot is loaded, a view knows its tag and word, and if its tag isn't lower it is passed
pub covered_known : (sizes : Sizes) (m n : Words) (states : States) (v : TransferView) (second : Bool) (offset : ℕ) (t : Bool)
    → sizes.processes ≤ 32 → Covers sizes m states v → SlotsHold sizes m states → SlotsStay sizes m n → state_tag n ≡ state_tag m
    → SlotsKnown n v
    → v.next ≡ Try second (LoadCoveredSlot offset)
    → nat_lt (tag_of (m (Slot (loaded_base v.loaded + offset)))) (loaded_tag v.loaded) ≡ t
    → SlotsKnown n (record v {
      loaded = record v.loaded { slots = set v.loaded.slots offset (m (Slot (loaded_base v.loaded + offset))) };
      next = Try second (if t then ExchangeSlot offset else after_slot v.loaded offset);
    })
unfolding slot_tag slot_value
covered_known sizes m n states v second offset true few c hold s same h e test =
    let word = m (Slot (loaded_base v.loaded + offset)) in
    let x = record v { loaded = record v.loaded { slots = set v.loaded.slots offset word }; next = Try second (ExchangeSlot offset) } in
    let has : has_record v.next ≡ true = rw e refl in
    let lt : offset < overlay_length v.loaded = rw e at (h.within (rw e refl)) in
    let covered = c.few has in
    let slots = c.within has in
    let low : loaded_base v.loaded + offset < sizes.batches = omega arith in
    lower_known n v x second offset word h has (rw e refl) lt (omega arith) refl refl refl refl (below_test _ _ test)
    (s.tags (loaded_base v.loaded + offset) low) (s.values (loaded_base v.loaded + offset) low)
covered_known sizes m n states v second offset false few c hold s same h e test =
    let word = m (Slot (loaded_base v.loaded + offset)) in
    let x =
    record v { loaded = record v.loaded { slots = set v.loaded.slots offset word }; next = Try second (after_slot v.loaded offset) } in
    let has : has_record v.next ≡ true = rw e refl in
    let lt : offset < overlay_length v.loaded = rw e at (h.within (rw e refl)) in
    let slots = c.within has in
    let low : loaded_base v.loaded + offset < sizes.batches = omega arith in
    slot_known n v x second offset h has (rw e refl) lt refl refl (length-set v.loaded.slots offset word ∙ h.room) refl
    (λ now. rw (same, s.tags (loaded_base v.loaded + offset) low)
    (let k = hold.tags (loaded_base v.loaded + offset) low in let higher = not_below_test _ _ test in omega (arith, now, same)))
