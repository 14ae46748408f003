-- the exchanges of a slot and of the state
use Rattle.std.proofs.Common.{◌≡◌, ℕ, ◌+◌, ◌<◌, ◌≤◌, ◌==◌, Bool, true, false, refl, sym, ◌∙◌, ap, inl, inr, arith, get_or}
use Rattle.std.specs.Prelude.{if◌then◌else◌, nat_lt}
use Rattle.std.proofs.lemmas.Bool.{cases_eq, cases_lt}
use Rattle.std.proofs.lemmas.Bool.Decides.{nat_tests}
use Rattle.word_layout.specs.Sizes.{Sizes}
use Rattle.word_layout.specs.Packing.{tag_of, value_of, value_limit}
use Rattle.word_layout.specs.declared.name.WordName.TheVariants.{State, Slot}
use Rattle.word_layout.proofs.Packed.{tagged-parts}
use Rattle.transfer_machine.specs.Loads.{loaded_tag, loaded_base, overlay_length, overlay_head}
use Rattle.transfer_machine.specs.Machine.{after_slot, covering_word, next_state, try_ended, installed}
use Rattle.transfer_machine.specs.States.{StackState}
use Rattle.transfer_machine.specs.declared.action.Action.TheVariants.{Exchange}
use Rattle.transfer_machine.specs.declared.transfer.TransferView.{TransferView}
use Rattle.transfer_machine.specs.declared.stage.NextStep.TheVariants.{Try}
use Rattle.transfer_machine.specs.declared.stage.TryStep.TheVariants.{ExchangeSlot, ExchangeState}
use Rattle.transfer_invariant.specs.Memory.{Words, Views, States, Acted, Moved, state_tag, slot_tag, slot_value}
use Rattle.transfer_invariant.specs.Progress.{has_record, at_slot_exchange}
use Rattle.transfer_invariant.specs.Installing.{drafted_state, states_with_drafted}
use Rattle.transfer_invariant.specs.Invariant.{RecordsHold}
use Rattle.transfer_invariant.proofs.Acts.{exchanges_slot, exchanges_state, keeps_state}
use Rattle.transfer_invariant.proofs.Keeps.{row_fits}
use Rattle.transfer_invariant.proofs.Writes.{with_state_here, with_state_below}
use Rattle.slot_invariant.specs.Slots.{passed_slots, slot_to_pass, word_to_pass, SlotsHold, SlotsKnown, SlotsInvariant}
use Rattle.slot_invariant.specs.Laws.{DraftBelow}
use Rattle.slot_invariant.proofs.Changes.{SlotExchanged}
use Rattle.slot_invariant.proofs.Acts.{misses_slots, slot_exchanged, slot_not_exchanged}
use Rattle.slot_invariant.proofs.Covers.{Covers}
use Rattle.slot_invariant.proofs.Stable.{covered_has_record, exchange_is_covered, exchange_hold}
use Rattle.slot_invariant.proofs.Stable.{exchange_known, install_hold, install_known}
use Rattle.slot_invariant.proofs.Own.{nothing_known, slot_known}
use Rattle.slot_invariant.proofs.Steps.{slots_move, slots_stay, view_covers, ended_known}

-- a slot that still is the loaded word is exchanged only while the loaded state is the present one: a later state would have raised its tag
pub exchange_is_now : (sizes : Sizes) (m : Words) (states : States) (v : TransferView) → Covers sizes m states v → SlotsHold sizes m states
    → SlotsKnown m v → at_slot_exchange v.next ≡ true → slot_tag m (slot_to_pass v) ≡ tag_of (word_to_pass v)
    → loaded_tag v.loaded ≡ state_tag m
exchange_is_now sizes m states v c hold h at same =
    let covered = exchange_is_covered v.next at in
    let has = covered_has_record v.next covered in
    let past = c.past has in
    let lt = h.within covered in
    let base = c.base has in
    let height = c.height has in
    let low = h.low at in
    elim (cases_lt (loaded_tag v.loaded) (state_tag m)) [
      | inl earlier ↦
          absurd (let raised = hold.before (loaded_tag v.loaded) (slot_to_pass v) earlier (omega arith) (omega arith) in omega arith)
      | inr now ↦ omega arith
    ]

value_fits : (word : ℕ) → value_of word < value_limit
unfolding value_of
value_fits word = omega arith

same_words : (a b : ℕ) → (a == b) ≡ true → a ≡ b
same_words a b h = grind (arith, nat_tests)

other_words : (a b : ℕ) → (a == b) ≡ false → tag_of a ≡ tag_of b → value_of a ≡ value_of b → ⊥
other_words a b h et ev = let e : a ≡ b = sym (tagged-parts a) ∙ rw (et, ev) (tagged-parts b) in grind (arith, nat_tests)

-- the exchange of a slot, made or not
pub slot_exchange : (sizes : Sizes) (m n : Words) (views after : Views) (states : States) (i : ℕ) (second : Bool) (offset : ℕ) (t : Bool)
    → i < sizes.processes → RecordsHold sizes m views states → SlotsInvariant sizes m views states
    → (views i).next ≡ Try second (ExchangeSlot offset)
    → (m (Slot (loaded_base (views i).loaded + offset)) == get_or (views i).loaded.slots offset 0) ≡ t
    → Acted sizes (Exchange (Slot (loaded_base (views i).loaded + offset)) (get_or (views i).loaded.slots offset 0)
    (covering_word (views i) offset)) m n
    → Moved i (record (views i) { next = Try second (after_slot (views i).loaded offset) }) views after
    → SlotsInvariant sizes n after states
unfolding slot_tag slot_value
slot_exchange sizes m n views after states i second offset true li inv h e test a moved =
    let v = views i in
    let slot = loaded_base v.loaded + offset in
    let x = record v { next = Try second (after_slot v.loaded offset) } in
    let known = h.known i li in
    let c = view_covers sizes m views states i inv li in
    let has : has_record v.next ≡ true = rw e refl in
    let at : at_slot_exchange v.next ≡ true = rw e refl in
    let lt : offset < overlay_length v.loaded = rw e at (known.within (rw e refl)) in
    let here : passed_slots v ≡ offset = rw e refl in
    let word : m (Slot slot) ≡ get_or v.loaded.slots offset 0 = same_words (m (Slot slot)) (get_or v.loaded.slots offset 0) test in
    let now : loaded_tag v.loaded ≡ state_tag m = exchange_is_now sizes m states v c h.hold known at (rw here (ap tag_of word)) in
    let change =
    slot_exchanged sizes slot (get_or v.loaded.slots offset 0) (loaded_tag v.loaded) (overlay_head v.loaded offset) m n
    (value_fits _) test a in
    let content : overlay_head v.loaded offset ≡ (states (state_tag m)).content slot = rw now at (c.heads has offset lt) in
    let made : SlotExchanged sizes m n slot (state_tag m) ((states (state_tag m)).content slot) = rw (now, content) at change in
    let base : (states (state_tag m)).base ≡ loaded_base v.loaded = rw now at (c.base has) in
    let height : (states (state_tag m)).height ≡ loaded_base v.loaded + overlay_length v.loaded = rw now at (c.height has) in
    let others : (o : ℕ) → o < sizes.processes → SlotsKnown n (views o) =
    λ o lo. exchange_known sizes m n states slot _ (views o) (view_covers sizes m views states o inv lo) (h.known o lo) made in
    slots_move sizes n views after states i x (exchange_hold sizes m n states slot inv.states_fit h.hold made (omega arith) (omega arith))
    (slot_known n v x second offset (others i li) has here lt refl refl known.room refl (λ k. made.tag_here ∙ sym made.state)) others moved
slot_exchange sizes m n views after states i second offset false li inv h e test a moved =
    let v = views i in
    let slot = loaded_base v.loaded + offset in
    let x = record v { next = Try second (after_slot v.loaded offset) } in
    let change = exchanges_slot sizes slot (get_or v.loaded.slots offset 0) (covering_word v offset) m n a in
    let stays = slot_not_exchanged sizes slot (get_or v.loaded.slots offset 0) (covering_word v offset) m n test a in
    let c = view_covers sizes m views states i inv li in
    let has : has_record v.next ≡ true = rw e refl in
    let at : at_slot_exchange v.next ≡ true = rw e refl in
    let here : passed_slots v ≡ offset = rw e refl in
    let known = h.known i li in
    let lt : offset < overlay_length v.loaded = rw e at (known.within (rw e refl)) in
    let slots = c.within has in
    let low : slot < sizes.batches = omega arith in
    let now : loaded_tag v.loaded ≡ state_tag m → slot_tag m slot ≡ state_tag m = λ k. elim (cases_eq (slot_tag m slot) (state_tag m)) [
      | inl same ↦ same
      | inr ne ↦
          absurd (other_words (m (Slot slot)) (get_or v.loaded.slots offset 0) test (rw here at (known.stays_tag at k (rw here ne)))
          (rw here at (known.stays_value at k (rw here ne))))
    ] in
    slots_stay sizes m n views after states i x li inv h stays change.state
    (λ k. slot_known n v x second offset k has here lt refl refl k.room refl
    (λ same. stays.tags slot low ∙ now (same ∙ change.state) ∙ sym change.state)) moved

-- the content of the drafted state
drafted_base : (s : StackState) (v : TransferView) → (drafted_state s v).base ≡ v.draft.base
unfolding drafted_state
drafted_base s v = refl

drafted_content : (s : StackState) (v : TransferView) (place : ℕ) → place < v.draft.base
    → (drafted_state s v).content place ≡ s.content place
unfolding drafted_state
drafted_content s v place lt = let below : nat_lt place v.draft.base ≡ true = grind (arith, nat_tests) in rw below refl

-- the exchange of the state, made or not
pub state_exchange : (sizes : Sizes) (m n : Words) (views after : Views) (states : States) (i : ℕ) (second : Bool) (t : Bool)
    → sizes.processes ≤ 32 → i < sizes.processes → RecordsHold sizes m views states → SlotsInvariant sizes m views states
    → (views i).next ≡ Try second ExchangeState
    → DraftBelow (views i)
    → (m State == (views i).loaded.state) ≡ t → Acted sizes (Exchange State (views i).loaded.state (next_state (views i))) m n
    → Moved i (if t then installed (views i) else try_ended second (views i)) views after
    → SlotsInvariant sizes n after (if t then states_with_drafted m (views i) states else states)
unfolding state_tag
state_exchange sizes m n views after states i second true few li inv h e lies test a moved =
    let v = views i in
    let new = drafted_state (states (state_tag m)) v in
    let later : States = states_with_drafted m v states in
    let known = h.known i li in
    let c = view_covers sizes m views states i inv li in
    let has : has_record v.next ≡ true = rw e refl in
    let all : passed_slots v ≡ overlay_length v.loaded = rw e refl in
    let now : loaded_tag v.loaded ≡ state_tag m = sym (ap tag_of (same_words (m State) v.loaded.state test)) in
    let base : (states (state_tag m)).base ≡ loaded_base v.loaded = rw now at (c.base has) in
    let height : (states (state_tag m)).height ≡ loaded_base v.loaded + overlay_length v.loaded = rw now at (c.height has) in
    let change =
    exchanges_state sizes v.loaded.state (loaded_tag v.loaded + 1) v.next_record m n
    (row_fits sizes m i v few li (inv.own i li)) test a in
    let raised : state_tag n ≡ state_tag m + 1 = rw now at change.state in
    let stays = misses_slots sizes (Exchange State v.loaded.state (next_state v)) m n a (λ s d. cc) in
    let here : later (state_tag m + 1) ≡ new = with_state_here (state_tag m + 1) new states in
    let same : (t : ℕ) → t ≤ state_tag m → later t ≡ states t = with_state_below (state_tag m) new states in
    let new_base : (later (state_tag m + 1)).base ≡ v.draft.base =
    ap (λ (s : StackState). s.base) here ∙ drafted_base (states (state_tag m)) v in
    slots_move sizes n views after later i (installed v)
    (install_hold sizes m n states later inv.states_fit h.hold stays raised same
    (rw (new_base, height) (lies second e))
    (λ s lt. rw here (drafted_content (states (state_tag m)) v s (rw new_base at lt)))
    (λ s ge lt. known.passed has now s (rw base at ge) (rw all (rw height at lt))))
    (nothing_known n (installed v) known.room refl)
    (λ o lo. install_known sizes m n states (views o) (view_covers sizes m views states o inv lo) (h.known o lo) raised) moved
state_exchange sizes m n views after states i second false few li inv h e lies test a moved =
    let v = views i in
    slots_stay sizes m n views after states i (try_ended second v) li inv h
    (misses_slots sizes (Exchange State v.loaded.state (next_state v)) m n a (λ s d. cc))
    (keeps_state sizes v.loaded.state (next_state v) m n test a).state (ended_known n v second) moved
