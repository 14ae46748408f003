-- every step of every process keeps the part on slots
use Rattle.std.proofs.Common.{◌≡◌, ℕ, ◌+◌, ◌-◌, ◌<◌, ◌≤◌, ◌==◌, Bool, refl, get_or}
use Rattle.std.specs.Prelude.{nat_lt}
use Rattle.word_layout.specs.Sizes.{Sizes}
use Rattle.word_layout.specs.Packing.{tag_of}
use Rattle.word_layout.specs.declared.name.WordName.TheVariants.{State, Announcement, RecordWord, Slot}
use Rattle.transfer_machine.specs.Loads.{loaded_tag, loaded_record, loaded_base}
use Rattle.transfer_machine.specs.Tries.{drafted_value, pops_slot}
use Rattle.transfer_machine.specs.Machine.{action_at, met_at, try_action, met_in_try, own_announcement, stored_word}
use Rattle.transfer_machine.specs.Words.{name_of}
use Rattle.transfer_machine.specs.declared.action.Action.TheVariants.{Load, Store}
use Rattle.transfer_machine.specs.declared.stage.NextStep.{NextStep}
use Rattle.transfer_machine.specs.declared.stage.NextStep.TheVariants.{Rest, Announce, Try, LoadFinalState, LoadReply}
use Rattle.transfer_machine.specs.declared.stage.TryStep.{TryStep}
use Rattle.transfer_machine.specs.declared.stage.TryStep.TheVariants.{LoadState, LoadRecordWord, LoadCoveredSlot, ExchangeSlot}
use Rattle.transfer_machine.specs.declared.stage.TryStep.TheVariants.{LoadAnnouncement, LoadPoppedSlot, StoreRecordWord, ExchangeState}
use Rattle.transfer_invariant.specs.Memory.{Words, Views, States, Acted, Moved}
use Rattle.transfer_invariant.specs.Installing.{states_after_at, states_after_try_step}
use Rattle.transfer_invariant.specs.Invariant.{RecordsHold}
use Rattle.transfer_invariant.specs.Laws.{WritesFit}
use Rattle.transfer_invariant.proofs.Acts.{leaves_records, announces, stores_word}
use Rattle.slot_invariant.specs.Slots.{SlotsInvariant}
use Rattle.slot_invariant.specs.Laws.{DraftBelow}
use Rattle.slot_invariant.proofs.Acts.{leaves_slots, misses_slots}
use Rattle.slot_invariant.proofs.Own.{nothing_known}
use Rattle.slot_invariant.proofs.Steps.{slots_stay, view_covers, record_word_known, announcement_known}
use Rattle.slot_invariant.proofs.Steps.{popped_known, stored_known, covered_known}
use Rattle.slot_invariant.proofs.Exchanges.{slot_exchange, state_exchange}

-- the step at each stage of a try
try_slots_kept : (sizes : Sizes) (m n : Words) (views after : Views) (states : States) (i : ℕ) (second : Bool) (s : TryStep)
    → sizes.processes ≤ 32 → i < sizes.processes → RecordsHold sizes m views states → SlotsInvariant sizes m views states
    → WritesFit sizes m (views i) → DraftBelow (views i) → (views i).next ≡ Try second s → Acted sizes (try_action sizes (views i) s) m n
    → Moved i (met_in_try sizes (views i) (m (name_of (try_action sizes (views i) s))) second s) views after
    → SlotsInvariant sizes n after (states_after_try_step m (views i) states s)
try_slots_kept sizes m n views after states i second LoadState few li inv h w lies e a moved =
    let x = met_in_try sizes (views i) (m State) second LoadState in
    slots_stay sizes m n views after states i x li inv h (leaves_slots sizes (Load State) m n a refl)
    (leaves_records sizes (Load State) m n a refl).state (λ k. nothing_known n x k.room refl) moved
try_slots_kept sizes m n views after states i second (LoadRecordWord index) few li inv h w lies e a moved =
    let name = RecordWord (loaded_record (views i).loaded) index in
    let x = met_in_try sizes (views i) (m name) second (LoadRecordWord index) in
    let later = nat_lt (loaded_tag (views i).loaded) (tag_of (m name)) in
    slots_stay sizes m n views after states i x li inv h (leaves_slots sizes (Load name) m n a refl)
    (leaves_records sizes (Load name) m n a refl).state (record_word_known sizes n (views i) second index (m name) later) moved
try_slots_kept sizes m n views after states i second (LoadCoveredSlot offset) few li inv h w lies e a moved =
    let name = Slot (loaded_base (views i).loaded + offset) in
    let stays = leaves_slots sizes (Load name) m n a refl in
    let same = (leaves_records sizes (Load name) m n a refl).state in
    let older = nat_lt (tag_of (m name)) (loaded_tag (views i).loaded) in
    let c = view_covers sizes m views states i inv li in
    slots_stay sizes m n views after states i (met_in_try sizes (views i) (m name) second (LoadCoveredSlot offset)) li inv h stays same
    (λ k. covered_known sizes m n states (views i) second offset older few c h.hold stays same k e refl) moved
try_slots_kept sizes m n views after states i second (ExchangeSlot offset) few li inv h w lies e a moved =
    let same = m (Slot (loaded_base (views i).loaded + offset)) == get_or (views i).loaded.slots offset 0 in
    slot_exchange sizes m n views after states i second offset same li inv h e refl a moved
try_slots_kept sizes m n views after states i second (LoadAnnouncement process) few li inv h w lies e a moved =
    let name = Announcement process in
    let x = met_in_try sizes (views i) (m name) second (LoadAnnouncement process) in
    let pops = pops_slot sizes.processes (views i).loaded process (m name) (views i).draft in
    slots_stay sizes m n views after states i x li inv h (leaves_slots sizes (Load name) m n a refl)
    (leaves_records sizes (Load name) m n a refl).state (λ k. announcement_known sizes n (views i) second process (m name) pops k e) moved
try_slots_kept sizes m n views after states i second (LoadPoppedSlot process) few li inv h w lies e a moved =
    let name = Slot ((views i).draft.base - 1) in
    let x = met_in_try sizes (views i) (m name) second (LoadPoppedSlot process) in
    slots_stay sizes m n views after states i x li inv h (leaves_slots sizes (Load name) m n a refl)
    (leaves_records sizes (Load name) m n a refl).state (λ k. popped_known sizes n (views i) second process (m name) k e) moved
try_slots_kept sizes m n views after states i second (StoreRecordWord index) few li inv h w lies e a moved =
    let v = views i in
    let action = Store (RecordWord v.next_record index) (stored_word sizes v index) in
    let value = drafted_value sizes.processes v.draft index in
    slots_stay sizes m n views after states i (met_in_try sizes v 0 second (StoreRecordWord index)) li inv h
    (misses_slots sizes action m n a (λ s d. cc))
    (stores_word sizes v.next_record index (loaded_tag v.loaded + 1) value m n (w.store second index e) a).state
    (λ k. stored_known sizes n v second index k e) moved
try_slots_kept sizes m n views after states i second ExchangeState few li inv h w lies e a moved =
    state_exchange sizes m n views after states i second (m State == (views i).loaded.state) few li inv h e lies refl a moved

-- the step at each stage
pub slots_kept : (sizes : Sizes) (m n : Words) (views after : Views) (states : States) (i : ℕ) (s : NextStep) → sizes.processes ≤ 32
    → i < sizes.processes → RecordsHold sizes m views states → SlotsInvariant sizes m views states → WritesFit sizes m (views i)
    → DraftBelow (views i) → (views i).next ≡ s → Acted sizes (action_at sizes (views i) s) m n
    → Moved i (met_at sizes (views i) (m (name_of (action_at sizes (views i) s))) s) views after
    → SlotsInvariant sizes n after (states_after_at m (views i) states s)
slots_kept sizes m n views after states i Rest few li inv h w lies e a moved =
    slots_stay sizes m n views after states i (views i) li inv h (leaves_slots sizes (Load State) m n a refl)
    (leaves_records sizes (Load State) m n a refl).state (λ k. k) moved
slots_kept sizes m n views after states i Announce few li inv h w lies e a moved =
    let v = views i in
    let x = met_at sizes v 0 Announce in
    let action = Store (Announcement v.number) (own_announcement v) in
    slots_stay sizes m n views after states i x li inv h (misses_slots sizes action m n a (λ s d. cc))
    (announces sizes v.number (own_announcement v) m n a).state (λ k. nothing_known n x k.room refl) moved
slots_kept sizes m n views after states i (Try second step) few li inv h w lies e a moved =
    try_slots_kept sizes m n views after states i second step few li inv h w lies e a moved
slots_kept sizes m n views after states i LoadFinalState few li inv h w lies e a moved =
    let x = met_at sizes (views i) (m State) LoadFinalState in
    slots_stay sizes m n views after states i x li inv h (leaves_slots sizes (Load State) m n a refl)
    (leaves_records sizes (Load State) m n a refl).state (λ k. nothing_known n x k.room refl) moved
slots_kept sizes m n views after states i LoadReply few li inv h w lies e a moved =
    let name = RecordWord (loaded_record (views i).loaded) (sizes.processes + 2 + (views i).number) in
    let x = met_at sizes (views i) (m name) LoadReply in
    slots_stay sizes m n views after states i x li inv h (leaves_slots sizes (Load name) m n a refl)
    (leaves_records sizes (Load name) m n a refl).state (λ k. nothing_known n x k.room refl) moved
