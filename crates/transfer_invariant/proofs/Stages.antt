-- the steps that only load, and the others where they change nothing
use Rattle.std.proofs.Common.{◌≡◌, ℕ, ◌+◌, ◌<◌, ◌≤◌, ◌==◌, Bool, true, false, refl, ◌∙◌, ap, arith, set, length-set}
use Rattle.std.specs.Prelude.{if◌then◌else◌, nat_lt}
use Rattle.std.proofs.lemmas.Bool.Decides.{nat_tests}
use Rattle.word_layout.specs.Sizes.{Sizes}
use Rattle.word_layout.specs.Names.{record_words}
use Rattle.word_layout.specs.Packing.{tag_of, value_of}
use Rattle.transfer_machine.specs.Loads.{loaded_tag, loaded_record}
use Rattle.transfer_machine.specs.Tries.{begun_draft, after_announcement}
use Rattle.transfer_machine.specs.Machine.{try_ended, after_slot, after_record, after_heard, record_word_loaded, popped_loaded}
use Rattle.transfer_machine.specs.declared.loaded.Loaded.{Loaded}
use Rattle.transfer_machine.specs.declared.transfer.TransferView.{TransferView}
use Rattle.transfer_machine.specs.declared.stage.NextStep.TheVariants.{Try}
use Rattle.transfer_machine.specs.declared.stage.TryStep.TheVariants.{LoadRecordWord, LoadCoveredSlot, ExchangeSlot}
use Rattle.transfer_machine.specs.declared.stage.TryStep.TheVariants.{LoadAnnouncement, LoadPoppedSlot}
use Rattle.transfer_invariant.specs.Memory.{Words, Views, States, Moved, word_tag, word_value}
use Rattle.transfer_invariant.specs.Progress.{in_try, has_loaded, loaded_words}
use Rattle.transfer_invariant.specs.Invariant.{RecordsHold}
use Rattle.transfer_invariant.proofs.Own.{KeepsLoaded, StoresNone, word_loaded}
use Rattle.transfer_invariant.proofs.Steps.{moves_on, moves_on_same, within, try_ends, slot_none, slot_loads}
use Rattle.transfer_invariant.proofs.Steps.{heard_none, heard_loads, record_none, record_loads}

-- a process at rest stays so, and one that begins or ends a transfer has nothing loaded
pub leaves : (sizes : Sizes) (m : Words) (views after : Views) (states : States) (i : ℕ) (x : TransferView) → i < sizes.processes
    → RecordsHold sizes m views states → has_loaded x.next ≡ false → in_try x.next ≡ false → StoresNone sizes x.next
    → loaded_words (record_words sizes) x.next ≡ 0 → x.next_record ≡ (views i).next_record → x.installed ≡ (views i).installed
    → x.loaded ≡ (views i).loaded → Moved i x views after → RecordsHold sizes m after states
leaves sizes m views after states i x li inv h t none l en ei el moved =
    let keeps : KeepsLoaded (views i) x = record {
      next_record = en;
      installed = ei;
      state = ap (λ k. k.state) el;
      has = λ k. absurd (grind (arith, h, k));
      tries = λ k. absurd (grind (arith, t, k));
    } in
    moves_on_same sizes m views after states i x li inv keeps none (ap (λ k. k.record_words) el) (omega arith) moved

-- what was loaded, with this word of the record
abbrev with_record_word : Loaded → ℕ → ℕ → Loaded
with_record_word loaded index word = record loaded { record_words = set loaded.record_words index word }

-- a word of the record is loaded
word_goes_on : (sizes : Sizes) (m : Words) (views after : Views) (states : States) (i : ℕ) (second : Bool) (index word : ℕ)
    → sizes.processes ≤ 32 → i < sizes.processes → RecordsHold sizes m views states → (views i).next ≡ Try second (LoadRecordWord index)
    → tag_of word ≡ word_tag m (loaded_record (views i).loaded) index
    → value_of word ≡ word_value m (loaded_record (views i).loaded) index
    → tag_of word ≤ loaded_tag (views i).loaded
    → (x : TransferView) → KeepsLoaded (views i) x → StoresNone sizes x.next
    → x.loaded.record_words ≡ set (views i).loaded.record_words index word → loaded_words (record_words sizes) x.next ≤ index + 1
    → Moved i x views after → RecordsHold sizes m after states
word_goes_on sizes m views after states i second index word few li inv e et ev le x g none same count moved =
    let h = inv.loaded i li in
    let low : index < record_words sizes = rw e at (inv.own i li).index in
    let room = length-set (views i).loaded.record_words index word ∙ h.room in
    moves_on sizes m views after states i x li inv g none (rw same room)
    (λ k lt. rw same (word_loaded sizes m states second index word (views i) few h e low et ev le k (omega arith))) moved

word_met : (sizes : Sizes) (m : Words) (views after : Views) (states : States) (i : ℕ) (second : Bool) (index word : ℕ)
    → sizes.processes ≤ 32 → i < sizes.processes → RecordsHold sizes m views states → (views i).next ≡ Try second (LoadRecordWord index)
    → tag_of word ≡ word_tag m (loaded_record (views i).loaded) index
    → value_of word ≡ word_value m (loaded_record (views i).loaded) index
    → tag_of word ≤ loaded_tag (views i).loaded
    → (t : Bool) → (index + 1 == record_words sizes) ≡ t
    → Moved i (if t then record (views i) {
      loaded = with_record_word (views i).loaded index word;
      next = Try second (after_record (with_record_word (views i).loaded index word));
      draft = begun_draft (with_record_word (views i).loaded index word) (views i).draft;
    } else record (views i) {
      loaded = with_record_word (views i).loaded index word;
      next = Try second (LoadRecordWord (index + 1));
    }) views after
    → RecordsHold sizes m after states
word_met sizes m views after states i second index word few li inv e et ev le true test moved =
    let v = views i in
    let loaded = with_record_word v.loaded index word in
    let x = record v { loaded = loaded; next = Try second (after_record loaded); draft = begun_draft loaded v.draft } in
    let count = record_loads (record_words sizes) loaded in
    let last = last_word (record_words sizes) index test in
    word_goes_on sizes m views after states i second index word few li inv e et ev le x (within v x (rw e refl) refl refl refl)
    (record_none sizes second loaded) refl (omega arith) moved
  where
    last_word : (n index : ℕ) → (index + 1 == n) ≡ true → index + 1 ≡ n
    last_word n index h = grind (arith, nat_tests)
word_met sizes m views after states i second index word few li inv e et ev le false test moved =
    let v = views i in
    let x = record v { loaded = with_record_word v.loaded index word; next = Try second (LoadRecordWord (index + 1)) } in
    let low : index < record_words sizes = rw e at (inv.own i li).index in
    word_goes_on sizes m views after states i second index word few li inv e et ev le x (within v x (rw e refl) refl refl refl)
    (record { index = more_words (record_words sizes) index low test; stored = refl }) refl (omega arith) moved
  where
    more_words : (n index : ℕ) → index < n → (index + 1 == n) ≡ false → index + 1 < n
    more_words n index lt h = grind (arith, nat_tests)

-- the load of a record word, of the loaded state or, which ends the try, of a later one, keeps the parts on the records
pub record_step : (sizes : Sizes) (m : Words) (views after : Views) (states : States) (i : ℕ) (second : Bool) (index word : ℕ)
    → sizes.processes ≤ 32 → i < sizes.processes → RecordsHold sizes m views states → (views i).next ≡ Try second (LoadRecordWord index)
    → tag_of word ≡ word_tag m (loaded_record (views i).loaded) index
    → value_of word ≡ word_value m (loaded_record (views i).loaded) index
    → (t : Bool) → nat_lt (loaded_tag (views i).loaded) (tag_of word) ≡ t
    → Moved i (if t then try_ended second (views i)
    else record_word_loaded sizes second index (with_record_word (views i).loaded index word) (views i)) views after
    → RecordsHold sizes m after states
record_step sizes m views after states i second index word few li inv e et ev true test moved =
    try_ends sizes m views after states i second li inv (rw e refl) moved
record_step sizes m views after states i second index word few li inv e et ev false test moved =
    let le = not_above (loaded_tag (views i).loaded) (tag_of word) test in
    word_met sizes m views after states i second index word few li inv e et ev le (index + 1 == record_words sizes) refl moved
  where
    not_above : (a b : ℕ) → nat_lt a b ≡ false → b ≤ a
    not_above a b h = grind (arith, nat_tests)

-- a covered slot is loaded, or exchanged
pub slot_step : (sizes : Sizes) (m : Words) (views after : Views) (states : States) (i : ℕ) (second : Bool) (offset word : ℕ)
    → i < sizes.processes → RecordsHold sizes m views states → (views i).next ≡ Try second (LoadCoveredSlot offset) → (t : Bool)
    → Moved i (record (views i) {
      loaded = record (views i).loaded { slots = set (views i).loaded.slots offset word };
      next = Try second (if t then ExchangeSlot offset else after_slot (views i).loaded offset);
    }) views after
    → RecordsHold sizes m after states
slot_step sizes m views after states i second offset word li inv e true moved =
    let v = views i in
    let x = record v { loaded = record v.loaded { slots = set v.loaded.slots offset word }; next = Try second (ExchangeSlot offset) } in
    moves_on_same sizes m views after states i x li inv (within v x (rw e refl) refl refl refl)
    (record { index = omega arith; stored = refl }) refl (rw e (omega arith)) moved
slot_step sizes m views after states i second offset word li inv e false moved =
    let v = views i in
    let loaded = record v.loaded { slots = set v.loaded.slots offset word } in
    let x = record v { loaded = loaded; next = Try second (after_slot v.loaded offset) } in
    moves_on_same sizes m views after states i x li inv (within v x (rw e refl) refl refl refl) (slot_none sizes second v.loaded offset)
    refl (rw e (slot_loads (record_words sizes) v.loaded offset)) moved

-- the exchange of a slot keeps the parts on the records
pub exchange_step : (sizes : Sizes) (m : Words) (views after : Views) (states : States) (i : ℕ) (second : Bool) (offset : ℕ)
    → i < sizes.processes → RecordsHold sizes m views states → (views i).next ≡ Try second (ExchangeSlot offset)
    → Moved i (record (views i) { next = Try second (after_slot (views i).loaded offset) }) views after
    → RecordsHold sizes m after states
exchange_step sizes m views after states i second offset li inv e moved =
    let v = views i in
    let x = record v { next = Try second (after_slot v.loaded offset) } in
    moves_on_same sizes m views after states i x li inv (within v x (rw e refl) refl refl refl) (slot_none sizes second v.loaded offset)
    refl (rw e (slot_loads (record_words sizes) v.loaded offset)) moved

-- an announcement is loaded
pub announcement_step : (sizes : Sizes) (m : Words) (views after : Views) (states : States) (i : ℕ) (second : Bool) (process word : ℕ)
    → i < sizes.processes → RecordsHold sizes m views states → (views i).next ≡ Try second (LoadAnnouncement process) → (t : Bool)
    → Moved i (if t then record (views i) {
      loaded = record (views i).loaded { announcements = set (views i).loaded.announcements process word };
      next = Try second (LoadPoppedSlot process);
    } else record (views i) {
      loaded = record (views i).loaded { announcements = set (views i).loaded.announcements process word };
      next = Try second (after_heard sizes process);
      draft = after_announcement sizes.processes (views i).loaded process word 0 (views i).draft;
    }) views after
    → RecordsHold sizes m after states
announcement_step sizes m views after states i second process word li inv e true moved =
    let v = views i in
    let loaded = record v.loaded { announcements = set v.loaded.announcements process word } in
    let x = record v { loaded = loaded; next = Try second (LoadPoppedSlot process) } in
    moves_on_same sizes m views after states i x li inv (within v x (rw e refl) refl refl refl)
    (record { index = omega arith; stored = refl }) refl (rw e (omega arith)) moved
announcement_step sizes m views after states i second process word li inv e false moved =
    let v = views i in
    let loaded = record v.loaded { announcements = set v.loaded.announcements process word } in
    let draft = after_announcement sizes.processes v.loaded process word 0 v.draft in
    let x = record v { loaded = loaded; next = Try second (after_heard sizes process); draft = draft } in
    moves_on_same sizes m views after states i x li inv (within v x (rw e refl) refl refl refl) (heard_none sizes second process) refl
    (rw e (heard_loads (record_words sizes) sizes process)) moved

-- the slot of a taken batch is loaded
pub popped_step : (sizes : Sizes) (m : Words) (views after : Views) (states : States) (i : ℕ) (second : Bool) (process word : ℕ)
    → i < sizes.processes → RecordsHold sizes m views states → (views i).next ≡ Try second (LoadPoppedSlot process)
    → Moved i (popped_loaded sizes second process word (views i)) views after → RecordsHold sizes m after states
popped_step sizes m views after states i second process word li inv e moved =
    let v = views i in
    let x = popped_loaded sizes second process word v in
    moves_on_same sizes m views after states i x li inv (within v x (rw e refl) refl refl refl) (heard_none sizes second process) refl
    (rw e (heard_loads (record_words sizes) sizes process)) moved
