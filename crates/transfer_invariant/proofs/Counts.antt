-- every step of every process keeps the count of the states
use Rattle.std.proofs.Common.{◌≡◌, ℕ, ◌+◌, ◌-◌, ◌<◌, ◌≤◌, ◌==◌, Bool, true, false, refl, sym, ap, arith, set}
use Rattle.std.specs.Prelude.{if◌then◌else◌, nat_lt}
use Rattle.std.proofs.lemmas.Bool.Decides.{nat_tests}
use Rattle.word_layout.specs.Sizes.{Sizes}
use Rattle.word_layout.specs.Packing.{tag_of}
use Rattle.word_layout.specs.Names.{record_words}
use Rattle.word_layout.specs.declared.name.WordName.TheVariants.{State, Announcement, RecordWord, Slot}
use Rattle.transfer_machine.specs.Loads.{loaded_tag, loaded_record, loaded_base}
use Rattle.transfer_machine.specs.Tries.{drafted_value, pops_slot}
use Rattle.transfer_machine.specs.Machine.{action_at, try_action, met_at, met_in_try, own_announcement, next_state, try_ended}
use Rattle.transfer_machine.specs.Machine.{installed, after_slot, after_record, after_heard, after_stored, record_word_loaded}
use Rattle.transfer_machine.specs.Machine.{announcement_loaded, popped_loaded, state_loaded, slot_loaded}
use Rattle.transfer_machine.specs.Words.{name_of}
use Rattle.transfer_machine.specs.declared.loaded.Loaded.{Loaded}
use Rattle.transfer_machine.specs.declared.transfer.TransferView.{TransferView}
use Rattle.transfer_machine.specs.declared.action.Action.TheVariants.{Load, Exchange}
use Rattle.transfer_machine.specs.declared.stage.NextStep.{NextStep}
use Rattle.transfer_machine.specs.declared.stage.NextStep.TheVariants.{Rest, Announce, Try, LoadFinalState, LoadReply}
use Rattle.transfer_machine.specs.declared.stage.TryStep.{TryStep}
use Rattle.transfer_machine.specs.declared.stage.TryStep.TheVariants.{LoadState, LoadRecordWord, LoadCoveredSlot, ExchangeSlot}
use Rattle.transfer_machine.specs.declared.stage.TryStep.TheVariants.{LoadAnnouncement, LoadPoppedSlot, StoreRecordWord, ExchangeState}
use Rattle.transfer_invariant.specs.Memory.{Words, Views, States, Acted, Moved, state_tag}
use Rattle.transfer_invariant.specs.Progress.{in_try, has_loaded_state, has_announced}
use Rattle.transfer_invariant.specs.Records.{OwnRecord}
use Rattle.transfer_invariant.specs.Invariant.{RecordsHold}
use Rattle.transfer_invariant.specs.Tags.{InstallOrder, TagsHold, installs}
use Rattle.transfer_invariant.specs.Laws.{WritesFit}
use Rattle.transfer_invariant.proofs.Keeps.{row_fits, same_words}
use Rattle.transfer_invariant.proofs.Acts.{leaves_records, announces, exchanges_slot, stores_word, exchanges_state, keeps_state}
use Rattle.transfer_invariant.proofs.Installs.{tags_move, order_stays, GoesOnTrying, trying_order, trying_installs, ended_order}
use Rattle.transfer_invariant.proofs.Installs.{ended_installs, announced_order, announced_installs, loaded_order, loaded_installs}
use Rattle.transfer_invariant.proofs.Installs.{installed_order, installed_installs, final_order, final_installs, idle_order, idle_installs}

-- a step that installs no state
pub tags_stay : (sizes : Sizes) (m n : Words) (views after : Views) (i : ℕ) (x : TransferView) → i < sizes.processes
    → TagsHold sizes m views → Moved i x views after → state_tag n ≡ state_tag m → installs (views i) ≤ installs x → InstallOrder m x
    → TagsHold sizes n after
tags_stay sizes m n views after i x li h moved e le order =
    tags_move sizes m n views after i x li h moved (omega arith) (omega arith) (order_stays m n x order (omega arith))

trying_tags : (sizes : Sizes) (m n : Words) (views after : Views) (i : ℕ) (x : TransferView) → i < sizes.processes
    → TagsHold sizes m views → Moved i x views after → state_tag n ≡ state_tag m → GoesOnTrying (views i) x → TagsHold sizes n after
trying_tags sizes m n views after i x li h moved e g =
    let same = trying_installs (views i) x g in
    tags_stay sizes m n views after i x li h moved e (omega arith) (trying_order m (views i) x (h.order i li) g)

ended_tags : (sizes : Sizes) (m n : Words) (views after : Views) (i : ℕ) (second : Bool) → i < sizes.processes
    → TagsHold sizes m views → Moved i (try_ended second (views i)) views after → state_tag n ≡ state_tag m
    → in_try (views i).next ≡ true → TagsHold sizes n after
ended_tags sizes m n views after i second li h moved e trying =
    let same = ended_installs m second (views i) (h.order i li) trying in
    let order = ended_order m second (views i) (h.order i li) trying in
    tags_stay sizes m n views after i (try_ended second (views i)) li h moved e (omega arith) order

-- a step after which its process has no announced transfer, its age as before, keeps the count of the states
pub idle_tags : (sizes : Sizes) (m n : Words) (views after : Views) (i : ℕ) (x : TransferView) → i < sizes.processes
    → TagsHold sizes m views → Moved i x views after → state_tag n ≡ state_tag m → has_announced x.next ≡ false → x.age ≡ (views i).age
    → TagsHold sizes n after
idle_tags sizes m n views after i x li h moved e none age =
    tags_stay sizes m n views after i x li h moved e (idle_installs (views i) x none age) (idle_order m x none)

-- what follows in a try is in the try
pub record_follows : (loaded : Loaded) → has_loaded_state (after_record loaded) ≡ true
record_follows loaded = grind (arith, nat_tests)

slot_tries : (loaded : Loaded) (offset : ℕ) → has_loaded_state (after_slot loaded offset) ≡ true
slot_tries loaded offset = grind (arith, nat_tests)

-- what follows an announcement has loaded the state
pub heard_follows : (sizes : Sizes) (process : ℕ) → has_loaded_state (after_heard sizes process) ≡ true
heard_follows sizes process = grind (arith, nat_tests)

-- so has what follows the load of a covered slot: its exchange, or the next step
pub slot_follows : (t : Bool) (loaded : Loaded) (offset : ℕ)
    → has_loaded_state (if t then ExchangeSlot offset else after_slot loaded offset) ≡ true
slot_follows t loaded offset = grind (arith, nat_tests)

-- so has what follows a stored record word
pub stored_follows : (sizes : Sizes) (index : ℕ) → has_loaded_state (after_stored sizes index) ≡ true
stored_follows sizes index = grind (arith, nat_tests)

-- either of two views goes on
either_trying : (t : Bool) (v a b : TransferView) → GoesOnTrying v a → GoesOnTrying v b → GoesOnTrying v (if t then a else b)
either_trying true v a b g k = g
either_trying false v a b g k = k

trying : (v x : TransferView) → in_try v.next ≡ true → in_try x.next ≡ true → x.age ≡ v.age → x.installed ≡ v.installed
    → x.first_loaded ≡ v.first_loaded → x.loaded.state ≡ v.loaded.state → GoesOnTrying v x
trying v x was now ea ei ef es = record { was = was; trying = now; age = ea; installed = ei; first = ef; loaded = ap tag_of es }

-- a record word is loaded
record_tags : (sizes : Sizes) (m n : Words) (views after : Views) (i : ℕ) (second : Bool) (index : ℕ) (loaded : Loaded) (t : Bool)
    → i < sizes.processes → TagsHold sizes m views → state_tag n ≡ state_tag m → (views i).next ≡ Try second (LoadRecordWord index)
    → loaded.state ≡ (views i).loaded.state
    → Moved i (if t then try_ended second (views i) else record_word_loaded sizes second index loaded (views i)) views after
    → TagsHold sizes n after
record_tags sizes m n views after i second index loaded true li h same e es moved =
    ended_tags sizes m n views after i second li h moved same (rw e refl)
record_tags sizes m n views after i second index loaded false li h same e es moved =
    trying_tags sizes m n views after i (record_word_loaded sizes second index loaded (views i)) li h moved same
    (either_trying (index + 1 == record_words sizes) (views i) _ _
    (trying (views i) _ (rw e refl) (record_follows loaded) refl refl refl es)
    (trying (views i) _ (rw e refl) refl refl refl refl es))

-- the state is loaded, at the beginning of a try
loaded_tags : (sizes : Sizes) (m n : Words) (views after : Views) (i : ℕ) (second : Bool) → i < sizes.processes
    → OwnRecord sizes m i (views i) → TagsHold sizes m views → state_tag n ≡ state_tag m → (views i).next ≡ Try second LoadState
    → Moved i (state_loaded second (m State) (views i)) views after → TagsHold sizes n after
unfolding state_tag
loaded_tags sizes m n views after i second li own h same e moved =
    let v = views i in
    let x = state_loaded second (m State) v in
    let order = h.order i li in
    let more = loaded_installs m second v x order e own.installed refl refl refl refl in
    tags_stay sizes m n views after i x li h moved same (omega arith)
    (loaded_order m second v x order e own.installed refl refl refl refl refl)

-- the state is exchanged, or not
installed_now : (m : Words) (v : TransferView) → (m State == v.loaded.state) ≡ true → loaded_tag v.loaded ≡ state_tag m
unfolding state_tag
installed_now m v h = sym (ap tag_of (same_words (m State) v.loaded.state h))

exchange_tags : (sizes : Sizes) (m n : Words) (views after : Views) (i : ℕ) (second t : Bool)
    → sizes.processes ≤ 32 → i < sizes.processes → OwnRecord sizes m i (views i) → loaded_tag (views i).loaded ≤ state_tag m
    → TagsHold sizes m views → (views i).next ≡ Try second ExchangeState → (m State == (views i).loaded.state) ≡ t
    → Acted sizes (Exchange State (views i).loaded.state (next_state (views i))) m n
    → Moved i (if t then installed (views i) else try_ended second (views i)) views after → TagsHold sizes n after
exchange_tags sizes m n views after i second true few li own past h e test a moved =
    let v = views i in
    let order = h.order i li in
    let row = row_fits sizes m i v few li own in
    let state = (exchanges_state sizes v.loaded.state (loaded_tag v.loaded + 1) v.next_record m n row test a).state in
    let now = installed_now m v test in
    let more = installed_installs m second v order e in
    tags_move sizes m n views after i (installed v) li h moved (omega arith) (omega arith)
    (installed_order m n second v order e (omega arith))
exchange_tags sizes m n views after i second false few li own past h e test a moved =
    let stays = keeps_state sizes (views i).loaded.state (next_state (views i)) m n test a in
    ended_tags sizes m n views after i second li h moved stays.state (rw e refl)

-- the step at each stage of a try
try_tags_kept : (sizes : Sizes) (m n : Words) (views after : Views) (states : States) (i : ℕ) (second : Bool) (step : TryStep)
    → sizes.processes ≤ 32 → i < sizes.processes → RecordsHold sizes m views states → TagsHold sizes m views
    → WritesFit sizes m (views i) → (views i).next ≡ Try second step → Acted sizes (try_action sizes (views i) step) m n
    → Moved i (met_in_try sizes (views i) (m (name_of (try_action sizes (views i) step))) second step) views after
    → TagsHold sizes n after
try_tags_kept sizes m n views after states i second LoadState few li inv h w e a moved =
    let stays = leaves_records sizes (Load State) m n a refl in
    loaded_tags sizes m n views after i second li (inv.own i li) h stays.state e moved
try_tags_kept sizes m n views after states i second (LoadRecordWord index) few li inv h w e a moved =
    let v = views i in
    let name = RecordWord (loaded_record v.loaded) index in
    let stays = leaves_records sizes (Load name) m n a refl in
    let loaded = record v.loaded { record_words = set v.loaded.record_words index (m name) } in
    let later = nat_lt (loaded_tag v.loaded) (tag_of (m name)) in
    record_tags sizes m n views after i second index loaded later li h stays.state e refl moved
try_tags_kept sizes m n views after states i second (LoadCoveredSlot offset) few li inv h w e a moved =
    let v = views i in
    let name = Slot (loaded_base v.loaded + offset) in
    let stays = leaves_records sizes (Load name) m n a refl in
    let follows = slot_follows (nat_lt (tag_of (m name)) (loaded_tag v.loaded)) v.loaded offset in
    trying_tags sizes m n views after i (slot_loaded second offset (m name) v) li h moved stays.state
    (trying v (slot_loaded second offset (m name) v) (rw e refl) follows refl refl refl refl)
try_tags_kept sizes m n views after states i second (ExchangeSlot offset) few li inv h w e a moved =
    let x = met_in_try sizes (views i) 0 second (ExchangeSlot offset) in
    let stays = exchanges_slot sizes _ _ _ m n a in
    trying_tags sizes m n views after i x li h moved stays.state
    (trying (views i) x (rw e refl) (slot_tries (views i).loaded offset) refl refl refl refl)
try_tags_kept sizes m n views after states i second (LoadAnnouncement process) few li inv h w e a moved =
    let v = views i in
    let word = m (Announcement process) in
    let stays = leaves_records sizes (Load (Announcement process)) m n a refl in
    trying_tags sizes m n views after i (announcement_loaded sizes second process word v) li h moved stays.state
    (either_trying (pops_slot sizes.processes v.loaded process word v.draft) v _ _
    (trying v _ (rw e refl) refl refl refl refl refl)
    (trying v _ (rw e refl) (heard_follows sizes process) refl refl refl refl))
try_tags_kept sizes m n views after states i second (LoadPoppedSlot process) few li inv h w e a moved =
    let name = Slot ((views i).draft.base - 1) in
    let x = popped_loaded sizes second process (m name) (views i) in
    let stays = leaves_records sizes (Load name) m n a refl in
    trying_tags sizes m n views after i x li h moved stays.state
    (trying (views i) x (rw e refl) (heard_follows sizes process) refl refl refl refl)
try_tags_kept sizes m n views after states i second (StoreRecordWord index) few li inv h w e a moved =
    let v = views i in
    let x = met_in_try sizes v 0 second (StoreRecordWord index) in
    let value = drafted_value sizes.processes v.draft index in
    let stored = stores_word sizes v.next_record index (loaded_tag v.loaded + 1) value m n (w.store second index e) a in
    trying_tags sizes m n views after i x li h moved stored.state
    (trying v x (rw e refl) (stored_follows sizes index) refl refl refl refl)
try_tags_kept sizes m n views after states i second ExchangeState few li inv h w e a moved =
    let same = m State == (views i).loaded.state in
    let past = (inv.loaded i li).past (rw e refl) in
    exchange_tags sizes m n views after i second same few li (inv.own i li) past h e refl a moved

-- the step at each stage
pub tags_kept : (sizes : Sizes) (m n : Words) (views after : Views) (states : States) (i : ℕ) (s : NextStep)
    → sizes.processes ≤ 32 → i < sizes.processes → RecordsHold sizes m views states → TagsHold sizes m views
    → WritesFit sizes m (views i) → (views i).next ≡ s → Acted sizes (action_at sizes (views i) s) m n
    → Moved i (met_at sizes (views i) (m (name_of (action_at sizes (views i) s))) s) views after → TagsHold sizes n after
tags_kept sizes m n views after states i Rest few li inv h w e a moved =
    let stays = leaves_records sizes (Load State) m n a refl in
    idle_tags sizes m n views after i (views i) li h moved stays.state (rw e refl) refl
tags_kept sizes m n views after states i Announce few li inv h w e a moved =
    let stays = announces sizes (views i).number (own_announcement (views i)) m n a in
    let same = announced_installs (views i) e in
    tags_stay sizes m n views after i (met_at sizes (views i) 0 Announce) li h moved stays.state (omega arith)
    (announced_order m (views i))
tags_kept sizes m n views after states i (Try second step) few li inv h w e a moved =
    try_tags_kept sizes m n views after states i second step few li inv h w e a moved
tags_kept sizes m n views after states i LoadFinalState few li inv h w e a moved =
    let x = met_at sizes (views i) (m State) LoadFinalState in
    let stays = leaves_records sizes (Load State) m n a refl in
    let same = final_installs (views i) x e refl refl refl refl in
    tags_stay sizes m n views after i x li h moved stays.state (omega arith)
    (final_order m (views i) x (h.order i li) e refl refl refl)
tags_kept sizes m n views after states i LoadReply few li inv h w e a moved =
    let name = RecordWord (loaded_record (views i).loaded) (sizes.processes + 2 + (views i).number) in
    let stays = leaves_records sizes (Load name) m n a refl in
    idle_tags sizes m n views after i (met_at sizes (views i) (m name) LoadReply) li h moved stays.state refl refl

-- the opening
pub opened_tags_hold : (sizes : Sizes) (words : Words) (views : Views) → state_tag words ≡ 1
    → ((i : ℕ) → i < sizes.processes → (views i).next ≡ Rest) → TagsHold sizes words views
opened_tags_hold sizes words views e rest = record {
  count = omega arith;
  order = λ i li. idle_order words (views i) (rw (rest i li) refl);
}
