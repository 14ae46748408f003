-- every step of every process keeps what holds of the state and the records
use Rattle.std.proofs.Common.{◌≡◌, ℕ, ◌+◌, ◌-◌, ◌<◌, ◌≤◌, ◌==◌, Bool, true, false, refl, sym, ap, arith}
use Rattle.std.specs.Prelude.{if◌then◌else◌, nat_lt}
use Rattle.std.proofs.lemmas.Bool.Decides.{nat_tests}
use Rattle.word_layout.specs.Sizes.{Sizes}
use Rattle.word_layout.specs.Packing.{tag_of, value_limit}
use Rattle.word_layout.specs.declared.name.WordName.TheVariants.{State, Announcement, RecordWord, Slot}
use Rattle.transfer_machine.specs.Loads.{loaded_tag, loaded_record, loaded_base}
use Rattle.transfer_machine.specs.Tries.{drafted_value, pops_slot}
use Rattle.transfer_machine.specs.Machine.{action_at, try_action, met_at, met_in_try, own_announcement, next_state, try_ended, installed}
use Rattle.transfer_machine.specs.Words.{name_of}
use Rattle.transfer_machine.specs.declared.transfer.TransferView.{TransferView}
use Rattle.transfer_machine.specs.declared.action.Action.TheVariants.{Load, Exchange}
use Rattle.transfer_machine.specs.declared.stage.NextStep.{NextStep}
use Rattle.transfer_machine.specs.declared.stage.NextStep.TheVariants.{Rest, Announce, Try, LoadFinalState, LoadReply}
use Rattle.transfer_machine.specs.declared.stage.TryStep.{TryStep}
use Rattle.transfer_machine.specs.declared.stage.TryStep.TheVariants.{LoadState, LoadRecordWord, LoadCoveredSlot, ExchangeSlot}
use Rattle.transfer_machine.specs.declared.stage.TryStep.TheVariants.{LoadAnnouncement, LoadPoppedSlot, StoreRecordWord, ExchangeState}
use Rattle.transfer_invariant.specs.Memory.{Words, Views, States, Acted, Moved, state_tag, word_tag, word_value}
use Rattle.transfer_invariant.specs.Records.{OwnRecord}
use Rattle.transfer_invariant.specs.Drafts.{OverlayFits}
use Rattle.transfer_invariant.specs.Installing.{states_with_drafted, states_after_try_step, states_after_at}
use Rattle.transfer_invariant.specs.Invariant.{RecordsHold}
use Rattle.transfer_invariant.specs.Laws.{DraftFits, WritesFit}
use Rattle.transfer_invariant.proofs.Stable.{next_low}
use Rattle.transfer_invariant.proofs.Own.{StoresNone}
use Rattle.transfer_invariant.proofs.Steps.{stay, loads_state, try_ends}
use Rattle.transfer_invariant.proofs.Stages.{leaves, record_step, slot_step, exchange_step, announcement_step, popped_step}
use Rattle.transfer_invariant.proofs.Writes.{store_step, install_step}
use Rattle.transfer_invariant.proofs.Acts.{leaves_records, announces, exchanges_slot, stores_word, exchanges_state, keeps_state}

-- the next record fits the value of a word
pub row_fits : (sizes : Sizes) (m : Words) (i : ℕ) (v : TransferView) → sizes.processes ≤ 32 → i < sizes.processes → OwnRecord sizes m i v
    → v.next_record < value_limit
row_fits sizes m i v few li own = let low = next_low sizes.processes i v.next_record li own.next in omega arith

-- an exchange of the state, made or not
pub same_words : (a b : ℕ) → (a == b) ≡ true → a ≡ b
same_words a b h = grind (arith, nat_tests)

exchange_kept : (sizes : Sizes) (m n : Words) (views after : Views) (states : States) (i : ℕ) (second t : Bool)
    → sizes.processes ≤ 32 → i < sizes.processes → RecordsHold sizes m views states → (views i).next ≡ Try second ExchangeState
    → OverlayFits sizes.processes (views i) → (m State ≡ (views i).loaded.state → DraftFits sizes (views i).draft)
    → (m State == (views i).loaded.state) ≡ t
    → Acted sizes (Exchange State (views i).loaded.state (next_state (views i))) m n
    → Moved i (if t then installed (views i) else try_ended second (views i)) views after
    → RecordsHold sizes n after (if t then states_with_drafted m (views i) states else states)
unfolding state_tag
exchange_kept sizes m n views after states i second true few li inv e draft fits test a moved =
    let v = views i in
    let same : m State ≡ v.loaded.state = same_words (m State) v.loaded.state test in
    let now : loaded_tag v.loaded ≡ state_tag m = sym (ap tag_of same) in
    let row = row_fits sizes m i v few li (inv.own i li) in
    let there = exchanges_state sizes v.loaded.state (loaded_tag v.loaded + 1) v.next_record m n row test a in
    install_step sizes m n views after states i second li inv e now (rw e at draft) (fits same) there moved
exchange_kept sizes m n views after states i second false few li inv e draft fits test a moved =
    stay sizes m n after states (try_ends sizes m views after states i second li inv (rw e refl) moved)
    (keeps_state sizes (views i).loaded.state (next_state (views i)) m n test a)

-- the step at each stage of a try
try_step_kept : (sizes : Sizes) (m n : Words) (views after : Views) (states : States) (i : ℕ) (second : Bool) (step : TryStep)
    → sizes.processes ≤ 32 → i < sizes.processes → RecordsHold sizes m views states → OverlayFits sizes.processes (views i)
    → WritesFit sizes m (views i) → (views i).next ≡ Try second step → Acted sizes (try_action sizes (views i) step) m n
    → Moved i (met_in_try sizes (views i) (m (name_of (try_action sizes (views i) step))) second step) views after
    → RecordsHold sizes n after (states_after_try_step m (views i) states step)
unfolding word_tag word_value
try_step_kept sizes m n views after states i second LoadState few li inv draft w e a moved =
    let x = met_in_try sizes (views i) (m State) second LoadState in
    stay sizes m n after states (loads_state sizes m views after states i x li inv refl refl refl refl refl refl refl moved)
    (leaves_records sizes (Load State) m n a refl)
try_step_kept sizes m n views after states i second (LoadRecordWord index) few li inv draft w e a moved =
    let name = RecordWord (loaded_record (views i).loaded) index in
    let later = nat_lt (loaded_tag (views i).loaded) (tag_of (m name)) in
    stay sizes m n after states (record_step sizes m views after states i second index (m name) few li inv e refl refl later refl moved)
    (leaves_records sizes (Load name) m n a refl)
try_step_kept sizes m n views after states i second (LoadCoveredSlot offset) few li inv draft w e a moved =
    let name = Slot (loaded_base (views i).loaded + offset) in
    let older = nat_lt (tag_of (m name)) (loaded_tag (views i).loaded) in
    stay sizes m n after states (slot_step sizes m views after states i second offset (m name) li inv e older moved)
    (leaves_records sizes (Load name) m n a refl)
try_step_kept sizes m n views after states i second (ExchangeSlot offset) few li inv draft w e a moved =
    stay sizes m n after states (exchange_step sizes m views after states i second offset li inv e moved)
    (exchanges_slot sizes _ _ _ m n a)
try_step_kept sizes m n views after states i second (LoadAnnouncement process) few li inv draft w e a moved =
    let word = m (Announcement process) in
    let pops = pops_slot sizes.processes (views i).loaded process word (views i).draft in
    stay sizes m n after states (announcement_step sizes m views after states i second process word li inv e pops moved)
    (leaves_records sizes (Load (Announcement process)) m n a refl)
try_step_kept sizes m n views after states i second (LoadPoppedSlot process) few li inv draft w e a moved =
    let name = Slot ((views i).draft.base - 1) in
    stay sizes m n after states (popped_step sizes m views after states i second process (m name) li inv e moved)
    (leaves_records sizes (Load name) m n a refl)
try_step_kept sizes m n views after states i second (StoreRecordWord index) few li inv draft w e a moved =
    let v = views i in
    let value = drafted_value sizes.processes v.draft index in
    store_step sizes m n views after states i second index li inv e
    (stores_word sizes v.next_record index (loaded_tag v.loaded + 1) value m n (w.store second index e) a) moved
try_step_kept sizes m n views after states i second ExchangeState few li inv draft w e a moved =
    let same = m State == (views i).loaded.state in
    exchange_kept sizes m n views after states i second same few li inv e draft (w.install second e) refl a moved

-- the step at each stage
pub step_kept : (sizes : Sizes) (m n : Words) (views after : Views) (states : States) (i : ℕ) (s : NextStep)
    → sizes.processes ≤ 32 → i < sizes.processes → RecordsHold sizes m views states → OverlayFits sizes.processes (views i)
    → WritesFit sizes m (views i) → (views i).next ≡ s → Acted sizes (action_at sizes (views i) s) m n
    → Moved i (met_at sizes (views i) (m (name_of (action_at sizes (views i) s))) s) views after
    → RecordsHold sizes n after (states_after_at m (views i) states s)
step_kept sizes m n views after states i Rest few li inv draft w e a moved =
    let none : StoresNone sizes (views i).next = rw e (record { index = omega arith; stored = refl }) in
    let left = leaves sizes m views after states i (views i) li inv (rw e refl) (rw e refl) none (rw e refl) refl refl refl moved in
    stay sizes m n after states left (leaves_records sizes (Load State) m n a refl)
step_kept sizes m n views after states i Announce few li inv draft w e a moved =
    let x = met_at sizes (views i) 0 Announce in
    let none : StoresNone sizes x.next = record { index = omega arith; stored = refl } in
    let left = leaves sizes m views after states i x li inv refl refl none refl refl refl refl moved in
    stay sizes m n after states left (announces sizes (views i).number (own_announcement (views i)) m n a)
step_kept sizes m n views after states i (Try second step) few li inv draft w e a moved =
    try_step_kept sizes m n views after states i second step few li inv draft w e a moved
step_kept sizes m n views after states i LoadFinalState few li inv draft w e a moved =
    let x = met_at sizes (views i) (m State) LoadFinalState in
    stay sizes m n after states (loads_state sizes m views after states i x li inv refl refl refl refl refl refl refl moved)
    (leaves_records sizes (Load State) m n a refl)
step_kept sizes m n views after states i LoadReply few li inv draft w e a moved =
    let name = RecordWord (loaded_record (views i).loaded) (sizes.processes + 2 + (views i).number) in
    let x = met_at sizes (views i) (m name) LoadReply in
    let none : StoresNone sizes x.next = record { index = omega arith; stored = refl } in
    let left = leaves sizes m views after states i x li inv refl refl none refl refl refl refl moved in
    stay sizes m n after states left (leaves_records sizes (Load name) m n a refl)
