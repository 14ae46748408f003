-- every step of every process keeps the parts of helping, and so do beginnings
use Rattle.std.proofs.Common.{◌≡◌, ℕ, ◌+◌, ◌-◌, ◌<◌, ◌≤◌, ◌==◌, Bool, true, false, refl, arith}
use Rattle.std.specs.Prelude.{nat_lt}
use Rattle.word_layout.specs.Sizes.{Sizes}
use Rattle.word_layout.specs.Packing.{tag_of, FitsWish}
use Rattle.word_layout.specs.declared.name.WordName.TheVariants.{State, Announcement, RecordWord, Slot}
use Rattle.transfer_machine.specs.Loads.{loaded_tag, loaded_record, loaded_base}
use Rattle.transfer_machine.specs.Tries.{pops_slot, after_announcement}
use Rattle.transfer_machine.specs.Machine.{action_at, try_action, met_at, met_in_try, begun, own_announcement}
use Rattle.transfer_machine.specs.Machine.{after_slot, after_heard}
use Rattle.transfer_machine.specs.Words.{name_of}
use Rattle.transfer_machine.specs.declared.stage.NextStep.{NextStep}
use Rattle.transfer_machine.specs.declared.stage.NextStep.TheVariants.{Rest, Announce, Try, LoadFinalState, LoadReply}
use Rattle.transfer_machine.specs.declared.stage.TryStep.{TryStep}
use Rattle.transfer_machine.specs.declared.stage.TryStep.TheVariants.{LoadState, LoadRecordWord, LoadCoveredSlot, ExchangeSlot}
use Rattle.transfer_machine.specs.declared.stage.TryStep.TheVariants.{LoadAnnouncement, LoadPoppedSlot, StoreRecordWord, ExchangeState}
use Rattle.transfer_invariant.specs.Memory.{Words, Views, States, Acted, Moved, word_tag}
use Rattle.transfer_invariant.specs.Drafts.{RepliesDrafted}
use Rattle.transfer_invariant.specs.Progress.{in_try}
use Rattle.transfer_invariant.specs.Installing.{states_after_try_step, states_after_at}
use Rattle.transfer_invariant.specs.Invariant.{RecordsHold, Invariant}
use Rattle.transfer_invariant.specs.Laws.{WritesFit}
use Rattle.transfer_invariant.proofs.Stable.{stay_tags}
use Rattle.transfer_invariant.proofs.Acts.{announces, exchanges_slot}
use Rattle.transfer_invariant.proofs.Counts.{slot_follows, heard_follows}
use Rattle.helping_invariant.specs.Holds.{HelpingHolds}
use Rattle.helping_invariant.specs.Laws.{StepsKeepHelping, BeginningsKeepHelping}
use Rattle.helping_invariant.proofs.Changes.{AnnouncementStored}
use Rattle.helping_invariant.proofs.Stored.{misses_announcements, stores_announcement}
use Rattle.helping_invariant.proofs.Moves.{stay, view_idle}
use Rattle.helping_invariant.proofs.Turns.{view_same, view_loads_state, view_loads_final}
use Rattle.helping_invariant.proofs.Makes.{view_announces}
use Rattle.helping_invariant.proofs.LoadSteps.{past, loads, going, slot_deaf, heard_more}
use Rattle.helping_invariant.proofs.LoadSteps.{word_step, announcement_step}
use Rattle.helping_invariant.proofs.WriteSteps.{store_step, exchange_step}

-- the step at each stage of a try
try_step_helps : (sizes : Sizes) (m n : Words) (views after : Views) (states : States) (i : ℕ) (second : Bool) (step : TryStep)
    → sizes.processes ≤ 32 → i < sizes.processes → RecordsHold sizes m views states → HelpingHolds sizes m views states
    → WritesFit sizes m (views i) → RepliesDrafted sizes.processes (views i)
    → (in_try (views i).next ≡ true → (views i).installed ≤ (views i).first_loaded) → (views i).next ≡ Try second step
    → Acted sizes (try_action sizes (views i) step) m n
    → Moved i (met_in_try sizes (views i) (m (name_of (try_action sizes (views i) step))) second step) views after
    → HelpingHolds sizes n after (states_after_try_step m (views i) states step)
unfolding word_tag
try_step_helps sizes m n views after states i second LoadState few li inv h w drafts none e a moved =
    loads sizes State m n after states a
    (view_loads_state sizes m views after states i second li h (past sizes m views states inv) e moved)
try_step_helps sizes m n views after states i second (LoadRecordWord index) few li inv h w drafts none e a moved =
    let name = RecordWord (loaded_record (views i).loaded) index in
    let later = nat_lt (loaded_tag (views i).loaded) (tag_of (m name)) in
    loads sizes name m n after states a (word_step sizes m views after states i second index (m name) li inv h none e refl later refl
    moved)
try_step_helps sizes m n views after states i second (LoadCoveredSlot offset) few li inv h w drafts none e a moved =
    let v = views i in
    let name = Slot (loaded_base v.loaded + offset) in
    let x = met_in_try sizes v (m name) second (LoadCoveredSlot offset) in
    let older = nat_lt (tag_of (m name)) (loaded_tag v.loaded) in
    let follows = slot_follows older v.loaded offset in
    let stays = going second (LoadCoveredSlot offset) _ v x e refl refl follows refl refl refl refl refl refl in
    let deaf = slot_deaf sizes.processes older v.loaded offset in
    loads sizes name m n after states a
    (view_same sizes m views after states i x li h (past sizes m views states inv) moved stays (rw deaf (omega arith)) refl)
try_step_helps sizes m n views after states i second (ExchangeSlot offset) few li inv h w drafts none e a moved =
    let v = views i in
    let x = met_in_try sizes v 0 second (ExchangeSlot offset) in
    let follows = slot_follows false v.loaded offset in
    let stays = going second (ExchangeSlot offset) (after_slot v.loaded offset) v x e refl refl follows refl refl refl refl refl refl in
    let deaf = slot_deaf sizes.processes false v.loaded offset in
    stay sizes m n after states
    (view_same sizes m views after states i x li h (past sizes m views states inv) moved stays (rw deaf (omega arith)) refl)
    (exchanges_slot sizes _ _ _ m n a) (misses_announcements sizes (try_action sizes v (ExchangeSlot offset)) m n a (λ o d. cc))
try_step_helps sizes m n views after states i second (LoadAnnouncement process) few li inv h w drafts none e a moved =
    let v = views i in
    let word = m (Announcement process) in
    let pops = pops_slot sizes.processes v.loaded process word v.draft in
    let draft = after_announcement sizes.processes v.loaded process word 0 v.draft in
    loads sizes (Announcement process) m n after states a
    (announcement_step sizes m views after states i second process draft few li h (past sizes m views states inv) e pops moved)
try_step_helps sizes m n views after states i second (LoadPoppedSlot process) few li inv h w drafts none e a moved =
    let v = views i in
    let name = Slot (v.draft.base - 1) in
    let x = met_in_try sizes v (m name) second (LoadPoppedSlot process) in
    let follows = heard_follows sizes process in
    let stays = going second (LoadPoppedSlot process) (after_heard sizes process) v x e refl refl follows refl refl refl refl refl refl in
    loads sizes name m n after states a
    (view_same sizes m views after states i x li h (past sizes m views states inv) moved stays (rw e (heard_more sizes process)) refl)
try_step_helps sizes m n views after states i second (StoreRecordWord index) few li inv h w drafts none e a moved =
    store_step sizes m n views after states i second index li inv h drafts e (w.store second index e) a moved
try_step_helps sizes m n views after states i second ExchangeState few li inv h w drafts none e a moved =
    exchange_step sizes m n views after states i second (m State == (views i).loaded.state) few li inv h drafts none e refl a moved

-- the step at each stage
step_helps : (sizes : Sizes) (m n : Words) (views after : Views) (states : States) (i : ℕ) (s : NextStep) → sizes.processes ≤ 32
    → i < sizes.processes → Invariant sizes m views states → HelpingHolds sizes m views states → WritesFit sizes m (views i)
    → RepliesDrafted sizes.processes (views i) → ((views i).next ≡ Announce → FitsWish (views i).wish) → (views i).next ≡ s
    → Acted sizes (action_at sizes (views i) s) m n
    → Moved i (met_at sizes (views i) (m (name_of (action_at sizes (views i) s))) s) views after
    → HelpingHolds sizes n after (states_after_at m (views i) states s)
step_helps sizes m n views after states i Rest few li inv h w drafts wish e a moved =
    let idle = (h.announced i li).idle (rw e refl) in
    loads sizes State m n after states a
    (view_idle sizes m views after states i (views i) li h moved idle (rw e refl) (rw e refl) refl refl refl)
step_helps sizes m n views after states i Announce few li inv h w drafts wish e a moved =
    let v = views i in
    let s = announces sizes v.number (own_announcement v) m n a in
    let made = stores_announcement sizes v.number (own_announcement v) m n a in
    let stored : AnnouncementStored sizes m n i (own_announcement v) = rw (h.announced i li).number at made in
    view_announces sizes m n views after states i li h (past sizes m views states inv.records)
    (stay_tags sizes m n inv.records.tags_below s) e (wish e) s stored moved
step_helps sizes m n views after states i (Try second step) few li inv h w drafts wish e a moved =
    try_step_helps sizes m n views after states i second step few li inv.records h w drafts (inv.tags.order i li).try_none e a moved
step_helps sizes m n views after states i LoadFinalState few li inv h w drafts wish e a moved =
    loads sizes State m n after states a
    (view_loads_final sizes m views after states i li h (past sizes m views states inv.records) e moved)
step_helps sizes m n views after states i LoadReply few li inv h w drafts wish e a moved =
    let v = views i in
    let name = RecordWord (loaded_record v.loaded) (sizes.processes + 2 + v.number) in
    let applied = (h.tries i li).ended (rw e refl) in
    loads sizes name m n after states a
    (view_idle sizes m views after states i (met_at sizes v (m name) LoadReply) li h moved applied refl refl refl refl refl)

-- a step of a process keeps the parts of helping, whatever its stage
pub steps_keep_helping : StepsKeepHelping
steps_keep_helping sizes words new views after states i shape li inv h fits drafts wish acted moved =
    step_helps sizes words new views after states i (views i).next shape.few_processes li inv h fits drafts wish refl acted moved

-- a beginning
pub beginnings_keep_helping : BeginningsKeepHelping
beginnings_keep_helping sizes words views after states i wish li h rest moved =
    let applied = (h.announced i li).idle (rw rest refl) in
    view_idle sizes words views after states i (begun wish (views i)) li h moved applied refl refl refl refl refl
