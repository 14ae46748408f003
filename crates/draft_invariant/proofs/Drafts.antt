-- every step of a view keeps its draft in range
use Rattle.std.proofs.Common.{◌≡◌, ℕ, ◌+◌, ◌<◌, ◌≤◌, ◌==◌, Bool, true, false, refl, ◌∙◌, ap, arith}
use Rattle.std.proofs.Common.{get_or, set, get_or-set_same, get_or-set_other, length-set}
use Rattle.std.specs.Prelude.{if◌then◌else◌, nat_lt}
use Rattle.std.proofs.lemmas.Bool.Decides.{nat_tests}
use Rattle.word_layout.specs.Sizes.{Sizes, blocks, most_blocks}
use Rattle.word_layout.specs.Names.{record_words}
use Rattle.word_layout.specs.Packing.{tag_of, value_of}
use Rattle.transfer_machine.specs.Loads.{loaded_tag}
use Rattle.transfer_machine.specs.Tries.{pops_slot, begun_draft}
use Rattle.transfer_machine.specs.Machine.{met_at, met_in_try, try_ended, installed, after_slot}
use Rattle.transfer_machine.specs.Machine.{after_record, after_stored, record_word_loaded}
use Rattle.transfer_machine.specs.declared.loaded.Loaded.{Loaded}
use Rattle.transfer_machine.specs.declared.transfer.TransferView.{TransferView}
use Rattle.transfer_machine.specs.declared.stage.NextStep.{NextStep}
use Rattle.transfer_machine.specs.declared.stage.NextStep.TheVariants.{Rest, Announce, Try, LoadFinalState, LoadReply}
use Rattle.transfer_machine.specs.declared.stage.TryStep.{TryStep}
use Rattle.transfer_machine.specs.declared.stage.TryStep.TheVariants.{LoadState, LoadRecordWord, LoadCoveredSlot, ExchangeSlot}
use Rattle.transfer_machine.specs.declared.stage.TryStep.TheVariants.{LoadAnnouncement, LoadPoppedSlot, StoreRecordWord, ExchangeState}
use Rattle.transfer_invariant.specs.Progress.{has_record, drafted_in_try, heard_process_in_try}
use Rattle.transfer_invariant.specs.Drafts.{OverlayFits}
use Rattle.transfer_invariant.proofs.Loaded.{ended_has_none}
use Rattle.draft_invariant.specs.Holding.{ViewDrafts}
use Rattle.draft_invariant.proofs.Lists.{set_each, either}
use Rattle.draft_invariant.proofs.Wishes.{LoadedFits}
use Rattle.draft_invariant.proofs.Views.{below_apart, leaves, begins, goes_on, waits, applies}

-- what a view and the word that its step meets are to be like
pub record Meets (sizes : Sizes) (v : TransferView) (word : ℕ) : Type 0 where
  pub some : 0 < sizes.processes
  pub few : sizes.processes ≤ 32
  pub block : 0 < blocks sizes
  pub few_blocks : blocks sizes ≤ most_blocks
  pub fits : has_record v.next ≡ true → LoadedFits sizes v.loaded
  pub overlay : OverlayFits sizes.processes v
  pub heard : (second : Bool) (process : ℕ) → v.next ≡ Try second (LoadAnnouncement process) → value_of word ≤ blocks sizes
  pub popped : (second : Bool) (process : ℕ) → v.next ≡ Try second (LoadPoppedSlot process) → value_of word < blocks sizes

-- what follows
pub record_drafted : (processes : ℕ) (loaded : Loaded) → drafted_in_try processes (after_record loaded) ≡ 0
record_drafted processes loaded = grind (arith, nat_tests)

-- after a whole record a try hears process 0 first
pub record_process : (loaded : Loaded) → heard_process_in_try (after_record loaded) ≡ 0
record_process loaded = grind (arith, nat_tests)

-- after a covered slot the draft has met no announcement
pub slot_drafted : (processes : ℕ) (loaded : Loaded) (offset : ℕ) → drafted_in_try processes (after_slot loaded offset) ≡ 0
slot_drafted processes loaded offset = grind (arith, nat_tests)

-- and the announcement that comes next is that of process 0
pub slot_process : (loaded : Loaded) (offset : ℕ) → heard_process_in_try (after_slot loaded offset) ≡ 0
slot_process loaded offset = grind (arith, nat_tests)

-- once a covered slot is loaded the draft has met no announcement either
pub exchange_drafted : (processes : ℕ) (t : Bool) (loaded : Loaded) (offset : ℕ)
    → drafted_in_try processes (if t then ExchangeSlot offset else after_slot loaded offset) ≡ 0
exchange_drafted processes t loaded offset = grind (arith, nat_tests)

-- and there too process 0 is heard first
pub exchange_process : (t : Bool) (loaded : Loaded) (offset : ℕ)
    → heard_process_in_try (if t then ExchangeSlot offset else after_slot loaded offset) ≡ 0
exchange_process t loaded offset = grind (arith, nat_tests)

-- while the record is stored the draft has met the announcements of all processes
pub stored_drafted : (sizes : Sizes) (index : ℕ) → drafted_in_try sizes.processes (after_stored sizes index) ≡ sizes.processes
stored_drafted sizes index = grind (arith, nat_tests)

-- and no announcement is loaded there
pub stored_process : (sizes : Sizes) (index : ℕ) → heard_process_in_try (after_stored sizes index) ≡ 0
stored_process sizes index = grind (arith, nat_tests)

-- a view that leaves the try
leaves_try : (sizes : Sizes) (v x : TransferView) → 0 < sizes.processes → ViewDrafts sizes v → x.draft ≡ v.draft
    → x.loaded.record_words ≡ v.loaded.record_words
    → x.loaded.announcements ≡ v.loaded.announcements → x.loaded.popped ≡ v.loaded.popped → has_record x.next ≡ false → ViewDrafts sizes x
leaves_try sizes v x some h e r a p none =
    leaves sizes v x some h (record {
      record_words = rw r h.room.record_words;
      announcements = a;
      popped = p;
      heads = ap (λ draft. draft.heads) e;
      replies = ap (λ draft. draft.replies) e;
    }) none

-- a record word is loaded
record_word_drafts : (sizes : Sizes) (v : TransferView) (second : Bool) (index word : ℕ) → 0 < sizes.processes → ViewDrafts sizes v
    → ViewDrafts sizes (record_word_loaded sizes second index (record v.loaded { record_words = set v.loaded.record_words index word }) v)
record_word_drafts sizes v second index word some h =
    let loaded : Loaded = record v.loaded { record_words = set v.loaded.record_words index word } in
    let last : TransferView = record v { loaded = loaded; next = Try second (after_record loaded); draft = begun_draft loaded v.draft } in
    let more : TransferView = record v { loaded = loaded; next = Try second (LoadRecordWord (index + 1)) } in
    let room = length-set v.loaded.record_words index word ∙ h.room.record_words in
    either TransferView (ViewDrafts sizes) (index + 1 == record_words sizes) last more
    (begins sizes v last some h (record { record_words = room; announcements = refl; popped = refl; heads = refl; replies = refl })
    (record_drafted sizes.processes loaded) (record_process loaded) refl)
    (leaves sizes v more some h (record { record_words = room; announcements = refl; popped = refl; heads = refl; replies = refl }) refl)

-- a try ends
ended_drafts : (sizes : Sizes) (v : TransferView) (second : Bool) → 0 < sizes.processes → ViewDrafts sizes v
    → ViewDrafts sizes (try_ended second v)
ended_drafts sizes v second some h = leaves_try sizes v (try_ended second v) some h refl refl refl refl (ended_has_none second)

-- an announcement is loaded
heard_drafts : (sizes : Sizes) (v : TransferView) (second : Bool) (process word : ℕ) → v.next ≡ Try second (LoadAnnouncement process)
    → Meets sizes v word → ViewDrafts sizes v → ViewDrafts sizes (met_in_try sizes v word second (LoadAnnouncement process))
heard_drafts sizes v second process word e m h =
    let among : process < sizes.processes = rw e at h.among in
    let few = m.few in
    let over : v.draft.overlay ≤ process = rw e at m.overlay in
    let loaded : Loaded = record v.loaded { announcements = set v.loaded.announcements process word } in
    let value = m.heard second process e in
    let room = length-set v.loaded.announcements process word ∙ h.room.announcements in
    let blocks_heard =
    set_each (λ y. value_of y ≤ blocks sizes) v.loaded.announcements process word (omega (arith, h.room.announcements)) value
    h.heads.announcements in
    either TransferView (ViewDrafts sizes) (pops_slot sizes.processes v.loaded process word v.draft) _ _
    (waits sizes v second process word few h e value)
    (applies sizes v second loaded process word 0 few m.few_blocks h (rw e refl) (rw e refl) among over
    (m.fits (rw e refl)) m.block value refl room
    h.room.popped blocks_heard h.heads.popped
    (λ o lt. get_or-set_other v.loaded.announcements process o word 0 (below_apart o process lt))
    (get_or-set_same v.loaded.announcements process word 0 (omega (arith, h.room.announcements))))

-- the slot of a taken batch is loaded
popped_drafts : (sizes : Sizes) (v : TransferView) (second : Bool) (process word : ℕ) → v.next ≡ Try second (LoadPoppedSlot process)
    → Meets sizes v word → ViewDrafts sizes v → ViewDrafts sizes (met_in_try sizes v word second (LoadPoppedSlot process))
popped_drafts sizes v second process word e m h =
    let among : process < sizes.processes = rw e at h.among in
    let few = m.few in
    let over : v.draft.overlay ≤ process = rw e at m.overlay in
    let loaded : Loaded = record v.loaded { popped = set v.loaded.popped process word } in
    let value = m.popped second process e in
    let room = length-set v.loaded.popped process word ∙ h.room.popped in
    let blocks_popped =
    set_each (λ y. value_of y < blocks sizes) v.loaded.popped process word (omega (arith, h.room.popped)) value h.heads.popped in
    applies sizes v second loaded process (get_or v.loaded.announcements process 0) (value_of word) few m.few_blocks h (rw e refl)
    (rw e refl) among over
    (m.fits (rw e refl)) value (h.heads.announcements process) refl h.room.announcements room h.heads.announcements blocks_popped
    (λ o lt. refl) refl

-- the draft after each step of a try
drafts_met_in_try : (sizes : Sizes) (v : TransferView) (word : ℕ) (second : Bool) (s : TryStep) → v.next ≡ Try second s → Meets sizes v word
    → ViewDrafts sizes v → ViewDrafts sizes (met_in_try sizes v word second s)
drafts_met_in_try sizes v word second LoadState e m h = leaves_try sizes v _ m.some h refl refl refl refl refl
drafts_met_in_try sizes v word second (LoadRecordWord index) e m h =
    either TransferView (ViewDrafts sizes) (nat_lt (loaded_tag v.loaded) (tag_of word)) (try_ended second v) _
    (ended_drafts sizes v second m.some h)
    (record_word_drafts sizes v second index word m.some h)
drafts_met_in_try sizes v word second (LoadCoveredSlot offset) e m h =
    let t = nat_lt (tag_of word) (loaded_tag v.loaded) in
    goes_on sizes v (met_in_try sizes v word second (LoadCoveredSlot offset)) h refl refl refl refl (rw e refl)
    (rw (exchange_drafted sizes.processes t v.loaded offset) (omega arith)) (rw (exchange_process t v.loaded offset) m.some)
drafts_met_in_try sizes v word second (ExchangeSlot offset) e m h =
    goes_on sizes v (met_in_try sizes v word second (ExchangeSlot offset)) h refl refl refl refl (rw e refl)
    (rw (slot_drafted sizes.processes v.loaded offset) (omega arith)) (rw (slot_process v.loaded offset) m.some)
drafts_met_in_try sizes v word second (LoadAnnouncement process) e m h = heard_drafts sizes v second process word e m h
drafts_met_in_try sizes v word second (LoadPoppedSlot process) e m h = popped_drafts sizes v second process word e m h
drafts_met_in_try sizes v word second (StoreRecordWord index) e m h =
    goes_on sizes v (met_in_try sizes v word second (StoreRecordWord index)) h refl refl refl refl (rw e refl)
    (rw (stored_drafted sizes index, e) (omega arith)) (rw (stored_process sizes index) m.some)
drafts_met_in_try sizes v word second ExchangeState e m h =
    either TransferView (ViewDrafts sizes) (word == v.loaded.state) (installed v) (try_ended second v)
    (leaves_try sizes v (installed v) m.some h refl refl refl refl refl) (ended_drafts sizes v second m.some h)

-- the draft after each step
pub drafts_met : (sizes : Sizes) (v : TransferView) (word : ℕ) (s : NextStep) → v.next ≡ s → Meets sizes v word → ViewDrafts sizes v
    → ViewDrafts sizes (met_at sizes v word s)
drafts_met sizes v word Rest e m h = h
drafts_met sizes v word Announce e m h = leaves_try sizes v _ m.some h refl refl refl refl refl
drafts_met sizes v word (Try second step) e m h = drafts_met_in_try sizes v word second step e m h
drafts_met sizes v word LoadFinalState e m h = leaves_try sizes v _ m.some h refl refl refl refl refl
drafts_met sizes v word LoadReply e m h = leaves_try sizes v _ m.some h refl refl refl refl refl
