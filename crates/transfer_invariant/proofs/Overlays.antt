-- every step of every process keeps the bound of the draft's overlay
use Rattle.std.proofs.Common.{◌≡◌, ℕ, ◌+◌, ◌<◌, ◌≤◌, ◌==◌, Bool, true, false, refl, inl, inr, arith, set, get_or}
use Rattle.std.specs.Prelude.{if◌then◌else◌, nat_lt}
use Rattle.std.proofs.lemmas.Bool.{cases_eq}
use Rattle.std.proofs.lemmas.Bool.Decides.{nat_tests}
use Rattle.word_layout.specs.Sizes.{Sizes}
use Rattle.word_layout.specs.Names.{record_words}
use Rattle.word_layout.specs.Packing.{tag_of, value_of}
use Rattle.transfer_machine.specs.Loads.{loaded_tag, loaded_reply, overlay_length}
use Rattle.transfer_machine.specs.Tries.{is_pending, announced_wish, after_announcement, pops_slot, begun_draft}
use Rattle.transfer_machine.specs.Machine.{met_at, met_in_try, try_ended, installed, after_try, after_slot, after_heard}
use Rattle.transfer_machine.specs.declared.loaded.Loaded.{Loaded}
use Rattle.transfer_machine.specs.declared.try_draft.TryDraft.{TryDraft}
use Rattle.transfer_machine.specs.declared.transfer.TransferView.{TransferView}
use Rattle.transfer_machine.specs.declared.stage.NextStep.{NextStep}
use Rattle.transfer_machine.specs.declared.stage.NextStep.TheVariants.{Rest, Announce, Try, LoadFinalState, LoadReply}
use Rattle.transfer_machine.specs.declared.stage.TryStep.{TryStep}
use Rattle.transfer_machine.specs.declared.stage.TryStep.TheVariants.{LoadState, LoadRecordWord, LoadCoveredSlot, ExchangeSlot}
use Rattle.transfer_machine.specs.declared.stage.TryStep.TheVariants.{LoadAnnouncement, LoadPoppedSlot, StoreRecordWord, ExchangeState}
use Rattle.transfer_machine.proofs.Drafts.{granted_few}
use Rattle.transfer_invariant.specs.Memory.{Views, Moved}
use Rattle.transfer_invariant.specs.Drafts.{OverlayFitsInTry, OverlayFitsAt, OverlayFits}

either_few : (t : Bool) (a b : TryDraft) (most : ℕ) → a.overlay ≤ most → b.overlay ≤ most → (if t then a else b).overlay ≤ most
either_few true a b most h k = h
either_few false a b most h k = k

announcement_few : (processes : ℕ) (loaded : Loaded) (process word popped : ℕ) (draft : TryDraft)
    → (after_announcement processes loaded process word popped draft).overlay ≤ draft.overlay + 1
announcement_few processes loaded process word popped draft =
    let pending = is_pending word (loaded_reply processes loaded process) in
    either_few pending _ _ (draft.overlay + 1) (granted_few (announced_wish word) draft) (omega arith)

-- what follows
ended_fits : (processes : ℕ) (draft : TryDraft) (second : Bool) → OverlayFitsAt processes draft (after_try second)
ended_fits processes draft true = tt
ended_fits processes draft false = tt

begun_fits : (processes : ℕ) (draft : TryDraft) (t : Bool) → draft.overlay ≡ 0
    → OverlayFitsInTry processes draft (if t then LoadAnnouncement 0 else LoadCoveredSlot 0)
begun_fits processes draft true e = omega arith
begun_fits processes draft false e = omega arith

slot_fits : (processes offset : ℕ) (draft : TryDraft) (t : Bool) → draft.overlay ≤ 0
    → OverlayFitsInTry processes draft (if t then LoadAnnouncement 0 else LoadCoveredSlot (offset + 1))
slot_fits processes offset draft true h = h
slot_fits processes offset draft false h = h

heard_fits : (sizes : Sizes) (process : ℕ) (draft : TryDraft) → draft.overlay ≤ process + 1
    → OverlayFitsInTry sizes.processes draft (after_heard sizes process)
heard_fits sizes process draft h = elim (cases_eq (process + 1) sizes.processes) [
  | inl last ↦ let test : (process + 1 == sizes.processes) ≡ true = grind (arith, nat_tests) in rw test (omega arith)
  | inr more ↦ let test : (process + 1 == sizes.processes) ≡ false = grind (arith, nat_tests) in rw test h
]

stored_fits : (processes index : ℕ) (draft : TryDraft) (t : Bool) → draft.overlay ≤ processes
    → OverlayFitsInTry processes draft (if t then ExchangeState else StoreRecordWord (index + 1))
stored_fits processes index draft true h = h
stored_fits processes index draft false h = h

either_view : (processes : ℕ) (t : Bool) (a b : TransferView) → OverlayFits processes a → OverlayFits processes b
    → OverlayFits processes (if t then a else b)
either_view processes true a b h k = h
either_view processes false a b h k = k

either_slot : (processes offset : ℕ) (draft : TryDraft) (loaded : Loaded) (t : Bool) → draft.overlay ≤ 0
    → OverlayFitsInTry processes draft (if t then ExchangeSlot offset else after_slot loaded offset)
either_slot processes offset draft loaded true h = h
either_slot processes offset draft loaded false h = slot_fits processes offset draft (offset + 1 == overlay_length loaded) h

-- the view after each step of a try
overlay_met_in_try : (sizes : Sizes) (v : TransferView) (word : ℕ) (second : Bool) (step : TryStep)
    → OverlayFitsInTry sizes.processes v.draft step → OverlayFits sizes.processes (met_in_try sizes v word second step)
overlay_met_in_try sizes v word second LoadState h = tt
overlay_met_in_try sizes v word second (LoadRecordWord index) h =
    let loaded = record v.loaded { record_words = set v.loaded.record_words index word } in
    either_view sizes.processes (nat_lt (loaded_tag v.loaded) (tag_of word)) (try_ended second v) _
    (ended_fits sizes.processes v.draft second)
    (either_view sizes.processes (index + 1 == record_words sizes) _ _
    (begun_fits sizes.processes (begun_draft loaded v.draft) (overlay_length loaded == 0) refl) tt)
overlay_met_in_try sizes v word second (LoadCoveredSlot offset) h =
    either_slot sizes.processes offset v.draft v.loaded (nat_lt (tag_of word) (loaded_tag v.loaded)) h
overlay_met_in_try sizes v word second (ExchangeSlot offset) h =
    slot_fits sizes.processes offset v.draft (offset + 1 == overlay_length v.loaded) h
overlay_met_in_try sizes v word second (LoadAnnouncement process) h =
    let few = announcement_few sizes.processes v.loaded process word 0 v.draft in
    either_view sizes.processes (pops_slot sizes.processes v.loaded process word v.draft) _ _ h
    (heard_fits sizes process (after_announcement sizes.processes v.loaded process word 0 v.draft) (omega arith))
overlay_met_in_try sizes v word second (LoadPoppedSlot process) h =
    let announced = get_or v.loaded.announcements process 0 in
    let few = announcement_few sizes.processes v.loaded process announced (value_of word) v.draft in
    heard_fits sizes process (after_announcement sizes.processes v.loaded process announced (value_of word) v.draft) (omega arith)
overlay_met_in_try sizes v word second (StoreRecordWord index) h =
    stored_fits sizes.processes index v.draft (index + 1 == record_words sizes) h
overlay_met_in_try sizes v word second ExchangeState h =
    either_view sizes.processes (word == v.loaded.state) (installed v) (try_ended second v) tt
    (ended_fits sizes.processes v.draft second)

-- the view after each step
overlay_met : (sizes : Sizes) (v : TransferView) (word : ℕ) (s : NextStep) → v.next ≡ s → OverlayFitsAt sizes.processes v.draft s
    → OverlayFits sizes.processes (met_at sizes v word s)
overlay_met sizes v word Rest e h = rw e tt
overlay_met sizes v word Announce e h = tt
overlay_met sizes v word (Try second step) e h = overlay_met_in_try sizes v word second step h
overlay_met sizes v word LoadFinalState e h = tt
overlay_met sizes v word LoadReply e h = tt

-- and all views
pub overlays_move : (sizes : Sizes) (views after : Views) (i : ℕ) (x : TransferView)
    → ((o : ℕ) → o < sizes.processes → OverlayFits sizes.processes (views o)) → Moved i x views after → OverlayFits sizes.processes x
    → (o : ℕ) → o < sizes.processes → OverlayFits sizes.processes (after o)
overlays_move sizes views after i x h moved fits o lo = elim (cases_eq o i) [
  | inl e ↦ rw e (rw moved.here fits)
  | inr ne ↦ rw (moved.elsewhere o ne) (h o lo)
]

-- a step of any process keeps the overlays of all views within the processes
pub overlays_kept : (sizes : Sizes) (views after : Views) (i word : ℕ) → i < sizes.processes
    → ((o : ℕ) → o < sizes.processes → OverlayFits sizes.processes (views o))
    → Moved i (met_at sizes (views i) word (views i).next) views after
    → (o : ℕ) → o < sizes.processes → OverlayFits sizes.processes (after o)
overlays_kept sizes views after i word li h moved =
    let fits = overlay_met sizes (views i) word (views i).next refl (h i li) in
    overlays_move sizes views after i (met_at sizes (views i) word (views i).next) h moved fits
