-- the kept draft is that of the loaded words, after every step
use Rattle.std.proofs.Common.{◌≡◌, ℕ, ◌+◌, ◌<◌, ◌==◌, Bool, refl, subst, set}
use Rattle.std.specs.Prelude.{nat_lt}
use Rattle.word_layout.specs.Sizes.{Sizes}
use Rattle.word_layout.specs.Names.{records, record_words}
use Rattle.word_layout.specs.Packing.{tag_of}
use Rattle.transfer_machine.specs.Loads.{loaded_tag, overlay_length, loaded_record}
use Rattle.transfer_machine.specs.Drafted.{drafted, SameDraft, HasRoom, DraftsLoaded, DraftsLoadedAt, DraftsLoadedInTry}
use Rattle.transfer_machine.specs.Machine.{met_at, met_in_try, CanActAt, CanMeetAt, CanActInTry, CanMeetInTry, try_ended, installed}
use Rattle.transfer_machine.specs.declared.loaded.Loaded.{Loaded}
use Rattle.transfer_machine.specs.declared.transfer.TransferView.{TransferView}
use Rattle.transfer_machine.specs.declared.stage.NextStep.{NextStep}
use Rattle.transfer_machine.specs.declared.stage.NextStep.TheVariants.{Rest, Announce, Try, LoadFinalState, LoadReply}
use Rattle.transfer_machine.specs.declared.stage.TryStep.{TryStep}
use Rattle.transfer_machine.specs.declared.stage.TryStep.TheVariants.{LoadState, LoadRecordWord, LoadCoveredSlot, ExchangeSlot}
use Rattle.transfer_machine.specs.declared.stage.TryStep.TheVariants.{LoadAnnouncement, LoadPoppedSlot, StoreRecordWord, ExchangeState}
use Rattle.transfer_machine.proofs.Drafts.{steps_keep_draft, drafted_reads, kept_after_slot}
use Rattle.transfer_machine.proofs.Drafts.{kept_at_slot, kept_after_try, kept_after_stored}
use Rattle.draft_invariant.proofs.Lists.{either}

-- the draft reads the loaded record, announcements and popped slots
pub drafted_stays : (processes : ℕ) (loaded other : Loaded) (k : ℕ) → loaded.record_words ≡ other.record_words
    → loaded.announcements ≡ other.announcements
    → loaded.popped ≡ other.popped → drafted processes loaded k ≡ drafted processes other k
drafted_stays processes loaded other k e a b = drafted_reads processes loaded other k e (λ j lt. rw a refl) (λ j lt. rw b refl)

-- what a step that may be made keeps
kept_here : (sizes : Sizes) (v : TransferView) (word : ℕ) (s : NextStep) → v.next ≡ s → HasRoom v → CanActAt sizes v s
    → CanMeetAt sizes v word s
    → DraftsLoadedAt sizes v s
    → DraftsLoaded sizes (met_at sizes v word s)
kept_here sizes v word s e room =
    subst (λ (t : NextStep). CanActAt sizes v t → CanMeetAt sizes v word t → DraftsLoadedAt sizes v t
    → DraftsLoaded sizes (met_at sizes v word t)) e
    (λ act can h. steps_keep_draft sizes v word room act can h)

same_none : (processes : ℕ) (v : TransferView) (loaded : Loaded) → v.loaded.record_words ≡ loaded.record_words
    → v.loaded.announcements ≡ loaded.announcements
    → v.loaded.popped ≡ loaded.popped → SameDraft 0 v.draft (drafted processes v.loaded 0)
    → SameDraft 0 v.draft (drafted processes loaded 0)
same_none processes v loaded e a b h = subst (SameDraft 0 v.draft) (drafted_stays processes v.loaded loaded 0 e a b) h

-- the numbers of the steps that change the draft are in range
pub record DraftChanges (sizes : Sizes) (v : TransferView) (word : ℕ) : Type 0 where
  pub row : (second : Bool) (index : ℕ) → v.next ≡ Try second (LoadRecordWord index) → loaded_record v.loaded < records sizes
  pub index : (second : Bool) (index : ℕ) → v.next ≡ Try second (LoadRecordWord index) → index < record_words sizes
  pub heard : (second : Bool) (process : ℕ) → v.next ≡ Try second (LoadAnnouncement process)
      → CanMeetInTry sizes v word (LoadAnnouncement process)
  pub popped_act : (second : Bool) (process : ℕ) → v.next ≡ Try second (LoadPoppedSlot process)
      → CanActInTry sizes v (LoadPoppedSlot process)
  pub popped : (second : Bool) (process : ℕ) → v.next ≡ Try second (LoadPoppedSlot process)
      → CanMeetInTry sizes v word (LoadPoppedSlot process)

-- after each step of a try
loaded_met_in_try : (sizes : Sizes) (v : TransferView) (word : ℕ) (second : Bool) (s : TryStep) → v.next ≡ Try second s → HasRoom v
    → DraftChanges sizes v word → DraftsLoadedInTry sizes v s → DraftsLoaded sizes (met_in_try sizes v word second s)
loaded_met_in_try sizes v word second LoadState e room c h = tt
loaded_met_in_try sizes v word second (LoadRecordWord index) e room c h =
    kept_here sizes v word (Try second (LoadRecordWord index)) e room (c.row second index e, c.index second index e) tt h
loaded_met_in_try sizes v word second (LoadCoveredSlot offset) e room c h =
    let loaded : Loaded = record v.loaded { slots = set v.loaded.slots offset word } in
    let older = nat_lt (tag_of word) (loaded_tag v.loaded) in
    kept_at_slot sizes (met_in_try sizes v word second (LoadCoveredSlot offset)) older v.loaded offset
    (same_none sizes.processes v loaded refl refl refl h)
loaded_met_in_try sizes v word second (ExchangeSlot offset) e room c h =
    kept_after_slot sizes (met_in_try sizes v word second (ExchangeSlot offset)) (offset + 1 == overlay_length v.loaded) (offset + 1) h
loaded_met_in_try sizes v word second (LoadAnnouncement process) e room c h =
    kept_here sizes v word (Try second (LoadAnnouncement process)) e room (c.heard second process e).among (c.heard second process e) h
loaded_met_in_try sizes v word second (LoadPoppedSlot process) e room c h =
    kept_here sizes v word (Try second (LoadPoppedSlot process)) e room (c.popped_act second process e) (c.popped second process e) h
loaded_met_in_try sizes v word second (StoreRecordWord index) e room c h =
    kept_after_stored sizes (met_in_try sizes v word second (StoreRecordWord index)) (index + 1 == record_words sizes) (index + 1) h
loaded_met_in_try sizes v word second ExchangeState e room c h =
    either TransferView (DraftsLoaded sizes) (word == v.loaded.state) (installed v) (try_ended second v) tt
    (kept_after_try sizes (try_ended second v) second)

-- after each step
pub loaded_met : (sizes : Sizes) (v : TransferView) (word : ℕ) (s : NextStep) → v.next ≡ s → HasRoom v → DraftChanges sizes v word
    → DraftsLoadedAt sizes v s → DraftsLoaded sizes (met_at sizes v word s)
loaded_met sizes v word Rest e room c h = rw e tt
loaded_met sizes v word Announce e room c h = tt
loaded_met sizes v word (Try second step) e room c h = loaded_met_in_try sizes v word second step e room c h
loaded_met sizes v word LoadFinalState e room c h = tt
loaded_met sizes v word LoadReply e room c h = tt
