-- every step of a view keeps what it knows of the slots that it loads for takes
use Rattle.std.proofs.Common.{◌≡◌, ℕ, ◌+◌, ◌-◌, ◌<◌, ◌≤◌, ◌==◌, Bool, true, false, refl, sym, ◌∙◌, inl}
use Rattle.std.proofs.Common.{inr, arith, length, get_or, set, get_or-set_same, get_or-set_other}
use Rattle.std.specs.Prelude.{if◌then◌else◌, nat_lt}
use Rattle.std.proofs.lemmas.Bool.{cases_eq}
use Rattle.std.proofs.lemmas.Bool.Decides.{nat_tests}
use Rattle.word_layout.specs.Sizes.{Sizes}
use Rattle.word_layout.specs.Names.{record_words}
use Rattle.word_layout.specs.Packing.{tag_of, value_of}
use Rattle.transfer_machine.specs.Loads.{loaded_tag, popped_head}
use Rattle.transfer_machine.specs.Drafted.{drafted, SameDraft, HasRoom, DraftsLoadedAt, DraftsLoadedInTry}
use Rattle.transfer_machine.specs.Tries.{pops_slot, begun_draft, after_announcement}
use Rattle.transfer_machine.specs.Machine.{met_at, met_in_try, after_heard, after_slot, after_record, after_stored, try_ended, installed}
use Rattle.transfer_machine.specs.declared.loaded.Loaded.{Loaded}
use Rattle.transfer_machine.specs.declared.try_draft.TryDraft.{TryDraft}
use Rattle.transfer_machine.specs.declared.transfer.TransferView.{TransferView}
use Rattle.transfer_machine.specs.declared.stage.NextStep.{NextStep}
use Rattle.transfer_machine.specs.declared.stage.NextStep.TheVariants.{Rest, Announce, Try, LoadFinalState, LoadReply}
use Rattle.transfer_machine.specs.declared.stage.TryStep.{TryStep}
use Rattle.transfer_machine.specs.declared.stage.TryStep.TheVariants.{LoadState, LoadRecordWord, LoadCoveredSlot, ExchangeSlot}
use Rattle.transfer_machine.specs.declared.stage.TryStep.TheVariants.{LoadAnnouncement, LoadPoppedSlot, StoreRecordWord, ExchangeState}
use Rattle.transfer_invariant.specs.Memory.{Words, States, state_tag}
use Rattle.transfer_invariant.specs.Progress.{has_record, drafted_announcements, heard_process, loads_popped, popped_in_try}
use Rattle.draft_invariant.specs.Pops.{PopsHold}
use Rattle.draft_invariant.proofs.Lists.{either, not_both}
use Rattle.draft_invariant.proofs.Views.{below_apart, after_drafted}
use Rattle.draft_invariant.proofs.Drafts.{record_drafted, exchange_drafted, slot_drafted, stored_drafted}
use Rattle.transfer_machine.proofs.Drafts.{drafted_reads}
use Rattle.transfer_invariant.proofs.Loaded.{ended_has_none}

none_pops : (s : NextStep) → has_record s ≡ false → loads_popped s ≡ false
none_pops s e = grind arith

-- a view outside of a try's draft, and one whose draft has met no announcement
pub outside : (processes : ℕ) (m : Words) (states : States) (x : TransferView) → has_record x.next ≡ false → PopsHold processes m states x
outside processes m states x e = record {
  popping = λ h. absurd (not_both (loads_popped x.next) (none_pops x.next e) h);
  popped = λ h. absurd (not_both (has_record x.next) e h);
}

-- before its draft has met an announcement a view has popped no slot, unless it is about to load one
pub none_met : (processes : ℕ) (m : Words) (states : States) (x : TransferView) → loads_popped x.next ≡ false
    → drafted_announcements processes x.next ≡ 0
    → PopsHold processes m states x
none_met processes m states x e f = record {
  popping = λ h. absurd (not_both (loads_popped x.next) e h);
  popped = λ h now j lt. absurd (omega arith);
}

-- a view that goes on with the announcements below a place
pub record ReadsAlike (v x : TransferView) (k : ℕ) : Type 0 where
  pub state : x.loaded.state ≡ v.loaded.state
  pub record_words : x.loaded.record_words ≡ v.loaded.record_words
  pub announcements : (j : ℕ) → j < k → get_or x.loaded.announcements j 0 ≡ get_or v.loaded.announcements j 0
  pub popped : (j : ℕ) → j < k → get_or x.loaded.popped j 0 ≡ get_or v.loaded.popped j 0

same_draft : (processes : ℕ) (v x : TransferView) (k j : ℕ) → ReadsAlike v x k → j ≤ k
    → drafted processes x.loaded j ≡ drafted processes v.loaded j
same_draft processes v x k j r le =
    drafted_reads processes x.loaded v.loaded j r.record_words (λ o lt. r.announcements o (omega arith)) (λ o lt. r.popped o (omega arith))

popped_stays : (processes : ℕ) (m : Words) (states : States) (v x : TransferView) (k : ℕ) → PopsHold processes m states v → ReadsAlike v x k
    → has_record v.next ≡ true
    → k ≤ drafted_announcements processes v.next
    → loaded_tag x.loaded ≡ state_tag m → (j : ℕ) → j < k
    → pops_slot processes x.loaded j (get_or x.loaded.announcements j 0) (drafted processes x.loaded j) ≡ true
    → popped_head x.loaded j ≡ (states (state_tag m)).content ((drafted processes x.loaded j).base - 1)
popped_stays processes m states v x k h r has le now j lt pop =
    let e = same_draft processes v x k j r (omega arith) in
    rw (e, r.popped j lt) (h.popped has (rw r.state at now) j (omega arith) (rw (e, r.announcements j lt, r.record_words) at pop))

-- it keeps what it knows of its popped slots, as long as it pops no new one
pub goes_on_pops : (processes : ℕ) (m : Words) (states : States) (v x : TransferView) → PopsHold processes m states v
    → ReadsAlike v x (drafted_announcements processes x.next)
    → has_record v.next ≡ true
    → drafted_announcements processes x.next ≤ drafted_announcements processes v.next → loads_popped x.next ≡ false
    → PopsHold processes m states x
goes_on_pops processes m states v x h r has le none = record {
  popping = λ e. absurd (not_both (loads_popped x.next) none e);
  popped = λ e now j lt pop. popped_stays processes m states v x (drafted_announcements processes x.next) h r has le now j lt pop;
}

-- a view that meets one more announcement
meets_one_pops : (processes : ℕ) (m : Words) (states : States) (v x : TransferView) (k : ℕ) → PopsHold processes m states v
    → ReadsAlike v x k
    → has_record v.next ≡ true
    → drafted_announcements processes v.next ≡ k → drafted_announcements processes x.next ≡ k + 1 → loads_popped x.next ≡ false
    → (loaded_tag x.loaded ≡ state_tag m → pops_slot processes x.loaded k (get_or x.loaded.announcements k 0) (drafted processes x.loaded k)
    ≡ true → popped_head x.loaded k ≡ (states (state_tag m)).content ((drafted processes x.loaded k).base - 1))
    → PopsHold processes m states x
meets_one_pops processes m states v x k h r has before after none here = record {
  popping = λ e. absurd (not_both (loads_popped x.next) none e);
  popped = λ e now j lt pop. elim (cases_eq j k) [
    | inl at ↦ rw at (here now (rw at at pop))
    | inr ne ↦ popped_stays processes m states v x k h r has (omega arith) now j (omega arith) pop
  ];
}

-- a view that waits for a slot
waits_pops : (processes : ℕ) (m : Words) (states : States) (v : TransferView) (second : Bool) (process word : ℕ)
    → PopsHold processes m states v
    → v.next ≡ Try second (LoadAnnouncement process)
    → process < length v.loaded.announcements → pops_slot processes v.loaded process word v.draft ≡ true
    → PopsHold processes m states (record v {
      loaded = record v.loaded { announcements = set v.loaded.announcements process word };
      next = Try second (LoadPoppedSlot process);
    })
waits_pops processes m states v second process word h e lt pop =
    let x : TransferView =
    record v {
      loaded = record v.loaded { announcements = set v.loaded.announcements process word };
      next = Try second (LoadPoppedSlot process);
    } in
    let r : ReadsAlike v x process =
    record {
      state = refl;
      record_words = refl;
      announcements = λ j low. get_or-set_other v.loaded.announcements process j word 0
          (below_apart j process low);
      popped = λ j low. refl;
    } in
    record {
      popping = λ now. rw (get_or-set_same v.loaded.announcements process word 0 lt) pop;
      popped = λ now tag j low slot. popped_stays processes m states v x process h r (rw e refl) (rw e (omega arith)) tag j low slot;
    }

-- two drafts that take from the same slot
pops_alike : (processes : ℕ) (loaded : Loaded) (process word : ℕ) (kept draft : TryDraft) → kept.base ≡ draft.base
    → kept.overlay ≡ draft.overlay
    → pops_slot processes loaded process word kept ≡ pops_slot processes loaded process word draft
pops_alike processes loaded process word kept draft base over = rw (base, over) refl

after_waits_not : (sizes : Sizes) (process : ℕ) → popped_in_try (after_heard sizes process) ≡ false
after_waits_not sizes process = grind (arith, nat_tests)

-- a view that applies an announcement that needs no slot
heard_pops : (sizes : Sizes) (m : Words) (states : States) (v : TransferView) (second : Bool) (process word : ℕ) (draft : TryDraft)
    → PopsHold sizes.processes m states v
    → v.next ≡ Try second (LoadAnnouncement process) → process < length v.loaded.announcements
    → SameDraft process v.draft (drafted sizes.processes v.loaded process) → pops_slot sizes.processes v.loaded process word v.draft ≡ false
    → PopsHold sizes.processes m states (record v {
      loaded = record v.loaded { announcements = set v.loaded.announcements process word };
      next = Try second (after_heard sizes process);
      draft = draft;
    })
heard_pops sizes m states v second process word draft h e lt same none =
    let x : TransferView =
    record v {
      loaded = record v.loaded { announcements = set v.loaded.announcements process word };
      next = Try second (after_heard sizes process);
      draft = draft;
    } in
    let r : ReadsAlike v x process =
    record {
      state = refl;
      record_words = refl;
      announcements = λ j low. get_or-set_other v.loaded.announcements process j word 0
          (below_apart j process low);
      popped = λ j low. refl;
    } in
    let alike =
    pops_alike sizes.processes v.loaded process word v.draft (drafted sizes.processes v.loaded process) same.base same.overlay in
    meets_one_pops sizes.processes m states v x process h r (rw e refl) (rw e refl) (after_drafted sizes process)
    (after_waits_not sizes process)
    (λ now pop. absurd (not_both (pops_slot sizes.processes v.loaded process word v.draft) none
    (alike ∙ rw (
      same_draft sizes.processes v x process process r (omega arith),
      get_or-set_same v.loaded.announcements process word 0 lt,
    ) at pop)))

-- a view that applies one with the slot that it loaded
slot_pops : (sizes : Sizes) (m : Words) (states : States) (v : TransferView) (second : Bool) (process word : ℕ) (draft : TryDraft)
    → PopsHold sizes.processes m states v
    → v.next ≡ Try second (LoadPoppedSlot process) → process < length v.loaded.popped
    → SameDraft process v.draft (drafted sizes.processes v.loaded process)
    → (loaded_tag v.loaded ≡ state_tag m → value_of word ≡ (states (state_tag m)).content (v.draft.base - 1))
    → PopsHold sizes.processes m states (record v {
      loaded = record v.loaded { popped = set v.loaded.popped process word };
      next = Try second (after_heard sizes process);
      draft = draft;
    })
slot_pops sizes m states v second process word draft h e lt same value =
    let x : TransferView =
    record v {
      loaded = record v.loaded { popped = set v.loaded.popped process word };
      next = Try second (after_heard sizes process);
      draft = draft;
    } in
    let r : ReadsAlike v x process =
    record {
      state = refl;
      record_words = refl;
      announcements = λ j low. refl;
      popped = λ j low. get_or-set_other v.loaded.popped process j word 0 (below_apart j process low);
    } in
    meets_one_pops sizes.processes m states v x process h r (rw e refl) (rw e refl) (after_drafted sizes process)
    (after_waits_not sizes process)
    (λ now pop. rw (
      get_or-set_same v.loaded.popped process word 0 lt,
      same_draft sizes.processes v x process process r (omega arith),
      sym same.base,
    ) (value now))

-- what follows loads no slot for a take
record_waits_not : (loaded : Loaded) → popped_in_try (after_record loaded) ≡ false
record_waits_not loaded = grind (arith, nat_tests)

slot_waits_not : (t : Bool) (loaded : Loaded) (offset : ℕ)
    → popped_in_try (if t then ExchangeSlot offset else after_slot loaded offset) ≡ false
slot_waits_not t loaded offset = grind (arith, nat_tests)

exchanged_waits_not : (loaded : Loaded) (offset : ℕ) → popped_in_try (after_slot loaded offset) ≡ false
exchanged_waits_not loaded offset = grind (arith, nat_tests)

stored_waits_not : (sizes : Sizes) (index : ℕ) → popped_in_try (after_stored sizes index) ≡ false
stored_waits_not sizes index = grind (arith, nat_tests)

-- an announcement is loaded
either_heard : (sizes : Sizes) (m : Words) (states : States) (v : TransferView) (second : Bool) (process word : ℕ) (b : Bool)
    → pops_slot sizes.processes v.loaded process word v.draft ≡ b
    → PopsHold sizes.processes m states v → v.next ≡ Try second (LoadAnnouncement process) → process < length v.loaded.announcements
    → SameDraft process v.draft (drafted sizes.processes v.loaded process)
    → PopsHold sizes.processes m states (if b
    then record v {
      loaded = record v.loaded { announcements = set v.loaded.announcements process word };
      next = Try second (LoadPoppedSlot process);
    }
    else record v {
      loaded = record v.loaded { announcements = set v.loaded.announcements process word };
      next = Try second (after_heard sizes process);
      draft = after_announcement sizes.processes v.loaded process word 0 v.draft;
    })
either_heard sizes m states v second process word true test h e lt same =
    waits_pops sizes.processes m states v second process word h e lt test
either_heard sizes m states v second process word false test h e lt same =
    heard_pops sizes m states v second process word _ h e lt same test

-- the view after each step of a try
pops_met_in_try : (sizes : Sizes) (m : Words) (states : States) (v : TransferView) (word : ℕ) (second : Bool) (s : TryStep)
    → v.next ≡ Try second s
    → sizes.processes ≤ 32 → HasRoom v → heard_process v.next < sizes.processes → DraftsLoadedInTry sizes v s
    → ((second : Bool) (process : ℕ) → v.next ≡ Try second (LoadPoppedSlot process) → loaded_tag v.loaded ≡ state_tag m
    → value_of word ≡ (states (state_tag m)).content (v.draft.base - 1))
    → PopsHold sizes.processes m states v → PopsHold sizes.processes m states (met_in_try sizes v word second s)
pops_met_in_try sizes m states v word second LoadState e few room among same value h = none_met sizes.processes m states _ refl refl
pops_met_in_try sizes m states v word second (LoadRecordWord index) e few room among same value h =
    let loaded : Loaded = record v.loaded { record_words = set v.loaded.record_words index word } in
    let last : TransferView = record v { loaded = loaded; next = Try second (after_record loaded); draft = begun_draft loaded v.draft } in
    let more : TransferView = record v { loaded = loaded; next = Try second (LoadRecordWord (index + 1)) } in
    either TransferView (PopsHold sizes.processes m states) (nat_lt (loaded_tag v.loaded) (tag_of word)) (try_ended second v) _
    (outside sizes.processes m states (try_ended second v) (ended_has_none second))
    (either TransferView (PopsHold sizes.processes m states) (index + 1 == record_words sizes) last more
    (none_met sizes.processes m states last (record_waits_not loaded) (record_drafted sizes.processes loaded))
    (none_met sizes.processes m states more refl refl))
pops_met_in_try sizes m states v word second (LoadCoveredSlot offset) e few room among same value h =
    let t = nat_lt (tag_of word) (loaded_tag v.loaded) in
    none_met sizes.processes m states (met_in_try sizes v word second (LoadCoveredSlot offset)) (slot_waits_not t v.loaded offset)
    (exchange_drafted sizes.processes t v.loaded offset)
pops_met_in_try sizes m states v word second (ExchangeSlot offset) e few room among same value h =
    none_met sizes.processes m states (met_in_try sizes v word second (ExchangeSlot offset)) (exchanged_waits_not v.loaded offset)
    (slot_drafted sizes.processes v.loaded offset)
pops_met_in_try sizes m states v word second (LoadAnnouncement process) e few room among same value h =
    let low : process < sizes.processes = rw e at among in
    let pops = pops_slot sizes.processes v.loaded process word v.draft in
    either_heard sizes m states v second process word pops refl h e (omega (arith, room.announcements)) same
pops_met_in_try sizes m states v word second (LoadPoppedSlot process) e few room among same value h =
    let low : process < sizes.processes = rw e at among in
    slot_pops sizes m states v second process word _ h e (omega (arith, room.popped)) same (value second process e)
pops_met_in_try sizes m states v word second (StoreRecordWord index) e few room among same value h =
    goes_on_pops sizes.processes m states v (met_in_try sizes v word second (StoreRecordWord index)) h
    (record { state = refl; record_words = refl; announcements = λ j lt. refl; popped = λ j lt. refl }) (rw e refl)
    (rw (stored_drafted sizes index, e) (omega arith)) (stored_waits_not sizes index)
pops_met_in_try sizes m states v word second ExchangeState e few room among same value h =
    either TransferView (PopsHold sizes.processes m states) (word == v.loaded.state) (installed v) (try_ended second v)
    (outside sizes.processes m states (installed v) refl) (outside sizes.processes m states (try_ended second v) (ended_has_none second))

-- the view after each step
pub pops_met : (sizes : Sizes) (m : Words) (states : States) (v : TransferView) (word : ℕ) (s : NextStep) → v.next ≡ s
    → sizes.processes ≤ 32
    → HasRoom v → heard_process v.next < sizes.processes → DraftsLoadedAt sizes v s
    → ((second : Bool) (process : ℕ) → v.next ≡ Try second (LoadPoppedSlot process) → loaded_tag v.loaded ≡ state_tag m
    → value_of word ≡ (states (state_tag m)).content (v.draft.base - 1))
    → PopsHold sizes.processes m states v → PopsHold sizes.processes m states (met_at sizes v word s)
pops_met sizes m states v word Rest e few room among same value h = h
pops_met sizes m states v word Announce e few room among same value h = outside sizes.processes m states _ refl
pops_met sizes m states v word (Try second step) e few room among same value h =
    pops_met_in_try sizes m states v word second step e few room among same value h
pops_met sizes m states v word LoadFinalState e few room among same value h = outside sizes.processes m states _ refl
pops_met sizes m states v word LoadReply e few room among same value h = outside sizes.processes m states _ refl
