-- the kept draft is that of the loaded words
use Rattle.std.proofs.Common.{◌≡◌, ◌≢◌, ℕ, zero, suc, ◌+◌, ◌-◌, ◌<◌, ◌≤◌, ◌==◌, Bool, true, false, refl, sym, ◌∙◌, ap, subst, inl}
use Rattle.std.proofs.Common.{inr, arith, add-one, List, length, get_or, set, get_or-set_same, get_or-set_other, length-set}
use Rattle.std.specs.Prelude.{slice_set, if◌then◌else◌, nat_lt, ◌&&◌}
use Rattle.std.proofs.lemmas.Bool.{cases_eq, cases_lt}
use Rattle.std.proofs.lemmas.Bool.Decides.{nat_tests}
use Rattle.std.proofs.lemmas.List.{length-replicate}
use Rattle.word_layout.specs.Sizes.{Sizes}
use Rattle.word_layout.specs.Names.{record_words}
use Rattle.word_layout.specs.Packing.{value_of, tag_of, reply_value}
use Rattle.word_layout.specs.declared.reply.Reply.{Reply}
use Rattle.word_layout.specs.declared.announced.Wish.{Wish}
use Rattle.word_layout.specs.declared.announced.Wish.TheVariants.{Take, Give}
use Rattle.transfer_machine.specs.Loads.{popped_head, loaded_reply, loaded_tag, overlay_length}
use Rattle.transfer_machine.specs.Tries.{begun_draft, after_announcement, granted, replied, wish_reply, take_reply}
use Rattle.transfer_machine.specs.Tries.{announced_wish, pops_slot, is_pending, is_odd_transfer, is_take, takes_from_slot}
use Rattle.transfer_machine.specs.Drafted.{drafted, SameDraft, HasRoom, DraftsLoaded, DraftsLoadedAt, DraftsLoadedInTry, StepsKeepDraft}
use Rattle.transfer_machine.specs.Machine.{met_at, met_in_try, CanMeetAt, CanMeetInTry, after_heard, after_slot, after_record}
use Rattle.transfer_machine.specs.Machine.{after_try, try_ended, installed, record_word_loaded, popped_loaded, slot_loaded}
use Rattle.transfer_machine.specs.declared.loaded.Loaded.{Loaded}
use Rattle.transfer_machine.specs.declared.try_draft.TryDraft.{TryDraft}
use Rattle.transfer_machine.specs.declared.transfer.TransferView.{TransferView}
use Rattle.transfer_machine.specs.declared.stage.NextStep.{NextStep}
use Rattle.transfer_machine.specs.declared.stage.NextStep.TheVariants.{Rest, Announce, Try, LoadFinalState, LoadReply}
use Rattle.transfer_machine.specs.declared.stage.TryStep.{TryStep}
use Rattle.transfer_machine.specs.declared.stage.TryStep.TheVariants.{LoadState, LoadRecordWord, LoadCoveredSlot, ExchangeSlot}
use Rattle.transfer_machine.specs.declared.stage.TryStep.TheVariants.{LoadAnnouncement, LoadPoppedSlot, StoreRecordWord, ExchangeState}

-- lists that agree below a place go on so once both have one value there
set_both : (xs ys : List ℕ) (n x y k : ℕ) → n < length xs → n < length ys → x ≡ y → ((j : ℕ) → j < n → get_or xs j 0 ≡ get_or ys j 0)
    → k < n + 1
    → get_or (set xs n x) k 0 ≡ get_or (set ys n y) k 0
set_both xs ys n x y k hx hy e same lt = elim (cases_eq k n) [
  | inl at ↦ rw (at, e) (get_or-set_same xs n y 0 hx ∙ sym (get_or-set_same ys n y 0 hy))
  | inr apart ↦ get_or-set_other xs n k x 0 apart ∙ same k (omega arith) ∙ sym (get_or-set_other ys n k y 0 apart)
]

-- a wish is granted alike
granted_base : (wish : Wish) (n : ℕ) (kept draft : TryDraft) → SameDraft n kept draft → (granted wish kept).base ≡ (granted wish draft).base
granted_base Take n kept draft h = grind (arith, nat_tests, h.base, h.overlay)
granted_base (Give head) n kept draft h = h.base

granted_overlay : (wish : Wish) (n : ℕ) (kept draft : TryDraft) → SameDraft n kept draft
    → (granted wish kept).overlay ≡ (granted wish draft).overlay
granted_overlay Take n kept draft h = grind (arith, nat_tests, h.base, h.overlay)
granted_overlay (Give head) n kept draft h = ap (λ m. m + 1) h.overlay

granted_heads : (wish : Wish) (n : ℕ) (kept draft : TryDraft) → SameDraft n kept draft → length kept.heads ≡ 32 → length draft.heads ≡ 32
    → draft.overlay < 32 → (k : ℕ) → k < (granted wish draft).overlay
    → get_or (granted wish kept).heads k 0 ≡ get_or (granted wish draft).heads k 0
granted_heads Take n kept draft h lk lp o k lt = grind (arith, nat_tests, h.heads, h.overlay)
granted_heads (Give head) n kept draft h lk lp o k lt =
    rw h.overlay (set_both kept.heads draft.heads draft.overlay head head k (omega arith) (omega arith) refl h.heads lt)

-- granting a wish leaves all replies
pub granted_replies : (wish : Wish) (draft : TryDraft) → (granted wish draft).replies ≡ draft.replies
granted_replies Take draft = grind (arith, nat_tests)
granted_replies (Give head) draft = refl

-- and answered alike
same_answer : (loaded : Loaded) (popped : ℕ) (wish : Wish) (n : ℕ) (kept draft : TryDraft) → SameDraft n kept draft
    → wish_reply loaded popped kept wish ≡ wish_reply loaded popped draft wish
same_answer loaded popped Take n kept draft h = elim (cases_lt 0 draft.overlay) [
  | inl some ↦
      (let last : get_or kept.heads (draft.overlay - 1) 0 ≡ get_or draft.heads (draft.overlay - 1) 0 = h.heads (draft.overlay - 1)
      (omega arith) in rw (h.base, h.overlay, last) refl)
  | inr none ↦ grind (arith, nat_tests, h.base, h.overlay)
]
same_answer loaded popped (Give head) n kept draft h = refl

granted_same : (wish : Wish) (n : ℕ) (kept draft : TryDraft) → SameDraft n kept draft → length kept.heads ≡ 32 → length draft.heads ≡ 32
    → draft.overlay < 32
    → SameDraft n (granted wish kept) (granted wish draft)
granted_same wish n kept draft h lk lp o = record {
  base = granted_base wish n kept draft h;
  overlay = granted_overlay wish n kept draft h;
  heads = granted_heads wish n kept draft h lk lp o;
  replies = λ i lt. rw (granted_replies wish kept, granted_replies wish draft) (h.replies i lt);
}

-- one more reply is noted alike
replied_same : (n x y : ℕ) (kept draft : TryDraft) → SameDraft n kept draft → length kept.replies ≡ 32 → length draft.replies ≡ 32 → n < 32
    → x ≡ y
    → SameDraft (n + 1) (replied n x kept) (replied n y draft)
replied_same n x y kept draft h lk lp lt e = record {
  base = h.base;
  overlay = h.overlay;
  heads = h.heads;
  replies = λ i below. set_both kept.replies draft.replies n x y i (omega arith) (omega arith) e h.replies below;
}

after_cases : (b : Bool) (n x y old : ℕ) (kept draft kept_granted draft_granted : TryDraft) → SameDraft n kept draft
    → SameDraft n kept_granted draft_granted
    → length kept.replies ≡ 32 → length draft.replies ≡ 32 → length kept_granted.replies ≡ 32 → length draft_granted.replies ≡ 32 → n < 32
    → x ≡ y
    → SameDraft (n + 1) (if b then replied n x kept_granted else replied n old kept)
    (if b then replied n y draft_granted else replied n old draft)
after_cases true n x y old kept draft kg pg h g lk lp lkg lpg lt e = replied_same n x y kg pg g lkg lpg lt e
after_cases false n x y old kept draft kg pg h g lk lp lkg lpg lt e = replied_same n old old kept draft h lk lp lt refl

-- one more announcement is applied alike
applied_same : (processes : ℕ) (loaded : Loaded) (process word popped : ℕ) (kept draft : TryDraft) → SameDraft process kept draft
    → length kept.heads ≡ 32 → length draft.heads ≡ 32 → length kept.replies ≡ 32 → length draft.replies ≡ 32 → draft.overlay < 32
    → process < 32
    → SameDraft (process + 1) (after_announcement processes loaded process word popped kept)
    (after_announcement processes loaded process word popped draft)
applied_same processes loaded process word popped kept draft h lk lp rk rp o lt =
    after_cases (is_pending word (loaded_reply processes loaded process)) process
    (reply_value (is_odd_transfer word) (wish_reply loaded popped kept (announced_wish word)))
    (reply_value (is_odd_transfer word) (wish_reply loaded popped draft (announced_wish word))) (loaded_reply processes loaded process)
    kept draft (granted (announced_wish word) kept) (granted (announced_wish word) draft) h
    (granted_same (announced_wish word) process kept draft h lk lp o) rk rp
    (ap length (granted_replies (announced_wish word) kept) ∙ rk) (ap length (granted_replies (announced_wish word) draft) ∙ rp) lt
    (ap (reply_value (is_odd_transfer word)) (same_answer loaded popped (announced_wish word) process kept draft h))

-- what an announcement leaves of the room and the overlay
granted_room : (wish : Wish) (draft : TryDraft) → length (granted wish draft).heads ≡ length draft.heads
granted_room Take draft = grind (arith, nat_tests)
granted_room (Give head) draft = length-set draft.heads draft.overlay head

-- granting a wish puts at most one head more on the overlay
pub granted_few : (wish : Wish) (draft : TryDraft) → (granted wish draft).overlay ≤ draft.overlay + 1
granted_few Take draft = grind (arith, nat_tests)
granted_few (Give head) draft = omega arith

either_room : (b : Bool) (n x y m : ℕ) (one other : TryDraft) → length one.heads ≡ m → length other.heads ≡ m
    → length (if b then replied n x one else replied n y other).heads ≡ m
either_room true n x y m one other h k = h
either_room false n x y m one other h k = k

either_replies : (b : Bool) (n x y m : ℕ) (one other : TryDraft) → length one.replies ≡ m → length other.replies ≡ m
    → length (if b then replied n x one else replied n y other).replies ≡ m
either_replies true n x y m one other h k = length-set one.replies n x ∙ h
either_replies false n x y m one other h k = length-set other.replies n y ∙ k

either_few : (b : Bool) (n x y m : ℕ) (one other : TryDraft) → one.overlay ≤ m → other.overlay ≤ m
    → (if b then replied n x one else replied n y other).overlay ≤ m
either_few true n x y m one other h k = h
either_few false n x y m one other h k = k

-- the draft of the loaded words has its room, and at most one head for each announcement
pub drafted_room : (processes : ℕ) (loaded : Loaded) (k : ℕ) → length (drafted processes loaded k).heads ≡ 32
unfolding drafted
drafted_room processes loaded zero = length-replicate {A = ℕ} 32 0
drafted_room processes loaded (suc k) =
    either_room (is_pending (get_or loaded.announcements k 0) (loaded_reply processes loaded k)) k _ _ 32 _ _
    (granted_room _ (drafted processes loaded k) ∙ drafted_room processes loaded k) (drafted_room processes loaded k)

-- the draft of the loaded words has room for 32 replies, however many announcements it met
pub drafted_replies : (processes : ℕ) (loaded : Loaded) (k : ℕ) → length (drafted processes loaded k).replies ≡ 32
unfolding drafted
drafted_replies processes loaded zero = length-replicate {A = ℕ} 32 0
drafted_replies processes loaded (suc k) =
    either_replies (is_pending (get_or loaded.announcements k 0) (loaded_reply processes loaded k)) k _ _ 32 _ _
    (ap length (granted_replies _ (drafted processes loaded k)) ∙ drafted_replies processes loaded k)
    (drafted_replies processes loaded k)

-- after so many announcements its overlay has at most as many heads
pub drafted_few : (processes : ℕ) (loaded : Loaded) (k : ℕ) → (drafted processes loaded k).overlay ≤ k
unfolding drafted
drafted_few processes loaded zero = omega arith
drafted_few processes loaded (suc k) =
    either_few (is_pending (get_or loaded.announcements k 0) (loaded_reply processes loaded k)) k _ _ (suc k) _ _
    (omega (
      arith,
      granted_few (announced_wish (get_or loaded.announcements k 0)) (drafted processes loaded k),
      drafted_few processes loaded k,
    )) (omega (arith, drafted_few processes loaded k))

-- the draft reads the loaded record, and no more announcements and popped slots than it applies
pub drafted_reads : (processes : ℕ) (loaded other : Loaded) (k : ℕ) → loaded.record_words ≡ other.record_words
    → ((j : ℕ) → j < k → get_or loaded.announcements j 0 ≡ get_or other.announcements j 0)
    → ((j : ℕ) → j < k → get_or loaded.popped j 0 ≡ get_or other.popped j 0)
    → drafted processes loaded k ≡ drafted processes other k
unfolding drafted
drafted_reads processes loaded other zero e a b = rw e refl
drafted_reads processes loaded other (suc k) e a b =
    rw (
      e,
      a k (omega arith),
      b k (omega arith),
      drafted_reads processes loaded other k e (λ j lt. a j (omega arith))
          (λ j lt. b j (omega arith)),
    ) refl

below_apart : (j n : ℕ) → j < n → j ≢ n
below_apart j n lt e = absurd (omega arith)

-- the view after an announcement, by whether it waits for its slot
abbrev announcement_met : Sizes → Bool → ℕ → ℕ → Bool → TransferView → TransferView
announcement_met sizes second process word waits v =
    let loaded = record v.loaded { announcements = slice_set v.loaded.announcements process word } in
    if waits
    then record v { loaded = loaded; next = Try second (LoadPoppedSlot process) }
    else record v {
      loaded = loaded;
      next = Try second (after_heard sizes process);
      draft = after_announcement sizes.processes v.loaded process word 0 v.draft;
    }

unpopped_take : (loaded : Loaded) (x y : ℕ) (draft : TryDraft) → takes_from_slot loaded draft ≡ false
    → take_reply loaded x draft ≡ take_reply loaded y draft
unpopped_take loaded x y draft h = grind (arith, nat_tests)

unpopped_wish : (loaded : Loaded) (process old x y : ℕ) (answer : Reply → ℕ) (draft : TryDraft) (wish : Wish) (b : Bool)
    → (b && (is_take wish && takes_from_slot loaded draft)) ≡ false
    → (if b then replied process (answer (wish_reply loaded x draft wish)) (granted wish draft) else replied process old draft)
    ≡ (if b then replied process (answer (wish_reply loaded y draft wish)) (granted wish draft) else replied process old draft)
unpopped_wish loaded process old x y answer draft wish false h = refl
unpopped_wish loaded process old x y answer draft (Give head) true h = refl
unpopped_wish loaded process old x y answer draft Take true h =
    ap (λ reply. replied process (answer reply) (granted Take draft)) (unpopped_take loaded x y draft h)

-- a batch that isn't loaded from a slot is answered without what was popped
unpopped : (processes : ℕ) (loaded : Loaded) (process word x y : ℕ) (draft : TryDraft)
    → pops_slot processes loaded process word draft ≡ false
    → after_announcement processes loaded process word x draft ≡ after_announcement processes loaded process word y draft
unpopped processes loaded process word x y draft h =
    unpopped_wish loaded process (loaded_reply processes loaded process) x y (reply_value (is_odd_transfer word)) draft
    (announced_wish word) (is_pending word (loaded_reply processes loaded process)) h

-- the draft begins as that of the loaded record
begun_same : (processes : ℕ) (loaded : Loaded) (kept : TryDraft) → SameDraft 0 (begun_draft loaded kept) (drafted processes loaded 0)
unfolding drafted
begun_same processes loaded kept =
    record { base = refl; overlay = refl; heads = λ k lt. absurd (omega arith); replies = λ i lt. absurd (omega arith) }

-- one more announcement
drafted_more : (processes : ℕ) (loaded : Loaded) (k : ℕ)
    → drafted processes loaded (k + 1) ≡ after_announcement processes loaded k (get_or loaded.announcements k 0) (popped_head loaded k)
    (drafted processes loaded k)
unfolding drafted
drafted_more processes loaded k = rw add-one refl

-- the draft after one more announcement, where the words before it are those of another view of the same try
heard_same : (processes : ℕ) (loaded other : Loaded) (process word popped : ℕ) (kept : TryDraft)
    → SameDraft process kept (drafted processes loaded process) → length kept.heads ≡ 32 → length kept.replies ≡ 32
    → process < 32
    → loaded.record_words ≡ other.record_words → ((j : ℕ) → j < process → get_or loaded.announcements j 0 ≡ get_or other.announcements j 0)
    → ((j : ℕ) → j < process → get_or loaded.popped j 0 ≡ get_or other.popped j 0)
    → get_or other.announcements process 0 ≡ word → popped_head other process ≡ popped
    → SameDraft (process + 1) (after_announcement processes loaded process word popped kept) (drafted processes other (process + 1))
heard_same processes loaded other process word popped kept h room replies lt e a b here taken =
    rw (drafted_more processes other process, here, taken, sym (drafted_reads processes loaded other process e a b), sym e)
    (applied_same processes loaded process word popped kept (drafted processes loaded process) h room
    (drafted_room processes loaded process) replies (drafted_replies processes loaded process)
    (omega (arith, drafted_few processes loaded process)) lt)

-- what follows leaves the draft
kept_after_heard : (sizes : Sizes) (v : TransferView) (process : ℕ)
    → SameDraft (process + 1) v.draft (drafted sizes.processes v.loaded (process + 1))
    → DraftsLoadedInTry sizes v (after_heard sizes process)
kept_after_heard sizes v process h = elim (cases_eq (process + 1) sizes.processes) [
  | inl last ↦
      (let test : (process + 1 == sizes.processes) ≡ true = grind (arith, nat_tests) in
      rw test (subst (λ n. SameDraft n v.draft (drafted sizes.processes v.loaded n)) last h))
  | inr more ↦ (let test : (process + 1 == sizes.processes) ≡ false = grind (arith, nat_tests) in rw test h)
]

-- what follows a covered slot, the next one or the announcements, finds the draft as it began
pub kept_after_slot : (sizes : Sizes) (v : TransferView) (b : Bool) (offset : ℕ) → SameDraft 0 v.draft (drafted sizes.processes v.loaded 0)
    → DraftsLoadedInTry sizes v (if b then LoadAnnouncement 0 else LoadCoveredSlot offset)
kept_after_slot sizes v true offset h = h
kept_after_slot sizes v false offset h = h

-- after a try nothing is asked of the draft
pub kept_after_try : (sizes : Sizes) (v : TransferView) (second : Bool) → DraftsLoadedAt sizes v (after_try second)
kept_after_try sizes v true = tt
kept_after_try sizes v false = tt

-- what follows a stored record word finds the draft with all announcements met
pub kept_after_stored : (sizes : Sizes) (v : TransferView) (b : Bool) (index : ℕ)
    → SameDraft sizes.processes v.draft (drafted sizes.processes v.loaded sizes.processes)
    → DraftsLoadedInTry sizes v (if b then ExchangeState else StoreRecordWord index)
kept_after_stored sizes v true index h = h
kept_after_stored sizes v false index h = h

-- a fact of either of two views holds of the one that is chosen
either : (sizes : Sizes) (b : Bool) (one other : TransferView) → DraftsLoaded sizes one → DraftsLoaded sizes other
    → DraftsLoaded sizes (if b then one else other)
either sizes true one other h k = h
either sizes false one other h k = k

record_word_kept : (sizes : Sizes) (second : Bool) (v : TransferView) (index : ℕ) (loaded : Loaded)
    → DraftsLoaded sizes (record_word_loaded sizes second index loaded v)
record_word_kept sizes second v index loaded =
    let last : TransferView = record v { loaded = loaded; next = Try second (after_record loaded); draft = begun_draft loaded v.draft } in
    either sizes (index + 1 == record_words sizes) last (record v { loaded = loaded; next = Try second (LoadRecordWord (index + 1)) })
    (kept_after_slot sizes last (overlay_length loaded == 0) 0 (begun_same sizes.processes loaded v.draft)) tt

-- once a covered slot is loaded, its exchange or what follows it finds the draft as it began
pub kept_at_slot : (sizes : Sizes) (v : TransferView) (b : Bool) (loaded : Loaded) (offset : ℕ)
    → SameDraft 0 v.draft (drafted sizes.processes v.loaded 0)
    → DraftsLoadedInTry sizes v (if b then ExchangeSlot offset else after_slot loaded offset)
kept_at_slot sizes v true loaded offset h = h
kept_at_slot sizes v false loaded offset h = kept_after_slot sizes v (offset + 1 == overlay_length loaded) (offset + 1) h

same_none : (processes : ℕ) (loaded other : Loaded) (kept : TryDraft) → loaded.record_words ≡ other.record_words
    → SameDraft 0 kept (drafted processes loaded 0)
    → SameDraft 0 kept (drafted processes other 0)
same_none processes loaded other kept e h =
    subst (SameDraft 0 kept) (drafted_reads processes loaded other 0 e (λ j lt. absurd (omega arith)) (λ j lt. absurd (omega arith))) h

slot_kept : (sizes : Sizes) (second : Bool) (v : TransferView) (offset word : ℕ) → SameDraft 0 v.draft (drafted sizes.processes v.loaded 0)
    → DraftsLoaded sizes (slot_loaded second offset word v)
slot_kept sizes second v offset word h =
    kept_at_slot sizes (slot_loaded second offset word v) (nat_lt (tag_of word) (loaded_tag v.loaded)) v.loaded offset
    (same_none sizes.processes v.loaded (record v.loaded { slots = slice_set v.loaded.slots offset word }) v.draft refl h)

-- the announcement that waits for its slot
waiting_kept : (sizes : Sizes) (v : TransferView) (process word : ℕ) → SameDraft process v.draft (drafted sizes.processes v.loaded process)
    → SameDraft process v.draft (drafted sizes.processes (record v.loaded { announcements = slice_set v.loaded.announcements process word })
    process)
waiting_kept sizes v process word h =
    subst (SameDraft process v.draft) (drafted_reads sizes.processes v.loaded
    (record v.loaded { announcements = slice_set v.loaded.announcements process word }) process refl
    (λ j lt. sym (get_or-set_other v.loaded.announcements process j word 0 (below_apart j process lt))) (λ j lt. refl)) h

announcement_kept : (sizes : Sizes) (second : Bool) (v : TransferView) (process word : ℕ) (b : Bool)
    → pops_slot sizes.processes v.loaded process word v.draft ≡ b → HasRoom v → process < 32
    → SameDraft process v.draft (drafted sizes.processes v.loaded process)
    → DraftsLoaded sizes (announcement_met sizes second process word b v)
announcement_kept sizes second v process word true e room lt h = waiting_kept sizes v process word h
announcement_kept sizes second v process word false e room lt h =
    kept_after_heard sizes (announcement_met sizes second process word false v) process
    (rw (unpopped sizes.processes v.loaded process word 0 (popped_head v.loaded process) v.draft e)
    (heard_same sizes.processes v.loaded (record v.loaded { announcements = slice_set v.loaded.announcements process word }) process word
    (popped_head v.loaded process) v.draft h room.heads room.replies lt refl
    (λ j below. sym (get_or-set_other v.loaded.announcements process j word 0 (below_apart j process below))) (λ j below. refl)
    (get_or-set_same v.loaded.announcements process word 0 (omega (arith, room.announcements))) refl))

popped_kept : (sizes : Sizes) (second : Bool) (v : TransferView) (process word : ℕ) → HasRoom v → process < 32
    → SameDraft process v.draft (drafted sizes.processes v.loaded process)
    → DraftsLoaded sizes (popped_loaded sizes second process word v)
popped_kept sizes second v process word room lt h =
    kept_after_heard sizes (popped_loaded sizes second process word v) process
    (heard_same sizes.processes v.loaded (record v.loaded { popped = slice_set v.loaded.popped process word }) process
    (get_or v.loaded.announcements process 0) (value_of word) v.draft h room.heads room.replies lt refl
    (λ j below. refl) (λ j below. sym (get_or-set_other v.loaded.popped process j word 0 (below_apart j process below)))
    refl (ap value_of (get_or-set_same v.loaded.popped process word 0 (omega (arith, room.popped)))))

-- a step of a try keeps the draft
keeps_in_try : (sizes : Sizes) (v : TransferView) (word : ℕ) (second : Bool) (step : TryStep) → HasRoom v → CanMeetInTry sizes v word step
    → DraftsLoadedInTry sizes v step
    → DraftsLoaded sizes (met_in_try sizes v word second step)
keeps_in_try sizes v word second LoadState room can h = tt
keeps_in_try sizes v word second (LoadRecordWord index) room can h =
    let loaded : Loaded = record v.loaded { record_words = slice_set v.loaded.record_words index word } in
    either sizes (nat_lt (loaded_tag v.loaded) (tag_of word)) (try_ended second v) (record_word_loaded sizes second index loaded v)
    (kept_after_try sizes (try_ended second v) second) (record_word_kept sizes second v index loaded)
keeps_in_try sizes v word second (LoadCoveredSlot offset) room can h = slot_kept sizes second v offset word h
keeps_in_try sizes v word second (ExchangeSlot offset) room can h =
    kept_after_slot sizes (met_in_try sizes v word second (ExchangeSlot offset)) (offset + 1 == overlay_length v.loaded) (offset + 1) h
keeps_in_try sizes v word second (LoadAnnouncement process) room can h =
    announcement_kept sizes second v process word (pops_slot sizes.processes v.loaded process word v.draft) refl room
    (omega (arith, can.few, can.among)) h
keeps_in_try sizes v word second (LoadPoppedSlot process) room can h =
    popped_kept sizes second v process word room (omega (arith, can.few, can.among)) h
keeps_in_try sizes v word second (StoreRecordWord index) room can h =
    kept_after_stored sizes (met_in_try sizes v word second (StoreRecordWord index)) (index + 1 == record_words sizes) (index + 1) h
keeps_in_try sizes v word second ExchangeState room can h =
    either sizes (word == v.loaded.state) (installed v) (try_ended second v) tt (kept_after_try sizes (try_ended second v) second)

keeps_at : (sizes : Sizes) (v : TransferView) (word : ℕ) (next : NextStep) → v.next ≡ next → HasRoom v → CanMeetAt sizes v word next
    → DraftsLoadedAt sizes v next
    → DraftsLoaded sizes (met_at sizes v word next)
keeps_at sizes v word Rest e room can h = subst (DraftsLoadedAt sizes v) (sym e) tt
keeps_at sizes v word Announce e room can h = tt
keeps_at sizes v word (Try second step) e room can h = keeps_in_try sizes v word second step room can h
keeps_at sizes v word LoadFinalState e room can h = tt
keeps_at sizes v word LoadReply e room can h = tt

-- every step keeps the draft
pub steps_keep_draft : StepsKeepDraft
steps_keep_draft sizes v word room act can h = keeps_at sizes v word v.next refl room can h
