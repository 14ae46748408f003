-- what a view keeps of its draft when it leaves a try, begins a draft, goes on, waits for a slot, or applies an announcement
use Rattle.std.proofs.Common.{◌≡◌, ◌≢◌, ℕ, ◌+◌, ◌<◌, ◌≤◌, ◌==◌, Bool, true, false, refl, sym, ◌∙◌, ap}
use Rattle.std.proofs.Common.{inl, inr, arith, length, get_or, set, get_or-set_other, length-set}
use Rattle.std.proofs.lemmas.Bool.{cases_eq}
use Rattle.std.proofs.lemmas.Bool.Decides.{nat_tests}
use Rattle.word_layout.specs.Sizes.{Sizes, blocks, most_blocks}
use Rattle.word_layout.specs.Packing.{value_of, FitsReply, is_odd_reply}
use Rattle.transfer_machine.specs.Loads.{loaded_base, overlay_length, loaded_reply}
use Rattle.transfer_machine.specs.Drafted.{HasRoom}
use Rattle.transfer_machine.specs.Tries.{is_pending, is_odd_transfer, after_announcement, announced_wish, wish_reply}
use Rattle.transfer_machine.specs.Machine.{after_heard}
use Rattle.transfer_machine.specs.declared.loaded.Loaded.{Loaded}
use Rattle.transfer_machine.specs.declared.try_draft.TryDraft.{TryDraft}
use Rattle.transfer_machine.specs.declared.transfer.TransferView.{TransferView}
use Rattle.transfer_machine.specs.declared.stage.NextStep.{NextStep}
use Rattle.transfer_machine.specs.declared.stage.NextStep.TheVariants.{Try}
use Rattle.transfer_machine.specs.declared.stage.TryStep.TheVariants.{LoadAnnouncement, LoadPoppedSlot}
use Rattle.transfer_invariant.specs.Progress.{has_record, drafted_announcements, drafted_in_try, heard_process, heard_process_in_try}
use Rattle.transfer_invariant.specs.Drafts.{RepliesDrafted}
use Rattle.draft_invariant.specs.Heads.{HeadsAreBlocks}
use Rattle.draft_invariant.specs.Holding.{ViewDrafts}
use Rattle.draft_invariant.proofs.Lists.{set_each, not_both}
use Rattle.draft_invariant.proofs.Wishes.{LoadedFits, answer_fits, wish_of_block}
use Rattle.draft_invariant.proofs.Announcements.{DraftIsFine, announced_fine, announced_base}
use Rattle.draft_invariant.proofs.Announcements.{announced_others, announced_kept, announced_parity}

-- arrays of a view that stay
pub record KeepsArrays (v x : TransferView) : Type 0 where
  pub record_words : length x.loaded.record_words ≡ 66
  pub announcements : x.loaded.announcements ≡ v.loaded.announcements
  pub popped : x.loaded.popped ≡ v.loaded.popped
  pub heads : x.draft.heads ≡ v.draft.heads
  pub replies : x.draft.replies ≡ v.draft.replies

keeps_room : (v x : TransferView) → HasRoom v → KeepsArrays v x → HasRoom x
keeps_room v x h k = record {
  record_words = k.record_words;
  announcements = rw k.announcements h.announcements;
  popped = rw k.popped h.popped;
  heads = rw k.heads h.heads;
  replies = rw k.replies h.replies;
}

keeps_heads : (sizes : Sizes) (v x : TransferView) → HeadsAreBlocks sizes v → KeepsArrays v x → HeadsAreBlocks sizes x
keeps_heads sizes v x h k = record {
  announcements = rw k.announcements h.announcements;
  popped = rw k.popped h.popped;
  heads = rw k.heads h.heads;
  replies = rw k.replies h.replies;
}

-- before the draft has met an announcement
pub no_record : (processes : ℕ) (s : NextStep) → has_record s ≡ false → drafted_announcements processes s ≡ 0
no_record processes s e = grind arith

no_process : (s : NextStep) → has_record s ≡ false → heard_process s ≡ 0
no_process s e = grind arith

no_replies : (processes : ℕ) (x : TransferView) → drafted_announcements processes x.next ≡ 0 → RepliesDrafted processes x
no_replies processes x e = record { kept = λ o lt. absurd (omega arith); parity = λ o lt. absurd (omega arith) }

-- a view outside of a try's draft
pub leaves : (sizes : Sizes) (v x : TransferView) → 0 < sizes.processes → ViewDrafts sizes v → KeepsArrays v x → has_record x.next ≡ false
    → ViewDrafts sizes x
leaves sizes v x some h k e = record {
  room = keeps_room v x h.room k;
  fits = λ has. absurd (not_both (has_record x.next) e has);
  replies = no_replies sizes.processes x (no_record sizes.processes x.next e);
  heads = keeps_heads sizes v x h.heads k;
  among = rw (no_process x.next e) some;
}

-- a view whose draft begins
pub begins : (sizes : Sizes) (v x : TransferView) → 0 < sizes.processes → ViewDrafts sizes v → KeepsArrays v x
    → drafted_announcements sizes.processes x.next ≡ 0
    → heard_process x.next ≡ 0 → x.draft.base ≡ loaded_base x.loaded + overlay_length x.loaded → ViewDrafts sizes x
begins sizes v x some h k e f g = record {
  room = keeps_room v x h.room k;
  fits = λ has. omega arith;
  replies = no_replies sizes.processes x e;
  heads = keeps_heads sizes v x h.heads k;
  among = rw f some;
}

-- a view that keeps its draft
replies_stay : (processes : ℕ) (v x : TransferView) → RepliesDrafted processes v → x.draft ≡ v.draft
    → x.loaded.record_words ≡ v.loaded.record_words
    → drafted_announcements processes x.next ≤ drafted_announcements processes v.next
    → ((o : ℕ) → o < drafted_announcements processes x.next → get_or x.loaded.announcements o 0 ≡ get_or v.loaded.announcements o 0)
    → RepliesDrafted processes x
replies_stay processes v x h e r le same = record {
  kept = λ o lt none. rw (e, r) (h.kept o (omega arith) (rw (r, same o lt) at none));
  parity = λ o lt. rw (e, same o lt) (h.parity o (omega arith));
}

-- a view that keeps its draft and what it loaded keeps the part draft of a try
pub goes_on : (sizes : Sizes) (v x : TransferView) → ViewDrafts sizes v → x.draft ≡ v.draft → x.loaded.record_words ≡ v.loaded.record_words
    → x.loaded.announcements ≡ v.loaded.announcements → x.loaded.popped ≡ v.loaded.popped
    → has_record v.next ≡ true → drafted_announcements sizes.processes x.next ≤ drafted_announcements sizes.processes v.next
    → heard_process x.next < sizes.processes
    → ViewDrafts sizes x
goes_on sizes v x h e r a p has le among =
    let k : KeepsArrays v x =
    record {
      record_words = rw r h.room.record_words;
      announcements = a;
      popped = p;
      heads = ap (λ draft. draft.heads) e;
      replies = ap (λ draft. draft.replies) e;
    } in
    record {
      room = keeps_room v x h.room k;
      fits = λ now. rw (e, r) (h.fits has);
      replies = replies_stay sizes.processes v x h.replies e r le (λ o lt. ap (λ xs. get_or xs o 0) a);
      heads = keeps_heads sizes v x h.heads k;
      among = among;
    }

-- a view that waits for a slot
pub below_apart : (j n : ℕ) → j < n → j ≢ n
below_apart j n lt e = absurd (omega arith)

-- so does a view that loaded a take's announcement and loads the popped slot next
pub waits : (sizes : Sizes) (v : TransferView) (second : Bool) (process word : ℕ) → sizes.processes ≤ 32 → ViewDrafts sizes v
    → v.next ≡ Try second (LoadAnnouncement process) → value_of word ≤ blocks sizes
    → ViewDrafts sizes (record v {
      loaded = record v.loaded { announcements = set v.loaded.announcements process word };
      next = Try second (LoadPoppedSlot process);
    })
waits sizes v second process word few h e block =
    let among : process < sizes.processes = rw e at h.among in
    let x : TransferView =
    record v {
      loaded = record v.loaded { announcements = set v.loaded.announcements process word };
      next = Try second (LoadPoppedSlot process);
    } in
    record {
      room =
          record {
            record_words = h.room.record_words;
            announcements = length-set v.loaded.announcements process word
                ∙ h.room.announcements;
            popped = h.room.popped;
            heads = h.room.heads;
            replies = h.room.replies;
          };
      fits = λ now. h.fits (rw e refl);
      replies =
          replies_stay sizes.processes v x h.replies refl refl (rw e (omega arith))
          (λ o lt. get_or-set_other v.loaded.announcements process o word 0 (below_apart o process lt));
      heads = record {
        announcements =
            set_each (λ y. value_of y ≤ blocks sizes) v.loaded.announcements process word
            (omega (arith, h.room.announcements)) block h.heads.announcements;
        popped = h.heads.popped;
        heads = h.heads.heads;
        replies = h.heads.replies;
      };
      among = among;
    }

-- what follows an announcement
pub after_drafted : (sizes : Sizes) (process : ℕ) → drafted_in_try sizes.processes (after_heard sizes process) ≡ process + 1
after_drafted sizes process = elim (cases_eq (process + 1) sizes.processes) [
  | inl last ↦ (let test : (process + 1 == sizes.processes) ≡ true = grind (arith, nat_tests) in rw test (sym last))
  | inr more ↦ (let test : (process + 1 == sizes.processes) ≡ false = grind (arith, nat_tests) in rw test refl)
]

after_among : (sizes : Sizes) (process : ℕ) → process < sizes.processes → heard_process_in_try (after_heard sizes process) < sizes.processes
after_among sizes process lt = elim (cases_eq (process + 1) sizes.processes) [
  | inl last ↦ (let test : (process + 1 == sizes.processes) ≡ true = grind (arith, nat_tests) in rw test (omega arith))
  | inr more ↦ (let test : (process + 1 == sizes.processes) ≡ false = grind (arith, nat_tests) in rw test (omega arith))
]

-- the replies once an announcement is applied
applied_replies : (processes : ℕ) (loaded : Loaded) (process word popped n : ℕ) (draft : TryDraft) (x : TransferView)
    → length draft.replies ≡ 32 → process < 32
    → n ≡ process + 1
    → drafted_announcements processes x.next ≡ n
    → x.draft ≡ after_announcement processes loaded process word popped draft → x.loaded.record_words ≡ loaded.record_words
    → ((o : ℕ) → o < process → get_or x.loaded.announcements o 0 ≡ get_or loaded.announcements o 0)
    → get_or x.loaded.announcements process 0 ≡ word
    → FitsReply (wish_reply loaded popped draft (announced_wish word))
    → ((o : ℕ) → o < process → is_pending (get_or loaded.announcements o 0) (loaded_reply processes loaded o) ≡ false
    → get_or draft.replies o 0 ≡ loaded_reply processes loaded o)
    → ((o : ℕ) → o < process → is_odd_reply (get_or draft.replies o 0) ≡ is_odd_transfer (get_or loaded.announcements o 0))
    → RepliesDrafted processes x
applied_replies processes loaded process word popped n draft x room low en ep e r same here answer kept parity = record {
  kept = λ o lt none. elim (cases_eq o process) [
    | inl at ↦ rw (e, r, at) (announced_kept processes loaded process word popped draft (omega arith) (rw (r, at, here) at none))
    | inr ne ↦
        rw (e, r, announced_others processes loaded process word popped o draft ne)
        (kept o (omega arith) (rw (r, same o (omega arith)) at none))
  ];
  parity = λ o lt. elim (cases_eq o process) [
    | inl at ↦ rw (e, at, here) (announced_parity processes loaded process word popped draft (omega arith) answer)
    | inr ne ↦ rw (e, announced_others processes loaded process word popped o draft ne, same o (omega arith)) (parity o (omega arith))
  ];
}

-- a view that applies an announcement
pub applies : (sizes : Sizes) (v : TransferView) (second : Bool) (loaded : Loaded) (process word popped : ℕ) → sizes.processes ≤ 32
    → blocks sizes ≤ most_blocks
    → ViewDrafts sizes v
    → has_record v.next ≡ true → drafted_announcements sizes.processes v.next ≡ process → process < sizes.processes
    → v.draft.overlay ≤ process
    → LoadedFits sizes v.loaded → popped < blocks sizes → value_of word ≤ blocks sizes → loaded.record_words ≡ v.loaded.record_words
    → length loaded.announcements ≡ 32
    → length loaded.popped ≡ 32
    → ((k : ℕ) → value_of (get_or loaded.announcements k 0) ≤ blocks sizes) → ((k : ℕ) → value_of (get_or loaded.popped k 0) < blocks sizes)
    → ((o : ℕ) → o < process → get_or loaded.announcements o 0 ≡ get_or v.loaded.announcements o 0)
    → get_or loaded.announcements process 0 ≡ word
    → ViewDrafts sizes (record v {
      loaded = loaded;
      next = Try second (after_heard sizes process);
      draft = after_announcement sizes.processes v.loaded process word popped v.draft;
    })
applies sizes v second loaded process word popped few small h has met among over fits block value r ra rp ha hp same here =
    let x : TransferView =
    record v {
      loaded = loaded;
      next = Try second (after_heard sizes process);
      draft = after_announcement sizes.processes v.loaded process word popped v.draft;
    } in
    let low = h.fits has in
    let answer = answer_fits sizes v.loaded popped v.draft (announced_wish word) small fits block h.heads.heads low in
    let fine : DraftIsFine sizes x.draft = announced_fine sizes sizes.processes v.loaded process word popped v.draft
    (record { room_heads = h.room.heads; room_replies = h.room.replies; heads = h.heads.heads; replies = h.heads.replies }) (omega arith)
    (omega arith)
    (wish_of_block sizes (value_of word) value) answer in
    let base = announced_base sizes.processes v.loaded process word popped v.draft in
    record {
      room =
          record {
            record_words = rw r h.room.record_words;
            announcements = ra;
            popped = rp;
            heads = fine.room_heads;
            replies = fine.room_replies;
          };
      fits = λ now. rw r (omega arith);
      replies =
          applied_replies sizes.processes v.loaded process word popped (process + 1) v.draft x h.room.replies (omega arith) refl
          (after_drafted sizes process) refl r same here answer
          (λ o lt. h.replies.kept o (rw met lt)) (λ o lt. h.replies.parity o (rw met lt));
      heads = record { announcements = ha; popped = hp; heads = fine.heads; replies = fine.replies };
      among = after_among sizes process among;
    }
