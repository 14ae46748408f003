-- what an announcement makes of a draft
use Rattle.std.proofs.Common.{◌≡◌, ◌≢◌, ℕ, ◌-◌, ◌<◌, ◌≤◌, Bool, true, false, refl, ◌∙◌, ap, arith}
use Rattle.std.proofs.Common.{length, get_or, get_or-set_same, get_or-set_other, length-set}
use Rattle.std.specs.Prelude.{if◌then◌else◌, nat_lt, not}
use Rattle.std.proofs.lemmas.Bool.Decides.{nat_tests}
use Rattle.word_layout.specs.Sizes.{Sizes, blocks}
use Rattle.word_layout.specs.Packing.{value_limit, reply_value, is_odd_reply, FitsReply}
use Rattle.word_layout.specs.declared.announced.Wish.{Wish}
use Rattle.word_layout.specs.declared.announced.Wish.TheVariants.{Take, Give}
use Rattle.word_layout.proofs.Packed.{reply_value_lt, is_odd_reply-reply_value}
use Rattle.transfer_machine.specs.Loads.{loaded_reply}
use Rattle.transfer_machine.specs.Tries.{granted, replied, after_announcement, is_pending, is_odd_transfer, announced_wish, wish_reply}
use Rattle.transfer_machine.specs.declared.loaded.Loaded.{Loaded}
use Rattle.transfer_machine.specs.declared.try_draft.TryDraft.{TryDraft}
use Rattle.transfer_machine.proofs.Drafts.{granted_replies}
use Rattle.transfer_invariant.specs.Laws.{WishIsBlock}
use Rattle.draft_invariant.proofs.Lists.{set_each, either}
use Rattle.draft_invariant.proofs.Wishes.{value_of_lt}

-- the arrays of a draft have room, and hold heads of blocks and replies
pub record DraftIsFine (sizes : Sizes) (draft : TryDraft) : Type 0 where
  pub room_heads : length draft.heads ≡ 32
  pub room_replies : length draft.replies ≡ 32
  pub heads : (k : ℕ) → get_or draft.heads k 0 < blocks sizes
  pub replies : (k : ℕ) → get_or draft.replies k 0 < value_limit

-- a wish that is granted
taken_fine : (sizes : Sizes) (draft : TryDraft) (b : Bool) → DraftIsFine sizes draft
    → DraftIsFine sizes (if b then record draft { overlay = draft.overlay - 1 } else record draft { base = draft.base - 1 })
taken_fine sizes draft true h = record { room_heads = h.room_heads; room_replies = h.room_replies; heads = h.heads; replies = h.replies }
taken_fine sizes draft false h = record { room_heads = h.room_heads; room_replies = h.room_replies; heads = h.heads; replies = h.replies }

granted_fine : (sizes : Sizes) (wish : Wish) (draft : TryDraft) → DraftIsFine sizes draft → draft.overlay < 32 → WishIsBlock sizes wish
    → DraftIsFine sizes (granted wish draft)
granted_fine sizes Take draft h few block = taken_fine sizes draft (nat_lt 0 draft.overlay) h
granted_fine sizes (Give head) draft h few block = record {
  room_heads = length-set draft.heads draft.overlay head ∙ h.room_heads;
  room_replies = h.room_replies;
  heads = set_each (λ x. x < blocks sizes) draft.heads draft.overlay head (omega (arith, h.room_heads)) block h.heads;
  replies = h.replies;
}

-- granting a wish never raises the drafted base
pub granted_base : (wish : Wish) (draft : TryDraft) → (granted wish draft).base ≤ draft.base
granted_base Take draft = grind (arith, nat_tests)
granted_base (Give head) draft = omega arith

-- a reply that is noted
replied_fine : (sizes : Sizes) (process reply : ℕ) (draft : TryDraft) → DraftIsFine sizes draft → process < 32 → reply < value_limit
    → DraftIsFine sizes (replied process reply draft)
replied_fine sizes process reply draft h lt fits = record {
  room_heads = h.room_heads;
  room_replies = length-set draft.replies process reply ∙ h.room_replies;
  heads = h.heads;
  replies = set_each (λ x. x < value_limit) draft.replies process reply (omega (arith, h.room_replies)) fits h.replies;
}

-- the announcement of one more process
pub announced_fine : (sizes : Sizes) (processes : ℕ) (loaded : Loaded) (process word popped : ℕ) (draft : TryDraft)
    → DraftIsFine sizes draft → draft.overlay < 32
    → process < 32
    → WishIsBlock sizes (announced_wish word) → FitsReply (wish_reply loaded popped draft (announced_wish word))
    → DraftIsFine sizes (after_announcement processes loaded process word popped draft)
announced_fine sizes processes loaded process word popped draft h few lt block answer =
    either TryDraft (DraftIsFine sizes) (is_pending word (loaded_reply processes loaded process)) _ _
    (replied_fine sizes process (reply_value (is_odd_transfer word) (wish_reply loaded popped draft (announced_wish word)))
    (granted (announced_wish word) draft) (granted_fine sizes (announced_wish word) draft h few block) lt
    (reply_value_lt (is_odd_transfer word) _ answer))
    (replied_fine sizes process (loaded_reply processes loaded process) draft h lt (value_of_lt _))

-- nor does an announcement, pending or not
pub announced_base : (processes : ℕ) (loaded : Loaded) (process word popped : ℕ) (draft : TryDraft)
    → (after_announcement processes loaded process word popped draft).base ≤ draft.base
announced_base processes loaded process word popped draft =
    either TryDraft (λ x. x.base ≤ draft.base) (is_pending word (loaded_reply processes loaded process)) _ _
    (granted_base (announced_wish word) draft) (omega arith)

-- what it replies to that process, and that it leaves the replies to the others
other_reply : (b : Bool) (process o x y : ℕ) (one other : TryDraft) → o ≢ process → one.replies ≡ other.replies
    → get_or (if b then replied process x one else replied process y other).replies o 0 ≡ get_or other.replies o 0
other_reply true process o x y one other ne e = get_or-set_other one.replies process o x 0 ne ∙ ap (λ xs. get_or xs o 0) e
other_reply false process o x y one other ne e = get_or-set_other other.replies process o y 0 ne

-- an announcement leaves the drafted replies to all other processes
pub announced_others : (processes : ℕ) (loaded : Loaded) (process word popped o : ℕ) (draft : TryDraft) → o ≢ process
    → get_or (after_announcement processes loaded process word popped draft).replies o 0 ≡ get_or draft.replies o 0
announced_others processes loaded process word popped o draft ne =
    other_reply (is_pending word (loaded_reply processes loaded process)) process o _ _ (granted (announced_wish word) draft) draft ne
    (granted_replies (announced_wish word) draft)

kept_reply : (b : Bool) (process x y : ℕ) (one other : TryDraft) → b ≡ false → process < length other.replies
    → get_or (if b then replied process x one else replied process y other).replies process 0 ≡ y
kept_reply true process x y one other e lt = grind arith
kept_reply false process x y one other e lt = get_or-set_same other.replies process y 0 lt

-- an announcement that isn't pending keeps its process's loaded reply
pub announced_kept : (processes : ℕ) (loaded : Loaded) (process word popped : ℕ) (draft : TryDraft) → process < length draft.replies
    → is_pending word (loaded_reply processes loaded process) ≡ false
    → get_or (after_announcement processes loaded process word popped draft).replies process 0 ≡ loaded_reply processes loaded process
announced_kept processes loaded process word popped draft lt e =
    kept_reply (is_pending word (loaded_reply processes loaded process)) process _ _ _ draft e lt

-- the reply has the announcement's parity
either_parity : (odd old : Bool) (process x y : ℕ) (one other : TryDraft) → process < length one.replies → process < length other.replies
    → is_odd_reply x ≡ odd
    → is_odd_reply y ≡ old
    → is_odd_reply (get_or (if (if odd then not old else old) then replied process x one else replied process y other).replies process 0)
    ≡ odd
either_parity true true process x y one other low lt ex ey = ap is_odd_reply (get_or-set_same other.replies process y 0 lt) ∙ ey
either_parity true false process x y one other low lt ex ey = ap is_odd_reply (get_or-set_same one.replies process x 0 low) ∙ ex
either_parity false true process x y one other low lt ex ey = ap is_odd_reply (get_or-set_same one.replies process x 0 low) ∙ ex
either_parity false false process x y one other low lt ex ey = ap is_odd_reply (get_or-set_same other.replies process y 0 lt) ∙ ey

-- after an announcement the drafted reply to its process has the announcement's parity
pub announced_parity : (processes : ℕ) (loaded : Loaded) (process word popped : ℕ) (draft : TryDraft) → process < length draft.replies
    → FitsReply (wish_reply loaded popped draft (announced_wish word))
    → is_odd_reply (get_or (after_announcement processes loaded process word popped draft).replies process 0) ≡ is_odd_transfer word
announced_parity processes loaded process word popped draft lt answer =
    let room : length (granted (announced_wish word) draft).replies ≡ length draft.replies =
    ap length (granted_replies (announced_wish word) draft) in
    either_parity (is_odd_transfer word) (is_odd_reply (loaded_reply processes loaded process)) process _ _
    (granted (announced_wish word) draft) draft (omega arith) lt
    (is_odd_reply-reply_value (is_odd_transfer word) (wish_reply loaded popped draft (announced_wish word)) answer) refl
