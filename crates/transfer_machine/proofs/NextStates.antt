-- the draft of the loaded words is the next state
use Rattle.std.proofs.Common.{◌≡◌, ◌≢◌, ℕ, zero, suc, ◌+◌, ◌-◌, ◌<◌, ◌≤◌, ◌==◌, Bool, true, false, refl, sym, ◌∙◌}
use Rattle.std.proofs.Common.{ap, inl, inr, arith, length, get_or, set, get_or-set_same, get_or-set_other}
use Rattle.std.specs.Prelude.{if◌then◌else◌, nat_lt, ◌&&◌}
use Rattle.std.proofs.lemmas.Bool.{cases_eq, cases_lt}
use Rattle.std.proofs.lemmas.Bool.Decides.{nat_tests}
use Rattle.word_layout.specs.Packing.{reply_value}
use Rattle.word_layout.specs.declared.reply.Reply.{Reply}
use Rattle.word_layout.specs.declared.announced.Wish.{Wish}
use Rattle.word_layout.specs.declared.announced.Wish.TheVariants.{Take, Give}
use Rattle.transfer_machine.specs.Loads.{loaded_base, loaded_reply, popped_head}
use Rattle.transfer_machine.specs.Tries.{granted, replied, wish_reply, take_reply, batch_below, announced_wish}
use Rattle.transfer_machine.specs.Tries.{is_pending, is_odd_transfer, is_take, takes_from_slot}
use Rattle.transfer_machine.specs.Drafted.{drafted}
use Rattle.transfer_machine.specs.States.{StackState, put, next_of, with_wish, with_taken, with_given, answer_to}
use Rattle.transfer_machine.specs.NextStates.{IsLoaded, PopsContent, HasContent, HasReplies, state_after, DraftsAreNextStates}
use Rattle.transfer_machine.specs.declared.loaded.Loaded.{Loaded}
use Rattle.transfer_machine.specs.declared.try_draft.TryDraft.{TryDraft}
use Rattle.transfer_machine.proofs.Drafts.{drafted_room, drafted_replies, drafted_few, granted_replies}

-- a value that is put is read, and the others stay
pub put_here : (i x : ℕ) (f : ℕ → ℕ) → put i x f i ≡ x
put_here i x f = grind (arith, nat_tests)

-- and the values of all others stay
pub put_away : (i x k : ℕ) (f : ℕ → ℕ) → k ≢ i → put i x f k ≡ f k
put_away i x k f ne = grind (arith, nat_tests)

-- a give
given_above : (head : ℕ) (draft : TryDraft) (s t : StackState) → HasContent draft s t → length draft.heads ≡ 32 → draft.overlay < 32
    → (x : ℕ) → x < draft.overlay + 1
    → put t.height head t.content (draft.base + x) ≡ get_or (set draft.heads draft.overlay head) x 0
given_above head draft s t h room o x lt = elim (cases_eq x draft.overlay) [
  | inl at ↦
      (let top : draft.base + draft.overlay ≡ t.height = sym h.height in
      rw (at, top, put_here t.height head t.content) (sym (get_or-set_same draft.heads draft.overlay head 0 (omega (arith, room)))))
  | inr apart ↦
      put_away t.height head (draft.base + x) t.content (λ e. apart (omega (arith, h.height))) ∙ h.above x (omega arith)
      ∙ sym (get_or-set_other draft.heads draft.overlay x head 0 apart)
]

given_content : (head : ℕ) (draft : TryDraft) (s t : StackState) → HasContent draft s t → length draft.heads ≡ 32 → draft.overlay < 32
    → HasContent (granted (Give head) draft) s (with_given head t)
given_content head draft s t h room o = record {
  base = h.base;
  height = omega (arith, h.height);
  within = h.within;
  below = λ x lt. put_away t.height head x t.content (λ e. absurd (omega (arith, h.height))) ∙ h.below x lt;
  above = λ x lt. given_above head draft s t h room o x lt;
}

-- a take, from the overlay or from below it
taken_over : (draft : TryDraft) (s t : StackState) → HasContent draft s t → 0 < draft.overlay
    → HasContent (record draft { overlay = draft.overlay - 1 }) s (with_taken t)
taken_over draft s t h some = record {
  base = grind (arith, nat_tests, h.base, h.height);
  height = omega (arith, h.height);
  within = h.within;
  below = h.below;
  above = λ x lt. h.above x (omega arith);
}

taken_below : (draft : TryDraft) (s t : StackState) → HasContent draft s t → draft.overlay ≡ 0
    → HasContent (record draft { base = draft.base - 1 }) s (with_taken t)
taken_below draft s t h none = record {
  base = grind (arith, nat_tests, h.base, h.height);
  height = omega (arith, h.height, none);
  within = omega (arith, h.within);
  below = λ x lt. h.below x (omega arith);
  above = λ x lt. absurd (omega (arith, none));
}

granted_content : (wish : Wish) (draft : TryDraft) (s t : StackState) → HasContent draft s t → length draft.heads ≡ 32 → draft.overlay < 32
    → HasContent (granted wish draft) s (with_wish wish t)
granted_content (Give head) draft s t h room o = given_content head draft s t h room o
granted_content Take draft s t h room o = elim (cases_lt 0 draft.overlay) [
  | inl some ↦ (let test : nat_lt 0 draft.overlay ≡ true = grind (arith, nat_tests) in rw test (taken_over draft s t h some))
  | inr none ↦ (let test : nat_lt 0 draft.overlay ≡ false = grind (arith, nat_tests) in rw test (taken_below draft s t h (omega arith)))
]

-- the batch below the working base is the state's
batch_same : (processes : ℕ) (loaded : Loaded) (popped : ℕ) (draft : TryDraft) (s t : StackState) → IsLoaded processes loaded s
    → HasContent draft s t → 0 < draft.base
    → (draft.base - 1 < loaded_base loaded → popped ≡ s.content (draft.base - 1))
    → batch_below loaded popped draft ≡ t.content (draft.base - 1)
batch_same processes loaded popped draft s t l h some pops = elim (cases_lt (draft.base - 1) (loaded_base loaded)) [
  | inl slot ↦
      (let test : nat_lt (draft.base - 1) (loaded_base loaded) ≡ true = grind (arith, nat_tests) in
      rw test (pops slot ∙ sym (h.below (draft.base - 1) (omega arith))))
  | inr over ↦ (let test : nat_lt (draft.base - 1) (loaded_base loaded) ≡ false = grind (arith, nat_tests) in
      let place : s.base + (draft.base - 1 - loaded_base loaded) ≡ draft.base - 1 = omega (arith, l.base) in
      rw test (l.overlay (draft.base - 1 - loaded_base loaded) (omega (arith, l.height, h.within)) ∙ ap s.content place
      ∙ sym (h.below (draft.base - 1) (omega arith))))
]

take_same : (processes : ℕ) (loaded : Loaded) (popped : ℕ) (draft : TryDraft) (s t : StackState) → IsLoaded processes loaded s
    → HasContent draft s t
    → (takes_from_slot loaded draft ≡ true → popped ≡ s.content (draft.base - 1))
    → take_reply loaded popped draft ≡ answer_to Take t
take_same processes loaded popped draft s t l h pops = elim (cases_lt 0 draft.overlay) [
  | inl some ↦ (let over : nat_lt 0 draft.overlay ≡ true = grind (arith, nat_tests) in
      let full : (t.height == 0) ≡ false = grind (arith, nat_tests, h.height) in
      let top : t.height - 1 ≡ draft.base + (draft.overlay - 1) = omega (arith, h.height) in
      rw (over, full, top, h.above (draft.overlay - 1) (omega arith)) refl)
  | inr none ↦ (let over : nat_lt 0 draft.overlay ≡ false = grind (arith, nat_tests) in elim (cases_lt 0 draft.base) [
    | inl some ↦ (let based : (draft.base == 0) ≡ false = grind (arith, nat_tests) in
        let full : (t.height == 0) ≡ false = grind (arith, nat_tests, h.height) in
        let top : t.height - 1 ≡ draft.base - 1 = omega (arith, h.height) in
        rw (over, based, full, top, batch_same processes loaded popped draft s t l h some (λ slot. pops (grind (arith, nat_tests)))) refl)
    | inr empty ↦ (let based : (draft.base == 0) ≡ true = grind (arith, nat_tests) in
        let none_left : (t.height == 0) ≡ true = grind (arith, nat_tests, h.height) in
        rw (over, based, none_left) refl)
  ])
]

-- a wish is answered as the state says
wish_same : (processes : ℕ) (loaded : Loaded) (popped : ℕ) (draft : TryDraft) (s t : StackState) (wish : Wish) → IsLoaded processes loaded s
    → HasContent draft s t
    → (is_take wish && takes_from_slot loaded draft ≡ true → popped ≡ s.content (draft.base - 1))
    → wish_reply loaded popped draft wish ≡ answer_to wish t
wish_same processes loaded popped draft s t Take l h pops = take_same processes loaded popped draft s t l h pops
wish_same processes loaded popped draft s t (Give head) l h pops = refl

-- a reply is noted in both
noted_met : (n x y : ℕ) (draft : TryDraft) (s t : StackState) → HasReplies n draft s t → length draft.replies ≡ 32 → n < 32 → x ≡ y
    → (i : ℕ) → i < n + 1
    → put n x t.reply i ≡ get_or (set draft.replies n y) i 0
noted_met n x y draft s t h room lt e i below = elim (cases_eq i n) [
  | inl at ↦ rw (at, put_here n x t.reply, e) (sym (get_or-set_same draft.replies n y 0 (omega (arith, room))))
  | inr apart ↦ put_away n x i t.reply apart ∙ h.met i (omega arith) ∙ sym (get_or-set_other draft.replies n i y 0 apart)
]

kept_met : (n y : ℕ) (draft : TryDraft) (s t : StackState) → HasReplies n draft s t → length draft.replies ≡ 32 → n < 32 → t.reply n ≡ y
    → (i : ℕ) → i < n + 1
    → t.reply i ≡ get_or (set draft.replies n y) i 0
kept_met n y draft s t h room lt e i below = elim (cases_eq i n) [
  | inl at ↦ rw at (e ∙ sym (get_or-set_same draft.replies n y 0 (omega (arith, room))))
  | inr apart ↦ h.met i (omega arith) ∙ sym (get_or-set_other draft.replies n i y 0 apart)
]

not_below : (n i : ℕ) → n + 1 ≤ i → i ≢ n
not_below n i le e = absurd (omega arith)

-- one more announcement: the draft and the state stay together
pub record Together (heard : ℕ) (draft : TryDraft) (s t : StackState) : Type 0 where
  pub content : HasContent draft s t
  pub replies : HasReplies heard draft s t

together_more : (b : Bool) (n value old : ℕ) (wish : Wish) (draft : TryDraft) (s t : StackState) → Together n draft s t
    → length draft.heads ≡ 32 → length draft.replies ≡ 32 → draft.overlay < 32 → n < 32
    → t.reply n ≡ old
    → (odd : Bool) (answer : Reply) → (b ≡ true → answer ≡ answer_to wish t)
    → Together (n + 1) (if b then replied n (reply_value odd answer) (granted wish draft) else replied n old draft) s
    (if b then record (with_wish wish t) {
      reply = put n (reply_value odd (answer_to wish t)) t.reply;
      applied = put n (t.applied n + 1) t.applied;
    } else t)
together_more true n value old wish draft s t h heads room few lt e odd answer same =
    let content = granted_content wish draft s t h.content heads few in record {
      content =
          record { base = content.base; height = content.height; within = content.within; below = content.below; above = content.above };
      replies = record {
        met =
            λ i below. rw (granted_replies wish draft) (noted_met n (reply_value odd (answer_to wish t))
            (reply_value odd answer) draft s t h.replies room lt (ap (reply_value odd) (sym (same refl))) i below);
        others = λ i le. put_away n (reply_value odd (answer_to wish t)) i t.reply (not_below n i le) ∙ h.replies.others i (omega arith);
      };
    }
together_more false n value old wish draft s t h heads room few lt e odd answer same = record {
  content =
      record {
        base = h.content.base;
        height = h.content.height;
        within = h.content.within;
        below = h.content.below;
        above = h.content.above;
      };
  replies =
      record { met = λ i below. kept_met n old draft s t h.replies room lt e i below; others = λ i le. h.replies.others i (omega arith) };
}

-- the answer of a pending announcement is the state's
pending_same : (b : Bool) (processes : ℕ) (loaded : Loaded) (popped : ℕ) (draft : TryDraft) (s t : StackState) (wish : Wish)
    → IsLoaded processes loaded s → HasContent draft s t
    → (b && (is_take wish && takes_from_slot loaded draft) ≡ true → popped ≡ s.content (draft.base - 1))
    → b ≡ true → wish_reply loaded popped draft wish ≡ answer_to wish t
pending_same true processes loaded popped draft s t wish l h pops e = wish_same processes loaded popped draft s t wish l h pops
pending_same false processes loaded popped draft s t wish l h pops e = grind arith

together_at : (processes : ℕ) (loaded : Loaded) (s : StackState) (heard : ℕ) → processes ≤ 32 → heard ≤ processes
    → IsLoaded processes loaded s → PopsContent processes loaded s
    → Together heard (drafted processes loaded heard) s (state_after loaded heard s)
unfolding drafted next_of
together_at processes loaded s zero few le l pops = record {
  content =
      record {
        base = sym l.height;
        height = omega (arith, l.height);
        within = omega (arith, l.height);
        below = λ x lt. refl;
        above = λ x lt. absurd (omega arith);
      };
  replies = record { met = λ i lt. absurd (omega arith); others = λ i le. refl };
}
together_at processes loaded s (suc k) few le l pops =
    let before : Together k (drafted processes loaded k) s (state_after loaded k s) =
    together_at processes loaded s k few (omega arith) l pops in
    let old : (state_after loaded k s).reply k ≡ loaded_reply processes loaded k =
    before.replies.others k (omega arith) ∙ sym (l.replies k (omega arith)) in
    let word : ℕ = get_or loaded.announcements k 0 in
    let one : suc k ≡ k + 1 = omega arith in
    rw (one, old)
    (together_more (is_pending word (loaded_reply processes loaded k)) k 0 (loaded_reply processes loaded k) (announced_wish word)
    (drafted processes loaded k) s (state_after loaded k s) before
    (drafted_room processes loaded k) (drafted_replies processes loaded k) (omega (arith, drafted_few processes loaded k)) (omega arith) old
    (is_odd_transfer word) (wish_reply loaded (popped_head loaded k) (drafted processes loaded k) (announced_wish word))
    (pending_same (is_pending word (loaded_reply processes loaded k)) processes loaded (popped_head loaded k) (drafted processes loaded k) s
    (state_after loaded k s) (announced_wish word) l before.content (pops k (omega arith))))

-- the draft is the next state
pub drafts_are_next_states : DraftsAreNextStates
drafts_are_next_states processes loaded s heard few le l pops =
    let both = together_at processes loaded s heard few le l pops in (both.content, both.replies)
