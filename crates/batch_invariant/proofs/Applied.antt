-- a pending transfer is applied: its batch goes from the process to the stack, or from the stack to the process
use Rattle.std.proofs.Common.{◌≡◌, ◌≢◌, ℕ, ◌+◌, ◌-◌, ◌<◌, ◌≤◌, ◌==◌, Bool, true, false, refl, sym, ap, ◌∙◌, inl, inr, arith, []}
use Rattle.std.specs.Prelude.{if◌then◌else◌}
use Rattle.std.proofs.lemmas.Bool.{cases_eq}
use Rattle.std.proofs.lemmas.Bool.Decides.{nat_tests}
use Rattle.std.proofs.lemmas.List.Sums.{sum_by-cons}
use Rattle.process_sums.specs.Sums.{total}
use Rattle.process_sums.proofs.Sums.{total_same, total_moved, total_more}
use Rattle.word_layout.specs.Sizes.{Sizes, most_blocks}
use Rattle.word_layout.specs.Packing.{reply_value, reply_of, FitsReply}
use Rattle.word_layout.specs.declared.announced.Wish.{Wish}
use Rattle.word_layout.specs.declared.announced.Wish.TheVariants.{Take, Give}
use Rattle.word_layout.specs.declared.reply.Reply.TheVariants.{Nothing, Took, Gave}
use Rattle.word_layout.proofs.Packed.{reply_of-reply_value}
use Rattle.transfer_machine.specs.States.{StackState, put, with_wish, answer_to}
use Rattle.transfer_machine.specs.Tries.{is_take}
use Rattle.transfer_machine.specs.declared.transfer.TransferView.{TransferView}
use Rattle.transfer_invariant.specs.Progress.{has_announced}
use Rattle.batch_invariant.specs.Places.{given, taken, moving}
use Rattle.batch_invariant.specs.Batches.{ProcessViews, ReplyMatches, weight}
use Rattle.batch_invariant.proofs.Moving.{moving_same_state, moving_pending, moving_applied}
use Rattle.batch_invariant.specs.Transit.{transit_weight, HeadsFit, Carried}
use Rattle.batch_invariant.proofs.Transit.{content_fits}

-- the state once a wish of a process is granted and answered
abbrev pub with_granted : ℕ → Bool → Wish → StackState → StackState
with_granted process odd wish s =
    record (with_wish wish s) {
      reply = put process (reply_value odd (answer_to wish s)) s.reply;
      applied = put process (s.applied process + 1) s.applied;
    }

-- the value put at a place is found there
pub put_here : (place value : ℕ) (values : ℕ → ℕ) → put place value values place ≡ value
put_here place value values = let test : (place == place) ≡ true = grind (arith, nat_tests) in rw test refl

-- and the values of all other places stay
pub put_elsewhere : (place value : ℕ) (values : ℕ → ℕ) (k : ℕ) → k ≢ place → put place value values k ≡ values k
put_elsewhere place value values k ne = let test : (k == place) ≡ false = grind (arith, nat_tests) in rw test refl

-- replies that fit
taken_fits : (t : Bool) (head : ℕ) → (t ≡ false → head < most_blocks) → FitsReply (if t then Nothing else Took head)
taken_fits true head h = tt
taken_fits false head h = h refl

-- where all heads of a content fit a word, so does the reply to any wish on it
pub answer_fits : (s : StackState) (wish : Wish) → ((place : ℕ) → place < s.height → s.content place < most_blocks)
    → FitsReply (answer_to wish s)
answer_fits s Take heads = taken_fits (s.height == 0) (s.content (s.height - 1)) (λ e. heads (s.height - 1) (not_empty s.height e))
  where
    not_empty : (n : ℕ) → (n == 0) ≡ false → n - 1 < n
    not_empty n e = grind (arith, nat_tests)
answer_fits s (Give head) heads = tt

-- the content and what was in transit before, the content and what is in transit after
content_weight : (ℕ → ℕ) → StackState → ℕ
content_weight f s = total s.height (λ k. f (s.content k))

take_moves : (f : ℕ → ℕ) (h : ℕ) (content : ℕ → ℕ) (t : Bool) → (h == 0) ≡ t
    → total (h - 1) (λ k. f (content k)) + weight f (taken Take (if t then Nothing else Took (content (h - 1))))
    ≡ total h (λ k. f (content k))
take_moves f h content true e = let empty : h ≡ 0 = grind (arith, nat_tests) in rw empty (omega arith)
take_moves f h content false e =
    let some : 1 ≤ h = grind (arith, nat_tests) in
    let last : (h - 1) + 1 ≡ h = omega arith in
    let more = rw last at (total_more (h - 1) (λ k. f (content k))) in omega (arith, more, sum_by-cons f (content (h - 1)) [])

give_moves : (f : ℕ → ℕ) (h : ℕ) (content : ℕ → ℕ) (head : ℕ)
    → total (h + 1) (λ k. f (put h head content k)) ≡ total h (λ k. f (content k)) + f head
give_moves f h content head = rw (total_more h (λ k. f (put h head content k)), put_here h head content)
    (ap (λ n. n + f head) (total_same h (λ k. f (content k)) (λ k. f (put h head content k))
    (λ k lt. ap f (put_elsewhere h head content k (λ e. omega arith)))))

wish_moves : (f : ℕ → ℕ) (s : StackState) (wish : Wish)
    → content_weight f (with_wish wish s) + weight f (taken wish (answer_to wish s)) ≡ content_weight f s + weight f (given wish)
unfolding content_weight
wish_moves f s Take = omega (arith, take_moves f s.height s.content (s.height == 0) refl)
wish_moves f s (Give head) = omega (arith, give_moves f s.height s.content head, sum_by-cons f head [])

-- replies match in two states that say the same of the process
pub same_matches : (s t : StackState) (i : ℕ) (v : TransferView) → t.reply i ≡ s.reply i → t.applied i ≡ s.applied i → ReplyMatches s i v
    → ReplyMatches t i v
same_matches s t i v er ea h = record { gave = λ a e w. rw er (h.gave a (rw ea at e) w); took = λ a e w. rw er (h.took a (rw ea at e) w) }

-- what is in transit by the process before and after, and by the others
module _ (sizes : Sizes) (s : StackState) (views : ProcessViews) (k : ℕ) (odd : Bool) (fits : HeadsFit sizes s views)
    (lk : k < sizes.processes)
    (announced : has_announced (views k).transfer.next ≡ true) (next : s.applied k + 1 ≡ (views k).transfer.age) where
  granted_applied : (with_granted k odd (views k).transfer.wish s).applied k ≡ (views k).transfer.age
  granted_applied = put_here k (s.applied k + 1) s.applied ∙ next

  granted_reply : reply_of ((with_granted k odd (views k).transfer.wish s).reply k) ≡ answer_to (views k).transfer.wish s
  granted_reply = ap reply_of (put_here k (reply_value odd (answer_to (views k).transfer.wish s)) s.reply)
      ∙ reply_of-reply_value odd (answer_to (views k).transfer.wish s)
      (answer_fits s (views k).transfer.wish (λ place lt. content_fits sizes s views place fits lt))

  moving_after : moving (with_granted k odd (views k).transfer.wish s) k (views k).transfer
      ≡ taken (views k).transfer.wish (answer_to (views k).transfer.wish s)
  moving_after = moving_applied (with_granted k odd (views k).transfer.wish s) k (views k).transfer announced granted_applied
      ∙ ap (taken (views k).transfer.wish) granted_reply

  moving_before : moving s k (views k).transfer ≡ given (views k).transfer.wish
  moving_before = moving_pending s k (views k).transfer announced (λ e. omega arith)

  others_stay : (o : ℕ) → o ≢ k → moving (with_granted k odd (views k).transfer.wish s) o (views o).transfer ≡ moving s o (views o).transfer
  others_stay o ne = moving_same_state s (with_granted k odd (views k).transfer.wish s) o (views o).transfer
      (put_elsewhere k (reply_value odd (answer_to (views k).transfer.wish s)) s.reply o ne)
      (put_elsewhere k (s.applied k + 1) s.applied o ne)

  granted_weight : (f : ℕ → ℕ)
      → transit_weight sizes (with_granted k odd (views k).transfer.wish s) views f ≡ transit_weight sizes s views f
  unfolding transit_weight content_weight
  granted_weight f =
      let t : StackState = with_granted k odd (views k).transfer.wish s in
      let all = total_moved sizes.processes k (λ o. weight f (moving s o (views o).transfer))
      (λ o. weight f (moving t o (views o).transfer)) lk (λ o lo ne. ap (weight f) (others_stay o ne)) in
      omega (arith, all, ap (weight f) moving_before, ap (weight f) moving_after, wish_moves f s (views k).transfer.wish)

  granted_matches : ReplyMatches (with_granted k odd (views k).transfer.wish s) k (views k).transfer
  granted_matches = record {
    gave = λ a e give. granted_reply ∙ gave_answer (views k).transfer.wish s give;
    took = λ a e take e2. took_answer (views k).transfer.wish s take (sym granted_reply ∙ e2);
  }
    where
      gave_answer : (wish : Wish) (s : StackState) → is_take wish ≡ false → answer_to wish s ≡ Gave
      gave_answer Take s e = absurd (grind arith)
      gave_answer (Give head) s e = refl

      took_either : (t : Bool) (head : ℕ) → (if t then Nothing else Took head) ≡ Gave → ⊥
      took_either true head e = cc
      took_either false head e = cc

      took_answer : (wish : Wish) (s : StackState) → is_take wish ≡ true → answer_to wish s ≡ Gave → ⊥
      took_answer Take s e g = took_either (s.height == 0) (s.content (s.height - 1)) g
      took_answer (Give head) s e g = absurd (grind arith)

  -- a granted and answered wish moves one batch between what is in transit and the content, and its reply matches
  pub granted_carried : Carried sizes s (with_granted k odd (views k).transfer.wish s) views
  granted_carried = record {
    same_weight = granted_weight;
    matches = λ o lo h. elim (cases_eq o k) [
      | inl e ↦ rw e granted_matches
      | inr ne ↦ same_matches s (with_granted k odd (views k).transfer.wish s) o (views o).transfer
          (put_elsewhere k (reply_value odd (answer_to (views k).transfer.wish s)) s.reply o ne)
          (put_elsewhere k (s.applied k + 1) s.applied o ne) h
    ];
  }
