-- beginnings and steps of a transfer keep the batches of their process
use Rattle.std.proofs.Common.{◌≡◌, ◌≢◌, ℕ, ◌+◌, ◌-◌, ◌≤◌, Bool, true, false, refl, sym, ap, ◌∙◌, List, [], length, take, take_all, arith}
use Rattle.std.specs.Prelude.{slice_index}
use Rattle.std.proofs.lemmas.List.Sums.{sum_by_push, sum_by-cons, sum_by_more}
use Rattle.word_layout.specs.Sizes.{Sizes}
use Rattle.word_layout.specs.Packing.{value_of, reply_of}
use Rattle.word_layout.specs.declared.announced.Wish.{Wish}
use Rattle.word_layout.specs.declared.announced.Wish.TheVariants.{Take, Give}
use Rattle.word_layout.specs.declared.reply.Reply.{Reply}
use Rattle.word_layout.specs.declared.reply.Reply.TheVariants.{Nothing, Took, Gave}
use Rattle.transfer_machine.specs.Machine.{met_at, begun}
use Rattle.transfer_machine.specs.States.{StackState}
use Rattle.transfer_machine.specs.Tries.{is_take}
use Rattle.transfer_machine.specs.declared.transfer.TransferView.{TransferView}
use Rattle.transfer_machine.specs.declared.stage.NextStep.{NextStep}
use Rattle.transfer_machine.specs.declared.stage.NextStep.TheVariants.{Rest, Announce, Try, LoadFinalState, LoadReply}
use Rattle.transfer_machine.specs.declared.stage.TryStep.TheVariants.{ExchangeState}
use Rattle.pool_machine.specs.Pools.{MayBegin, view_begun, pool_met_at, pool_ended, step_counted}
use Rattle.pool_machine.specs.declared.view.PoolView.{PoolView}
use Rattle.pool_machine.specs.declared.view.ProcessView.{ProcessView}
use Rattle.transfer_invariant.specs.Memory.{Moved}
use Rattle.transfer_invariant.specs.Progress.{has_announced, goes_on}
use Rattle.batch_invariant.specs.Places.{taken, brought}
use Rattle.batch_invariant.specs.Batches.{ProcessViews, MovedProcess, ReplyMatches, KeepsBatches, weight}
use Rattle.batch_invariant.specs.Premises.{InStep}
use Rattle.batch_invariant.proofs.Moving.{SameAnnouncement, moving_at_rest, moving_begun, moving_pending, moving_applied, moving_same_view}
use Rattle.batch_invariant.proofs.Going.{goes_on_announced, met_same_announcement}

-- of a process's view, its transfer's moves too
pub transfers_move : (i : ℕ) (x : ProcessView) (views after : ProcessViews) → MovedProcess i x views after
    → Moved i x.transfer (λ o. (views o).transfer) (λ o. (after o).transfer)
transfers_move i x views after moved =
    record { here = ap (λ v. v.transfer) moved.here; elsewhere = λ o ne. ap (λ v. v.transfer) (moved.elsewhere o ne) }

-- replies match a view that isn't in an announced transfer, and one whose transfer isn't applied
pub unannounced_matches : (s : StackState) (i : ℕ) (x : TransferView) → has_announced x.next ≡ false → ReplyMatches s i x
unannounced_matches s i x h = grind arith

unapplied_matches : (s : StackState) (i : ℕ) (x : TransferView) → s.applied i ≢ x.age → ReplyMatches s i x
unapplied_matches s i x h = grind arith

-- a view that goes on in its transfer, with the same spares
going_on_matches : (s : StackState) (i : ℕ) (v x : TransferView) → SameAnnouncement v x → ReplyMatches s i v → ReplyMatches s i x
going_on_matches s i v x g h = record {
  gave = λ a e t. h.gave g.was (rw (← g.age) e) (rw (← g.wish) t);
  took = λ a e t. h.took g.was (rw (← g.age) e) (rw (← g.wish) t);
}

goes_on_keeps : (s : StackState) (i : ℕ) (v x : ProcessView) → SameAnnouncement v.transfer x.transfer → x.pool.heads ≡ v.pool.heads
    → KeepsBatches s i v x
goes_on_keeps s i v x g heads = record {
  same_weight = λ f. rw (heads, moving_same_view s i v.transfer x.transfer g) refl;
  matches = going_on_matches s i v.transfer x.transfer g;
}

-- the announcement: the given batch stays in transit
announced_keeps : (s : StackState) (i : ℕ) (v x : ProcessView) → v.transfer.next ≡ Announce → s.applied i ≡ v.transfer.age
    → has_announced x.transfer.next ≡ true → x.transfer.wish ≡ v.transfer.wish → x.transfer.age ≡ v.transfer.age + 1
    → x.pool.heads ≡ v.pool.heads
    → KeepsBatches s i v x
announced_keeps s i v x begun calm announced wish age heads =
    let unapplied : s.applied i ≢ x.transfer.age = omega arith in
    record {
      same_weight = λ f. rw (heads, moving_pending s i x.transfer announced unapplied, wish, moving_begun s i v.transfer begun) refl;
      matches = λ h. unapplied_matches s i x.transfer unapplied;
    }

-- the end: the taken batch becomes a spare
ended_heads : (f : ℕ → ℕ) (reply : Reply) (pool : PoolView)
    → weight f (pool_ended reply pool).heads ≡ weight f pool.heads + weight f (brought reply)
ended_heads f Nothing pool = omega arith
ended_heads f (Took head) pool = omega (arith, sum_by_push f pool.heads head)
ended_heads f Gave pool = omega arith

brought_is_taken : (f : ℕ → ℕ) (wish : Wish) (reply : Reply) → (is_take wish ≡ false → reply ≡ Gave)
    → weight f (brought reply) ≡ weight f (taken wish reply)
brought_is_taken f Take reply h = refl
brought_is_taken f (Give head) reply h = rw (h refl) refl

reply_announced : (next : NextStep) → next ≡ LoadReply → has_announced next ≡ true
reply_announced next e = rw e refl

ended_keeps : (s : StackState) (i : ℕ) (v x : ProcessView) (reply : Reply) → v.transfer.next ≡ LoadReply → s.applied i ≡ v.transfer.age
    → reply_of (s.reply i) ≡ reply → ReplyMatches s i v.transfer → x.transfer.next ≡ Rest → x.pool ≡ pool_ended reply (step_counted v.pool)
    → KeepsBatches s i v x
ended_keeps s i v x reply last applied answer matches rest pool = let announced = reply_announced v.transfer.next last in record {
  same_weight = λ f. rw (
    pool,
    moving_at_rest s i x.transfer rest,
    moving_applied s i v.transfer announced applied,
    answer,
    ended_heads f reply (step_counted v.pool),
    brought_is_taken f v.transfer.wish reply (λ t. rw answer at (matches.gave announced applied t)),
  ) (omega arith);
  matches = λ h. unannounced_matches s i x.transfer (rw rest refl);
}

-- a give is answered as given, and a take never so
pub ends_answer : (s : StackState) (i : ℕ) (v : TransferView) (word : ℕ) → ReplyMatches s i v → InStep s i v word → v.next ≡ LoadReply
    → (is_take v.wish ≡ false → reply_of (value_of word) ≡ Gave) × (is_take v.wish ≡ true → reply_of (value_of word) ≢ Gave)
ends_answer s i v word matches step last = let announced = reply_announced v.next last in (
  λ t. ap reply_of (step.reply last) ∙ matches.gave announced (step.applied last) t,
  λ t e. matches.took announced (step.applied last) t (sym (ap reply_of (step.reply last)) ∙ e),
)

-- the step at each stage
trying_keeps : (sizes : Sizes) (s : StackState) (i : ℕ) (v : ProcessView) (word : ℕ) (stage : NextStep) → goes_on stage ≡ true
    → v.transfer.next ≡ stage
    → KeepsBatches s i v (record v { transfer = met_at sizes v.transfer word stage; pool = step_counted v.pool })
trying_keeps sizes s i v word stage g e =
    goes_on_keeps s i v (record v { transfer = met_at sizes v.transfer word stage; pool = step_counted v.pool })
    (met_same_announcement sizes v.transfer word stage g (rw e (goes_on_announced stage g))) refl

-- a step moves no batch out of those of its process, and the reply still matches
pub stage_keeps : (sizes : Sizes) (s : StackState) (i : ℕ) (v : ProcessView) (word : ℕ) (stage : NextStep) → v.transfer.next ≡ stage
    → InStep s i v.transfer word → ReplyMatches s i v.transfer
    → KeepsBatches s i v (record v { transfer = met_at sizes v.transfer word stage; pool = pool_met_at word v.pool stage })
stage_keeps sizes s i v word Rest e h matches = record { same_weight = λ f. refl; matches = λ m. m }
stage_keeps sizes s i v word Announce e h matches =
    announced_keeps s i v (record v { transfer = met_at sizes v.transfer word Announce; pool = pool_met_at word v.pool Announce }) e
    (h.calm (rw e refl)) refl refl refl refl
stage_keeps sizes s i v word (Try second step) e h matches = trying_keeps sizes s i v word (Try second step) refl e
stage_keeps sizes s i v word LoadFinalState e h matches = trying_keeps sizes s i v word LoadFinalState refl e
stage_keeps sizes s i v word LoadReply e h matches =
    ended_keeps s i v (record v { transfer = met_at sizes v.transfer word LoadReply; pool = pool_met_at word v.pool LoadReply })
    (reply_of (value_of word)) e (h.applied e) (ap reply_of (sym (h.reply e))) matches refl refl

-- a view that exchanges the state is in step with whatever state is there
pub exchange_in_step : (s : StackState) (i : ℕ) (v : TransferView) (word : ℕ) (second : Bool) → v.next ≡ Try second ExchangeState
    → InStep s i v word
exchange_in_step s i v word second e = record { calm = λ h. absurd (grind arith); reply = λ last. absurd cc; applied = λ last. absurd cc }

-- a beginning: the given batch leaves the spares and is in transit
pub spares_parted : (f : ℕ → ℕ) (heads : List ℕ) (head : ℕ) → 1 ≤ length heads → slice_index heads (length heads - 1) ≡ head
    → weight f (take (length heads - 1) heads) + f head ≡ weight f heads
spares_parted f heads head some e =
    let last : (length heads - 1) + 1 ≡ length heads = omega arith in
    let more = sum_by_more f heads (length heads - 1) 0 (omega arith) in
    let all : take ((length heads - 1) + 1) heads ≡ heads = rw last (take_all (length heads) heads (omega arith)) in
    let whole = rw (all, e) at more in omega (arith, whole)

-- nor does a beginning: the given batch leaves the spares and is in transit
pub begun_keeps : (s : StackState) (i : ℕ) (wish : Wish) (v : ProcessView) → v.transfer.next ≡ Rest → MayBegin wish v.pool
    → KeepsBatches s i v (view_begun wish v)
begun_keeps s i Take v rest may = record {
  same_weight = λ f. rw (moving_begun s i (begun Take v.transfer) refl, moving_at_rest s i v.transfer rest) refl;
  matches = λ h. unannounced_matches s i (begun Take v.transfer) refl;
}
begun_keeps s i (Give head) v rest may = record {
  same_weight = λ f. rw (moving_begun s i (begun (Give head) v.transfer) refl, moving_at_rest s i v.transfer rest)
      (omega (arith, spares_parted f v.pool.heads head may.0 may.2, sum_by-cons f head []));
  matches = λ h. unannounced_matches s i (begun (Give head) v.transfer) refl;
}
