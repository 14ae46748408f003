-- a process has at most one batch in transit, and none where nothing is pending
use Rattle.std.proofs.Common.{◌≡◌, ℕ, ◌+◌, ◌*◌, ◌≤◌, ◌==◌, Bool, true, false, ap, List, [], length, arith}
use Rattle.std.specs.Prelude.{if◌then◌else◌}
use Rattle.std.proofs.Math.Nat.{mul-le-mul_left}
use Rattle.word_layout.specs.Sizes.{Sizes}
use Rattle.word_layout.specs.Packing.{reply_of}
use Rattle.word_layout.specs.declared.announced.Wish.{Wish}
use Rattle.word_layout.specs.declared.announced.Wish.TheVariants.{Take, Give}
use Rattle.word_layout.specs.declared.reply.Reply.{Reply}
use Rattle.word_layout.specs.declared.reply.Reply.TheVariants.{Nothing, Took, Gave}
use Rattle.transfer_schedule.specs.Numbers.{is_idle, withheld}
use Rattle.transfer_machine.specs.States.{StackState}
use Rattle.transfer_machine.specs.declared.transfer.TransferView.{TransferView}
use Rattle.pool_machine.specs.declared.view.ProcessView.{ProcessView}
use Rattle.transfer_invariant.specs.Progress.{has_announced, has_only_begun}
use Rattle.batch_invariant.specs.Places.{given, taken, announced_batch, moving}
use Rattle.batch_invariant.proofs.Moving.{moving_at_rest}
use Rattle.chain_invariant.specs.Laws.{CountsItsBatches, kept_blocks}

given_one : (wish : Wish) → length (given wish) ≤ 1
given_one Take = omega arith
given_one (Give head) = omega arith

taken_one : (wish : Wish) (reply : Reply) → length (taken wish reply) ≤ 1
taken_one Take Nothing = omega arith
taken_one Take (Took head) = omega arith
taken_one Take Gave = omega arith
taken_one (Give head) reply = omega arith

either_one : (t : Bool) (xs ys : List ℕ) → length xs ≤ 1 → length ys ≤ 1 → length (if t then xs else ys) ≤ 1
either_one true xs ys hx hy = hx
either_one false xs ys hx hy = hy

announced_one : (s : StackState) (i : ℕ) (v : TransferView) → length (announced_batch s i v) ≤ 1
announced_one s i v =
    either_one (s.applied i == v.age) (taken v.wish (reply_of (s.reply i))) (given v.wish) (taken_one v.wish (reply_of (s.reply i)))
    (given_one v.wish)

moving_one : (s : StackState) (i : ℕ) (v : TransferView) → length (moving s i v) ≤ 1
unfolding moving
moving_one s i v = either_one (has_only_begun v.next) (given v.wish) (if has_announced v.next then announced_batch s i v else [])
    (given_one v.wish)
    (either_one (has_announced v.next) (announced_batch s i v) [] (announced_one s i v) (omega arith))

-- so it keeps what its plan says that it withholds
kept_idle : (l m current heads spares transit : ℕ) → m ≡ l → heads ≡ spares → transit ≡ 0
    → current + l * (heads + transit) ≤ current + m * spares + 0
kept_idle l m current heads spares transit size same none =
    rw (size, same, none) (let sum : spares + 0 ≡ spares = omega arith in rw sum (omega arith))

kept_pending : (l m current heads spares transit : ℕ) → m ≡ l → heads ≡ spares → transit ≤ 1
    → current + l * (heads + transit) ≤ current + m * spares + m
kept_pending l m current heads spares transit size same one =
    rw (size, same) (omega (arith, mul-le-mul_left {m = spares + transit} {n = spares + 1} l (omega arith), one_more l spares))
  where
    one_more : (l spares : ℕ) → l * (spares + 1) ≡ l * spares + l
    one_more l spares = omega arith

-- what a process keeps is at most what its plan withholds
pub kept_is_withheld : (sizes : Sizes) (s : StackState) (i : ℕ) (v : ProcessView) (t : Bool) → is_idle v.pool.plan.pending ≡ t
    → CountsItsBatches sizes v → kept_blocks sizes s i v ≤ withheld v.pool.plan
kept_is_withheld sizes s i v true e counts =
    rw e (kept_idle sizes.length v.pool.plan.length v.pool.plan.current (length v.pool.heads) v.pool.plan.spares
    (length (moving s i v.transfer)) counts.size counts.heads
    (ap length (moving_at_rest s i v.transfer (counts.idle e))))
kept_is_withheld sizes s i v false e counts =
    rw e (kept_pending sizes.length v.pool.plan.length v.pool.plan.current (length v.pool.heads) v.pool.plan.spares
    (length (moving s i v.transfer)) counts.size counts.heads
    (moving_one s i v.transfer))
