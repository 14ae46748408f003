-- what a process keeps for its pool, and what of it stays while it makes transfers alone, outside any call
use Rattle.std.specs.Prelude.{◌≡◌, ℕ, ◌+◌, ◌*◌, ◌<◌, ◌≤◌, true, false, length}
use Rattle.word_layout.specs.Sizes.{Sizes, transfer_bound}
use Rattle.word_layout.specs.Packing.{most_age, wish_code, value_of, reply_of}
use Rattle.word_layout.specs.declared.announced.Wish.{Wish}
use Rattle.word_layout.specs.declared.announced.Wish.TheVariants.{Take, Give}
use Rattle.word_layout.specs.declared.reply.Reply.{Reply}
use Rattle.word_layout.specs.declared.reply.Reply.TheVariants.{Nothing, Took, Gave}
use Rattle.transfer_schedule.specs.Numbers.{is_idle}
use Rattle.transfer_schedule.specs.declared.pending.Pending.TheVariants.{Idle, Taking, Giving}
use Rattle.pool_machine.specs.Pools.{pending_of}
use Rattle.transfer_machine.specs.declared.transfer.TransferView.{TransferView}
use Rattle.pool_machine.specs.declared.view.PoolView.{PoolView}
use Rattle.pool_machine.specs.declared.view.ProcessView.{ProcessView}
use Rattle.transfer_machine.specs.declared.stage.NextStep.TheVariants.{LoadReply}
use Rattle.transfer_invariant.specs.Progress.{is_moving, has_only_begun}
use Rattle.pool_invariant.specs.StepCount.{OverlayIsFew}

-- the plan has the sizes of the shape; it counts steps only of the pending transfer, which is what the process wishes; the head of a
-- begun give is kept until its announcement
pub record PoolKept (sizes : Sizes) (v : ProcessView) : Type 0 where
  pub batch : v.pool.plan.length ≡ sizes.length
  pub bound : v.pool.plan.bound ≡ transfer_bound sizes
  pub quantum : v.pool.plan.quantum ≡ sizes.quantum
  pub room : v.pool.plan.current ≤ sizes.length
  pub idle : is_moving v.transfer.next ≡ false → v.pool.plan.pending ≡ Idle
  pub none : is_moving v.transfer.next ≡ false → v.pool.plan.done ≡ 0
  pub pending : is_moving v.transfer.next ≡ true → v.pool.plan.pending ≡ pending_of v.transfer.wish
  pub given : has_only_begun v.transfer.next ≡ true → v.pool.giving ≡ wish_code v.transfer.wish
  pub settled : has_only_begun v.transfer.next ≡ false → v.pool.giving ≡ 0

-- each spare has its head; there are at most three, and at most two while a transfer is pending
pub record SparesKept (pool : PoolView) : Type 0 where
  pub heads : length pool.heads ≡ pool.plan.spares
  pub idle : pool.plan.pending ≡ Idle → pool.plan.spares ≤ 3
  pub taking : pool.plan.pending ≡ Taking → pool.plan.spares ≤ 2
  pub giving : pool.plan.pending ≡ Giving → pool.plan.spares ≤ 2

-- of transfers alone: the current list is the full one of the opening; there are at most two spares, and at most one while a transfer
-- is pending
pub record KeptAlone (sizes : Sizes) (process : ℕ) (pool : PoolView) : Type 0 where
  pub full : pool.plan.current ≡ sizes.length
  pub first : pool.head ≡ 2 * process * sizes.length + 1
  pub resting : is_idle pool.plan.pending ≡ true → pool.plan.spares ≤ 2
  pub busy : is_idle pool.plan.pending ≡ false → pool.plan.spares ≤ 1

-- the age is within its limit, and a transfer is begun only below it
pub record AgeFits (sizes : Sizes) (v : TransferView) : Type 0 where
  pub most : v.age ≤ most_age sizes
  pub below : has_only_begun v.next ≡ true → v.age < most_age sizes

-- a reply that answers a wish: a take gets nothing or a batch, a give is always made
abbrev pub Answers : Wish → Reply → Type 0
Answers Take Nothing = Unit {0}
Answers Take (Took head) = Unit {0}
Answers Take Gave = ⊥
Answers (Give head) Nothing = ⊥
Answers (Give head) (Took batch) = ⊥
Answers (Give head) Gave = Unit {0}

-- what the other parts of the machine give a step that meets this word: an overlay has at most a head a process, and the own reply
-- answers the own wish
pub record GivenToPool (sizes : Sizes) (v : TransferView) (word : ℕ) : Type 0 where
  pub few : OverlayIsFew sizes v
  pub answers : v.next ≡ LoadReply → Answers v.wish (reply_of (value_of word))
