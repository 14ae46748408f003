-- every step keeps the facts of the pool
use Rattle.std.proofs.Common.{◌≡◌, ℕ, ◌+◌, ◌≤◌, true, false, refl, arith}
use Rattle.word_layout.specs.Sizes.{Sizes}
use Rattle.word_layout.specs.Packing.{most_age, value_of, reply_of}
use Rattle.word_layout.specs.declared.announced.Wish.{Wish}
use Rattle.transfer_machine.specs.Loads.{overlay_length}
use Rattle.transfer_machine.specs.Machine.{met_at}
use Rattle.pool_machine.specs.Pools.{pool_met_at, step_counted, pending_of}
use Rattle.transfer_machine.specs.declared.transfer.TransferView.{TransferView}
use Rattle.pool_machine.specs.declared.view.PoolView.{PoolView}
use Rattle.pool_machine.specs.declared.view.ProcessView.{ProcessView}
use Rattle.transfer_machine.specs.declared.stage.NextStep.{NextStep}
use Rattle.transfer_machine.specs.declared.stage.NextStep.TheVariants.{Rest, Announce, Try, LoadFinalState, LoadReply}
use Rattle.transfer_invariant.specs.Progress.{has_record, is_moving, has_only_begun, goes_on}
use Rattle.pool_invariant.specs.StepCount.{steps_before_at}
use Rattle.pool_invariant.specs.Kept.{Answers, AgeFits}
use Rattle.pool_invariant.specs.Holds.{PoolRuns, PoolAlone, PoolHolds}
use Rattle.pool_invariant.proofs.Moved.{StaysIn, step_stays, step_indexed}
use Rattle.pool_invariant.proofs.Counted.{step_nearer}
use Rattle.pool_invariant.proofs.Pooled.{step_kept, step_spares, step_alone, end_kept, end_spares, end_alone}

-- one more step is within the steps before the next one
counts_on : (done before after : ℕ) → done ≤ before → before + 1 ≤ after → done + 1 ≤ after
counts_on done before after h k = omega arith

-- a step between the announcement and the reply
going_moving : (s : NextStep) → goes_on s ≡ true → is_moving s ≡ true
going_moving s e = grind arith

going_announced : (s : NextStep) → goes_on s ≡ true → has_only_begun s ≡ false
going_announced s e = grind arith

-- a step between the announcement and the reply only counts in the pool
pub going_pool : (pool : PoolView) (word : ℕ) (s : NextStep) → goes_on s ≡ true → pool_met_at word pool s ≡ step_counted pool
going_pool pool word s e = grind arith

going_age : (sizes : Sizes) (v x : TransferView) → AgeFits sizes v → StaysIn v x → AgeFits sizes x
going_age sizes v x h stays = grind arith

going_runs : (sizes : Sizes) (v : ProcessView) (word : ℕ) (s : NextStep) → v.transfer.next ≡ s → goes_on s ≡ true → 1 ≤ sizes.processes
    → PoolRuns sizes v
    → (has_record s ≡ true → overlay_length v.transfer.loaded ≤ sizes.processes)
    → PoolRuns sizes (record v { transfer = met_at sizes v.transfer word s; pool = pool_met_at word v.pool s })
going_runs sizes v word s e going some h few =
    let x = met_at sizes v.transfer word s in
    let stays = step_stays sizes v.transfer word s going in
    let moving = going_moving s going in
    let index = rw e at h.index in
    let counted : v.pool.plan.done ≤ steps_before_at sizes.processes s = rw e at h.counted moving in
    let none : v.pool.giving ≡ 0 = h.kept.settled (rw e (going_announced s going)) in
    rw (going_pool v.pool word s going) (record {
      kept = step_kept sizes v x v.pool.giving h.kept (rw e moving) stays.moving stays.announced stays.wish none;
      counted = λ after. counts_on v.pool.plan.done _ _ counted (step_nearer sizes v.transfer word s index few stays.moving moving);
      index = step_indexed sizes v.transfer word s e some index;
      age = going_age sizes v.transfer x h.age stays;
    })

going_alone : (sizes : Sizes) (i : ℕ) (pool : PoolView) (word : ℕ) (s : NextStep) → goes_on s ≡ true → PoolAlone sizes i pool
    → PoolAlone sizes i (pool_met_at word pool s)
going_alone sizes i pool word s going h =
    rw (going_pool pool word s going) (record {
      spares = step_spares pool pool.giving h.spares;
      full = step_alone sizes i pool pool.giving h.full;
    })

-- the announcement
announced_age : (sizes : Sizes) (v : TransferView) → AgeFits sizes v → v.next ≡ Announce → v.age + 1 ≤ most_age sizes
announced_age sizes v h e = let below = h.below (rw e refl) in omega arith

announced_runs : (sizes : Sizes) (v : ProcessView) (word : ℕ) → v.transfer.next ≡ Announce → PoolRuns sizes v
    → PoolRuns sizes (record v { transfer = met_at sizes v.transfer word Announce; pool = pool_met_at word v.pool Announce })
announced_runs sizes v word e h =
    let none : v.pool.plan.done ≤ 0 = rw e at h.counted refl in
    record {
      kept = step_kept sizes v (met_at sizes v.transfer word Announce) 0 h.kept (rw e refl) refl refl refl refl;
      counted = λ after. omega arith;
      index = tt;
      age = record { most = announced_age sizes v.transfer h.age e; below = λ after. grind arith };
    }

-- the reply
ended_runs : (sizes : Sizes) (v : ProcessView) (word : ℕ) → v.transfer.next ≡ LoadReply → PoolRuns sizes v
    → PoolRuns sizes (record v { transfer = met_at sizes v.transfer word LoadReply; pool = pool_met_at word v.pool LoadReply })
ended_runs sizes v word e h = record {
  kept = end_kept sizes v (met_at sizes v.transfer word LoadReply) (reply_of (value_of word)) h.kept (rw e refl) refl refl;
  counted = λ after. grind arith;
  index = tt;
  age = record { most = h.age.most; below = λ after. grind arith };
}

-- every step, whatever way the process uses its pool
pub step_runs : (sizes : Sizes) (v : ProcessView) (word : ℕ) (s : NextStep) → v.transfer.next ≡ s → 1 ≤ sizes.processes → PoolRuns sizes v
    → (has_record s ≡ true → overlay_length v.transfer.loaded ≤ sizes.processes)
    → PoolRuns sizes (record v { transfer = met_at sizes v.transfer word s; pool = pool_met_at word v.pool s })
step_runs sizes v word Rest e some h few = h
step_runs sizes v word Announce e some h few = announced_runs sizes v word e h
step_runs sizes v word (Try second step) e some h few = going_runs sizes v word (Try second step) e refl some h few
step_runs sizes v word LoadFinalState e some h few = going_runs sizes v word LoadFinalState e refl some h few
step_runs sizes v word LoadReply e some h few = ended_runs sizes v word e h

-- every step of a process that makes transfers alone
ended_alone : (sizes : Sizes) (i : ℕ) (pool : PoolView) (wish : Wish) (word : ℕ) → pool.plan.pending ≡ pending_of wish
    → Answers wish (reply_of (value_of word))
    → PoolAlone sizes i pool
    → PoolAlone sizes i (pool_met_at word pool LoadReply)
ended_alone sizes i pool wish word pending answers h = record {
  spares = end_spares pool wish (reply_of (value_of word)) answers pending h.spares;
  full = end_alone sizes i pool wish (reply_of (value_of word)) pending h.full;
}

alone_at : (sizes : Sizes) (i : ℕ) (pool : PoolView) (wish : Wish) (word : ℕ) (s : NextStep)
    → (s ≡ LoadReply → pool.plan.pending ≡ pending_of wish) → (s ≡ LoadReply → Answers wish (reply_of (value_of word)))
    → PoolAlone sizes i pool
    → PoolAlone sizes i (pool_met_at word pool s)
alone_at sizes i pool wish word Rest pending answers h = h
alone_at sizes i pool wish word Announce pending answers h =
    record { spares = step_spares pool 0 h.spares; full = step_alone sizes i pool 0 h.full }
alone_at sizes i pool wish word (Try second step) pending answers h = going_alone sizes i pool word (Try second step) refl h
alone_at sizes i pool wish word LoadFinalState pending answers h = going_alone sizes i pool word LoadFinalState refl h
alone_at sizes i pool wish word LoadReply pending answers h = ended_alone sizes i pool wish word (pending refl) (answers refl) h

-- whatever its next step, a process that makes transfers alone keeps what it must for its pool
pub step_holds : (sizes : Sizes) (i : ℕ) (v : ProcessView) (word : ℕ) (s : NextStep) → v.transfer.next ≡ s → 1 ≤ sizes.processes
    → PoolHolds sizes i v
    → (has_record s ≡ true → overlay_length v.transfer.loaded ≤ sizes.processes)
    → (s ≡ LoadReply → Answers v.transfer.wish (reply_of (value_of word)))
    → PoolHolds sizes i (record v { transfer = met_at sizes v.transfer word s; pool = pool_met_at word v.pool s })
step_holds sizes i v word s e some h few answers = record {
  runs = step_runs sizes v word s e some h.runs few;
  alone = alone_at sizes i v.pool v.transfer.wish word s (λ reply. h.runs.kept.pending (rw e (rw reply refl))) answers h.alone;
}
