-- a process that makes transfers alone
use Rattle.std.proofs.Common.{◌≡◌, ℕ, ◌+◌, ◌*◌, ◌<◌, ◌≤◌, Bool, true, false, refl, ◌∙◌, ap, arith, rules}
use Rattle.std.specs.Prelude.{None}
use Rattle.word_layout.specs.Packing.{most_age}
use Rattle.word_layout.specs.Sizes.{Sizes, transfer_bound}
use Rattle.word_layout.specs.declared.announced.Wish.{Wish}
use Rattle.transfer_schedule.specs.Numbers.{is_idle, withheld}
use Rattle.transfer_schedule.specs.Table.{InTable}
use Rattle.transfer_schedule.specs.declared.pending.Pending.{Pending}
use Rattle.transfer_schedule.specs.declared.pending.Pending.TheVariants.{Taking, Giving}
use Rattle.transfer_schedule.proofs.Products.{times_le, times_two}
use Rattle.pool_machine.specs.Pools.{opening_view, view_begun, view_met, MayBegin}
use Rattle.pool_machine.specs.declared.call.CallStage.TheVariants.{Between}
use Rattle.pool_machine.specs.declared.call.Way.{Way}
use Rattle.pool_machine.specs.declared.call.Way.TheVariants.{Fresh, Alone, Calls}
use Rattle.transfer_machine.specs.declared.stage.NextStep.TheVariants.{Rest}
use Rattle.pool_machine.specs.declared.view.PoolView.{PoolView}
use Rattle.pool_machine.specs.declared.view.ProcessView.{ProcessView}
use Rattle.pool_machine.specs.Beginning.{alone_begun}
use Rattle.pool_machine.specs.Conditions.{MayMove}
use Rattle.pool_invariant.specs.Kept.{KeptAlone, GivenToPool}
use Rattle.pool_invariant.specs.Holds.{PoolAlone, PoolHolds}
use Rattle.pool_invariant.proofs.Steps.{step_holds}
use Rattle.history_invariant.specs.Ledger.{Ledger, opening_ledger}
use Rattle.call_invariant.specs.InCalls.{NothingEntered, IsFresh, InCalls}
use Rattle.call_invariant.specs.InTransfers.{InTransfers}
use Rattle.call_invariant.specs.Uses.{UsesPoolBy}
use Rattle.call_invariant.proofs.Standing.{runs_with_calls}
use Rattle.call_invariant.proofs.Begun.{runs_begun}

-- the opening
opened_pool : (sizes : Sizes) (i : ℕ) → PoolHolds sizes i (opening_view sizes i)
opened_pool sizes i = search rules

-- at the opening a process is between two calls, with the ledger of the opening
pub opening_calls : (sizes : Sizes) (i : ℕ)
    → InCalls sizes i (opening_view sizes i) (opening_ledger sizes.length (transfer_bound sizes) sizes.quantum)
opening_calls sizes i =
    let pool = opened_pool sizes i in
    record {
      way = λ e. cc;
      plan = refl;
      phase = refl;
      runs = pool.runs;
      heads = refl;
      announced = λ e. cc;
      stage = record {
        none = λ e. refl;
        changes = λ e. cc;
        pending = λ e. cc;
        few = λ e. cc;
        some = λ e. cc;
        searches = λ e. cc;
        rests = λ e. cc;
      };
      choice = λ e. cc;
      fresh = λ e. record { view = refl; nothing = record { account = refl; none = refl } };
    }

-- a process that has begun nothing, or transfers alone, begins one
alone_pool : (sizes : Sizes) (i : ℕ) (v : ProcessView) (wish : Wish) → PoolAlone sizes i v.pool → is_idle v.pool.plan.pending ≡ true
    → MayBegin wish v.pool → PoolAlone sizes i (view_begun wish v).pool
alone_pool sizes i v wish h idle may = search rules

alone_begins : (sizes : Sizes) (i : ℕ) (v : ProcessView) (wish : Wish) (g : Ledger) → PoolHolds sizes i v → NothingEntered sizes g
    → v.calls.stage ≡ Between → v.calls.call ≡ None
    → v.transfer.next ≡ Rest → MayBegin wish v.pool → v.transfer.age < most_age sizes
    → InTransfers sizes i (alone_begun wish v) g
alone_begins sizes i v wish g pool nothing stage none rest may young = record {
  way = refl;
  stage = stage;
  none = none;
  pool = record {
    runs = runs_with_calls sizes (view_begun wish v) (record v.calls { way = Alone }) (runs_begun sizes v wish pool.runs rest may young);
    alone = alone_pool sizes i v wish pool.alone (ap is_idle (pool.runs.kept.idle (rw rest refl))) may;
  };
  nothing = nothing;
}

fresh_begins : (sizes : Sizes) (i : ℕ) (v : ProcessView) (wish : Wish) (g : Ledger) → IsFresh sizes i v g → v.transfer.next ≡ Rest
    → MayBegin wish v.pool → v.transfer.age < most_age sizes
    → InTransfers sizes i (alone_begun wish v) g
fresh_begins sizes i v wish g f rest may young =
    alone_begins sizes i v wish g (rw f.view (opened_pool sizes i)) f.nothing (ap (λ x. x.calls.stage) f.view)
    (ap (λ x. x.calls.call) f.view) rest may young

-- a transfer that begins outside any call is one of a process that moves alone
pub moves_alone : (sizes : Sizes) (i : ℕ) (v : ProcessView) (wish : Wish) (g : Ledger) (way : Way) → v.calls.way ≡ way
    → UsesPoolBy way sizes i v g → MayMove v → v.transfer.next ≡ Rest
    → MayBegin wish v.pool → v.transfer.age < most_age sizes
    → InTransfers sizes i (alone_begun wish v) g
moves_alone sizes i v wish g Fresh e h moves rest may young = fresh_begins sizes i v wish g (h.fresh e) rest may young
moves_alone sizes i v wish g Alone e h moves rest may young = alone_begins sizes i v wish g h.pool h.nothing h.stage h.none rest may young
moves_alone sizes i v wish g Calls e h moves rest may young = grind arith

-- a step of such a transfer
pub transfers_step : (sizes : Sizes) (i : ℕ) (v : ProcessView) (word : ℕ) (g : Ledger) → InTransfers sizes i v g → 1 ≤ sizes.processes
    → GivenToPool sizes v.transfer word
    → InTransfers sizes i (view_met sizes v word) g
transfers_step sizes i v word g h some given = record {
  way = h.way;
  stage = h.stage;
  none = h.none;
  pool = step_holds sizes i v word v.transfer.next refl some h.pool given.few given.answers;
  nothing = h.nothing;
}

-- the plan of transfers alone is within the table, and withholds at most three batches
pub kept_in_table : (sizes : Sizes) (i : ℕ) (v : ProcessView) → PoolHolds sizes i v → InTable v.pool.plan
kept_in_table sizes i v h =
    let busy : (p : Pending) → is_idle p ≡ false → v.pool.plan.pending ≡ p → v.pool.plan.spares ≤ 1 =
    λ p e is. h.alone.full.busy (ap is_idle is ∙ e) in
    let taking : v.pool.plan.pending ≡ Taking → v.pool.plan.spares ≤ 1 = busy Taking refl in
    let giving : v.pool.plan.pending ≡ Giving → v.pool.plan.spares ≤ 1 = busy Giving refl in
    record {
      room = rw h.runs.kept.batch h.runs.kept.room;
      idle = h.alone.spares.idle;
      take = h.alone.spares.taking;
      take_late = λ e two. absurd (let one = taking e in omega arith);
      give = λ e. let one = giving e in omega arith;
      give_late = λ e three. absurd (let one = giving e in omega arith);
    }

-- a process that moves alone withholds at most five batches too
pub withholds_three : (sizes : Sizes) (i : ℕ) (x : PoolView) → x.plan.length ≡ sizes.length → KeptAlone sizes i x
    → withheld x.plan ≤ 5 * sizes.length
withholds_three sizes i x e h = by_pending (is_idle x.plan.pending) refl
  where
    few : (l s more : ℕ) → l * s ≤ l * 2 → l * 2 ≡ l + l → more ≤ l → l + l * s + more ≤ 5 * l
    few l s more le two most = omega arith

    by_pending : (t : Bool) → is_idle x.plan.pending ≡ t → withheld x.plan ≤ 5 * sizes.length
    by_pending true idle =
        rw (idle, h.full, e)
        (few sizes.length x.plan.spares 0 (times_le sizes.length x.plan.spares 2 (h.resting idle)) (times_two sizes.length) (omega arith))
    by_pending false busy =
        rw (busy, h.full, e)
        (few sizes.length x.plan.spares sizes.length (times_le sizes.length x.plan.spares 2 (let one = h.busy busy in omega arith))
        (times_two sizes.length) (omega arith))
