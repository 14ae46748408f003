-- a process that goes on with a call or a transfer alone, or begins one, has a next step
use Rattle.std.proofs.Common.{◌≡◌, Bool, true, false, refl, arith}
use Rattle.std.specs.Prelude.{if◌then◌else◌}
use Rattle.word_layout.specs.declared.announced.Wish.{Wish}
use Rattle.transfer_schedule.specs.Numbers.{is_idle}
use Rattle.transfer_machine.specs.Stages.{is_rest}
use Rattle.pool_machine.specs.Beginning.{alone_begun, search_begun_by, call_begun, before_call}
use Rattle.pool_machine.specs.declared.call.CallStage.{CallStage}
use Rattle.interleaving_core.specs.Moves.{started_at, started}
use Rattle.pool_machine.specs.Conditions.{may_use_transfers}
use Rattle.pool_machine.specs.declared.call.Call.{Call}
use Rattle.pool_machine.specs.declared.call.Call.TheVariants.{Allocate, Free, Read, Write, Search}
use Rattle.pool_machine.specs.declared.call.CallStage.TheVariants.{Between, Choosing, Moving, Own}
use Rattle.pool_machine.specs.declared.call.Way.{Way}
use Rattle.pool_machine.specs.declared.call.Way.TheVariants.{Fresh, Alone, Calls}
use Rattle.pool_machine.specs.declared.view.ProcessView.{ProcessView}
use Rattle.interleaving_core.specs.Steps.{is_alone, is_busy, is_at_step}

-- one that makes transfers alone, and goes on or begins with this wish
pub moving_busy : (wish : Wish) (v : ProcessView) (way : Way) (t : Bool) → v.calls.way ≡ way
    → (way ≡ Fresh → is_rest v.transfer.next ≡ true)
    → is_rest v.transfer.next ≡ t → may_use_transfers way ≡ true → is_busy (if t then alone_begun wish v else v) ≡ true
moving_busy wish v way true e fresh rest may = refl
moving_busy wish v Fresh false e fresh rest may = let h = fresh refl in grind arith
moving_busy wish v Alone false e fresh rest may = rw (e, rest) refl
moving_busy wish v Calls false e fresh rest may = grind arith

-- one that begins a call
pub first_inside : (t : Bool) → is_at_step (if t then Own else Moving) ≡ true
first_inside true = refl
first_inside false = refl

-- a call that has begun has begun its next step
pub begun_in_call : (call : Call) (v : ProcessView) → is_at_step (call_begun call v).calls.stage ≡ true
begun_in_call Allocate v = first_inside (is_idle (before_call v).pool.plan.pending)
begun_in_call (Free block) v = first_inside (is_idle (before_call v).pool.plan.pending)
begun_in_call (Read block index) v = refl
begun_in_call (Write block index value) v = refl
begun_in_call Search v = searching (is_idle v.pool.plan.pending)
  where
    searching : (t : Bool) → is_at_step (search_begun_by t v).calls.stage ≡ true
    searching true = first_inside (is_idle (before_call v).pool.plan.pending)
    searching false = refl

-- and its process makes no transfers alone
pub begun_calls : (call : Call) (v : ProcessView) → is_alone (call_begun call v).calls.way ≡ false
begun_calls Allocate v = refl
begun_calls (Free block) v = refl
begun_calls (Read block index) v = refl
begun_calls (Write block index value) v = refl
begun_calls Search v = searching (is_idle v.pool.plan.pending)
  where
    searching : (t : Bool) → is_alone (search_begun_by t v).calls.way ≡ false
    searching true = refl
    searching false = refl

begun_busy : (call : Call) (v : ProcessView) → is_busy (call_begun call v) ≡ true
begun_busy call v = rw (begun_calls call v) (begun_in_call call v)

started_busy : (call : Call) (v : ProcessView) (stage : CallStage) → is_busy (started_at stage call v) ≡ true
started_busy call v Between = begun_busy call v
started_busy call v Choosing = first_inside (is_idle (before_call v).pool.plan.pending)
started_busy call v Moving = begun_busy call v
started_busy call v Own = begun_busy call v

-- and one that goes on with its call, or begins this one
pub calling_busy : (call : Call) (v : ProcessView) (way : Way) (t : Bool) → v.calls.way ≡ way
    → (way ≡ Alone → is_at_step v.calls.stage ≡ false)
    → is_at_step v.calls.stage ≡ t → is_busy (if t then v else started call v) ≡ true
calling_busy call v Fresh true e alone inside = rw (e, inside) refl
calling_busy call v Alone true e alone inside = let h = alone refl in grind arith
calling_busy call v Calls true e alone inside = rw (e, inside) refl
calling_busy call v way false e alone inside = started_busy call v v.calls.stage
