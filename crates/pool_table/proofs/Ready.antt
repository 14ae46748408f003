-- what the code needs of a seat's view to begin something
use Rattle.std.proofs.Common.{◌≡◌, ◌≢◌, Bool, true, false, refl, subst}
use Rattle.std.specs.Prelude.{if◌then◌else◌}
use Rattle.word_layout.specs.Sizes.{Sizes}
use Rattle.word_layout.specs.Names.{word_at}
use Rattle.word_layout.specs.Packing.{FitsWish}
use Rattle.word_layout.specs.declared.announced.Wish.{Wish}
use Rattle.transfer_schedule.specs.declared.pending.Pending.TheVariants.{Idle}
use Rattle.transfer_machine.specs.declared.stage.NextStep.TheVariants.{Rest}
use Rattle.pool_machine.specs.Pools.{MayBegin}
use Rattle.pool_machine.specs.Beginning.{call_begun}
use Rattle.pool_machine.specs.Ready.{CanBegin, CanActCall}
use Rattle.pool_machine.specs.declared.call.Call.{Call}
use Rattle.pool_machine.specs.declared.call.Call.TheVariants.{Allocate, Free, Read, Write}
use Rattle.pool_machine.specs.declared.call.Way.{Way}
use Rattle.pool_machine.specs.declared.call.Way.TheVariants.{Fresh, Alone, Calls}
use Rattle.interleaving_core.specs.Moves.{started}
use Rattle.interleaving_core.proofs.CallLawsShort.{started_calls}
use Rattle.pool_machine.specs.declared.view.ProcessView.{ProcessView}
use Rattle.interleaving_core.specs.Invariant.{BlockIsHeld}
use Rattle.interleaving_core.specs.Moves.{may_go, calling_view, may_wish}
use Rattle.interleaving_core.specs.Steps.{is_alone, is_at_step}
use Rattle.interleaving_core.proofs.Busy.{begun_calls}
use Rattle.interleaving_core.proofs.Standing.{rests_idle, wish_fits, call_can_begin}
use Rattle.pool_table.specs.declared.about.About.TheVariants.{InCall}
use Rattle.pool_table.specs.Minds.{Mind, number_of, held_in}
use Rattle.pool_table.specs.Views.{SeatView}
use Rattle.pool_table.specs.Rule.{views_of}
use Rattle.pool_table.specs.Steps.{Among, CanStep}
use Rattle.pool_table.proofs.Steps.{next_step_allowed}
use Rattle.pool_table.proofs.Turns.{seat_of}

-- the transfer that is due with a call can begin
pub seat_can_begin : (v : SeatView) → Among v → v.of_process ≡ true → CanBegin v.mind.view
seat_can_begin v among e =
    let s = seat_of among.words among.views among.number v among.held among.seated e in
    let can = call_can_begin v.sizes (word_at v.sizes among.words) (views_of among.held.minds) among.held.history (number_of v.mind)
    s.holds.shape s.low s.holds.meets in
    subst (λ (mind : Mind). CanBegin mind.view) s.here can

-- a process at rest has nothing pending
pub seat_is_idle : (v : SeatView) → Among v → v.of_process ≡ true → v.mind.view.transfer.next ≡ Rest
    → v.mind.view.pool.plan.pending ≡ Idle
seat_is_idle v among e =
    let s = seat_of among.words among.views among.number v among.held among.seated e in
    let idle = rests_idle v.sizes (word_at v.sizes among.words) (views_of among.held.minds) among.held.history (number_of v.mind)
    s.holds.shape s.low s.holds.meets in
    subst (λ (mind : Mind). mind.view.transfer.next ≡ Rest → mind.view.pool.plan.pending ≡ Idle) s.here idle

-- and the wish of a transfer that it may begin alone fits
pub seat_wish_fits : (v : SeatView) (wish : Wish) → Among v → v.of_process ≡ true → v.mind.view.transfer.next ≡ Rest
    → may_wish wish v.mind.view.pool ≡ true → FitsWish wish × MayBegin wish v.mind.view.pool
seat_wish_fits v wish among e =
    let s = seat_of among.words among.views among.number v among.held among.seated e in
    let fits = wish_fits v.sizes (word_at v.sizes among.words) (views_of among.held.minds) among.held.history (number_of v.mind) wish
    s.holds.shape s.low s.holds.meets in
    subst (λ (mind : Mind). mind.view.transfer.next ≡ Rest → may_wish wish mind.view.pool ≡ true
    → FitsWish wish × MayBegin wish mind.view.pool) s.here fits

-- a process that may go on with a call, or begin this one, can make the step
pub call_can_step : (sizes : Sizes) (call : Call) (v : SeatView) → v.of_process ≡ true → v.sizes ≡ sizes → Among v
    → may_go sizes true call v.mind.view ≡ true → BlockIsHeld (held_in v.mind) call → CanStep sizes (InCall call) v
call_can_step sizes call v e shape among may held = record { of_process = e; shape = shape; may = (may, held); among = among }

-- its way is that of calls, as it is in one or has begun one
pub in_call_not_alone : (call : Call) (v : ProcessView) → v.calls.way ≢ Alone → is_alone (calling_view call v).calls.way ≡ false
in_call_not_alone call v ne = by (is_at_step v.calls.stage)
  where
    not_alone : (way : Way) → way ≢ Alone → is_alone way ≡ false
    not_alone Fresh ne = refl
    not_alone Alone ne = absurd (ne refl)
    not_alone Calls ne = refl

    by : (t : Bool) → is_alone (if t then v else started call v).calls.way ≡ false
    by true = not_alone v.calls.way ne
    by false = started_calls call v v.calls.stage

-- and the step can be made
pub call_can_act : (sizes : Sizes) (call : Call) (v : SeatView) → CanStep sizes (InCall call) v → v.mind.view.calls.way ≢ Alone
    → CanActCall sizes (calling_view call v.mind.view)
call_can_act sizes call v can ne =
    let allowed = next_step_allowed sizes (InCall call) v can in
    subst (λ z. CanActCall z (calling_view call v.mind.view)) can.shape (allowed.call_act (in_call_not_alone call v.mind.view ne))
