-- which turns are steps of transfers
use Rattle.std.proofs.Common.{◌≡◌, Bool, true, false, refl, arith}
use Rattle.std.specs.Prelude.{if◌then◌else◌, nat_lt, ◌&&◌, ◌||◌, not}
use Rattle.word_layout.specs.Names.{word_at}
use Rattle.word_layout.specs.declared.announced.Wish.{Wish}
use Rattle.word_layout.specs.Packing.{most_age}
use Rattle.transfer_machine.specs.Stages.{is_rest}
use Rattle.pool_machine.specs.declared.call.Call.{Call}
use Rattle.pool_machine.specs.declared.call.CallStage.{CallStage}
use Rattle.pool_machine.specs.declared.call.CallStage.TheVariants.{Moving, Own}
use Rattle.pool_machine.specs.declared.call.Way.{Way}
use Rattle.pool_machine.specs.declared.call.Way.TheVariants.{Fresh, Alone, Calls}
use Rattle.pool_machine.specs.declared.view.ProcessView.{ProcessView}
use Rattle.pool_machine.specs.Beginning.{alone_begun}
use Rattle.pool_machine.specs.Conditions.{may_use_transfers}
use Rattle.interleaving_core.specs.Moves.{view_at, may_wish, moving_view, calling_view}
use Rattle.interleaving_core.specs.Runs.{Moves, Events, is_made}
use Rattle.interleaving_core.specs.Steps.{is_alone, is_busy, is_at_step}
use Rattle.interleaving_core.specs.TransferLaws.{moves_at, moves_transfer, RunsMakeSteps}
use Rattle.interleaving_core.proofs.Standing.{fresh_rests, alone_between}
use Rattle.interleaving_core.proofs.Runs.{run_fits}
use Rattle.interleaving_core.proofs.RunTurns.{busy_go_on}

-- a process that moves makes transfers alone
first_may : (low way t : Bool) → (low && (way && t)) ≡ true → way ≡ true
first_may low way t h = grind arith

moving_moves : (wish : Wish) (v : ProcessView) (way : Way) (t : Bool) → v.calls.way ≡ way → (way ≡ Fresh → is_rest v.transfer.next ≡ true)
    → is_rest v.transfer.next ≡ t → may_use_transfers way ≡ true
    → moves_transfer (if t then alone_begun wish v else v) ≡ true
moving_moves wish v way true e fresh rest may = refl
moving_moves wish v Fresh false e fresh rest may = let h = fresh refl in grind arith
moving_moves wish v Alone false e fresh rest may = rw e refl
moving_moves wish v Calls false e fresh rest may = grind arith

both : (a b : Bool) → a ≡ true → b ≡ true → (a && b) ≡ true
both a b e f = rw (e, f) refl

-- a process in a call goes on with it
calling_at : (call : Call) (v : ProcessView) (way : Way) (stage : CallStage) → v.calls.way ≡ way
    → (way ≡ Alone → is_at_step v.calls.stage ≡ false) → v.calls.stage ≡ stage → is_at_step stage ≡ true
    → moves_transfer (calling_view call v) ≡ moves_at stage
calling_at call v Fresh stage e alone here inside = rw (here, inside, e) refl
calling_at call v Alone stage e alone here inside =
    let h = alone refl in let outside : is_at_step stage ≡ false = rw here at h in grind arith
calling_at call v Calls stage e alone here inside = rw (here, inside, e) refl

calls_busy : (v : ProcessView) (way : Way) (stage : CallStage) → v.calls.way ≡ way → (way ≡ Alone → is_at_step v.calls.stage ≡ false)
    → v.calls.stage ≡ stage → is_at_step stage ≡ true
    → (is_alone v.calls.way ≡ false) × (is_busy v ≡ true)
calls_busy v Fresh stage e alone here inside = rw e (refl, rw here inside)
calls_busy v Alone stage e alone here inside = let h = alone refl in let outside : is_at_step stage ≡ false = rw here at h in grind arith
calls_busy v Calls stage e alone here inside = rw e (refl, rw here inside)

none_second : (a b : Bool) → b ≡ false → (a && b) ≡ false
none_second true b e = e
none_second false b e = refl

-- a turn of a process that moves a transfer is a step of it, and the own step of a call is none
pub runs_make_steps : RunsMakeSteps
runs_make_steps sizes past history s by run li =
    let fits = run_fits sizes past history s run in
    let v = view_at s by in
    let words = word_at s.sizes s.words in
    let fresh = fresh_rests s.sizes words (view_at s) history by li fits.meets in
    let alone = alone_between s.sizes words (view_at s) history by li fits.meets in
    record {
      moves = λ wish made. both (is_made (Moves by wish) s) (moves_transfer (moving_view wish v)) made
          (moving_moves wish v v.calls.way (is_rest v.transfer.next) refl fresh refl
          (first_may (nat_lt by s.sizes.processes) (may_use_transfers v.calls.way)
          (not (is_rest v.transfer.next) || (nat_lt v.transfer.age (most_age s.sizes) && may_wish wish v.pool)) made));
      events = λ moving call.
          let (calls, busy) = calls_busy v v.calls.way Moving refl alone moving refl in
          both (is_made (Events by call) s) (moves_transfer (calling_view call v)) ((busy_go_on s by li busy).1 calls call)
          (calling_at call v v.calls.way Moving refl alone moving refl);
      own =
          λ own call. none_second (is_made (Events by call) s) (moves_transfer (calling_view call v))
          (calling_at call v v.calls.way Own refl alone own refl);
    }
