-- a transfer in a call that has another step goes on in that call or in a later one
use Rattle.std.proofs.Common.{◌≡◌, ◌≢◌, ℕ, ◌+◌, ◌==◌, Bool, true, false, [], ◌++◌, Some, refl, sym, ap, ◌∙◌, subst, arith}
use Rattle.std.specs.Prelude.{◌||◌, if◌then◌else◌}
use Rattle.std.proofs.lemmas.Bool.{false≢true}
use Rattle.std.proofs.lemmas.Bool.Decides.{nat_tests}
use Rattle.std.proofs.lemmas.List.{append-nil}
use Rattle.pool_model.specs.History.{grip}
use Rattle.word_layout.specs.Sizes.{Sizes}
use Rattle.word_layout.specs.Names.{word_at}
use Rattle.transfer_schedule.specs.Numbers.{is_idle}
use Rattle.transfer_schedule.specs.declared.pending.Pending.{Pending}
use Rattle.transfer_schedule.specs.declared.pending.Pending.TheVariants.{Idle, Taking, Giving}
use Rattle.transfer_machine.specs.Machine.{met_of}
use Rattle.transfer_machine.specs.Stages.{is_rest}
use Rattle.transfer_machine.specs.declared.stage.NextStep.{NextStep}
use Rattle.transfer_machine.specs.declared.stage.NextStep.TheVariants.{Rest}
use Rattle.transfer_machine.specs.declared.transfer.TransferView.{TransferView}
use Rattle.pool_machine.specs.Beginning.{call_begun}
use Rattle.pool_machine.specs.Steps.{is_paced, stage_after, steps_after}
use Rattle.pool_machine.specs.declared.call.Call.{Call}
use Rattle.pool_machine.specs.declared.call.Call.TheVariants.{Allocate, Free, Read, Write, Search}
use Rattle.pool_machine.specs.declared.call.CallStage.{CallStage}
use Rattle.pool_machine.specs.declared.call.CallStage.TheVariants.{Between, Choosing, Moving, Own}
use Rattle.pool_machine.specs.declared.view.ProcessView.{ProcessView}
use Rattle.call_invariant.specs.Phases.{changes_pool}
use Rattle.interleaving_core.specs.Invariant.{BlockIsHeld}
use Rattle.interleaving_core.specs.Runs.{entries_of}
use Rattle.interleaving_core.specs.Steps.{is_alone, is_at_step, next_met, next_answer}
use Rattle.interleaving_core.specs.TransferLaws.{moves_transfer}
use Rattle.interleaving_core.specs.Moves.{started, started_at}
use Rattle.interleaving_core.proofs.CallLawsShort.{started_calls}
use Rattle.interleaving_core.proofs.Holds.{is_alone_way}
use Rattle.interleaving_core.proofs.Standing.{alone_between, call_can_begin}
use Rattle.pool_table.specs.declared.about.About.{About}
use Rattle.pool_table.specs.declared.about.About.TheVariants.{InCall}
use Rattle.pool_table.specs.Minds.{Mind, number_of, entries_in}
use Rattle.pool_table.specs.Rule.{views_of}
use Rattle.pool_table.specs.Turns.{turning}
use Rattle.pool_table.specs.Views.{SeatView}
use Rattle.pool_table.specs.Steps.{CanStep, Stepped}
use Rattle.pool_table.specs.Transfers.{Agrees}
use Rattle.pool_table.proofs.Turns.{seat_of}
use Rattle.batch_stack.specs.Running.{GoesOnInCalls}

-- what the machine says of the view of a seat: it is in no call where it makes transfers alone, and at rest where nothing pends
pub record StandsSo (v : ProcessView) : Type 0 where
  pub between : is_alone v.calls.way ≡ true → is_at_step v.calls.stage ≡ false
  pub rests : v.pool.plan.pending ≡ Idle → v.transfer.next ≡ Rest

stands_so : (sizes : Sizes) (a : About) (v : SeatView) → CanStep sizes a v → StandsSo v.mind.view
stands_so sizes a v c =
    let words = c.among.words in
    let seat = seat_of words c.among.views c.among.number v c.among.held c.among.seated c.of_process in
    let n = number_of v.mind in
    let minds = c.among.held.minds in
    let history = c.among.held.history in
    let here : StandsSo (minds n).view = record {
      between = λ e. alone_between v.sizes (word_at v.sizes words) (views_of minds) history n seat.low seat.holds.meets
          (is_alone_way (minds n).view.calls.way e);
      rests = (call_can_begin v.sizes (word_at v.sizes words) (views_of minds) history n seat.holds.shape seat.low seat.holds.meets).rest;
    } in
    subst (λ (m : Mind). StandsSo m.view) seat.here here

-- so a step about a call isn't one of transfers alone
calling_by : (call : Call) (v : ProcessView) (t : Bool) → is_at_step v.calls.stage ≡ t → StandsSo v
    → is_alone (if t then v else started call v).calls.way ≡ false
calling_by call v false e s = started_calls call v v.calls.stage
calling_by call v true e s = by (is_alone v.calls.way) refl
  where
    by : (t : Bool) → is_alone v.calls.way ≡ t → is_alone v.calls.way ≡ false
    by true alone = absurd (false≢true (sym (s.between alone) ∙ e))
    by false alone = alone

in_a_call : (sizes : Sizes) (call : Call) (v : SeatView) → CanStep sizes (InCall call) v
    → is_alone (turning (InCall call) v.mind.view).calls.way ≡ false
in_a_call sizes call v c = calling_by call v.mind.view (is_at_step v.mind.view.calls.stage) refl (stands_so sizes (InCall call) v c)

-- and one that moves a transfer is at that stage
at_moving : (stage : CallStage) (w : ProcessView) → w.calls.stage ≡ stage → is_alone w.calls.way ≡ false → moves_transfer w ≡ true
    → stage ≡ Moving
at_moving Between w here e moves = absurd (false≢true (rw (e, here) at moves))
at_moving Choosing w here e moves = absurd (false≢true (rw (e, here) at moves))
at_moving Moving w here e moves = refl
at_moving Own w here e moves = absurd (false≢true (rw (e, here) at moves))

-- the view after it
stage_moved : (sizes : Sizes) (w : ProcessView) (word : ℕ) → is_alone w.calls.way ≡ false → w.calls.stage ≡ Moving
    → ((next_met sizes w word).calls.stage
    ≡ stage_after (is_paced w.calls.call) w.calls.chosen sizes.quantum w.calls.steps (met_of sizes w.transfer word).next)
    × ((next_met sizes w word).calls.steps ≡ steps_after (is_paced w.calls.call) w.calls.steps)
    × (is_alone (next_met sizes w word).calls.way ≡ false)
    × (entries_of (next_answer w word) ≡ [])
stage_moved sizes w word e here = (rw (e, here) refl, rw (e, here) refl, rw (e, here) e, rw (e, here) refl)

after_quantum : (quantum steps : ℕ) (rest : Bool) → rest ≡ false → (if rest || (steps == quantum) then Own else Moving) ≢ Moving
    → ((if rest || (steps == quantum) then Own else Moving) ≡ Own) × (steps ≡ quantum)
after_quantum quantum steps true e not = absurd (false≢true (sym e))
after_quantum quantum steps false e not = by (steps == quantum) refl
  where
    by : (t : Bool) → (steps == quantum) ≡ t
        → ((if false || (steps == quantum) then Own else Moving) ≡ Own) × (steps ≡ quantum)
    by true is = (rw is refl, grind (arith, nat_tests))
    by false is = absurd (not (rw is refl))

-- with a transfer that goes on only a call in its pace leaves that stage, after a quantum; a search makes the next step
leaves_moving : (paced chosen : Bool) (quantum steps : ℕ) (next : NextStep) → is_rest next ≡ false
    → stage_after paced chosen quantum steps next ≢ Moving
    → (stage_after paced chosen quantum steps next ≡ Own) × (steps_after paced steps ≡ quantum)
leaves_moving true chosen quantum steps next rest not = after_quantum quantum (steps + 1) (is_rest next) rest not
leaves_moving false chosen quantum steps next rest not = absurd (not (rw rest refl))

-- a call that makes steps of transfers makes those of the pending one
not_idle : (pending : Pending) → pending ≢ Idle → is_idle pending ≡ false
not_idle Idle pends = absurd (pends refl)
not_idle Taking pends = refl
not_idle Giving pends = refl

pending_moves : (call : Call) (v : ProcessView) → changes_pool (Some call) ≡ true → is_idle v.pool.plan.pending ≡ false
    → ((call_begun call v).transfer ≡ v.transfer) × (moves_transfer (call_begun call v) ≡ true)
pending_moves Allocate v e pends = (rw pends refl, rw pends (rw pends refl))
pending_moves (Free block) v e pends = (rw pends refl, rw pends (rw pends refl))
pending_moves (Read block index) v e pends = absurd (false≢true e)
pending_moves (Write block index value) v e pends = absurd (false≢true e)
pending_moves Search v e pends = (rw pends refl, rw pends refl)

goes_on_later : (sizes : Sizes) (u : TransferView) (y : SeatView) (next : Call) → is_rest u.next ≡ false
    → y.mind.view.calls.stage ≡ Between → y.mind.view.transfer ≡ u → changes_pool (Some next) ≡ true → CanStep sizes (InCall next) y
    → Agrees (InCall next) y u
goes_on_later sizes u y next goes between same changes c =
    let v = y.mind.view in
    let stands = stands_so sizes (InCall next) y c in
    let rests : v.pool.plan.pending ≢ Idle = λ idle.
    false≢true (sym (ap (λ (z : TransferView). is_rest z.next) same ∙ goes) ∙ ap is_rest (stands.rests idle)) in
    let (stays, moves) = pending_moves next v changes (not_idle v.pool.plan.pending rests) in
    let begins : turning (InCall next) v ≡ call_begun next v = ap (λ k. if is_at_step k then v else started_at k next v) between in
    record {
      same = ap (λ (z : ProcessView). z.transfer) begins ∙ (stays ∙ same);
      moves = subst (λ z. moves_transfer z ≡ true) (sym begins) moves;
    }

-- so does one in a call
pub goes_on_in_calls : (sizes : Sizes) (call : Call) (v x : SeatView) (t u : TransferView) (word : ℕ) → CanStep sizes (InCall call) v
    → Agrees (InCall call) v t → Stepped (InCall call) v word x → x.mind.view.transfer ≡ u → u ≡ met_of sizes t word
    → is_rest u.next ≡ false → GoesOnInCalls sizes call x u
goes_on_in_calls sizes call v x t u word c agrees s mirrors part goes =
    let w = turning (InCall call) v.mind.view in
    let calls = in_a_call sizes call v c in
    let moving = at_moving w.calls.stage w refl calls agrees.moves in
    let (stage, steps, way, none) = stage_moved v.sizes w word calls moving in
    let entries : entries_in x.mind ≡ entries_in v.mind = s.entries
    ∙ (ap (λ list. entries_in v.mind ++ list) none ∙ append-nil (entries_in v.mind)) in
    let held = subst (λ list. BlockIsHeld (grip list) call) (sym entries) c.may.1 in
    let way_so : is_alone x.mind.view.calls.way ≡ false = ap (λ (z : ProcessView). is_alone z.calls.way) s.view ∙ way in
    let paced = is_paced w.calls.call in
    let steps_so : x.mind.view.calls.steps ≡ steps_after paced w.calls.steps = ap (λ (z : ProcessView). z.calls.steps) s.view ∙ steps in
    let same_sizes : v.sizes ≡ sizes = c.shape in
    let met : met_of v.sizes w.transfer word ≡ u = ap (λ z. met_of z w.transfer word) same_sizes
    ∙ (ap (λ z. met_of sizes z word) agrees.same ∙ sym part) in
    let rest : is_rest (met_of v.sizes w.transfer word).next ≡ false = ap (λ (z : TransferView). is_rest z.next) met ∙ goes in
    let stage_so : x.mind.view.calls.stage
    ≡ stage_after paced w.calls.chosen v.sizes.quantum w.calls.steps (met_of v.sizes w.transfer word).next =
    ap (λ (z : ProcessView). z.calls.stage) s.view ∙ stage in
    record {
      now = λ is.
          let inside : is_at_step x.mind.view.calls.stage ≡ true = rw is refl in
          let stays : turning (InCall call) x.mind.view ≡ x.mind.view = rw inside refl in
          let can : CanStep sizes (InCall call) x = record {
            of_process = ap (λ (z : SeatView). z.of_process) s.stays ∙ c.of_process;
            shape = ap (λ (z : SeatView). z.sizes) s.stays ∙ c.shape;
            may = (rw inside refl, held);
            among = s.among;
          } in
          let agree : Agrees (InCall call) x u = record {
            same = ap (λ (z : ProcessView). z.transfer) stays ∙ mirrors;
            moves = subst (λ z. moves_transfer z ≡ true) (sym stays) (rw (way_so, is) refl);
          } in
          (can, agree);
      quantum = λ not.
          let ended = leaves_moving paced w.calls.chosen v.sizes.quantum w.calls.steps (met_of v.sizes w.transfer word).next rest
          (λ e. not (stage_so ∙ e)) in
          (stage_so ∙ ended.0, steps_so ∙ (ended.1 ∙ ap (λ (z : Sizes). z.quantum) same_sizes));
      later = λ y next between same changes can. goes_on_later sizes u y next goes between same changes can;
    }
