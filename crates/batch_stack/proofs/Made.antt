-- a step of a running transfer is the machine's, and what it tells
use Rattle.std.proofs.Common.{◌≡◌, ◌≢◌, ℕ, Option, sym, subst}
use Rattle.word_layout.specs.Sizes.{Sizes}
use Rattle.transfer_machine.specs.Machine.{action_of, met_of, CanAct, CanMeet}
use Rattle.transfer_machine.specs.declared.action.Action.{Action}
use Rattle.transfer_machine.specs.declared.transfer.TransferView.{TransferView}
use Rattle.pool_machine.specs.declared.call.Call.{Call}
use Rattle.interleaving_core.specs.Steps.{next_action}
use Rattle.pool_table.specs.declared.about.About.{About}
use Rattle.pool_table.specs.Turns.{turning}
use Rattle.pool_table.specs.Views.{SeatView}
use Rattle.pool_table.specs.Steps.{CanStep, Stepped}
use Rattle.pool_table.specs.Transfers.{Agrees}
use Rattle.pool_table.proofs.Transfers.{transfer_acts_next, transfer_can_act, transfer_can_meet, transfer_steps}
use Rattle.batch_stack.specs.declared.progress.Progress.{Progress}
use Rattle.batch_stack.specs.declared.progress.Progress.TheVariants.{Going}
use Rattle.batch_stack.specs.Running.{Running, MadeStep, ComesNearer, GoesOn, progress_at, step_about}
use Rattle.batch_stack.specs.Alone.{EndsAtRest, spares_in, spares_about, spares_after}
use Rattle.batch_stack.specs.Ended.{EndTells}
use Rattle.batch_stack.proofs.Bounds.{comes_nearer, goes_on}
use Rattle.batch_stack.proofs.Ended.{end_tells}
use Rattle.batch_stack.proofs.Resting.{spares_step, ends_at_rest}

-- all that it tells
pub record Tells (sizes : Sizes) (a : About) (v : SeatView) (t : TransferView) (x : SeatView) (u : TransferView)
    (answer : Progress) : Type 0 where
  pub made : MadeStep sizes a v t x u answer
  pub nearer : ComesNearer sizes t u answer
  pub on : answer ≡ Going → GoesOn sizes a x u
  pub ends : EndTells a v x answer
  pub spares : spares_in x ≡ spares_after answer (spares_about a v)
  pub rests : answer ≢ Going → EndsAtRest sizes a x u

step_tells : (sizes : Sizes) (a : About) (v x : SeatView) (t u : TransferView) (word : ℕ) (answer : Progress) → CanStep sizes a v
    → Agrees a v t → Stepped a v word x → u ≡ met_of sizes t word → answer ≡ progress_at t.next u.answer → Tells sizes a v t x u answer
step_tells sizes a v x t u word answer c agrees s part answered = record {
  made = (
    word,
    record { stepped = s; part = part; mirrors = transfer_steps sizes a v x t u word c agrees s part; answered = answered },
  );
  nearer = comes_nearer sizes a v t u word answer c agrees part answered;
  on = goes_on sizes a v x t u word answer c agrees s part answered;
  ends = end_tells sizes a v x t u word answer c agrees s part answered;
  spares = spares_step sizes a v x t u word answer c agrees s part answered;
  rests = ends_at_rest sizes a v x t u word answer c agrees s part answered;
}

-- the same of a transfer by its fields, which are those that clauses see, and of what its step is about
module _ (call : Option Call) (v : SeatView) (r old : Running) (a : About) (e : r ≡ old) (same : a ≡ step_about call r)
    (c : CanStep old.sizes (step_about call old) v) (agrees : Agrees (step_about call old) v old.part) where
  can_seen : CanStep r.sizes a v
  can_seen = subst (λ b. CanStep r.sizes b v) (sym same) (subst (λ (o : Running). CanStep o.sizes (step_about call o) v) (sym e) c)

  agrees_seen : Agrees a v r.part
  agrees_seen = subst (λ b. Agrees b v r.part) (sym same) (subst (λ (o : Running). Agrees (step_about call o) v o.part) (sym e) agrees)

  pub act_seen : CanAct r.sizes r.part
  act_seen = transfer_can_act r.sizes a v r.part can_seen agrees_seen

  pub next_seen : (action : Action) → action ≡ action_of r.sizes r.part → action ≡ next_action r.sizes (turning a v.mind.view)
  next_seen action e = transfer_acts_next r.sizes a v r.part action agrees_seen e

  pub meet_seen : (word : ℕ) (x : SeatView) → Stepped a v word x → CanMeet r.sizes r.part word
  meet_seen word x s = transfer_can_meet r.sizes a v x r.part word can_seen agrees_seen s

  pub tells_seen : (x : SeatView) (u : TransferView) (word : ℕ) (answer : Progress) → Stepped a v word x → u ≡ met_of r.sizes r.part word
      → answer ≡ progress_at r.part.next u.answer → Tells old.sizes (step_about call old) v old.part x u answer
  tells_seen x u word answer s part answered =
      let tells = step_tells r.sizes a v x r.part u word answer can_seen agrees_seen s part answered in
      subst (λ (o : Running). Tells o.sizes (step_about call o) v o.part x u answer) e
      (subst (λ b. Tells r.sizes b v r.part x u answer) same tells)
