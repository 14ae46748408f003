-- a running transfer comes nearer to its bound with each step
use Rattle.std.proofs.Common.{◌≡◌, ℕ, true, false, List, refl, sym, ap, ◌∙◌, subst, arith}
use Rattle.word_layout.specs.Sizes.{Sizes}
use Rattle.word_layout.specs.Names.{word_at}
use Rattle.word_layout.specs.declared.reply.Reply.{Reply}
use Rattle.word_layout.specs.declared.reply.Reply.TheVariants as replied
use Rattle.transfer_machine.specs.Machine.{met_of, met_at}
use Rattle.transfer_machine.specs.Stages.{is_rest}
use Rattle.transfer_machine.specs.declared.stage.NextStep.{NextStep}
use Rattle.transfer_machine.specs.declared.stage.NextStep.TheVariants.{Rest, Announce, Try, LoadFinalState, LoadReply}
use Rattle.transfer_machine.specs.declared.transfer.TransferView.{TransferView}
use Rattle.pool_machine.specs.declared.view.ProcessView.{ProcessView}
use Rattle.transfer_invariant.specs.Progress.{is_moving}
use Rattle.pool_invariant.specs.Stages.{IndexFits}
use Rattle.pool_invariant.specs.StepCount.{OverlayIsFew}
use Rattle.pool_invariant.proofs.Counted.{step_nearer}
use Rattle.pool_invariant.proofs.Moved.{step_stays}
use Rattle.pool_invariant.proofs.Ending.{moving_unless_rest, step_left}
use Rattle.interleaving_core.proofs.Joins.{keeps, given}
use Rattle.pool_table.specs.declared.about.About.{About}
use Rattle.pool_table.specs.declared.about.About.TheVariants as about
use Rattle.pool_table.specs.Views.{SeatView}
use Rattle.pool_table.specs.Turns.{turning}
use Rattle.pool_table.specs.Steps.{CanStep, Stepped}
use Rattle.pool_table.specs.Transfers.{Agrees}
use Rattle.pool_table.proofs.Transfers.{DueOn, due_there, transfer_is_going, transfer_steps, goes_on_alone}
use Rattle.batch_stack.specs.declared.progress.Progress.{Progress}
use Rattle.batch_stack.specs.declared.progress.Progress.TheVariants.{Going}
use Rattle.batch_stack.proofs.Calls.{goes_on_in_calls}
use Rattle.batch_stack.specs.Running.{ComesNearer, GoesOn, ended_as, progress_at}

-- what the invariant says of the place of the next step and of the loaded overlay
pub record PartFits (sizes : Sizes) (t : TransferView) : Type 0 where
  pub index : IndexFits sizes t
  pub few : OverlayIsFew sizes t

due_fits : (sizes : Sizes) (table_words : List ℕ) (v : ProcessView) → DueOn sizes table_words v → PartFits sizes v.transfer
due_fits sizes table_words v d =
    let table = d.due.table in
    let (ghosts, holds) = table.meets in
    let words = word_at sizes table_words in
    let fits : PartFits sizes (d.views d.process).transfer = record {
      index = (keeps sizes words d.views d.history ghosts d.process table.shape table.low holds).runs.index;
      few = (given sizes words d.views d.history ghosts d.process table.low holds).few;
    } in
    subst (λ (w : ProcessView). PartFits sizes w.transfer) d.here fits

-- the view of a transfer that may make a step fits its sizes
pub part_fits : (sizes : Sizes) (a : About) (v : SeatView) (t : TransferView) → CanStep sizes a v → Agrees a v t → PartFits sizes t
part_fits sizes a v t c agrees =
    let fits = due_fits v.sizes c.among.words (turning a v.mind.view) (due_there sizes a v c) in
    subst (λ z. PartFits z t) c.shape (subst (PartFits v.sizes) agrees.same fits)

-- a transfer that goes on after a step isn't at rest
pub ends_somehow : (r : Reply) → ended_as r ≡ Going → ⊥
ends_somehow replied.Nothing e = grind arith
ends_somehow (replied.Took head) e = grind arith
ends_somehow replied.Gave e = grind arith

going_moves : (sizes : Sizes) (t : TransferView) (word : ℕ) (last : Reply) (s : NextStep) → is_moving s ≡ true
    → progress_at s last ≡ Going → is_moving (met_at sizes t word s).next ≡ true
going_moves sizes t word last Rest moving e = grind arith
going_moves sizes t word last Announce moving e = refl
going_moves sizes t word last (Try second step) moving e = (step_stays sizes t word (Try second step) refl).moving
going_moves sizes t word last LoadFinalState moving e = refl
going_moves sizes t word last LoadReply moving e = absurd (ends_somehow last e)

-- a step brings a transfer nearer to its end
pub comes_nearer : (sizes : Sizes) (a : About) (v : SeatView) (t u : TransferView) (word : ℕ) (answer : Progress) → CanStep sizes a v
    → Agrees a v t → u ≡ met_of sizes t word → answer ≡ progress_at t.next u.answer → ComesNearer sizes t u answer
comes_nearer sizes a v t u word answer c agrees part answered =
    let fits = part_fits sizes a v t c agrees in
    let moving = moving_unless_rest t.next (transfer_is_going sizes a v t c agrees) in
    record {
      left = step_left sizes t t.next fits.index fits.few;
      nearer = λ goes. rw part (step_nearer sizes t word t.next fits.index fits.few
          (going_moves sizes t word u.answer t.next moving (sym answered ∙ goes)) moving);
    }

-- and so it goes on outside any call
moving_not_rest : (s : NextStep) → is_moving s ≡ true → is_rest s ≡ false
moving_not_rest s e = grind arith

-- a step that isn't answered leaves a transfer that goes on
pub goes_on : (sizes : Sizes) (a : About) (v x : SeatView) (t u : TransferView) (word : ℕ) (answer : Progress) → CanStep sizes a v
    → Agrees a v t → Stepped a v word x → u ≡ met_of sizes t word → answer ≡ progress_at t.next u.answer → answer ≡ Going
    → GoesOn sizes a x u
goes_on sizes (about.Alone wish) v x t u word answer c agrees s part answered goes =
    let moving = moving_unless_rest t.next (transfer_is_going sizes (about.Alone wish) v t c agrees) in
    let on = moving_not_rest (met_of sizes t word).next (going_moves sizes t word u.answer t.next moving (sym answered ∙ goes)) in
    let rest : is_rest u.next ≡ false = ap (λ (z : TransferView). is_rest z.next) part ∙ on in
    record { busy = rest; goes = λ next. goes_on_alone sizes wish next v x t u word c agrees s part rest }
goes_on sizes (about.InCall call) v x t u word answer c agrees s part answered goes =
    let moving = moving_unless_rest t.next (transfer_is_going sizes (about.InCall call) v t c agrees) in
    let on = moving_not_rest (met_of sizes t word).next (going_moves sizes t word u.answer t.next moving (sym answered ∙ goes)) in
    let rest : is_rest u.next ≡ false = ap (λ (z : TransferView). is_rest z.next) part ∙ on in
    goes_on_in_calls sizes call v x t u word c agrees s (transfer_steps sizes (about.InCall call) v x t u word c agrees s part) part rest
