-- a step of a seat is the step of its process's transfer
use Rattle.std.proofs.Common.{◌≡◌, ◌≢◌, ℕ, Bool, true, false, List, refl, sym, ap, ◌∙◌, subst, arith}
use Rattle.std.specs.Prelude.{if◌then◌else◌, ◌&&◌}
use mathlib.Core.Option.{some}
use lib.ListN.{get_elem?}
use Rattle.word_layout.specs.Sizes.{Sizes}
use Rattle.word_layout.specs.Names.{word_at}
use Rattle.word_layout.specs.declared.announced.Wish.{Wish}
use Rattle.word_layout.specs.declared.name.WordName.{WordName}
use Rattle.pool_model.specs.declared.entry.Entry.{Entry}
use Rattle.transfer_machine.specs.Machine.{action_of, met_of, CanAct, CanMeet}
use Rattle.transfer_machine.specs.Stages.{is_rest}
use Rattle.transfer_machine.specs.declared.action.Action.{Action}
use Rattle.transfer_machine.specs.declared.stage.NextStep.{NextStep}
use Rattle.transfer_machine.specs.declared.stage.NextStep.TheVariants.{Rest}
use Rattle.transfer_machine.specs.declared.transfer.TransferView.{TransferView}
use Rattle.pool_machine.specs.Beginning.{alone_begun}
use Rattle.pool_machine.specs.Conditions.{may_use_transfers}
use Rattle.pool_machine.specs.Ready.{CanActCallAt, CanMeetCallAt}
use Rattle.pool_machine.specs.declared.call.CallStage.{CallStage}
use Rattle.pool_machine.specs.declared.call.CallStage.TheVariants.{Between, Choosing, Moving, Own}
use Rattle.pool_machine.specs.declared.call.Way.{Way}
use Rattle.pool_machine.specs.declared.call.Way.TheVariants.{Fresh, Alone, Calls}
use Rattle.pool_machine.specs.declared.view.ProcessView.{ProcessView}
use Rattle.batch_invariant.specs.Batches.{ProcessViews}
use Rattle.interleaving_core.specs.Moves.{may_go_alone, moving_view}
use Rattle.interleaving_core.specs.StepLaws.{StepIsDue}
use Rattle.interleaving_core.specs.Steps.{is_alone, next_action, next_met}
use Rattle.interleaving_core.specs.TransferLaws.{moves_transfer, moves_at}
use Rattle.interleaving_core.proofs.Holds.{StepAllowed, step_allowed}
use Rattle.interleaving_core.proofs.Standing.{fresh_rests}
use Rattle.pool_table.specs.declared.about.About.{About}
use Rattle.pool_table.specs.declared.about.About.TheVariants as about
use Rattle.pool_table.specs.Minds.{number_of}
use Rattle.pool_table.specs.Views.{SeatView}
use Rattle.pool_table.specs.Rule.{Holds, views_of}
use Rattle.pool_table.specs.Turns.{turning, MayTurn}
use Rattle.pool_table.specs.Steps.{CanStep, CanMeetNext, Stepped}
use Rattle.pool_table.specs.Transfers.{Agrees}
use Rattle.pool_table.proofs.Due.{begun_minds, begun_here}
use Rattle.pool_table.proofs.Turns.{seat_step_due}

at_moving : (stage : CallStage) → moves_at stage ≡ true → stage ≡ Moving
at_moving Between e = absurd (grind arith)
at_moving Choosing e = absurd (grind arith)
at_moving Moving e = refl
at_moving Own e = absurd (grind arith)

in_moving_call : (w : ProcessView) → is_alone w.calls.way ≡ false → moves_transfer w ≡ true → w.calls.stage ≡ Moving
in_moving_call w e moves = at_moving w.calls.stage (rw e at moves)

-- its action, what it becomes, and that it can
acts : (sizes : Sizes) (w : ProcessView) (alone : Bool) → is_alone w.calls.way ≡ alone → moves_transfer w ≡ true
    → next_action sizes w ≡ action_of sizes w.transfer
acts sizes w true e moves = rw e refl
acts sizes w false e moves = let moving = in_moving_call w e moves in rw (e, moving) refl

becomes : (sizes : Sizes) (w : ProcessView) (word : ℕ) (alone : Bool) → is_alone w.calls.way ≡ alone → moves_transfer w ≡ true
    → (next_met sizes w word).transfer ≡ met_of sizes w.transfer word
becomes sizes w word true e moves = rw e refl
becomes sizes w word false e moves = let moving = in_moving_call w e moves in rw (e, moving) refl

can : (sizes : Sizes) (words : WordName → ℕ) (w : ProcessView) (alone : Bool) → is_alone w.calls.way ≡ alone → moves_transfer w ≡ true
    → StepAllowed sizes words w → CanAct sizes w.transfer
can sizes words w true e moves allowed = allowed.act e
can sizes words w false e moves allowed = (subst (CanActCallAt sizes w) (in_moving_call w e moves) (allowed.call_act e)).go.act

meets : (sizes : Sizes) (w : ProcessView) (word : ℕ) (alone : Bool) → is_alone w.calls.way ≡ alone → moves_transfer w ≡ true
    → CanMeetNext sizes w word → CanMeet sizes w.transfer word
meets sizes w word true e moves h = h.meet e
meets sizes w word false e moves h = (subst (CanMeetCallAt sizes w word) (in_moving_call w e moves) (h.call e)).meet

-- views of all processes with which these words meet the invariant, and in which this one's next step is due
pub record DueOn (sizes : Sizes) (words : List ℕ) (v : ProcessView) : Type 0 where
  pub views : ProcessViews
  pub history : List Entry
  pub process : ℕ
  pub due : StepIsDue sizes words views history process
  pub here : views process ≡ v

-- there are such ones wherever the rule holds with a seat that can make a step
pub due_on : (sizes : Sizes) (a : About) (v : SeatView) (words : List ℕ) (views : List SeatView) (place : ℕ) → CanStep sizes a v
    → Holds words views → get_elem? views place ≡ some v → DueOn v.sizes words (turning a v.mind.view)
due_on sizes a v words views place c h at =
    let w = turning a v.mind.view in
    let may : MayTurn v.sizes a v.mind = subst (λ z. MayTurn z a v.mind) (sym c.shape) c.may in
    record {
      views = views_of (begun_minds (number_of v.mind) w h.minds);
      history = h.history;
      process = number_of v.mind;
      due = seat_step_due words views place v a h at c.of_process may;
      here = begun_here (number_of v.mind) w h.minds;
    }

-- a seat that can make a step has one that is due, in the words and views that it is among
pub due_there : (sizes : Sizes) (a : About) (v : SeatView) (c : CanStep sizes a v) → DueOn v.sizes c.among.words (turning a v.mind.view)
due_there sizes a v c = due_on sizes a v c.among.words c.among.views c.among.number c c.among.held c.among.seated

-- so that step is allowed
due_allowed : (sizes : Sizes) (words : List ℕ) (v : ProcessView) → DueOn sizes words v → StepAllowed sizes (word_at sizes words) v
due_allowed sizes words v d =
    subst (StepAllowed sizes (word_at sizes words)) d.here
    (step_allowed sizes (word_at sizes words) d.views d.history d.process d.due.table.shape d.due.table.low d.due.table.meets d.due.busy)

step_due : (sizes : Sizes) (a : About) (v : SeatView) (c : CanStep sizes a v)
    → StepAllowed v.sizes (word_at v.sizes c.among.words) (turning a v.mind.view)
step_due sizes a v c = due_allowed v.sizes c.among.words (turning a v.mind.view) (due_there sizes a v c)

-- the next step of the transfer that a seat's step is about can be made
pub transfer_can_act : (sizes : Sizes) (a : About) (v : SeatView) (t : TransferView) → CanStep sizes a v → Agrees a v t → CanAct sizes t
transfer_can_act sizes a v t c agrees =
    let w = turning a v.mind.view in
    let words = word_at v.sizes c.among.words in
    let allowed = can v.sizes words w (is_alone w.calls.way) refl agrees.moves (step_due sizes a v c) in
    subst (λ z. CanAct z t) c.shape (subst (CanAct v.sizes) agrees.same allowed)

-- and it isn't at rest
going : (sizes : Sizes) (words : WordName → ℕ) (w : ProcessView) (alone : Bool) → is_alone w.calls.way ≡ alone → moves_transfer w ≡ true
    → StepAllowed sizes words w → w.transfer.next ≢ Rest
going sizes words w true e moves allowed = allowed.busy e
going sizes words w false e moves allowed = (subst (CanActCallAt sizes w) (in_moving_call w e moves) (allowed.call_act e)).go.busy

-- such a transfer isn't at rest
pub transfer_is_going : (sizes : Sizes) (a : About) (v : SeatView) (t : TransferView) → CanStep sizes a v → Agrees a v t → t.next ≢ Rest
transfer_is_going sizes a v t c agrees =
    let w = turning a v.mind.view in
    let words = word_at v.sizes c.among.words in
    let goes = going v.sizes words w (is_alone w.calls.way) refl agrees.moves (step_due sizes a v c) in
    subst (λ (u : TransferView). u.next ≢ Rest) agrees.same goes

-- its action is the process's next one
pub transfer_acts_next : (sizes : Sizes) (a : About) (v : SeatView) (t : TransferView) (action : Action) → Agrees a v t
    → action ≡ action_of sizes t → action ≡ next_action sizes (turning a v.mind.view)
transfer_acts_next sizes a v t action agrees e =
    let w = turning a v.mind.view in
    e ∙ (ap (action_of sizes) (sym agrees.same) ∙ sym (acts sizes w (is_alone w.calls.way) refl agrees.moves))

-- it may meet the word that the step met
pub transfer_can_meet : (sizes : Sizes) (a : About) (v x : SeatView) (t : TransferView) (word : ℕ) → CanStep sizes a v → Agrees a v t
    → Stepped a v word x → CanMeet sizes t word
transfer_can_meet sizes a v x t word c agrees s =
    let w = turning a v.mind.view in
    let met = meets v.sizes w word (is_alone w.calls.way) refl agrees.moves s.can_meet in
    subst (λ z. CanMeet z t word) c.shape (subst (λ u. CanMeet v.sizes u word) agrees.same met)

-- after the step the process has the transfer that the machine makes of that word
pub transfer_steps : (sizes : Sizes) (a : About) (v x : SeatView) (t u : TransferView) (word : ℕ) → CanStep sizes a v → Agrees a v t
    → Stepped a v word x → u ≡ met_of sizes t word → x.mind.view.transfer ≡ u
transfer_steps sizes a v x t u word c agrees s e =
    let w = turning a v.mind.view in
    ap (λ (z : ProcessView). z.transfer) s.view
    ∙ (becomes v.sizes w word (is_alone w.calls.way) refl agrees.moves
    ∙ (ap (λ z. met_of v.sizes z word) agrees.same ∙ (ap (λ z. met_of z t word) c.shape ∙ sym e)))

-- a process whose transfer moves outside any call has begun no call
not_in_calls : (rest : Bool) (wish : Wish) (v : ProcessView) → may_use_transfers v.calls.way ≡ true
    → (if rest then alone_begun wish v else v).calls.way ≢ Calls
not_in_calls true wish v may e = grind arith
not_in_calls false wish v may e = let no = rw e at may in grind arith

alone_way : (way : Way) → way ≢ Calls → way ≢ Fresh → is_alone way ≡ true
alone_way Fresh calls fresh = absurd (fresh refl)
alone_way Alone calls fresh = refl
alone_way Calls calls fresh = absurd (calls refl)

both_first : (a b : Bool) → a && b ≡ true → a ≡ true
both_first true b e = refl
both_first false b e = grind arith

rest_is : (s : NextStep) → is_rest s ≡ true → s ≡ Rest
rest_is s e = grind arith

due_not_fresh : (sizes : Sizes) (words : List ℕ) (w : ProcessView) → DueOn sizes words w → w.transfer.next ≢ Rest → w.calls.way ≢ Fresh
due_not_fresh sizes words w d going fresh =
    let rests = fresh_rests sizes (word_at sizes words) d.views d.history d.process d.due.table.low d.due.table.meets in
    let at = subst (λ (z : ProcessView). z.calls.way ≡ Fresh → is_rest z.transfer.next ≡ true) d.here rests in
    going (rest_is w.transfer.next (at fresh))

moves_alone : (sizes : Sizes) (wish : Wish) (v : SeatView) (t : TransferView) → CanStep sizes (about.Alone wish) v
    → Agrees (about.Alone wish) v t → is_alone (turning (about.Alone wish) v.mind.view).calls.way ≡ true
moves_alone sizes wish v t c agrees =
    let w = turning (about.Alone wish) v.mind.view in
    let goes = subst (λ (z : TransferView). z.next ≢ Rest) (sym agrees.same) (transfer_is_going sizes (about.Alone wish) v t c agrees) in
    alone_way w.calls.way
    (not_in_calls (is_rest v.mind.view.transfer.next) wish v.mind.view (both_first (may_use_transfers v.mind.view.calls.way) _ c.may))
    (due_not_fresh v.sizes c.among.words w (due_there sizes (about.Alone wish) v c) goes)

-- where such a transfer has another step, its process may make it, whatever wish that names
stays_alone : (sizes : Sizes) (w : ProcessView) (word : ℕ) → is_alone w.calls.way ≡ true → is_alone (next_met sizes w word).calls.way ≡ true
stays_alone sizes w word e = rw e e

may_use_alone : (way : Way) → is_alone way ≡ true → may_use_transfers way ≡ true
may_use_alone way e = grind arith

goes_alone : (sizes : Sizes) (wish : Wish) (x : ProcessView) → is_alone x.calls.way ≡ true → is_rest x.transfer.next ≡ false
    → may_go_alone sizes wish x ≡ true
goes_alone sizes wish x e rest = let may = may_use_alone x.calls.way e in rw (may, rest) refl

-- a process in the middle of a transfer begins none
pub turns_same : (wish : Wish) (x : ProcessView) → is_rest x.transfer.next ≡ false → moving_view wish x ≡ x
turns_same wish x rest = rw rest refl

moves_its_transfer : (x : ProcessView) → is_alone x.calls.way ≡ true → moves_transfer x ≡ true
moves_its_transfer x e = rw e refl

-- while a transfer alone hasn't ended, its seat can make its next step, whatever wish that names
pub goes_on_alone : (sizes : Sizes) (wish next : Wish) (v x : SeatView) (t u : TransferView) (word : ℕ)
    → CanStep sizes (about.Alone wish) v → Agrees (about.Alone wish) v t → Stepped (about.Alone wish) v word x
    → u ≡ met_of sizes t word → is_rest u.next ≡ false → CanStep sizes (about.Alone next) x × Agrees (about.Alone next) x u
goes_on_alone sizes wish next v x t u word c agrees s met goes =
    let w = turning (about.Alone wish) v.mind.view in
    let alone : is_alone x.mind.view.calls.way ≡ true =
    subst (λ (z : ProcessView). is_alone z.calls.way ≡ true) (sym s.view)
    (stays_alone v.sizes w word (moves_alone sizes wish v t c agrees)) in
    let mirrors = transfer_steps sizes (about.Alone wish) v x t u word c agrees s met in
    let rest : is_rest x.mind.view.transfer.next ≡ false = ap (λ (z : TransferView). is_rest z.next) mirrors ∙ goes in
    let same = turns_same next x.mind.view rest in
    let seat = s.stays in
    let can : CanStep sizes (about.Alone next) x = record {
      of_process = ap (λ (z : SeatView). z.of_process) seat ∙ c.of_process;
      shape = ap (λ (z : SeatView). z.sizes) seat ∙ c.shape;
      may = goes_alone sizes next x.mind.view alone rest;
      among = s.among;
    } in
    let goes_so : Agrees (about.Alone next) x u = record {
      same = ap (λ (z : ProcessView). z.transfer) same ∙ mirrors;
      moves = subst (λ z. moves_transfer z ≡ true) (sym same) (moves_its_transfer x.mind.view alone);
    } in
    (can, goes_so)
