-- labels fit the next steps
use Rattle.std.proofs.Common.{◌≡◌, ℕ, ◌<◌, ◌⊎◌, Bool, true, false, Option, None, Some, List, refl, sym, ap, subst, inl, inr, arith}
use Rattle.std.specs.Prelude.{if◌then◌else◌}
use Rattle.word_layout.specs.Sizes.{Sizes}
use Rattle.word_layout.specs.Names.{word_at}
use Rattle.pool_model.specs.declared.entry.Entry.{Entry}
use Rattle.transfer_machine.specs.Machine.{try_action, action_at, met_at}
use Rattle.transfer_machine.specs.Stages.{is_rest}
use Rattle.pool_machine.specs.Phases.{phase_at, phase_of, waiting_in}
use Rattle.transfer_machine.specs.Stages.{try_kind, kind_of, try_index, index_of, turn_of}
use Rattle.pool_machine.specs.declared.call.Call.{Call}
use Rattle.pool_machine.specs.declared.call.Call.TheVariants.{Allocate, Free, Read, Write, Search}
use Rattle.pool_machine.specs.declared.call.CallStage.{CallStage}
use Rattle.pool_machine.specs.declared.call.CallStage.TheVariants.{Between, Choosing, Moving, Own}
use Rattle.pool_machine.specs.declared.call.Way.{Way}
use Rattle.pool_machine.specs.declared.call.Way.TheVariants.{Fresh, Alone, Calls}
use Rattle.transfer_machine.specs.declared.stage.NextStep.{NextStep}
use Rattle.transfer_machine.specs.declared.stage.NextStep.TheVariants.{Rest, Announce, Try, LoadFinalState, LoadReply}
use Rattle.transfer_machine.specs.declared.stage.TryStep.{TryStep}
use Rattle.transfer_machine.specs.declared.stage.TryStep.TheVariants.{LoadState, LoadRecordWord, LoadCoveredSlot, ExchangeSlot}
use Rattle.transfer_machine.specs.declared.stage.TryStep.TheVariants.{LoadAnnouncement, LoadPoppedSlot, StoreRecordWord, ExchangeState}
use Rattle.pool_machine.specs.declared.phase.Phase.{Phase}
use Rattle.pool_machine.specs.declared.phase.Phase.TheVariants as phase
use Rattle.transfer_machine.specs.declared.transfer.TransferView.{TransferView}
use Rattle.pool_machine.specs.declared.view.ProcessView.{ProcessView}
use Rattle.pool_machine.specs.OwnSteps.{next_block, allocate_action, allocate_answer, allocate_kind}
use Rattle.pool_machine.specs.OwnSteps.{own_action_for, own_answer, own_answer_for, own_kind_for}
use Rattle.pool_machine.specs.Steps.{call_answer_at, call_answer, happened}
use Rattle.pool_machine.specs.declared.event.Happened.TheVariants.{Step}
use Rattle.interleaving_core.specs.LabelLaws.{KindFits, TransferKindsFit, OwnKindFits, NextKindsFit, TurnFits, TurnsFit}
use Rattle.interleaving_core.specs.TransferLaws.{moves_transfer}
use Rattle.std.proofs.lemmas.Bool.{false≢true}
use Rattle.interleaving_core.specs.LabelLaws.{AnswerFits, AnswersFit, PhaseFits, PhasesFit}
use Rattle.interleaving_core.specs.LabelLaws.{is_moving, WaitingFits, WaitingsFit}
use Rattle.interleaving_core.specs.Moves.{CoreState, view_at}
use Rattle.interleaving_core.specs.Steps.{is_alone, is_busy, is_at_step, next_action, next_answer, next_kind}
use Rattle.interleaving_core.proofs.Standing.{fresh_rests, alone_stage}
use Rattle.interleaving_core.proofs.Runs.{RunFits}
use Rattle.interleaving_core.proofs.CallLaws.{every_run}

-- the step of a transfer
try_fits : (sizes : Sizes) (v : TransferView) (second : Bool) (step : TryStep) → v.next ≡ Try second step
    → KindFits sizes v (try_kind step) (try_index step) (try_action sizes v step)
try_fits sizes v second LoadState e = (refl, refl)
try_fits sizes v second (LoadRecordWord index) e = refl
try_fits sizes v second (LoadCoveredSlot offset) e = refl
try_fits sizes v second (ExchangeSlot offset) e = (_, (_, refl))
try_fits sizes v second (LoadAnnouncement process) e = refl
try_fits sizes v second (LoadPoppedSlot process) e = (refl, λ word. ap (λ (next : NextStep). (met_at sizes v word next).loaded.popped) e)
try_fits sizes v second (StoreRecordWord index) e = (_, refl)
try_fits sizes v second ExchangeState e = (refl, (_, (_, refl)))

step_fits : (sizes : Sizes) (v : TransferView) (step : NextStep) → v.next ≡ step
    → KindFits sizes v (kind_of step) (index_of step) (action_at sizes v step)
step_fits sizes v Rest e = (refl, refl)
step_fits sizes v Announce e = (refl, (_, refl))
step_fits sizes v (Try second step) e = try_fits sizes v second step e
step_fits sizes v LoadFinalState e = (refl, refl)
step_fits sizes v LoadReply e = (refl, refl)

-- the turn of a transfer that it is in
tries_in_turn : (step : TryStep) (turn : ℕ) → (turn ≡ 1) ⊎ (turn ≡ 2) → TurnFits (try_kind step) turn
tries_in_turn LoadState turn e = e
tries_in_turn (LoadRecordWord index) turn e = e
tries_in_turn (LoadCoveredSlot offset) turn e = e
tries_in_turn (ExchangeSlot offset) turn e = e
tries_in_turn (LoadAnnouncement process) turn e = e
tries_in_turn (LoadPoppedSlot process) turn e = e
tries_in_turn (StoreRecordWord index) turn e = e
tries_in_turn ExchangeState turn e = e

one_or_two : (second : Bool) (step : TryStep) → (turn_of (Try second step) ≡ 1) ⊎ (turn_of (Try second step) ≡ 2)
one_or_two true step = inr refl
one_or_two false step = inl refl

turn_fits : (step : NextStep) → TurnFits (kind_of step) (turn_of step)
turn_fits Rest = refl
turn_fits Announce = refl
turn_fits (Try second step) = tries_in_turn step (turn_of (Try second step)) (one_or_two second step)
turn_fits LoadFinalState = refl
turn_fits LoadReply = refl

-- the kind of a turn fits what is to happen
pub turns_fit : TurnsFit
turns_fit v = turn_fits v.next

-- the kind of a transfer's step fits its word
pub transfer_kinds_fit : TransferKindsFit
transfer_kinds_fit sizes v = step_fits sizes v v.next refl

-- the own step of a call
allocate_fits : (v : ProcessView) (block : Option ℕ) → ((word : ℕ) → own_answer v word ≡ allocate_answer v.transfer.number block)
    → OwnKindFits v (allocate_kind block) (allocate_action block)
allocate_fits v None told = (told, refl)
allocate_fits v (Some block) told = (block, told, refl)

own_fits : (v : ProcessView) (call : Option Call) → v.calls.call ≡ call
    → OwnKindFits v (own_kind_for v.pool call) (own_action_for v.pool call)
own_fits v None e = (e, refl)
own_fits v (Some Allocate) e = allocate_fits v (next_block v.pool) (λ word. ap (own_answer_for v.transfer.number v.pool word) e)
own_fits v (Some (Free block)) e = (block, e, (_, refl))
own_fits v (Some (Read block place)) e = (block, (place, e, refl))
own_fits v (Some (Write block place value)) e = (block, (place, (value, e, refl)))
own_fits v (Some Search) e = allocate_fits v (next_block v.pool) (λ word. ap (own_answer_for v.transfer.number v.pool word) e)

-- the step of a process, by its way and the stage of its call
transfer_fits : (sizes : Sizes) (v : ProcessView) (alone : Bool) (stage : CallStage) → is_alone v.calls.way ≡ alone → v.calls.stage ≡ stage
    → is_busy v ≡ true → moves_transfer v ≡ true
    → KindFits sizes v.transfer (next_kind v) (index_of v.transfer.next) (next_action sizes v)
transfer_fits sizes v true stage way here busy moves = rw way (step_fits sizes v.transfer v.transfer.next refl)
transfer_fits sizes v false Between way here busy moves = absurd (false≢true (rw (way, here) at moves))
transfer_fits sizes v false Choosing way here busy moves = absurd (false≢true (rw (way, here) at moves))
transfer_fits sizes v false Moving way here busy moves = rw (way, here) (step_fits sizes v.transfer v.transfer.next refl)
transfer_fits sizes v false Own way here busy moves = absurd (false≢true (rw (way, here) at moves))

own_step_fits : (sizes : Sizes) (v : ProcessView) (alone : Bool) (stage : CallStage) → is_alone v.calls.way ≡ alone → v.calls.stage ≡ stage
    → is_busy v ≡ true → moves_transfer v ≡ false → OwnKindFits v (next_kind v) (next_action sizes v)
own_step_fits sizes v true stage way here busy not = absurd (false≢true (sym (rw way at not)))
own_step_fits sizes v false Between way here busy not = absurd (false≢true (rw (way, here) at busy))
own_step_fits sizes v false Choosing way here busy not = absurd (false≢true (rw (way, here) at busy))
own_step_fits sizes v false Moving way here busy not = absurd (false≢true (sym (rw (way, here) at not)))
own_step_fits sizes v false Own way here busy not = rw (way, here) (own_fits v v.calls.call refl)

-- the kind of a next step fits its action
pub next_kinds_fit : NextKindsFit
next_kinds_fit sizes v busy = (
  transfer_fits sizes v (is_alone v.calls.way) v.calls.stage refl refl busy,
  own_step_fits sizes v (is_alone v.calls.way) v.calls.stage refl refl busy,
)

-- the answer of a step
allocate_answers : (v : ProcessView) (by : ℕ) (block : Option ℕ) → next_kind v ≡ allocate_kind block
    → AnswerFits v (happened (allocate_kind block) (allocate_answer by block))
allocate_answers v by None e = (sym e, refl)
allocate_answers v by (Some block) e = (sym e, refl)

own_answers : (v : ProcessView) (word : ℕ) (call : Option Call) → v.calls.call ≡ call → next_kind v ≡ own_kind_for v.pool call
    → AnswerFits v (happened (own_kind_for v.pool call) (own_answer_for v.transfer.number v.pool word call))
own_answers v word None none e = λ some. absurd (some none)
own_answers v word (Some Allocate) is e = allocate_answers v v.transfer.number (next_block v.pool) e
own_answers v word (Some (Free block)) is e = (sym e, refl)
own_answers v word (Some (Read block place)) is e = λ some. e
own_answers v word (Some (Write block place value)) is e = e
own_answers v word (Some Search) is e = allocate_answers v v.transfer.number (next_block v.pool) e

call_answers : (v : ProcessView) (word : ℕ) (stage : CallStage) → v.calls.stage ≡ stage → is_alone v.calls.way ≡ false
    → is_at_step stage ≡ true → AnswerFits v (call_answer_at v word stage)
call_answers v word Between e calls inside = absurd (grind arith)
call_answers v word Choosing e calls inside = absurd (grind arith)
call_answers v word Moving e calls inside = rw (calls, e) refl
call_answers v word Own e calls inside = own_answers v word v.calls.call refl (rw (calls, e) refl)

next_answers : (v : ProcessView) (word : ℕ) (t : Bool) → is_alone v.calls.way ≡ t → is_busy v ≡ true → AnswerFits v (next_answer v word)
next_answers v word true alone busy = rw alone (rw alone refl)
next_answers v word false alone busy =
    let inside : is_at_step v.calls.stage ≡ true = rw alone at busy in
    answer_calls (call_answers v word v.calls.stage refl alone inside)
  where
    answer_calls : AnswerFits v (call_answer_at v word v.calls.stage) → AnswerFits v (next_answer v word)
    answer_calls fits = subst (AnswerFits v) (sym (ap (λ t. if t then Step (kind_of v.transfer.next) else call_answer v word) alone)) fits

-- the kind of an answer fits what happened
pub answers_fit : AnswersFit
answers_fit v word busy = next_answers v word (is_alone v.calls.way) refl busy

-- what a process is at
in_both : {t : Bool} → t ≡ false → t ≡ true → ⊥
in_both e f = grind arith

phase_fits : (sizes : Sizes) (v : ProcessView) (way : Way) (stage : CallStage) (rest : Bool) → v.calls.way ≡ way → v.calls.stage ≡ stage
    → is_rest v.transfer.next ≡ rest
    → (way ≡ Fresh → rest ≡ true) → (way ≡ Alone → stage ≡ Between)
    → PhaseFits sizes v (phase_at v stage)
phase_fits sizes v Fresh Between true e f g fresh alone = rw (e, f, g) refl
phase_fits sizes v Fresh Between false e f g fresh alone = absurd (in_both refl (fresh refl))
phase_fits sizes v Fresh Choosing rest e f g fresh alone = rw (e, f) refl
phase_fits sizes v Fresh Moving rest e f g fresh alone = (refl, rw (e, f) refl, rw (e, f) refl)
phase_fits sizes v Fresh Own rest e f g fresh alone = (f, rw (e, f) refl, rw (e, f) refl)
phase_fits sizes v Alone Between true e f g fresh alone = rw (e, f, g) (rw g refl)
phase_fits sizes v Alone Between false e f g fresh alone = rw (e, f, g) (refl, rw g refl, refl)
phase_fits sizes v Alone Choosing rest e f g fresh alone = let no = alone refl in cc
phase_fits sizes v Alone Moving rest e f g fresh alone = let no = alone refl in cc
phase_fits sizes v Alone Own rest e f g fresh alone = let no = alone refl in cc
phase_fits sizes v Calls Between true e f g fresh alone = rw (e, f, g) refl
phase_fits sizes v Calls Between false e f g fresh alone = rw (e, f, g) refl
phase_fits sizes v Calls Choosing rest e f g fresh alone = rw (e, f) refl
phase_fits sizes v Calls Moving rest e f g fresh alone = (refl, rw (e, f) refl, rw (e, f) refl)
phase_fits sizes v Calls Own rest e f g fresh alone = (f, rw (e, f) refl, rw (e, f) refl)

phases_here : (history : List Entry) (s : CoreState) → RunFits s history → (i : ℕ) → i < s.sizes.processes
    → PhaseFits s.sizes (view_at s i) (phase_of (view_at s i))
phases_here history s fits i li =
    let v = view_at s i in
    phase_fits s.sizes v v.calls.way v.calls.stage (is_rest v.transfer.next) refl refl refl
    (fresh_rests s.sizes (word_at s.sizes s.words) (view_at s) history i li fits.meets)
    (alone_stage s.sizes (word_at s.sizes s.words) (view_at s) history i li fits.meets)

-- the number of a phase fits the stage
pub phases_fit : PhasesFit
phases_fit = every_run _ phases_here

-- where a transfer waits
waiting_fits : (v : ProcessView) (rest : Bool) (at : Phase) → is_rest v.transfer.next ≡ rest → phase_of v ≡ at
    → WaitingFits v (if rest then None else waiting_in v at)
waiting_fits v true at g e = inl g
waiting_fits v false phase.Between g e = (refl, g, ap is_moving e)
waiting_fits v false (phase.Moving stage) g e = inr (ap is_moving e)
waiting_fits v false phase.Own g e = (refl, g, ap is_moving e)

-- the number of what is pending fits the plan
pub waitings_fit : WaitingsFit
waitings_fit v = waiting_fits v (is_rest v.transfer.next) (phase_of v) refl refl
