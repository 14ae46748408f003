-- a call is answered as it was asked for
use Rattle.std.proofs.Common.{◌≡◌, ◌≢◌, ℕ, ◌<◌, ◌==◌, Bool, true, false, Some, List, [], ◌∷◌, refl, sym, ap, ◌∙◌, inl, inr, subst, arith}
use Rattle.std.specs.Prelude.{◌&&◌}
use Rattle.std.proofs.lemmas.Bool.{cases_eq, false≢true}
use Rattle.std.proofs.lemmas.Bool.Decides.{nat_tests}
use Rattle.word_layout.specs.Sizes.{Sizes}
use Rattle.pool_model.specs.declared.entry.Entry.{Entry}
use Rattle.pool_machine.specs.declared.call.Call.{Call}
use Rattle.pool_machine.specs.declared.view.ProcessView.{ProcessView}
use Rattle.interleaving_core.specs.CallLaws.{answers_call, is_in_call}
use Rattle.interleaving_core.specs.MovingLaws.{is_event_of, is_answered}
use Rattle.interleaving_core.specs.Moves.{CoreState, view_at}
use Rattle.interleaving_core.specs.Runs.{IsRun, turns, Turn, Moves, Events, by_of, after_turn, turn_answer}
use Rattle.interleaving_core.specs.TurnLaws.{GoesOn, HasEnded, MakesCall, IsAnsweredAs, CallsAreAnsweredAsAsked}
use Rattle.interleaving_core.proofs.Runs.{turn_low}
use Rattle.interleaving_core.proofs.RunTurns.{others_leave, run_sizes}
use Rattle.interleaving_core.proofs.MovingAnswers.{calls_are_answered}
use Rattle.interleaving_core.proofs.TurnLaws.{calls_begin_as_asked, calls_stay}

-- a turn that doesn't answer leaves it to the later ones
later_answers : (i : ℕ) (turn : Turn) (more : List Turn) (s : CoreState) → (is_event_of i turn && answers_call (turn_answer turn s)) ≡ false
    → is_answered i (turn ∷ more) s ≡ true → is_answered i more (after_turn turn s) ≡ true
unfolding is_answered
later_answers i turn more s off answers = rw off at answers

none_answers : (i : ℕ) (s : CoreState) → is_answered i [] s ≡ true → ⊥
unfolding is_answered
none_answers i s answers = false≢true answers

second_off : (a b : Bool) → b ≡ false → (a && b) ≡ false
second_off true b off = off
second_off false b off = refl

first_off : (a b : Bool) → a ≡ false → (a && b) ≡ false
first_off true b off = absurd (false≢true (sym off))
first_off false b off = refl

isnt_its : (i : ℕ) (turn : Turn) → by_of turn ≢ i → is_event_of i turn ≡ false
isnt_its i (Moves by wish) ne = refl
isnt_its i (Events by call) ne = off by i ne
  where
    off : (a b : ℕ) → a ≢ b → (a == b) ≡ false
    off a b ne = grind (arith, nat_tests)

-- the first turn, and the later ones
answered_now : (call : Call) (i : ℕ) (turn : Turn) (more : List Turn) (s : CoreState) → by_of turn ≡ i
    → HasEnded call i (turn_answer turn s) (view_at (after_turn turn s) i) → IsAnsweredAs call i (turn ∷ more) s
unfolding IsAnsweredAs
answered_now call i turn more s own ended = inl (own, ended)

answered_later : (call : Call) (i : ℕ) (turn : Turn) (more : List Turn) (s : CoreState)
    → (by_of turn ≡ i → GoesOn call (turn_answer turn s) (view_at (after_turn turn s) i))
    → IsAnsweredAs call i more (after_turn turn s) → IsAnsweredAs call i (turn ∷ more) s
unfolding IsAnsweredAs
answered_later call i turn more s goes later = inr (goes, later)

-- in these turns a process in the middle of this call, which answer one, has this one answered
abbrev AnswersAs : Sizes → Call → ℕ → List Turn → Type 0
AnswersAs sizes call i more =
    (past : List Turn) (history : List Entry) (s : CoreState) → IsRun sizes past history s → is_in_call (view_at s i).calls.stage ≡ true
    → (view_at s i).calls.call ≡ Some call → is_answered i more s ≡ true → IsAnsweredAs call i more s

one_makes : (sizes : Sizes) (call : Call) (i : ℕ) (turn : Turn) (more : List Turn) → AnswersAs sizes call i more → (past : List Turn)
    (history : List Entry) (s : CoreState) → IsRun sizes past history s → by_of turn ≡ i
    → MakesCall call i (turn_answer turn s) (view_at (after_turn turn s) i) → is_answered i (turn ∷ more) s ≡ true
    → IsAnsweredAs call i (turn ∷ more) s
one_makes sizes call i turn more later past history s run own makes answers = elim makes [
  | inl goes ↦
      answered_later call i turn more s (λ e. goes)
      (later _ _ (after_turn turn s) (turns past history s turn run) goes.within goes.same
      (later_answers i turn more s (second_off (is_event_of i turn) (answers_call (turn_answer turn s)) goes.silent) answers))
  | inr ended ↦ answered_now call i turn more s own ended
]

stays_as : (sizes : Sizes) (past : List Turn) (history : List Entry) (s : CoreState) → IsRun sizes past history s
    → (turn : Turn) (call : Call)
    (i : ℕ) → by_of turn ≡ i → i < sizes.processes → is_in_call (view_at s i).calls.stage ≡ true → (view_at s i).calls.call ≡ Some call
    → MakesCall call i (turn_answer turn s) (view_at (after_turn turn s) i)
stays_as sizes past history s run turn call i own =
    subst (λ (o : ℕ). o < sizes.processes → is_in_call (view_at s o).calls.stage ≡ true → (view_at s o).calls.call ≡ Some call
    → MakesCall call o (turn_answer turn s) (view_at (after_turn turn s) o)) own (calls_stay sizes past history s run turn call)

inside_as : (sizes : Sizes) (call : Call) (i : ℕ) (more : List Turn) → i < sizes.processes → AnswersAs sizes call i more
inside_as sizes call i [] li past history s run within same answers = absurd (none_answers i s answers)
inside_as sizes call i (turn ∷ more) li past history s run within same answers = elim (cases_eq (by_of turn) i) [
  | inl own ↦
      one_makes sizes call i turn more (inside_as sizes call i more li) past history s run own
      (stays_as sizes past history s run turn call i own li within same) answers
  | inr ne ↦
      let view : view_at (after_turn turn s) i ≡ view_at s i = others_leave s turn i (λ e. ne (sym e)) in
      answered_later call i turn more s (λ e. absurd (ne e))
      (inside_as sizes call i more li _ _ (after_turn turn s) (turns past history s turn run)
      (ap (λ (v : ProcessView). is_in_call v.calls.stage) view ∙ within) (ap (λ (v : ProcessView). v.calls.call) view ∙ same)
      (later_answers i turn more s
      (first_off (is_event_of i turn) (answers_call (turn_answer turn s)) (isnt_its i turn ne)) answers))
]

low_as : (sizes : Sizes) (s : CoreState) (i : ℕ) → s.sizes ≡ sizes → i < s.sizes.processes → i < sizes.processes
low_as sizes s i e li = rw (← e) li

-- a call is answered as it was asked
pub calls_are_answered_as_asked : CallsAreAnsweredAsAsked
calls_are_answered_as_asked sizes past history s run i call more between made many =
    let li = low_as sizes s i (run_sizes sizes past history s run) (turn_low s (Events i call) made) in
    one_makes sizes call i (Events i call) more (inside_as sizes call i more li) past history s run refl
    (calls_begin_as_asked sizes past history s run i call between made)
    (calls_are_answered sizes past history s run i call more between made many)
