-- a call that has begun is answered
use Rattle.std.proofs.Common.{◌≡◌, ◌≢◌, ℕ, ◌+◌, ◌<◌, ◌≤◌, ◌==◌, ◌⊎◌, Bool, true, false, List, [], ◌∷◌, refl, sym, ap, ◌∙◌, inl, inr, arith}
use Rattle.std.specs.Prelude.{nat_lt, ◌&&◌, ◌||◌, if◌then◌else◌}
use Rattle.std.proofs.lemmas.Bool.{cases_eq}
use Rattle.std.proofs.lemmas.Bool.Decides.{nat_tests}
use Rattle.word_layout.specs.Sizes.{Sizes, transfer_bound}
use Rattle.word_layout.specs.declared.announced.Wish.{Wish}
use Rattle.pool_model.specs.declared.entry.Entry.{Entry}
use Rattle.transfer_machine.specs.Stages.{is_rest}
use Rattle.pool_machine.specs.Pools.{view_met}
use Rattle.transfer_machine.specs.Words.{met_word}
use Rattle.pool_machine.specs.declared.call.Call.{Call}
use Rattle.pool_machine.specs.declared.call.CallStage.{CallStage}
use Rattle.pool_machine.specs.declared.call.CallStage.TheVariants.{Between, Choosing, Moving, Own}
use Rattle.pool_machine.specs.declared.call.Way.TheVariants.{Fresh, Alone, Calls}
use Rattle.pool_machine.specs.declared.call.Way.{Way}
use Rattle.word_layout.specs.Names.{word_at}
use Rattle.call_invariant.proofs.Uses.{calls_used}
use Rattle.interleaving_core.proofs.Standing.{alone_stage}
use Rattle.transfer_machine.specs.declared.kind.Kind.{Kind}
use Rattle.pool_machine.specs.declared.view.ProcessView.{ProcessView}
use Rattle.pool_machine.specs.Laws.{most_moves}
use Rattle.pool_machine.specs.OwnSteps.{own_kind, own_answer}
use Rattle.pool_machine.specs.Steps.{call_met_at, call_answer_at, happened}
use Rattle.pool_machine.specs.declared.answer.OwnAnswer.{OwnAnswer}
use Rattle.pool_machine.specs.declared.answer.OwnAnswer.TheVariants as answer
use Rattle.interleaving_core.specs.CallLaws.{left_at, steps_left, is_in_call}
use Rattle.interleaving_core.specs.Moves.{CoreState, view_at}
use Rattle.interleaving_core.specs.MovingLaws.{is_event_of, events_of, is_answered, CallsAreAnswered}
use Rattle.interleaving_core.specs.CallLaws.{answers_call}
use Rattle.interleaving_core.specs.Runs.{Turn, Moves, Events, IsRun, turns, is_made, turning_view, after_turn, turn_answer}
use Rattle.interleaving_core.specs.Steps.{is_at_step, next_action}
use Rattle.pool_machine.specs.Steps.{is_paced, stage_after}
use Rattle.transfer_machine.specs.declared.stage.NextStep.{NextStep}
use Rattle.interleaving_core.proofs.Runs.{RunFits, run_fits, turn_low}
use Rattle.interleaving_core.proofs.CallLaws.{shapes_stay, every_run}
use Rattle.interleaving_core.proofs.CallLawsShort.{FirstStepsLeave, first_left, LaterStepsLeave, later_left}
use Rattle.interleaving_core.proofs.CallLawsShort.{within_made, turn_turns, after_is, answer_is}
use Rattle.interleaving_core.proofs.CallLawsShort.{other_view, ignored_state, low_here}

-- the step of a call at its own step answers it, and the call goes on after any other
owns_answer : (kind : Kind) (told : OwnAnswer) → answers_call (happened kind told) ≡ true
owns_answer kind (answer.Recorded entry) = refl
owns_answer kind (answer.Loaded word) = refl
owns_answer kind answer.Stored = refl

step_answers : (sizes : Sizes) (v : ProcessView) (word : ℕ) (stage : CallStage) → is_at_step stage ≡ true
    → (answers_call (call_answer_at v word stage) ≡ true) ⊎ (is_in_call (call_met_at sizes v word stage).calls.stage ≡ true)
step_answers sizes v word Between inside = absurd (grind arith)
step_answers sizes v word Choosing inside = absurd (grind arith)
step_answers sizes v word Moving inside =
    inr (stays_within (is_paced v.calls.call) v.calls.chosen sizes.quantum v.calls.steps (view_met sizes v word).transfer.next)
  where
    either : (t : Bool) (a b : CallStage) → is_in_call a ≡ true → is_in_call b ≡ true → is_in_call (if t then a else b) ≡ true
    either true a b x y = x
    either false a b x y = y

    stays_within : (paced chosen : Bool) (quantum steps : ℕ) (next : NextStep)
        → is_in_call (stage_after paced chosen quantum steps next) ≡ true
    stays_within true chosen quantum steps next = either (is_rest next || (steps + 1 == quantum)) Own Moving refl refl
    stays_within false chosen quantum steps next =
        either (is_rest next) (if chosen then Own else Choosing) Moving (either chosen Own Choosing refl refl) refl
step_answers sizes v word Own inside = inl (owns_answer (own_kind v) (own_answer v word))

-- so does a turn of a call
turn_answers : (s : CoreState) (history : List Entry) (i : ℕ) (call : Call) → RunFits s history → is_made (Events i call) s ≡ true
    → (answers_call (turn_answer (Events i call) s) ≡ true) ⊎ (is_in_call (view_at (after_turn (Events i call) s) i).calls.stage ≡ true)
turn_answers s history i call fits made =
    let v = turning_view (Events i call) s in
    let word = met_word s.sizes s.words (next_action s.sizes v) in
    let k = turn_turns history s i call fits made in
    elim (step_answers s.sizes v word v.calls.stage k.inside) [
      | inl told ↦ inl (ap answers_call (answer_is s i call made k.calls) ∙ told)
      | inr inside ↦ inr (ap (λ x. is_in_call x.calls.stage) (after_is s history i call fits made k.calls) ∙ inside)
    ]

-- a process in the middle of a call makes no transfers alone
way_within : (way : Way) (stage : CallStage) → (way ≡ Alone → stage ≡ Between) → (way ≡ Fresh → stage ≡ Between) → is_in_call stage ≡ true
    → way ≡ Calls
way_within Fresh stage alone fresh within = absurd (none stage (fresh refl) within)
  where
    none : (stage : CallStage) → stage ≡ Between → is_in_call stage ≡ true → ⊥
    none Between e within = cc
    none Choosing e within = cc
    none Moving e within = cc
    none Own e within = cc
way_within Alone stage alone fresh within = absurd (none stage (alone refl) within)
  where
    none : (stage : CallStage) → stage ≡ Between → is_in_call stage ≡ true → ⊥
    none Between e within = cc
    none Choosing e within = cc
    none Moving e within = cc
    none Own e within = cc
way_within Calls stage alone fresh within = refl

-- a process in a call is one that calls
pub inside_calls : (s : CoreState) (history : List Entry) (i : ℕ) → RunFits s history → i < s.sizes.processes
    → is_in_call (view_at s i).calls.stage ≡ true → (view_at s i).calls.way ≡ Calls
inside_calls s history i fits li within =
    let v = view_at s i in
    let (ghosts, h) = fits.meets in
    let fresh = λ (e : v.calls.way ≡ Fresh). (
    let ne : v.calls.way ≢ Alone = λ alone. apart (sym e ∙ alone) in
    ap (λ x. x.calls.stage) ((calls_used s.sizes i v (ghosts.ledgers i) v.calls.way ne (h.pools i li)).fresh e).view
    ) in
    way_within v.calls.way v.calls.stage (alone_stage s.sizes (word_at s.sizes s.words) (view_at s) history i li fits.meets) fresh within
  where
    apart : Fresh ≡ Alone → ⊥
    apart e = cc

-- and it makes no move alone
pub no_move : (s : CoreState) (i : ℕ) (wish : Wish) → (view_at s i).calls.way ≡ Calls → is_made (Moves i wish) s ≡ false
no_move s i wish e = rw e (none_second (nat_lt i s.sizes.processes))
  where
    none_second : (a : Bool) → (a && false) ≡ false
    none_second true = refl
    none_second false = refl

-- tests and numbers
second_is : (a b : Bool) → b ≡ true → (a || b) ≡ true
second_is true b e = refl
second_is false b e = e

one_less : (after : ℕ) {before events : ℕ} → before ≤ 1 + events → after + 1 ≤ before → after ≤ events
one_less after left less = omega (arith, left, less)

low_there : (sizes : Sizes) (s : CoreState) (i : ℕ) → s.sizes ≡ sizes → i < sizes.processes → i < s.sizes.processes
low_there sizes s i e li = rw e li

isnt : (a b : ℕ) → a ≢ b → (a == b) ≡ false
isnt a b ne = grind (arith, nat_tests)

-- a turn that is none of its calls leaves it where it is in its call
apart : (a b : ℕ) → (a == b) ≡ false → a ≢ b
apart a b off = grind (arith, nat_tests)

other_turn : (s : CoreState) (history : List Entry) (i : ℕ) (turn : Turn) → RunFits s history → i < s.sizes.processes
    → is_in_call (view_at s i).calls.stage ≡ true → is_event_of i turn ≡ false
    → view_at (after_turn turn s) i ≡ view_at s i
other_turn s history i (Moves by wish) fits li inside none = elim (cases_eq by i) [
  | inl same ↦
      let off : is_made (Moves by wish) s ≡ false = rw same (no_move s i wish (inside_calls s history i fits li inside)) in
      ap (λ t. view_at t i) (ignored_state s (Moves by wish) off)
  | inr ne ↦ other_view s (Moves by wish) i (is_made (Moves by wish) s) ne
]
other_turn s history i (Events by call) fits li inside none = other_view s (Events by call) i (is_made (Events by call) s) (apart by i none)

-- one turn more
answered_first : (s : CoreState) (i : ℕ) (call : Call) (more : List Turn) → answers_call (turn_answer (Events i call) s) ≡ true
    → is_answered i (Events i call ∷ more) s ≡ true
unfolding is_answered
answered_first s i call more told = let own : (i == i) ≡ true = grind (arith, nat_tests) in rw (own, told) refl

answered_later : (s : CoreState) (i : ℕ) (turn : Turn) (more : List Turn) → is_answered i more (after_turn turn s) ≡ true
    → is_answered i (turn ∷ more) s ≡ true
unfolding is_answered
answered_later s i turn more later =
    second_is (is_event_of i turn && answers_call (turn_answer turn s)) (is_answered i more (after_turn turn s)) later

events_none : (i : ℕ) → events_of i [] ≡ 0
unfolding events_of
events_none i = refl

events_own : (i : ℕ) (call : Call) (more : List Turn) → events_of i (Events i call ∷ more) ≡ 1 + events_of i more
unfolding events_of
events_own i call more = let own : (i == i) ≡ true = grind (arith, nat_tests) in rw own refl

events_other : (i : ℕ) (turn : Turn) (more : List Turn) → is_event_of i turn ≡ false → events_of i (turn ∷ more) ≡ events_of i more
unfolding events_of
events_other i turn more none = rw none (omega arith)

-- a call that isn't answered has a turn left
some_left : (paced chosen : Bool) (quantum bound steps done : ℕ) (stage : CallStage) → is_in_call stage ≡ true
    → 1 ≤ left_at paced chosen quantum bound steps done stage
some_left paced chosen quantum bound steps done Between within = absurd (grind arith)
some_left paced chosen quantum bound steps done Choosing within = omega arith
some_left true chosen quantum bound steps done Moving within = omega arith
some_left false true quantum bound steps done Moving within = omega arith
some_left false false quantum bound steps done Moving within = omega arith
some_left paced chosen quantum bound steps done Own within = omega arith

-- a process in a call has it answered in these turns, if as many of them are its own as the call has turns left
abbrev IsAnsweredInside : Sizes → ℕ → List Turn → Type 0
IsAnsweredInside sizes i more =
    (past : List Turn) (history : List Entry) (s : CoreState) → IsRun sizes past history s → is_in_call (view_at s i).calls.stage ≡ true
    → steps_left sizes (view_at s i) ≤ events_of i more → is_answered i more s ≡ true

-- by a turn of the call one step fewer is left, if it isn't the answer
own_inside : (sizes : Sizes) (i : ℕ) (call : Call) (more : List Turn) → i < sizes.processes → IsAnsweredInside sizes i more
    → IsAnsweredInside sizes i (Events i call ∷ more)
own_inside sizes i call more li later past history s run inside left =
    let low = low_there sizes s i (shapes_stay sizes past history s run) li in
    let less = every_run LaterStepsLeave later_left sizes past history s run i call li inside in
    elim (turn_answers s history i call (run_fits sizes past history s run) (within_made s i call low inside)) [
      | inl told ↦ answered_first s i call more told
      | inr goes ↦ answered_later s i (Events i call) more
          (later _ _ (after_turn (Events i call) s) (turns past history s (Events i call) run) goes
          (one_less (steps_left sizes (view_at (after_turn (Events i call) s) i))
          (rw (events_own i call more) at left) less))
    ]

-- and by any other turn none
other_inside : (sizes : Sizes) (i : ℕ) (turn : Turn) (more : List Turn) → i < sizes.processes → is_event_of i turn ≡ false
    → IsAnsweredInside sizes i more → IsAnsweredInside sizes i (turn ∷ more)
other_inside sizes i turn more li none later past history s run inside left =
    let same = other_turn s history i turn (run_fits sizes past history s run)
    (low_there sizes s i (shapes_stay sizes past history s run) li) inside none in
    answered_later s i turn more
    (later _ _ (after_turn turn s) (turns past history s turn run) (ap (λ x. is_in_call x.calls.stage) same ∙ inside)
    (rw same (rw (events_other i turn more none) at left)))

none_left : (sizes : Sizes) (i : ℕ) → IsAnsweredInside sizes i []
none_left sizes i past history s run inside left =
    absurd (nothing _ (some_left (is_paced (view_at s i).calls.call) (view_at s i).calls.chosen sizes.quantum (transfer_bound sizes)
    (view_at s i).calls.steps (view_at s i).pool.plan.done (view_at s i).calls.stage inside) (rw (events_none i) at left))
  where
    nothing : (left : ℕ) → 1 ≤ left → left ≤ 0 → ⊥
    nothing left some none = omega (arith, some, none)

inside_answered : (sizes : Sizes) (i : ℕ) (more : List Turn) → i < sizes.processes → IsAnsweredInside sizes i more
inside_answered sizes i [] li = none_left sizes i
inside_answered sizes i (Moves by wish ∷ more) li = other_inside sizes i (Moves by wish) more li refl (inside_answered sizes i more li)
inside_answered sizes i (Events by call ∷ more) li = elim (cases_eq by i) [
  | inl same ↦ rw same (own_inside sizes i call more li (inside_answered sizes i more li))
  | inr ne ↦ other_inside sizes i (Events by call) more li (isnt by i ne) (inside_answered sizes i more li)
]

-- a call that goes on is answered in the end
pub calls_are_answered : CallsAreAnswered
calls_are_answered sizes past history s run i call more between made many =
    let li = low_here sizes s i (shapes_stay sizes past history s run) (turn_low s (Events i call) made) in
    let first = every_run FirstStepsLeave first_left sizes past history s run i call between made in
    elim (turn_answers s history i call (run_fits sizes past history s run) made) [
      | inl told ↦ answered_first s i call more told
      | inr goes ↦ answered_later s i (Events i call) more
          (inside_answered sizes i more li _ _ (after_turn (Events i call) s) (turns past history s (Events i call) run) goes
          (all_left _ (most_moves sizes call) (events_of i more) first (rw (events_own i call more) at many)))
    ]
  where
    all_left : (left most events : ℕ) → left + 1 ≤ most + 1 → most + 1 ≤ 1 + events → left ≤ events
    all_left left most events first many = omega (arith, first, many)
