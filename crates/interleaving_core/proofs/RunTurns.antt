-- turns of a run, one after the other, and what they leave
use Rattle.std.proofs.Common.{◌≡◌, ◌≢◌, ℕ, ◌<◌, Bool, true, false, List, [], ◌∷◌, ◌++◌, length, refl, sym, ◌∙◌, ap, append_assoc}
use Rattle.std.proofs.Common.{get_or-set_other, get_or-set_same, subst, arith}
use Rattle.std.specs.Prelude.{if◌then◌else◌, nat_lt, ◌&&◌, ◌||◌, not}
use Rattle.std.proofs.lemmas.Bool.Decides.{nat_tests}
use Rattle.std.proofs.lemmas.List.{append-nil}
use Rattle.word_layout.specs.Sizes.{Sizes}
use Rattle.word_layout.specs.Packing.{most_age}
use Rattle.pool_model.specs.declared.entry.Entry.{Entry}
use Rattle.pool_machine.specs.Pools.{opening_view}
use Rattle.transfer_machine.specs.Words.{met_word}
use Rattle.transfer_machine.specs.Stages.{is_rest}
use Rattle.pool_machine.specs.declared.call.Way.{Way}
use Rattle.pool_machine.specs.declared.call.Way.TheVariants.{Fresh, Alone, Calls}
use Rattle.pool_machine.specs.declared.view.ProcessView.{ProcessView}
use Rattle.pool_machine.specs.Conditions.{may_use_transfers}
use Rattle.interleaving_core.specs.Steps.{is_alone, is_at_step, next_action, next_met}
use Rattle.interleaving_core.specs.Moves.{CoreState, view_at, with_step, may_wish, holds_for, may_start_at}
use Rattle.interleaving_core.specs.Runs.{IsRun, Turn, by_of, is_made, turning_view, after_turn, turn_answer, entries_of, opens, turns}
use Rattle.interleaving_core.specs.Runs.{opened}
use Rattle.interleaving_core.specs.TransferLaws.{after_turns, entries_made, RunsMeetInvariant, RunsGoOn, RunsAreMade, BusyProcessesGoOn}
use Rattle.interleaving_core.specs.TransferLaws.{OthersLeaveViews}
use Rattle.interleaving_core.proofs.Runs.{run_fits}

-- a turn leaves the numbers of the pool
either_sizes : (t : Bool) (x s : CoreState) → x.sizes ≡ s.sizes → (if t then x else s).sizes ≡ s.sizes
either_sizes true x s e = e
either_sizes false x s e = refl

-- a turn leaves the sizes
pub turn_sizes : (turn : Turn) (s : CoreState) → (after_turn turn s).sizes ≡ s.sizes
turn_sizes turn s = either_sizes (is_made turn s) (with_step (by_of turn) (turning_view turn s) s) s refl

-- a run has the sizes that it was opened with
pub run_sizes : (sizes : Sizes) (past : List Turn) (history : List Entry) (s : CoreState) → IsRun sizes past history s → s.sizes ≡ sizes
run_sizes sizes past history s (opens words shape opening) = refl
run_sizes sizes past history s (turns before made old turn run) = turn_sizes turn old ∙ run_sizes sizes before made old run

-- a run meets the invariant
pub run_holds : RunsMeetInvariant
run_holds sizes past history s run =
    let fits = run_fits sizes past history s run in
    record {
      same_sizes = run_sizes sizes past history s run;
      shape = fits.shape;
      words = fits.whole;
      views = fits.seats;
      holders = fits.holders.size;
      meets = fits.meets;
    }

-- more turns of a run
more_turns : (sizes : Sizes) (past more : List Turn) (history : List Entry) (s : CoreState) → IsRun sizes past history s
    → IsRun sizes (past ++ more) (history ++ entries_made more s) (after_turns more s)
unfolding after_turns entries_made
more_turns sizes past [] history s run = rw (append-nil past, append-nil history) run
more_turns sizes past (turn ∷ more) history s run =
    let rest = more_turns sizes (past ++ turn ∷ []) more (history ++ entries_of (turn_answer turn s)) (after_turn turn s)
    (turns past history s turn run) in
    regrouped (append_assoc past (turn ∷ []) more)
    (append_assoc history (entries_of (turn_answer turn s)) (entries_made more (after_turn turn s))) rest
  where
    regrouped : {sizes : Sizes} {a b : List Turn} {c d : List Entry} {s : CoreState} → a ≡ b → c ≡ d → IsRun sizes a c s → IsRun sizes b d s
    regrouped {sizes = sizes} {a = a} {b = b} {c = c} {d = d} {s = s} e f run =
        subst (λ (all : List Turn). IsRun sizes all d s) e (subst (λ (all : List Entry). IsRun sizes a all s) f run)

-- one turn more makes a run of a run
pub runs_go_on : RunsGoOn
runs_go_on sizes words more shape opening = more_turns sizes [] more [] (opened sizes words) (opens words shape opening)

one_more : (past : List Turn) (turn : Turn) (s : CoreState) → after_turns (past ++ turn ∷ []) s ≡ after_turn turn (after_turns past s)
unfolding after_turns
one_more [] turn s = refl
one_more (first ∷ past) turn s = one_more past turn (after_turn first s)

one_entry : (past : List Turn) (turn : Turn) (s : CoreState)
    → entries_made (past ++ turn ∷ []) s ≡ entries_made past s ++ entries_of (turn_answer turn (after_turns past s))
unfolding after_turns entries_made
one_entry [] turn s = append-nil (entries_of (turn_answer turn s))
one_entry (first ∷ past) turn s =
    ap (λ (more : List Entry). entries_of (turn_answer first s) ++ more) (one_entry past turn (after_turn first s))
    ∙ sym (append_assoc (entries_of (turn_answer first s)) (entries_made past (after_turn first s))
    (entries_of (turn_answer turn (after_turns past (after_turn first s)))))

none_made : (s : CoreState) → s ≡ after_turns [] s
unfolding after_turns
none_made s = refl

none_entered : (s : CoreState) → [] ≡ entries_made [] s
unfolding entries_made
none_entered s = refl

-- each list of turns makes a run
pub runs_are_made : RunsAreMade
runs_are_made sizes past history s (opens words shape opening) =
    (words, opening, none_made (opened sizes words), none_entered (opened sizes words))
runs_are_made sizes past history s (turns before made old turn run) =
    let (words, opening, same, entries) = runs_are_made sizes before made old run in (
      words,
      opening,
      ap (after_turn turn) same ∙ sym (one_more before turn (opened sizes words)),
      both (λ (list : List Entry) (x : CoreState). list ++ entries_of (turn_answer turn x)) entries same ∙ sym
          (one_entry before turn (opened sizes words)),
    )
  where
    both : (f : List Entry → CoreState → List Entry) {a b : List Entry} {s t : CoreState} → a ≡ b → s ≡ t → f a s ≡ f b t
    both f {a = a} {b = b} {s = s} {t = t} e g = ap (λ (x : List Entry). f x s) e ∙ ap (f b) g

-- a process that has a next step makes it
is_low : (a b : ℕ) (t : Bool) → a < b → t ≡ true → (nat_lt a b && t) ≡ true
is_low a b t lt e = grind (arith, nat_tests)

moves_on : (way : Way) (rest t : Bool) → is_alone way ≡ true → not rest ≡ true → (may_use_transfers way && (not rest || t)) ≡ true
moves_on Fresh rest t alone busy = grind arith
moves_on Alone true t alone busy = grind arith
moves_on Alone false t alone busy = refl
moves_on Calls rest t alone busy = grind arith

goes_on : (inside t : Bool) → inside ≡ true → (inside || t) ≡ true
goes_on inside t e = rw e refl

-- a busy process makes its turn
pub busy_go_on : BusyProcessesGoOn
busy_go_on s process low busy =
    let v = view_at s process in (
      λ alone wish. is_low process s.sizes.processes
          (may_use_transfers v.calls.way && (not (is_rest v.transfer.next) ||
          (nat_lt v.transfer.age (most_age s.sizes) && may_wish wish v.pool))) low
          (moves_on v.calls.way (is_rest v.transfer.next) (nat_lt v.transfer.age (most_age s.sizes) && may_wish wish v.pool) alone
          (rw alone at busy)),
      λ calls call. is_low process s.sizes.processes
          (is_at_step v.calls.stage || may_start_at v.calls.stage s.sizes (holds_for s.holders process call) call v) low
          (goes_on (is_at_step v.calls.stage) (may_start_at v.calls.stage s.sizes (holds_for s.holders process call) call v)
          (rw calls at busy)),
    )

-- the views after a turn
either_view : (t : Bool) (s : CoreState) (by other : ℕ) (v : ProcessView) → other ≢ by
    → view_at (if t then with_step by v s else s) other ≡ view_at s other
either_view true s by other v ne =
    get_or-set_other s.views by other (next_met s.sizes v (met_word s.sizes s.words (next_action s.sizes v))) (opening_view s.sizes other)
    ne
either_view false s by other v ne = refl

-- a turn leaves the views of others
pub others_leave : OthersLeaveViews
others_leave s turn other ne = either_view (is_made turn s) s (by_of turn) other (turning_view turn s) ne

-- a turn leaves its process the view that its step gives
pub own_view : (s : CoreState) (by : ℕ) (v : ProcessView) → by < length s.views
    → view_at (with_step by v s) by ≡ next_met s.sizes v (met_word s.sizes s.words (next_action s.sizes v))
own_view s by v low =
    get_or-set_same s.views by (next_met s.sizes v (met_word s.sizes s.words (next_action s.sizes v))) (opening_view s.sizes by) low
