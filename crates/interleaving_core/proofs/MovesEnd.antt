-- a transfer alone ends by enough turns of its process
use Rattle.std.proofs.Common.{◌≡◌, ◌≢◌, ℕ, ◌+◌, ◌<◌, ◌≤◌, ◌==◌, Bool, true, false, List, [], ◌∷◌, ◌++◌, refl, sym, ap, ◌∙◌, inl, inr, arith}
use Rattle.std.specs.Prelude.{if◌then◌else◌, ◌&&◌, ◌||◌, nat_lt}
use Rattle.std.proofs.lemmas.Bool.{cases_eq, false≢true}
use Rattle.std.proofs.lemmas.Bool.Decides.{nat_tests}
use Rattle.word_layout.specs.Sizes.{Sizes, transfer_bound}
use Rattle.word_layout.specs.Names.{word_at}
use Rattle.word_layout.specs.declared.announced.Wish.{Wish}
use Rattle.pool_model.specs.declared.entry.Entry.{Entry}
use Rattle.transfer_machine.specs.Words.{met_word}
use Rattle.pool_machine.specs.Beginning.{alone_begun}
use Rattle.pool_machine.specs.declared.call.Call.{Call}
use Rattle.pool_machine.specs.declared.call.CallStage.TheVariants.{Between}
use Rattle.pool_machine.specs.declared.call.Way.TheVariants.{Alone}
use Rattle.pool_machine.specs.declared.view.ProcessView.{ProcessView}
use Rattle.interleaving_core.specs.Moves.{CoreState, view_at}
use Rattle.interleaving_core.specs.Runs.{IsRun, Turn, Moves, Events, turns, is_made, turning_view, after_turn}
use Rattle.interleaving_core.specs.Steps.{next_action, next_met}
use Rattle.interleaving_core.specs.TransferLaws.{rests, is_step, is_step_of, steps_of, NeverRests}
use Rattle.interleaving_core.specs.TurnLaws.{is_move_of, moves_of, comes_to_rest, TransfersAloneEnd}
use Rattle.interleaving_core.proofs.Standing.{alone_stage}
use Rattle.interleaving_core.proofs.Runs.{RunFits, run_fits, turn_low}
use Rattle.interleaving_core.proofs.RunTurns.{run_sizes, busy_go_on}
use Rattle.interleaving_core.proofs.RunMade.{runs_make_steps}
use Rattle.interleaving_core.proofs.RunSteps.{whole_transfers_end}
use Rattle.interleaving_core.proofs.CallLawsShort.{made_view, other_view, ignored_state}

-- a process that makes transfers alone goes on so
moved_alone : (sizes : Sizes) (wish : Wish) (v : ProcessView) (word : ℕ) (t : Bool) → (t ≡ false → v.calls.way ≡ Alone)
    → (next_met sizes (if t then alone_begun wish v else v) word).calls.way ≡ Alone
moved_alone sizes wish v word true alone = refl
moved_alone sizes wish v word false alone = let e = alone refl in rw e refl

no_event : (s : CoreState) (i : ℕ) (call : Call) → (view_at s i).calls.way ≡ Alone → (view_at s i).calls.stage ≡ Between
    → is_made (Events i call) s ≡ false
no_event s i call alone between = rw (between, alone) (none_second (nat_lt i s.sizes.processes))
  where
    none_second : (a : Bool) → (a && false) ≡ false
    none_second true = refl
    none_second false = refl

move_stays : (s : CoreState) (history : List Entry) (i : ℕ) (wish : Wish) (t : Bool) → RunFits s history → is_made (Moves i wish) s ≡ t
    → (t ≡ false → (view_at s i).calls.way ≡ Alone) → (rests s i ≡ false → (view_at s i).calls.way ≡ Alone)
    → (view_at (after_turn (Moves i wish) s) i).calls.way ≡ Alone
move_stays s history i wish true fits made off alone =
    let turn = Moves i wish in
    ap (λ (v : ProcessView). v.calls.way) (made_view s turn made (rw fits.seats (turn_low s turn made)))
    ∙ moved_alone s.sizes wish (view_at s i) (met_word s.sizes s.words (next_action s.sizes (turning_view turn s))) (rests s i) alone
move_stays s history i wish false fits made off alone =
    ap (λ (u : CoreState). (view_at u i).calls.way) (ignored_state s (Moves i wish) made) ∙ off refl

stays_alone : (s : CoreState) (history : List Entry) (i : ℕ) (turn : Turn) → RunFits s history → i < s.sizes.processes
    → (view_at s i).calls.way ≡ Alone → (view_at (after_turn turn s) i).calls.way ≡ Alone
stays_alone s history i (Moves by wish) fits li alone = elim (cases_eq by i) [
  | inl same ↦ rw same (move_stays s history i wish (is_made (Moves i wish) s) fits refl (λ e. alone) (λ e. alone))
  | inr ne ↦ ap (λ (v : ProcessView). v.calls.way) (other_view s (Moves by wish) i (is_made (Moves by wish) s) ne) ∙ alone
]
stays_alone s history i (Events by call) fits li alone = elim (cases_eq by i) [
  | inl same ↦
      let stage = alone_stage s.sizes (word_at s.sizes s.words) (view_at s) history i li fits.meets alone in
      rw same (ap (λ (u : CoreState). (view_at u i).calls.way) (ignored_state s (Events i call) (no_event s i call alone stage)) ∙ alone)
  | inr ne ↦ ap (λ (v : ProcessView). v.calls.way) (other_view s (Events by call) i (is_made (Events by call) s) ne) ∙ alone
]

-- each of its turns is a step of its transfer while that goes on
own_test : (i : ℕ) → (i == i) ≡ true
own_test i = grind (arith, nat_tests)

other_test : (a b : ℕ) → a ≢ b → (a == b) ≡ false
other_test a b ne = grind (arith, nat_tests)

one_step : (i : ℕ) (wish : Wish) (s : CoreState) → is_step (Moves i wish) s ≡ true → 1 ≤ is_step_of i (Moves i wish) s
one_step i wish s step = let own = own_test i in rw (own, step) (omega arith)

goes_busy : (s : CoreState) (i : ℕ) (wish : Wish) → i < s.sizes.processes → (view_at s i).calls.way ≡ Alone → rests s i ≡ false
    → is_made (Moves i wish) s ≡ true
goes_busy s i wish li alone goes = (busy_go_on s i li (rw (alone, goes) refl)).0 (rw alone refl) wish

counts_move : (sizes : Sizes) (past : List Turn) (history : List Entry) (s : CoreState) (i : ℕ) (turn : Turn) → IsRun sizes past history s
    → i < s.sizes.processes → (view_at s i).calls.way ≡ Alone → rests s i ≡ false
    → (if is_move_of i turn then 1 else 0) ≤ is_step_of i turn s
counts_move sizes past history s i (Events by call) run li alone goes = omega arith
counts_move sizes past history s i (Moves by wish) run li alone goes = elim (cases_eq by i) [
  | inl same ↦
      let own = own_test i in
      let made = goes_busy s i wish li alone goes in
      let step = (runs_make_steps sizes past history s i run li).moves wish made in
      rw same (moves_once (if is_move_of i (Moves i wish) then 1 else 0) (rw own refl) (one_step i wish s step))
  | inr ne ↦ let other = other_test by i ne in rw other (omega arith)
]
  where
    moves_once : (moves : ℕ) {steps : ℕ} → moves ≡ 1 → 1 ≤ steps → moves ≤ steps
    moves_once moves e le = omega (arith, e, le)

low_in : (sizes : Sizes) (s : CoreState) (i : ℕ) → s.sizes ≡ sizes → i < sizes.processes → i < s.sizes.processes
low_in sizes s i e li = rw e li

moves_count : (sizes : Sizes) (past more : List Turn) (history : List Entry) (s : CoreState) (i : ℕ) → IsRun sizes past history s
    → i < sizes.processes → (view_at s i).calls.way ≡ Alone → NeverRests i more s → moves_of i more ≤ steps_of i more s
unfolding moves_of steps_of NeverRests
moves_count sizes past [] history s i run li alone never = omega arith
moves_count sizes past (turn ∷ more) history s i run li alone (goes, never) =
    let low = low_in sizes s i (run_sizes sizes past history s run) li in
    let later = moves_count sizes (past ++ turn ∷ []) more _ (after_turn turn s) i (turns past history s turn run) li
    (stays_alone s history i turn (run_fits sizes past history s run) low alone) never in
    sum_le (if is_move_of i turn then 1 else 0) (moves_of i more) (is_step_of i turn s) (steps_of i more (after_turn turn s))
    (counts_move sizes past history s i turn run low alone goes) later
  where
    sum_le : (a b c d : ℕ) → a ≤ c → b ≤ d → a + b ≤ c + d
    sum_le a b c d le more = omega (arith, le, more)

-- where none of them leaves it at rest, it never rests
neither : (a b : Bool) → (a || b) ≡ false → (a ≡ false) × (b ≡ false)
neither true b e = absurd (false≢true (sym e))
neither false b e = (refl, e)

never_rests : (i : ℕ) (more : List Turn) (s : CoreState) → rests s i ≡ false → comes_to_rest i more s ≡ false → NeverRests i more s
unfolding comes_to_rest NeverRests
never_rests i [] s goes none = goes
never_rests i (turn ∷ more) s goes none =
    let (next, later) = neither (rests (after_turn turn s) i) (comes_to_rest i more (after_turn turn s)) none in
    (goes, never_rests i more (after_turn turn s) next later)

first_parts : (i : ℕ) (turn : Turn) (more : List Turn) (s : CoreState) → comes_to_rest i (turn ∷ more) s ≡ false
    → (rests (after_turn turn s) i ≡ false) × (comes_to_rest i more (after_turn turn s) ≡ false)
unfolding comes_to_rest
first_parts i turn more s none = neither (rests (after_turn turn s) i) (comes_to_rest i more (after_turn turn s)) none

first_move : (i : ℕ) (wish : Wish) (more : List Turn) → moves_of i (Moves i wish ∷ more) ≡ 1 + moves_of i more
unfolding moves_of
first_move i wish more = let own = own_test i in rw own refl

first_step : (i : ℕ) (turn : Turn) (more : List Turn) (s : CoreState)
    → steps_of i (turn ∷ more) s ≡ is_step_of i turn s + steps_of i more (after_turn turn s)
unfolding steps_of
first_step i turn more s = refl

both_ways : (t : Bool) → (t ≡ false → ⊥) → t ≡ true
both_ways true never = refl
both_ways false never = absurd (never refl)

-- a transfer alone is answered within its bound of turns
pub transfers_alone_end : TransfersAloneEnd
transfers_alone_end sizes past history s run i wish more rest made many =
    let turn = Moves i wish in
    let fits = run_fits sizes past history s run in
    let low = turn_low s turn made in
    let same = run_sizes sizes past history s run in
    let li = low_out sizes s i same low in
    both_ways (comes_to_rest i (turn ∷ more) s) (λ none.
    let (goes, later) = first_parts i turn more s none in
    let never = never_rests i more (after_turn turn s) goes later in
    let most = whole_transfers_end sizes past more history s turn i run li rest never in
    let alone = move_stays s history i wish true fits made (λ e. absurd (false≢true (sym e))) (λ e. absurd (false≢true (sym e ∙ rest))) in
    let counted = moves_count sizes (past ++ turn ∷ []) more _ (after_turn turn s) i (turns past history s turn run) li alone never in
    let step = one_step i wish s ((runs_make_steps sizes past history s i run low).moves wish made) in
    too_many (is_step_of i turn s) (steps_of i more (after_turn turn s)) (moves_of i more) (transfer_bound sizes)
    (rw (first_move i wish more) at many) (rw (first_step i turn more s) at most) counted step)
  where
    low_out : (sizes : Sizes) (s : CoreState) (i : ℕ) → s.sizes ≡ sizes → i < s.sizes.processes → i < sizes.processes
    low_out sizes s i e li = rw (← e) li

    too_many : (step steps moves bound : ℕ) → bound ≤ 1 + moves → step + steps + 1 ≤ bound → moves ≤ steps → 1 ≤ step → ⊥
    too_many step steps moves bound many most counted one = omega (arith, many, most, counted, one)
