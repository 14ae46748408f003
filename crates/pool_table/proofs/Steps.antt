-- what a step of a seat owes to the rule, and what it tells
use Rattle.std.proofs.Common.{◌≡◌, ℕ, Bool, true, false, List, ◌++◌, refl, sym, ap, ◌∙◌, subst}
use Rattle.std.specs.Prelude.{slice_index, slice_set}
use Rattle.std.proofs.lemmas.Bool.{false≢true}
use mathlib.Core.Option.{some}
use lib.ListN.{get_elem?}
use Rattle.word_rule.specs.Moves.{Keeps, Learned}
use Rattle.word_rule.proofs.Among.{after_is_among}
use Rattle.word_layout.specs.Sizes.{Sizes}
use Rattle.word_layout.specs.Names.{InRange, word_at, set_word, place}
use Rattle.pool_model.specs.History.{own, grip}
use Rattle.transfer_machine.specs.Words.{acted, met_word, name_of, left_by}
use Rattle.transfer_machine.specs.declared.action.Action.{Action}
use Rattle.transfer_machine.specs.declared.action.Action.TheVariants.{Load, Store, Exchange}
use Rattle.pool_machine.specs.declared.view.ProcessView.{ProcessView}
use Rattle.interleaving_core.specs.Invariant.{DataHolds}
use Rattle.interleaving_core.specs.Runs.{entries_of}
use Rattle.interleaving_core.specs.StepLaws.{word_met, words_after}
use Rattle.interleaving_core.specs.Steps.{is_alone, next_action, next_answer}
use Rattle.interleaving_core.proofs.Holds.{StepAllowed, step_allowed}
use Rattle.interleaving_core.proofs.Tables.{next_in_range, next_number}
use Rattle.pool_table.specs.declared.about.About.{About}
use Rattle.pool_table.specs.Minds.{Mind, number_of, known_in, SeesOwn}
use Rattle.pool_table.specs.Views.{SeatView}
use Rattle.pool_table.specs.Rule.{views_of, Holds}
use Rattle.pool_table.specs.Turns.{turning, mind_met, turned, MayTurn}
use Rattle.pool_table.specs.Steps.{CanStep, CanMeetNext, SeenAfter, answered, MadeOn, Stepped}
use Rattle.pool_table.proofs.Due.{begun_minds, begun_here}
use Rattle.pool_table.proofs.Entries.{AllOwn, next_entries_own, seen_goes_on, entries_go_on}
use Rattle.pool_table.proofs.Seen.{longest_is_history}
use Rattle.pool_table.proofs.Stored.{SameMet, stores_meet_any}
use Rattle.pool_table.proofs.Turns.{mind_after_is, seat_of, seat_step_due, turning_number, step_keeps_rule}

-- the step of a seat is allowed
seat_step_allowed : (words : List ℕ) (views : List SeatView) (place : ℕ) (v : SeatView) (a : About) → Holds words views
    → get_elem? views place ≡ some v → v.of_process ≡ true → MayTurn v.sizes a v.mind
    → StepAllowed v.sizes (word_at v.sizes words) (turning a v.mind.view)
seat_step_allowed words views place v a h at e may =
    let n = number_of v.mind in
    let w = turning a v.mind.view in
    let due = seat_step_due words views place v a h at e may in
    let allowed = step_allowed v.sizes (word_at v.sizes words) (views_of (begun_minds n w h.minds)) h.history n due.table.shape
    due.table.low due.table.meets due.busy in
    rw (begun_here n w h.minds) at allowed

-- what may be done of the seat's own shape
may_turn_so : (sizes : Sizes) (a : About) (v : SeatView) → CanStep sizes a v → MayTurn v.sizes a v.mind
may_turn_so sizes a v can = subst (λ z. MayTurn z a v.mind) (sym can.shape) can.may

-- so the next step of a process can be made, on words that its seat may be among
pub next_step_allowed : (sizes : Sizes) (a : About) (v : SeatView) → (can : CanStep sizes a v)
    → StepAllowed v.sizes (word_at v.sizes can.among.words) (turning a v.mind.view)
next_step_allowed sizes a v can =
    let among = can.among in
    seat_step_allowed among.words among.views among.number v a among.held among.seated can.of_process (may_turn_so sizes a v can)

-- the word that a step is on is one of the table
pub action_in_range : (sizes : Sizes) (a : About) (v : SeatView) (action : Action) → CanStep sizes a v
    → action ≡ next_action sizes (turning a v.mind.view) → InRange sizes (name_of action)
action_in_range sizes a v action can is =
    let w = turning a v.mind.view in
    let allowed = next_step_allowed sizes a v can in
    let range = next_in_range v.sizes (word_at v.sizes can.among.words) w (is_alone w.calls.way) refl allowed in
    subst (λ z. InRange sizes (name_of z)) (sym is) (subst (λ z. InRange z (name_of (next_action z w))) can.shape range)

-- the words after an action, and the one that it meets, by its place
acted_at : (sizes : Sizes) (words : List ℕ) (action : Action) → acted sizes words action
    ≡ slice_set words (place sizes (name_of action)) (left_by action (slice_index words (place sizes (name_of action))))
unfolding set_word word_at
acted_at sizes words action = refl

met_at_place : (sizes : Sizes) (words : List ℕ) (action : Action)
    → met_word sizes words action ≡ slice_index words (place sizes (name_of action))
unfolding word_at
met_at_place sizes words action = refl

-- what it owes
pub action_keeps : (sizes : Sizes) (a : About) (number : ℕ) (v : SeatView) (action : Action) → CanStep sizes a v
    → action ≡ next_action sizes (turning a v.mind.view)
    → Keeps Holds number v (place sizes (name_of action)) (left_by action) (turned a)
action_keeps sizes a number v action can is words views h at small =
    let w = turning a v.mind.view in
    let kept = step_keeps_rule words views number v a h at can.of_process (may_turn_so sizes a v can) in
    let same : words_after v.sizes words w ≡ acted sizes words action =
    ap (λ z. acted z words (next_action z w)) can.shape ∙ ap (acted sizes words) (sym is) in
    subst (λ list. Holds list (slice_set views number (turned a words views v))) (same ∙ acted_at sizes words action) kept

-- what the new view stays in range by
can_meet_by : (sizes : Sizes) (words : List ℕ) (v : ProcessView) (t : Bool) → is_alone v.calls.way ≡ t
    → StepAllowed sizes (word_at sizes words) v → CanMeetNext sizes v (word_met sizes words v)
can_meet_by sizes words v true e allowed = record {
  meet = λ alone. rw e (allowed.meet alone);
  end = λ alone. rw e (allowed.end alone);
  call = λ calls. absurd (false≢true (sym calls ∙ e));
}
can_meet_by sizes words v false e allowed = record {
  meet = λ alone. absurd (false≢true (sym e ∙ alone));
  end = λ alone. absurd (false≢true (sym e ∙ alone));
  call = λ calls. rw e (allowed.call_meet calls);
}

-- what it answers is as good as the word that it met
answer_meets : (sizes : Sizes) (v : ProcessView) (action : Action) (met : ℕ) → next_action sizes v ≡ action → CanMeetNext sizes v met
    → SameMet sizes v met (answered action met)
answer_meets sizes v (Load name) met is can = record { met = refl; answer = refl; can = can }
answer_meets sizes v (Store name word) met is can = stores_meet_any sizes v name word met word is
answer_meets sizes v (Exchange name old new) met is can = record { met = refl; answer = refl; can = can }

-- what a step about something has learned: the mind is that of the machine's step on the word that was met
module _ (sizes : Sizes) (a : About) (number : ℕ) (v x : SeatView) (action : Action) (met : ℕ) (can : CanStep sizes a v)
    (is : action ≡ next_action sizes (turning a v.mind.view))
    (learned : Learned Holds (turned a) number (place sizes (name_of action)) (left_by action) v met x) where
  word_is_met : word_met v.sizes learned.words (turning a v.mind.view) ≡ met
  word_is_met =
      let w = turning a v.mind.view in
      ap (λ z. met_word z learned.words (next_action z w)) can.shape
      ∙ (ap (met_word sizes learned.words) (sym is) ∙ (met_at_place sizes learned.words action ∙ learned.found))

  mind_is_met : x ≡ record v { mind = mind_met v.sizes learned.views (turning a v.mind.view) met v.mind }
  mind_is_met =
      let w = turning a v.mind.view in
      learned.learned ∙ (ap (λ mind. record v { mind = mind }) (mind_after_is a v.sizes learned.words learned.views v.mind)
      ∙ ap (λ word. record v { mind = mind_met v.sizes learned.views w word v.mind }) word_is_met)

  next_is : next_action v.sizes (turning a v.mind.view) ≡ action
  next_is = ap (λ z. next_action z (turning a v.mind.view)) can.shape ∙ sym is

  answers_so : answered action met ≡ answered (next_action v.sizes (turning a v.mind.view))
      (word_met v.sizes learned.words (turning a v.mind.view))
  answers_so = ap (λ next. answered next met) (sym next_is) ∙ ap (answered (next_action v.sizes (turning a v.mind.view))) (sym word_is_met)

  -- how it was made
  made_on : MadeOn a v (answered action met) x
  made_on =
      let w = turning a v.mind.view in
      let spot = place sizes (name_of action) in
      let after : words_after v.sizes learned.words w ≡ slice_set learned.words spot (left_by action met) =
      ap (acted v.sizes learned.words) next_is ∙ (ap (λ z. acted z learned.words action) can.shape
      ∙ (acted_at sizes learned.words action ∙ ap (λ word. slice_set learned.words spot (left_by action word)) learned.found)) in
      record {
        words = learned.words;
        views = learned.views;
        number = number;
        held = learned.held;
        seated = learned.seated;
        answers = answers_so;
        learned = learned.learned;
        kept = subst (λ list. Holds list (slice_set learned.views number x)) (sym after) learned.kept;
      }

  -- and all that it tells
  pub action_tells : Stepped a v (answered action met) x
  action_tells =
      let w = turning a v.mind.view in
      let n = number_of v.mind in
      let word = answered action met in
      let may = may_turn_so sizes a v can in
      let held = learned.held in
      let s = seat_of learned.words learned.views number v held learned.seated can.of_process in
      let long = longest_is_history v.sizes learned.words held.minds learned.views held.history s.numbered s.holds in
      let owner = turning_number learned.words learned.views number v a held learned.seated can.of_process may in
      let allowed = seat_step_allowed learned.words learned.views number v a held learned.seated can.of_process may in
      let can_meet = subst (CanMeetNext v.sizes w) word_is_met (can_meet_by v.sizes learned.words w (is_alone w.calls.way) refl allowed) in
      let same = answer_meets v.sizes w action met next_is can_meet in
      let entries = entries_of (next_answer w met) in
      let answered_entries : entries ≡ entries_of (next_answer w word) = ap entries_of same.answer in
      let mine : AllOwn n entries = subst (λ k. AllOwn k entries) owner (next_entries_own w met) in
      let sees : SeesOwn held.history n v.mind.seen =
      subst (λ (mind : Mind). SeesOwn held.history n mind.seen) s.here (s.holds.sees n s.low) in
      let known : DataHolds v.sizes (word_at v.sizes learned.words) (grip (own held.history n)) (known_in v.mind.known) =
      subst (λ (mind : Mind). DataHolds v.sizes (word_at v.sizes learned.words) (grip (own held.history n)) (known_in mind.known)) s.here
      (s.holds.data_words n s.low) in
      let after = mind_met v.sizes learned.views w met v.mind in
      let so : x.mind ≡ after = ap (λ (z : SeatView). z.mind) mind_is_met in
      let numbered : number_of x.mind ≡ n = ap number_of so ∙ (next_number v.sizes w met (is_alone w.calls.way) refl ∙ owner) in
      record {
        stays = mind_is_met ∙ ap (λ mind. record v { mind = mind }) (sym so);
        number = numbered;
        owner = owner;
        view = ap (λ (z : Mind). z.view) so ∙ same.met;
        moves = ap (λ (z : Mind). z.moves) so;
        known = ap (λ (z : Mind). z.known) so;
        seen = subst (λ list. SeenAfter list v.mind.seen x.mind.seen) answered_entries
            (subst (SeenAfter entries v.mind.seen) (sym (ap (λ (z : Mind). z.seen) so))
            (seen_goes_on held.history entries n learned.views v.mind.seen long sees));
        entries = ap (own x.mind.seen) numbered ∙ (ap (λ (z : Mind). own z.seen n) so
            ∙ (entries_go_on held.history entries n learned.views v.mind.seen long mine sees
            ∙ ap (λ list. own v.mind.seen n ++ list) answered_entries));
        reads = λ block index value acts knows. answers_so ∙ (ap (λ next. answered next (word_met v.sizes learned.words w)) acts
            ∙ (ap (met_word v.sizes learned.words) acts ∙ known.value block index value knows));
        can_meet = same.can;
        made = made_on;
        among = after_is_among Holds (turned a) number (place sizes (name_of action)) (left_by action) v met x learned;
      }
