-- every step of every seat keeps the rule
use Rattle.std.proofs.Common.{◌≡◌, ◌≢◌, ℕ, ◌<◌, true, List, ◌++◌, set, refl, sym, ap, ◌∙◌, subst, inl, inr, arith}
use Rattle.std.specs.Prelude.{slice_set}
use Rattle.std.proofs.lemmas.Bool.{cases_eq}
use mathlib.Core.Option.{some}
use lib.ListN.{get_elem?}
use Rattle.word_layout.specs.Sizes.{Sizes}
use Rattle.word_layout.specs.Names.{word_at}
use Rattle.pool_model.specs.declared.entry.Entry.{Entry}
use Rattle.pool_model.specs.History.{own, grip}
use Rattle.pool_machine.specs.declared.view.ProcessView.{ProcessView}
use Rattle.interleaving_core.specs.Invariant.{DataHolds}
use Rattle.interleaving_core.specs.Runs.{entries_of}
use Rattle.interleaving_core.specs.StepLaws.{word_met, words_after, history_after, StepIsDue}
use Rattle.interleaving_core.specs.Steps.{is_alone, next_action, next_answer}
use Rattle.interleaving_core.proofs.DataSteps.{steps_enter_own}
use Rattle.interleaving_core.proofs.Due.{steps_keep_invariant}
use Rattle.interleaving_core.proofs.Standing.{number_holds}
use Rattle.interleaving_core.proofs.Tables.{acted_length, next_number}
use Rattle.pool_table.specs.declared.about.About.{About}
use Rattle.pool_table.specs.declared.about.About.TheVariants as about
use Rattle.pool_table.specs.Minds.{Mind, number_of, known_in, SeesOwn}
use Rattle.pool_table.specs.Views.{SeatView, longest}
use Rattle.pool_table.specs.Rule.{Minds, views_of, MindsHold, Numbered, Holds}
use Rattle.pool_table.specs.Turns.{turning, mind_stepped, mind_after, turned, MayTurn}
use Rattle.pool_table.proofs.Data.{own_data_after, other_data_after}
use Rattle.pool_table.proofs.Due.{views_move_on, with_view, begun_minds, step_is_due, begun_here}
use Rattle.pool_table.proofs.Entries.{sees_own_after, sees_on, one_sees_all_after}
use Rattle.pool_table.proofs.Numbered.{moved, moved_here, moved_elsewhere, own_mind_is_seated, step_keeps_numbered}
use Rattle.pool_table.proofs.Seen.{longest_is_history}

-- a fact of each process, once the mind of one has become another
each_mind_moved : (Fact : ℕ → Mind → Type 0) (p i : ℕ) (mind : Mind) (minds : Minds) → Fact i mind
    → ((o : ℕ) → o < p → o ≢ i → Fact o (minds o)) → (o : ℕ) → o < p → Fact o (moved i mind minds o)
each_mind_moved Fact p i mind minds here others o low = elim (cases_eq o i) [
  | inl e ↦ rw e (rw (moved_here i mind minds) here)
  | inr ne ↦ rw (moved_elsewhere i o mind minds ne) (others o low ne)
]

-- the step of one process with this view, where it is due
module _ (sizes : Sizes) (words : List ℕ) (minds : Minds) (history : List Entry) (views : List SeatView) (i : ℕ) (v : ProcessView)
    (holds : MindsHold sizes words minds history) (long : longest views ≡ history)
    (due : StepIsDue sizes words (views_of (begun_minds i v minds)) history i) where
  -- the data words that each process knows
  data_after : (o : ℕ) → o < sizes.processes
      → DataHolds sizes (word_at sizes (words_after sizes words v)) (grip (own (history_after sizes words v history) o))
      (known_in (moved i (mind_stepped sizes words views v (minds i)) minds o).known)
  data_after =
      let here = begun_here i v minds in
      let begun = views_of (begun_minds i v minds) in
      let low = due.table.low in
      let mine = own_data_after sizes words begun history i (minds i).known due (holds.data_words i low) in
      each_mind_moved
      (λ o mind. DataHolds sizes (word_at sizes (words_after sizes words v)) (grip (own (history_after sizes words v history) o))
      (known_in mind.known))
      sizes.processes i (mind_stepped sizes words views v (minds i)) minds (rw here at mine)
      (λ o lo ne.
      let theirs = other_data_after sizes words begun history i o (known_in (minds o).known) due lo ne (holds.data_words o lo) in
      rw here at theirs)

  -- after the step the words and the minds of all processes meet the invariant, with the history that it leaves
  pub minds_stepped : MindsHold sizes (words_after sizes words v) (moved i (mind_stepped sizes words views v (minds i)) minds)
      (history_after sizes words v history)
  minds_stepped =
      let here = begun_here i v minds in
      let begun = views_of (begun_minds i v minds) in
      let mind = mind_stepped sizes words views v (minds i) in
      let entries = entries_of (next_answer v (word_met sizes words v)) in
      let low = due.table.low in
      let kept = steps_keep_invariant sizes words begun history i due (views_of (moved i mind minds)) in
      let elsewhere = steps_enter_own sizes words begun history i due in
      record {
        shape = holds.shape;
        whole = acted_length sizes words (next_action sizes v) ∙ holds.whole;
        meets = (rw here at kept) (views_move_on i (with_view v (minds i)) mind minds);
        sees = each_mind_moved (λ o m. SeesOwn (history ++ entries) o m.seen) sizes.processes i mind minds
            (sees_own_after history entries i views (minds i).seen long (holds.sees i low))
            (λ o lo ne. sees_on history entries o (minds o).seen ((rw here at elsewhere) o ne) (holds.sees o lo));
        whole_seen = one_sees_all_after sizes.processes minds history entries i views mind low long refl holds.whole_seen;
        data_words = data_after;
      }

-- a step about something
pub mind_after_is : (a : About) (sizes : Sizes) (words : List ℕ) (views : List SeatView) (mind : Mind)
    → mind_after a sizes words views mind ≡ mind_stepped sizes words views (turning a mind.view) mind
mind_after_is (about.Alone wish) sizes words views mind = refl
mind_after_is (about.InCall call) sizes words views mind = refl

-- what the rule says of a seat's process: its mind is the one that the rule has for its number
pub record IsSeat (sizes : Sizes) (words : List ℕ) (minds : Minds) (history : List Entry) (views : List SeatView) (v : SeatView) : Type 0
  where
    pub holds : MindsHold sizes words minds history
    pub numbered : Numbered sizes minds views
    pub here : minds (number_of v.mind) ≡ v.mind
    pub low : number_of v.mind < sizes.processes

-- a process's seat under the rule has the mind of the process with its number, and the rule's shape
pub seat_of : (words : List ℕ) (views : List SeatView) (place : ℕ) (v : SeatView) (h : Holds words views)
    → get_elem? views place ≡ some v → v.of_process ≡ true → IsSeat v.sizes words h.minds h.history views v
seat_of words views place v h at e =
    let same : h.sizes ≡ v.sizes = sym (h.numbered.shaped place v at e) in
    let seated = own_mind_is_seated h.sizes h.minds views place v h.numbered at e in
    record {
      holds = subst (λ sizes. MindsHold sizes words h.minds h.history) same h.holds;
      numbered = subst (λ sizes. Numbered sizes h.minds views) same h.numbered;
      here = seated.1;
      low = let few = h.numbered.few in let low = seated.0 in subst (λ (z : Sizes). number_of v.mind < z.processes) same (omega arith);
    }

-- the step of a seat is due
pub seat_step_due : (words : List ℕ) (views : List SeatView) (place : ℕ) (v : SeatView) (a : About) (h : Holds words views)
    → get_elem? views place ≡ some v → v.of_process ≡ true → MayTurn v.sizes a v.mind
    → StepIsDue v.sizes words (views_of (begun_minds (number_of v.mind) (turning a v.mind.view) h.minds)) h.history (number_of v.mind)
seat_step_due words views place v a h at e may =
    let s = seat_of words views place v h at e in
    let n = number_of v.mind in
    let due = step_is_due v.sizes words h.minds h.history n a s.holds s.low in
    subst (λ (mind : Mind). StepIsDue v.sizes words (views_of (begun_minds n (turning a mind.view) h.minds)) h.history n) s.here
    (due (subst (MayTurn v.sizes a) (sym s.here) may))

-- the view with which a step is made is of the same process
pub turning_number : (words : List ℕ) (views : List SeatView) (place : ℕ) (v : SeatView) (a : About) → (h : Holds words views)
    → get_elem? views place ≡ some v → v.of_process ≡ true → MayTurn v.sizes a v.mind
    → (turning a v.mind.view).transfer.number ≡ number_of v.mind
turning_number words views place v a h at e may =
    let n = number_of v.mind in
    let w = turning a v.mind.view in
    let due = seat_step_due words views place v a h at e may in
    let begun = begun_minds n w h.minds in
    let number = number_holds v.sizes (word_at v.sizes words) (views_of begun) h.history n due.table.low due.table.meets in
    sym (ap (λ (z : ProcessView). z.transfer.number) (begun_here n w h.minds)) ∙ number

-- the rule after the step of a seat
pub step_keeps_rule : (words : List ℕ) (views : List SeatView) (place : ℕ) (v : SeatView) (a : About) → Holds words views
    → get_elem? views place ≡ some v → v.of_process ≡ true → MayTurn v.sizes a v.mind
    → Holds (words_after v.sizes words (turning a v.mind.view)) (slice_set views place (turned a words views v))
step_keeps_rule words views place v a h at e may =
    let s = seat_of words views place v h at e in
    let n = number_of v.mind in
    let w = turning a v.mind.view in
    let due = seat_step_due words views place v a h at e may in
    let long = longest_is_history v.sizes words h.minds views h.history s.numbered s.holds in
    let stepped = mind_stepped v.sizes words views w v.mind in
    let minds = minds_stepped v.sizes words h.minds h.history views n w s.holds long due in
    let number : number_of stepped ≡ n = next_number v.sizes w (word_met v.sizes words w) (is_alone w.calls.way) refl
    ∙ turning_number words views place v a h at e may in
    let numbered = step_keeps_numbered v.sizes h.minds views place v stepped s.numbered at e number in
    let after : stepped ≡ mind_after a v.sizes words views v.mind = sym (mind_after_is a v.sizes words views v.mind) in
    let whole : MindsHold v.sizes (words_after v.sizes words w) (moved n stepped h.minds) (history_after v.sizes words w h.history) =
    subst (λ (mind : Mind). MindsHold v.sizes (words_after v.sizes words w) (moved n (mind_stepped v.sizes words views w mind) h.minds)
    (history_after v.sizes words w h.history)) s.here minds in
    record {
      sizes = v.sizes;
      minds = moved n stepped h.minds;
      history = history_after v.sizes words w h.history;
      holds = whole;
      numbered = subst (λ (mind : Mind). Numbered v.sizes (moved n stepped h.minds) (set views place (record v { mind = mind }))) after
          (subst (λ k. Numbered v.sizes (moved k stepped h.minds) (set views place (record v { mind = stepped }))) number numbered);
    }
