-- the state that the words and views of a run show, and which announcements are pending
use Rattle.std.proofs.Common.{◌≡◌, ℕ, ◌+◌, ◌%◌, ◌<◌, ◌≤◌, ◌==◌, true, false, List, refl, sym, ◌∙◌, inl, inr, arith}
use Rattle.std.proofs.lemmas.Bool.{cases_eq}
use Rattle.word_layout.specs.Sizes.{Sizes}
use Rattle.word_layout.specs.Names.{word_at}
use Rattle.word_layout.specs.Packing.{tag_of, value_of, is_odd_reply}
use Rattle.word_layout.specs.declared.name.WordName.TheVariants.{RecordWord}
use Rattle.transfer_machine.specs.States.{StackState}
use Rattle.transfer_machine.specs.Tries.{is_pending}
use Rattle.transfer_machine.specs.Words as table
use Rattle.transfer_invariant.specs.Memory.{Views, States, state_tag, current_record, word_value}
use Rattle.transfer_invariant.specs.Progress.{has_announced, has_tried}
use Rattle.helping_invariant.proofs.Pending.{pends_not, pends_so}
use Rattle.stack_invariant.specs.Gives.{present}
use Rattle.stack_invariant.specs.Stack.{StackHolds}
use Rattle.stack_invariant.specs.Shown.{Shows}
use Rattle.stack_invariant.proofs.Content.{words_show}
use Rattle.stack_invariant.proofs.Tables.{tables_show}
use Rattle.interleaving_core.specs.Moves.{CoreState, view_at}
use Rattle.interleaving_core.specs.TransferLaws.{reply_to, announcement_of, announced_count, pends, TwoTriesApply, ShowsState}
use Rattle.interleaving_core.specs.TransferLaws.{RunsShowStates}
use Rattle.interleaving_core.proofs.Joins.{transfers}
use Rattle.interleaving_core.proofs.Runs.{run_fits}

true_false : true ≡ false → ⊥
true_false h = grind arith

-- an announcement with the number of the age is pending where its transfer isn't applied
pub applied_unless_pending : (word reply applied age : ℕ) → is_odd_reply reply ≡ (applied % 2 == 1) → tag_of word ≡ age → applied ≤ age
    → age ≤ applied + 1 → is_pending word reply ≡ false → applied ≡ age
applied_unless_pending word reply applied age parity tag most least not = elim (cases_eq applied age) [
  | inl e ↦ e
  | inr ne ↦
      let next : applied + 1 ≡ age = omega arith in
      absurd (true_false (sym (pends_so word reply applied parity (λ same. next_differs (tag_of word) applied age tag next same)) ∙ not))
]
  where
    next_differs : (t a b : ℕ) → t ≡ b → a + 1 ≡ b → t % 2 ≡ a % 2 → ⊥
    next_differs t a b e next same = omega arith

-- a pending announcement is the one after the last that was applied
pub next_where_pending : (word reply applied age : ℕ) → is_odd_reply reply ≡ (applied % 2 == 1) → tag_of word ≡ age → applied ≤ age
    → age ≤ applied + 1 → is_pending word reply ≡ true → applied + 1 ≡ age
next_where_pending word reply applied age parity tag most least is = elim (cases_eq applied age) [
  | inl e ↦ absurd (true_false (sym is ∙ pends_not word reply applied parity (rw (tag, e) refl)))
  | inr ne ↦ omega arith
]

-- an announcement that was applied isn't pending
pub calm_where_applied : (word reply applied age : ℕ) → is_odd_reply reply ≡ (applied % 2 == 1) → tag_of word ≡ age → applied ≡ age
    → is_pending word reply ≡ false
calm_where_applied word reply applied age parity tag e = pends_not word reply applied parity (rw (tag, e) refl)

-- the reply in the current record is that of the state
pub reply_shown : (sizes : Sizes) (words : List ℕ) (t : StackState) (o : ℕ) → o < sizes.processes
    → Shows sizes.processes (word_at sizes words) t
    → value_of (word_at sizes words (RecordWord (table.current_record sizes words) (sizes.processes + 2 + o))) ≡ t.reply o
unfolding current_record word_value
reply_shown sizes words t o lo h = h.reply o lo

-- words and views that meet the invariant show the present state
module _ (s : CoreState) (views : Views) (states : States) (h : StackHolds s.sizes (word_at s.sizes s.words) views states) where
  reply_is : (o : ℕ) → o < s.sizes.processes → reply_to s o ≡ (present (word_at s.sizes s.words) states).reply o
  reply_is o lo =
      reply_shown s.sizes s.words (present (word_at s.sizes s.words) states) o lo
      (words_show s.sizes (word_at s.sizes s.words) views states h)

  parity_is : (o : ℕ) → o < s.sizes.processes
      → is_odd_reply (reply_to s o) ≡ ((present (word_at s.sizes s.words) states).applied o % 2 == 1)
  parity_is o lo = rw (reply_is o lo) (h.helping.counts.parities o (state_tag (word_at s.sizes s.words)) lo (omega arith))

  pub holds_show : ((o : ℕ) → o < s.sizes.processes → (views o).age ≡ announced_count s o)
      → ShowsState s (present (word_at s.sizes s.words) states)
  holds_show ages = record {
    content = tables_show s.sizes s.words views states h;
    replies = reply_is;
    applied =
        λ o lo calm. let own = h.helping.announced o lo in applied_unless_pending (announcement_of s o) (reply_to s o)
        ((present (word_at s.sizes s.words) states).applied o) (views o).age (parity_is o lo) own.tag own.most own.least calm ∙ ages o lo;
    pending =
        λ o lo is. let own = h.helping.announced o lo in next_where_pending (announcement_of s o) (reply_to s o)
        ((present (word_at s.sizes s.words) states).applied o) (views o).age (parity_is o lo) own.tag own.most own.least is ∙ ages o lo;
  }

  pub pends_in_tries : (o : ℕ) → o < s.sizes.processes
      → ((has_announced (views o).next ≡ false → pends s o ≡ false) × (has_tried (views o).next ≡ true → pends s o ≡ false))
  pends_in_tries o lo =
      let own = h.helping.announced o lo in
      let tries = h.helping.tries o lo in
      let calm = λ (e : (present (word_at s.sizes s.words) states).applied o ≡ (views o).age). calm_where_applied (announcement_of s o)
      (reply_to s o) ((present (word_at s.sizes s.words) states).applied o) (views o).age (parity_is o lo) own.tag e in
      ((λ e. calm (own.idle e)), (λ e. calm (tries.ended e)))

-- the words and views of a run show a state
pub runs_show_states : RunsShowStates
runs_show_states sizes past history s run =
    let (ghosts, h) = (run_fits sizes past history s run).meets in
    (present (word_at s.sizes s.words) ghosts.states, holds_show s (transfers (view_at s)) ghosts.states h.stack (λ o lo. refl))

-- an announcement is pending in its owner's two tries alone
pub two_tries_apply : TwoTriesApply
two_tries_apply sizes past history s process run low =
    let (ghosts, h) = (run_fits sizes past history s run).meets in
    let (before, after) = pends_in_tries s (transfers (view_at s)) ghosts.states h.stack process low in
    record { before = before; after = after }
