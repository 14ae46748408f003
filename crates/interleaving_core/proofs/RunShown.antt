-- the step of a transfer, between words and views that meet the invariant of the stack and show its states
use Rattle.std.proofs.Common.{◌≡◌, ◌≢◌, ℕ, ◌+◌, ◌%◌, ◌<◌, ◌==◌, ◌⊎◌, Bool, false, subst, sym, ◌∙◌, ap, inl, inr, arith}
use Rattle.std.specs.Prelude.{if◌then◌else◌, slice_index}
use Rattle.std.proofs.lemmas.Bool.{cases_eq}
use Rattle.word_layout.specs.Sizes.{Sizes, IsShape}
use Rattle.word_layout.specs.Names.{word_at}
use Rattle.word_layout.specs.Packing.{tag_of, is_odd_reply}
use Rattle.word_layout.specs.declared.name.WordName.TheVariants.{State}
use Rattle.transfer_machine.specs.Machine.{action_of}
use Rattle.transfer_machine.specs.States.{StackState, next_of}
use Rattle.transfer_machine.specs.Tries.{is_pending}
use Rattle.transfer_machine.specs.Words.{first_of}
use Rattle.transfer_machine.specs.declared.stage.NextStep.TheVariants.{Try}
use Rattle.transfer_machine.specs.declared.stage.TryStep.TheVariants.{ExchangeState}
use Rattle.transfer_invariant.specs.Memory.{Views, States, Acted, state_tag}
use Rattle.transfer_invariant.specs.Installing.{states_after}
use Rattle.transfer_invariant.proofs.Keeps.{row_fits}
use Rattle.helping_invariant.proofs.Pending.{pends_not, pends_so}
use Rattle.draft_invariant.specs.NextState.{SameState}
use Rattle.draft_invariant.proofs.NextState.{next_applied}
use Rattle.stack_invariant.specs.Stack.{StackHolds}
use Rattle.stack_invariant.specs.Gives.{present}
use Rattle.stack_invariant.specs.Laws.{HitsNot}
use Rattle.stack_invariant.proofs.Exchanging.{present_stays, present_installed}
use Rattle.stack_invariant.proofs.Follows.{installed_next}
use Rattle.stack_invariant.proofs.Tables.{first_same}
use Rattle.interleaving_core.specs.Moves.{CoreState}
use Rattle.interleaving_core.specs.TransferLaws.{ShowsState, LeavesContent, AppliesPending, IsExchange}
use Rattle.interleaving_core.proofs.Exchanges.{exchanging}

-- a state that is the same as the shown one is shown
same_heads : (p : ℕ) (t u : StackState) → SameState p t u → first_of t.height t.content ≡ first_of u.height u.content
same_heads p t u same = rw same.height (first_same u.height t.content u.content same.content)

same_shown : (s : CoreState) (t u : StackState) → ShowsState s t → SameState s.sizes.processes t u → ShowsState s u
same_shown s t u shows same = record {
  content = record {
    base = shows.content.base ∙ same.base;
    height = shows.content.height ∙ same.height;
    content = λ k lt. let low : k < t.height = rw same.height lt in shows.content.content k low ∙ same.content k lt;
    heads = shows.content.heads ∙ same_heads s.sizes.processes t u same;
  };
  replies = λ o lo. shows.replies o lo ∙ same.reply o lo;
  applied = λ o lo calm. sym (same.applied o lo) ∙ shows.applied o lo calm;
  pending = λ o lo is. ap (λ n. n + 1) (sym (same.applied o lo)) ∙ shows.pending o lo is;
}

-- two moments that show one state
pub both_shown : (s after : CoreState) (t : StackState) → after.sizes ≡ s.sizes → ShowsState s t → ShowsState after t
    → LeavesContent s after
both_shown s after t sizes old new = record {
  content = new.content.heads ∙ sym old.content.heads;
  replies = λ o lo. new.replies o (rw sizes lo) ∙ sym (old.replies o lo);
}

-- an announcement isn't pending in the state that has applied it
applied_once : (word old new before after : ℕ) → is_odd_reply old ≡ (before % 2 == 1) → is_odd_reply new ≡ (after % 2 == 1)
    → after ≡ (if is_pending word old then before + 1 else before) → is_pending word new ≡ false
applied_once word old new before after parity turned is = elim (cases_eq (tag_of word % 2) (before % 2)) [
  | inl e ↦
      let calm = pends_not word old before parity e in
      pends_not word new after turned (rw (is, calm) e)
  | inr ne ↦
      let pends = pends_so word old before parity ne in
      pends_not word new after turned (rw (is, pends) (next_parity (tag_of word) before ne))
]
  where
    next_parity : (a b : ℕ) → a % 2 ≢ b % 2 → a % 2 ≡ (b + 1) % 2
    next_parity a b ne = omega arith

-- the step of a transfer, between words and views that meet the stack's invariant and show its states
module _
    (s now : CoreState)
    (sizes_stay : now.sizes ≡ s.sizes)
    (i : ℕ)
    (views after : Views)
    (states : States)
    (shape : IsShape s.sizes)
    (li : i < s.sizes.processes)
    (h : StackHolds s.sizes (word_at s.sizes s.words) views states)
    (k : StackHolds s.sizes (word_at s.sizes now.words) after (states_after (word_at s.sizes s.words) (views i) states))
    (step_acted : Acted s.sizes (action_of s.sizes (views i)) (word_at s.sizes s.words) (word_at s.sizes now.words))
    (old_shown : ShowsState s (present (word_at s.sizes s.words) states))
    (new_shown : ShowsState now (present (word_at s.sizes now.words) (states_after (word_at s.sizes s.words) (views i) states)))
  where
    step_leaves : HitsNot (views i) (word_at s.sizes s.words) (views i).next → LeavesContent s now
    step_leaves not =
        let same = present_stays s.sizes (views i) (word_at s.sizes s.words) (word_at s.sizes now.words) states step_acted not in
        both_shown s now (present (word_at s.sizes s.words) states) sizes_stay old_shown
        (subst (λ (t : StackState). ShowsState now t) same new_shown)

    step_applies : (second : Bool) → (views i).next ≡ Try second ExchangeState → word_at s.sizes s.words State ≡ (views i).loaded.state
        → AppliesPending s now (λ o. slice_index (views i).loaded.announcements o) (present (word_at s.sizes s.words) states)
    step_applies second e hit =
        let words = word_at s.sizes s.words in
        let new = word_at s.sizes now.words in
        let v = views i in
        let t = present words states in
        let t2 = present new (states_after words v states) in
        let heard = λ (o : ℕ). slice_index v.loaded.announcements o in
        let gives = installed_next s.sizes words views states i second shape li h e hit in
        let row = row_fits s.sizes words i v shape.few_processes li (h.transfers.records.own i li) in
        let made = present_installed s.sizes v words new states second row step_acted e hit in
        let same : SameState s.sizes.processes t2 (next_of s.sizes.processes heard t) = subst
        (λ (z : StackState). SameState s.sizes.processes z (next_of s.sizes.processes heard t)) (sym made) gives.next in
        record {
          old = old_shown;
          present = λ o lo is.
              let gave = gives.pending o lo (sym (ap (is_pending (heard o)) (old_shown.replies o lo)) ∙ is) in
              gave.word ∙ sym ((h.helping.announced o lo).word gave.announced);
          new =
              same_shown now t2 (next_of s.sizes.processes heard t) new_shown
              (subst (λ (x : Sizes). SameState x.processes t2 (next_of s.sizes.processes heard t)) (sym sizes_stay) same);
          once = λ o lo.
              ap (is_pending (heard o)) (new_shown.replies o (rw sizes_stay lo))
              ∙ applied_once (heard o) (t.reply o) (t2.reply o) (t.applied o) (t2.applied o)
              (h.helping.counts.parities o (state_tag words) lo (omega arith))
              (k.helping.counts.parities o (state_tag new) lo (omega arith))
              (same.applied o lo ∙ next_applied s.sizes.processes heard t o lo);
        }

    pub step_content : LeavesContent s now
        ⊎ (IsExchange (views i).next × ((announcements : ℕ → ℕ) × ((t : StackState) × AppliesPending s now announcements t)))
    step_content = elim (exchanging (views i).next) [
      | inl at ↦ elim (cases_eq (word_at s.sizes s.words State) (views i).loaded.state) [
        | inl hit ↦ inr (
          at,
          (
            (λ o. slice_index (views i).loaded.announcements o),
            (present (word_at s.sizes s.words) states, step_applies at.0 at.1 hit),
          ),
        )
        | inr fails ↦ inl (step_leaves (λ second e hit. fails hit))
      ]
      | inr other ↦ inl (step_leaves (λ second e hit. other second e))
    ]
