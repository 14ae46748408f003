-- the states go on following one another: where one is installed it follows the present one
use Rattle.std.proofs.Common.{◌≡◌, ℕ, ◌+◌, ◌<◌, Bool, refl, sym, ap, ◌∙◌, inl, inr, arith}
use Rattle.std.specs.Prelude.{slice_index}
use Rattle.std.proofs.lemmas.Bool.{cases_lt}
use Rattle.word_layout.specs.Sizes.{Sizes, IsShape}
use Rattle.word_layout.specs.Packing.{tag_of}
use Rattle.word_layout.specs.declared.name.WordName.TheVariants.{State}
use Rattle.transfer_machine.specs.Machine.{action_of}
use Rattle.transfer_machine.specs.States.{StackState}
use Rattle.transfer_machine.specs.declared.stage.NextStep.TheVariants.{Try}
use Rattle.transfer_machine.specs.declared.stage.TryStep.TheVariants.{ExchangeState}
use Rattle.transfer_invariant.specs.Memory.{Words, Views, States, Acted, state_tag}
use Rattle.transfer_invariant.specs.Installing.{drafted_state, with_state, states_after}
use Rattle.transfer_invariant.specs.OpeningState.{opening_state}
use Rattle.transfer_invariant.proofs.Keeps.{row_fits}
use Rattle.transfer_invariant.proofs.Writes.{with_state_here, with_state_below}
use Rattle.stack_invariant.specs.Following.{Follows, StatesFollow}
use Rattle.stack_invariant.specs.Gives.{present}
use Rattle.stack_invariant.specs.Laws.{HitsNot}
use Rattle.stack_invariant.specs.Stack.{StackHolds}
use Rattle.stack_invariant.proofs.Exchanging.{Hits, hitting, state_stays, states_stay, hit_states, hit_tag}
use Rattle.stack_invariant.proofs.Follows.{installed_next}

-- the state of the opening is the only one
pub opened_follow : (sizes : Sizes) (words : Words) → state_tag words ≡ 1 → StatesFollow sizes words (λ m. opening_state sizes)
opened_follow sizes words e = record {
  opened = refl;
  some = omega (arith, e);
  each = λ m some lt. absurd (omega (arith, e));
}

-- the number of the present state stays
pub follow_stays : (sizes : Sizes) (old new : Words) (states : States) → state_tag new ≡ state_tag old → StatesFollow sizes old states
    → StatesFollow sizes new states
follow_stays sizes old new states e h = record { opened = h.opened; some = rw e h.some; each = λ m some lt. h.each m some (rw e at lt) }

-- there is one more, which follows it
pub follow_grow : (sizes : Sizes) (old new : Words) (states : States) (next : StackState) → state_tag new ≡ state_tag old + 1
    → Follows sizes (states (state_tag old)) next → StatesFollow sizes old states
    → StatesFollow sizes new (with_state (state_tag old + 1) next states)
follow_grow sizes old new states next e follows h =
    let last = state_tag old in
    record {
      opened = with_state_below last next states 1 h.some ∙ h.opened;
      some = omega (arith, e);
      each = λ m some lt. elim (cases_lt m last) [
        | inl low ↦ rw (with_state_below last next states m (omega arith), with_state_below last next states (m + 1) (omega arith))
            (h.each m some low)
        | inr ge ↦ newest m (omega (arith, e))
      ];
    }
  where
    newest : (m : ℕ) → m ≡ state_tag old
        → Follows sizes (with_state (state_tag old + 1) next states m) (with_state (state_tag old + 1) next states (m + 1))
    newest m is =
        let last = with_state_below (state_tag old) next states (state_tag old) (omega arith) in
        rw is (rw (last, with_state_here (state_tag old + 1) next states) follows)

-- a state that is installed follows
pub installed_follows : (sizes : Sizes) (words : Words) (views : Views) (states : States) (i : ℕ) (second : Bool) → IsShape sizes
    → i < sizes.processes → StackHolds sizes words views states → (views i).next ≡ Try second ExchangeState
    → words State ≡ (views i).loaded.state → Follows sizes (present words states) (drafted_state (present words states) (views i))
installed_follows sizes words views states i second shape li h e same =
    let v = views i in
    let gives = installed_next sizes words views states i second shape li h e same in
    record {
      announcements = λ o. slice_index v.loaded.announcements o;
      next = gives.next;
      fresh = λ o lo pends.
          let p = gives.pending o lo pends in
          let a = h.helping.announced o lo in
          ap tag_of (p.word ∙ sym (a.word p.announced)) ∙ a.tag ∙ sym p.next;
      heads = (h.drafts.each i li).heads.announcements;
    }

-- a step
pub follow_kept : (sizes : Sizes) (words new : Words) (views : Views) (states : States) (i : ℕ) → IsShape sizes → i < sizes.processes
    → StackHolds sizes words views states → Acted sizes (action_of sizes (views i)) words new
    → StatesFollow sizes new (states_after words (views i) states)
unfolding state_tag
follow_kept sizes words new views states i shape li h acted = elim (hitting (views i) words (views i).next) [
  | inl hits ↦ installs hits
  | inr not ↦ stays not
]
  where
    stays : HitsNot (views i) words (views i).next → StatesFollow sizes new (states_after words (views i) states)
    stays not =
        let same = ap tag_of (state_stays sizes (views i) words new (views i).next acted not) in
        rw (states_stay (views i) words states (views i).next not) (follow_stays sizes words new states same h.follow)

    installs : Hits (views i) words (views i).next → StatesFollow sizes new (states_after words (views i) states)
    installs hits =
        let v = views i in
        let row = row_fits sizes words i v shape.few_processes li (h.transfers.records.own i li) in
        let number = hit_tag sizes v words new hits.second row acted hits.here hits.same in
        rw (hit_states v words states hits.second hits.here hits.same)
        (follow_grow sizes words new states (drafted_state (present words states) v) number
        (installed_follows sizes words views states i hits.second shape li h hits.here hits.same) h.follow)
