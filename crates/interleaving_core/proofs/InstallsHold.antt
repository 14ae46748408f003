-- the step that installs a state keeps the whole invariant: takes that it answers with nothing are known to have found nothing
use Rattle.std.proofs.Common.{◌≡◌, ℕ, ◌<◌, Bool, true, false, List, length, refl, sym, ap, ◌∙◌, inl, inr, arith, subst}
use Rattle.std.specs.Prelude.{if◌then◌else◌, slice_index, ◌&&◌}
use Rattle.std.proofs.lemmas.Bool.{cases_eq}
use Rattle.word_layout.specs.Sizes.{Sizes, IsShape, limits_of}
use Rattle.word_layout.specs.Packing.{reply_of, announced_word}
use Rattle.word_layout.specs.declared.announced.Wish.{Wish}
use Rattle.word_layout.specs.declared.announced.Wish.TheVariants.{Take, Give}
use Rattle.word_layout.specs.declared.name.WordName.TheVariants.{State}
use Rattle.word_layout.proofs.Packed.{value_of-tagged}
use Rattle.pool_model.specs.declared.entry.Entry.{Entry}
use Rattle.pool_model.specs.History.{HasFewUnheld}
use Rattle.transfer_machine.specs.Machine.{action_of, met_of, met_at}
use Rattle.transfer_machine.specs.States.{StackState}
use Rattle.transfer_machine.specs.Tries.{is_pending, is_take, announced_wish}
use Rattle.transfer_machine.specs.Words.{name_of}
use Rattle.transfer_machine.specs.declared.transfer.TransferView.{TransferView}
use Rattle.pool_machine.specs.declared.view.ProcessView.{ProcessView}
use Rattle.transfer_machine.specs.declared.stage.NextStep.{NextStep}
use Rattle.transfer_machine.specs.declared.stage.NextStep.TheVariants.{Try}
use Rattle.transfer_machine.specs.declared.stage.TryStep.TheVariants.{ExchangeState}
use Rattle.transfer_invariant.specs.Memory.{Words, Acted, state_tag}
use Rattle.transfer_invariant.specs.Installing.{drafted_state, states_after}
use Rattle.transfer_invariant.specs.Progress.{has_announced}
use Rattle.stack_invariant.proofs.Exchanging.{present_installed}
use Rattle.stack_invariant.proofs.Follows.{installed_next}
use Rattle.batch_invariant.specs.Batches.{ProcessViews, MovedProcess}
use Rattle.batch_invariant.proofs.Going.{met_same_announcement}
use Rattle.batch_invariant.proofs.Moving.{SameAnnouncement}
use Rattle.history_invariant.specs.Ledger.{Ledger}
use Rattle.history_invariant.specs.Steps.{with_ledger}
use Rattle.interleaving_core.specs.Invariant.{Ghosts, Holds, Meets, KnowsOfNothing}
use Rattle.interleaving_core.proofs.Exchanges.{exchanging}
use Rattle.interleaving_core.proofs.Joins.{transfers, installs_next}
use Rattle.interleaving_core.proofs.Empties.{few_at}
use Rattle.stack_invariant.proofs.NextReplies.{reply_stays}
use Rattle.interleaving_core.proofs.TransferSteps.{finds_nothing, known_found, each_ledger, is_nothing, says_nothing}
use Rattle.interleaving_core.proofs.TransfersHold.{Made, ledgers_made, step_made, step_stays}

-- the announcement of a take is one of a take
take_read : (number : ℕ) (wish : Wish) → is_take wish ≡ true
    → is_take (announced_wish (announced_word (record { number = number; wish = wish }))) ≡ true
take_read number Take e = let none = value_of-tagged number 0 (omega arith) in rw none refl
take_read number (Give head) e = grind arith

-- an announcement that isn't pending leaves the count of its process
off_applied : (s : StackState) (v : TransferView) (o : ℕ) → is_pending (slice_index v.loaded.announcements o) (s.reply o) ≡ false
    → (drafted_state s v).applied o ≡ s.applied o
unfolding drafted_state
off_applied s v o off = rw off refl

-- a view that was announced before, with the same wish and age
record Since (old new : TransferView) : Type 0 where
  was : has_announced new.next ≡ true → has_announced old.next ≡ true
  wish : new.wish ≡ old.wish
  age : new.age ≡ old.age

since_itself : (v : TransferView) → Since v v
since_itself v = record { was = λ e. e; wish = refl; age = refl }

-- all tests of an answer with nothing
finds : (a b c : Bool) → a ≡ true → b ≡ true → c ≡ true → (a && (b && c)) ≡ true
finds a b c ea eb ec = rw (ea, eb, ec) refl

first_of_three : (a b c : Bool) → (a && (b && c)) ≡ true → a ≡ true
first_of_three true b c e = refl
first_of_three false b c e = grind arith

third_of_three : (a b c : Bool) → (a && (b && c)) ≡ true → c ≡ true
third_of_three true true c e = e
third_of_three true false c e = grind arith
third_of_three false b c e = grind arith

-- a process whose pending take the exchange answers with nothing, and one that knew before
knows_by : (s : StackState) (v : TransferView) (o : ℕ) (old new : TransferView) (g : Ledger) (p : Bool)
    → is_pending (slice_index v.loaded.announcements o) (s.reply o) ≡ p
    → (p ≡ true → slice_index v.loaded.announcements o ≡ announced_word (record { number = old.age; wish = old.wish }))
    → (p ≡ false → (drafted_state s v).reply o ≡ s.reply o)
    → Since old new → KnowsOfNothing s o old g
    → KnowsOfNothing (drafted_state s v) o new (if finds_nothing s v o then record g { found_nothing = true } else g)
knows_by s v o old new g true pending word reply since h = λ announced applied take nothing.
    let take_too : is_take (announced_wish (slice_index v.loaded.announcements o)) ≡ true = rw (word refl)
    (take_read old.age old.wish (rw (sym since.wish) take)) in
    let test = finds _ _ _ pending take_too (ap is_nothing nothing) in
    rw test refl
knows_by s v o old new g false off word reply since h = λ announced applied take nothing.
    known_found (finds_nothing s v o) g
    (h (since.was announced) (sym (off_applied s v o off) ∙ applied ∙ since.age) (rw (sym since.wish) take)
    (ap reply_of (sym (reply refl)) ∙ nothing))

since_goes : (old new : TransferView) → SameAnnouncement old new → Since old new
since_goes old new goes = record { was = λ e. goes.was; wish = goes.wish; age = goes.age }

since_exchange : (sizes : Sizes) (v : TransferView) (word : ℕ) (second : Bool) → v.next ≡ Try second ExchangeState
    → Since v (met_of sizes v word)
since_exchange sizes v word second e =
    subst (λ (s : NextStep). Since v (met_at sizes v word s)) (sym e)
    (since_goes v (met_at sizes v word (Try second ExchangeState))
    (met_same_announcement sizes v word (Try second ExchangeState) refl (rw e refl)))

-- the step that installs a state
module _ (sizes : Sizes) (words new : Words) (views after : ProcessViews) (history : List Entry) (ghosts : Ghosts) (i : ℕ) (x : ProcessView)
    (g : Ledger) (shape : IsShape sizes) (li : i < sizes.processes) (h : Holds sizes words views history ghosts)
    (acted : Acted sizes (action_of sizes (views i).transfer) words new) (moved : MovedProcess i x views after)
    (made : Made sizes words history ghosts i (views i) x g)
    (second : Bool) (e : (views i).transfer.next ≡ Try second ExchangeState) (hit : words State ≡ (views i).transfer.loaded.state) where
  s : StackState
  s = ghosts.states (state_tag words)

  since : (o : ℕ) → o < sizes.processes → Since (views o).transfer (after o).transfer
  since o lo = elim (cases_eq o i) [
    | inl same ↦ rw same (rw moved.here
        (rw made.parts.transfer (since_exchange sizes (views i).transfer (words (name_of (action_of sizes (views i).transfer))) second e)))
    | inr ne ↦ rw (moved.elsewhere o ne) (since_itself (views o).transfer)
  ]

  found_few : (o : ℕ) → o < sizes.processes → finds_nothing s (views i).transfer o ≡ true
      → HasFewUnheld (limits_of sizes) history (length history)
  unfolding s
  found_few o lo f =
      let v = (views i).transfer in
      let word = slice_index v.loaded.announcements o in
      let gives = installed_next sizes words (transfers views) ghosts.states i second shape li h.stack e hit in
      let said = says_nothing (reply_of ((drafted_state s v).reply o)) (third_of_three _ _ _ f) in
      few_at sizes words views history ghosts (λ k. slice_index v.loaded.announcements k) o shape lo h
      (installs_next sizes words views history ghosts i second shape li h e hit).present
      (first_of_three (is_pending word (s.reply o)) (is_take (announced_wish word)) (is_nothing (reply_of ((drafted_state s v).reply o))) f)
      (ap reply_of (sym (gives.next.reply o lo)) ∙ said)

  knew : (o : ℕ) → o < sizes.processes → KnowsOfNothing s o (views o).transfer (with_ledger i g ghosts.ledgers o)
  unfolding s
  knew o lo = each_ledger (λ k l. KnowsOfNothing (ghosts.states (state_tag words)) k (views k).transfer l) i o g ghosts.ledgers
      (λ same. rw same (λ announced applied take nothing. made.found (rw e refl) ∙ h.empties i li announced applied take nothing))
      (λ ne. h.empties o lo)

  knows : (o : ℕ) → o < sizes.processes
      → KnowsOfNothing (states_after words (views i).transfer ghosts.states (state_tag new)) o (after o).transfer
      (ledgers_made i g (finds_nothing s (views i).transfer) ghosts.ledgers o)
  unfolding s
  knows o lo =
      let v = (views i).transfer in
      let gives = installed_next sizes words (transfers views) ghosts.states i second shape li h.stack e hit in
      let row = (installs_next sizes words views history ghosts i second shape li h e hit).row in
      let now = present_installed sizes v words new ghosts.states second row acted e hit in
      rw now (knows_by s v o (views o).transfer (after o).transfer (with_ledger i g ghosts.ledgers o)
      (is_pending (slice_index v.loaded.announcements o) (s.reply o)) refl
      (λ p. (gives.pending o lo p).word)
      (λ off. gives.next.reply o lo ∙ reply_stays (λ k. slice_index v.loaded.announcements k) s sizes.processes o off) (since o lo)
      (knew o lo))

  pub step_installs : Meets sizes new after history
  step_installs = (
    _,
    step_made sizes words new views after history ghosts i x g (finds_nothing s (views i).transfer) shape li h acted moved made
        found_few knows,
  )

-- every step of a transfer
pub transfer_step_holds : (sizes : Sizes) (words new : Words) (views after : ProcessViews) (history : List Entry) (ghosts : Ghosts) (i : ℕ)
    (x : ProcessView) (g : Ledger)
    → IsShape sizes → i < sizes.processes → Holds sizes words views history ghosts
    → Acted sizes (action_of sizes (views i).transfer) words new → MovedProcess i x views after
    → Made sizes words history ghosts i (views i) x g → Meets sizes new after history
transfer_step_holds sizes words new views after history ghosts i x g shape li h acted moved made =
    elim (exchanging (views i).transfer.next) [
      | inl at ↦ elim (cases_eq (words State) (views i).transfer.loaded.state) [
        | inl hit ↦ step_installs sizes words new views after history ghosts i x g shape li h acted moved made at.0 at.1 hit
        | inr ne ↦ step_stays sizes words new views after history ghosts i x g shape li h acted moved made (λ second is hit. ne hit)
      ]
      | inr not ↦ step_stays sizes words new views after history ghosts i x g shape li h acted moved made (λ second is hit. not second is)
    ]
