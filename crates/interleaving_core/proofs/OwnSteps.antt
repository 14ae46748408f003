-- the own step of a call keeps the invariant, and can be made
use Rattle.std.proofs.Common.{◌≡◌, ◌≢◌, ℕ, ◌<◌, List, ◌++◌, refl, ap, ◌∙◌, inl, inr, arith}
use Rattle.std.specs.Prelude.{◌==◌, if◌then◌else◌, Contains}
use Rattle.std.proofs.Math.Path.{fun_ext}
use Rattle.std.proofs.lemmas.Bool.{cases_eq}
use Rattle.std.proofs.lemmas.Bool.Decides.{nat_tests}
use Rattle.word_layout.specs.Sizes.{Sizes, IsShape, limits_of}
use Rattle.pool_model.specs.declared.entry.Entry.{Entry}
use Rattle.pool_model.specs.History.{grip}
use Rattle.transfer_machine.specs.Words.{name_of}
use Rattle.pool_machine.specs.declared.call.CallStage.TheVariants.{Own}
use Rattle.pool_machine.specs.declared.call.Way.TheVariants.{Alone}
use Rattle.pool_machine.specs.declared.view.ProcessView.{ProcessView}
use Rattle.transfer_invariant.specs.Memory.{Words, Views, States, Acted, state_tag}
use Rattle.pool_machine.specs.OwnSteps.{own_action, own_met, own_answer, own_kind}
use Rattle.pool_machine.specs.Steps.{happened}
use Rattle.stack_invariant.specs.Stack.{StackHolds}
use Rattle.stack_invariant.proofs.Follows.{each_process}
use Rattle.stack_invariant.proofs.OtherWords.{StackWordsStay, records_stay, other_words_keep}
use Rattle.batch_invariant.specs.Batches.{ProcessViews, MovedProcess}
use Rattle.chain_invariant.specs.Calls.{held_by_call, NamesHeld}
use Rattle.chain_invariant.specs.Chains.{Chains, MovedList}
use Rattle.chain_invariant.proofs.Calls.{own_chains_at}
use Rattle.chain_invariant.proofs.Gives.{held_are_apart}
use Rattle.history_invariant.specs.Ledger.{Ledger, Ledgers}
use Rattle.history_invariant.specs.Steps.{with_ledger}
use Rattle.history_invariant.proofs.Replacing.{replaced_with}
use Rattle.call_invariant.specs.Uses.{UsesPool}
use Rattle.call_invariant.proofs.Uses.{uses_calls}
use Rattle.interleaving_core.specs.EmptyTakes.{TakesHadFew}
use Rattle.interleaving_core.proofs.EmptyTakes.{few_owned, few_longer}
use Rattle.interleaving_core.specs.DataWords.{known_by_call}
use Rattle.interleaving_core.specs.Invariant.{Known, Ghosts, held_in, KnowsOfNothing, DataHolds, Holds, Meets}
use Rattle.interleaving_core.specs.Runs.{entries_of}
use Rattle.interleaving_core.proofs.OwnData.{HeldAreLow, data_stays, others_words_stay, own_data}
use Rattle.interleaving_core.proofs.OwnLedgers.{OwnDue, due_of, own_goes, own_history}
use Rattle.interleaving_core.proofs.OwnParts.{ledger_by_call, grip_by_call, finds_by_call, own_leaves_stack}

-- what all processes know of the data words, where one comes to know this
abbrev pub with_known : ℕ → Known → (ℕ → Known) → ℕ → Known
with_known i mine known = λ o. if o == i then mine else known o

-- what proofs know after the own step of the call of this view, which met this word
abbrev pub own_ghosts : List Entry → ℕ → ProcessView → ℕ → Ghosts → Ghosts
own_ghosts history i v word ghosts = record {
  states = ghosts.states;
  ledgers = with_ledger i (ledger_by_call history i v.pool v.calls.call (ghosts.ledgers i)) ghosts.ledgers;
  known = with_known i (known_by_call word v.calls.call (ghosts.known i)) ghosts.known;
}

-- a fact of each process, once one has moved
known_here : (i : ℕ) (mine : Known) (known : ℕ → Known) → with_known i mine known i ≡ mine
known_here i mine known = grind (arith, nat_tests)

known_elsewhere : (i o : ℕ) (mine : Known) (known : ℕ → Known) → o ≢ i → with_known i mine known o ≡ known o
known_elsewhere i o mine known ne = grind (arith, nat_tests)

each_owned : (Fact : ℕ → ProcessView → Ledger → Known → Type 0) (p i : ℕ) (x : ProcessView) (g : Ledger) (mine : Known)
    (views after : ProcessViews) (ledgers : Ledgers) (known : ℕ → Known)
    → MovedProcess i x views after
    → Fact i x g mine
    → ((o : ℕ) → o < p → o ≢ i → Fact o (views o) (ledgers o) (known o))
    → (o : ℕ) → o < p → Fact o (after o) (with_ledger i g ledgers o) (with_known i mine known o)
each_owned Fact p i x g mine views after ledgers known moved here h o lo = elim (cases_eq o i) [
  | inl e ↦ rw e (rw (moved.here, (replaced_with i g ledgers).here, known_here i mine known) here)
  | inr ne ↦ rw (moved.elsewhere o ne, (replaced_with i g ledgers).elsewhere o ne, known_elsewhere i o mine known ne) (h o lo ne)
]

-- the transfers of all processes stay, and so does the stack
abbrev transfers : ProcessViews → Views
transfers views = λ o. (views o).transfer

transfers_stay : (i : ℕ) (x : ProcessView) (views after : ProcessViews) → MovedProcess i x views after → x.transfer ≡ (views i).transfer
    → transfers after ≡ transfers views
transfers_stay i x views after moved same = fun_ext (λ o. elim (cases_eq o i) [
  | inl e ↦ rw e (ap (λ v. v.transfer) moved.here ∙ same)
  | inr ne ↦ ap (λ v. v.transfer) (moved.elsewhere o ne)
])

-- what holds of the stack goes on where its words and the transfers stay
pub stack_stays : (sizes : Sizes) (words new : Words) (i : ℕ) (x : ProcessView) (views after : ProcessViews) (states : States)
    → MovedProcess i x views after → x.transfer ≡ (views i).transfer → StackWordsStay sizes words new
    → StackHolds sizes words (transfers views) states → StackHolds sizes new (transfers after) states
stack_stays sizes words new i x views after states moved same stay h =
    rw (transfers_stay i x views after moved same) (other_words_keep sizes words new (transfers views) states h stay)

module _ (sizes : Sizes) (words new : Words) (views after : ProcessViews) (history : List Entry) (ghosts : Ghosts) (i : ℕ)
    (d : OwnDue sizes words views history ghosts i)
    (acted : Acted sizes (own_action (views i)) words new)
    (moved : MovedProcess i (own_met (views i) (words (name_of (own_action (views i))))) views after) where
  stack_words : StackWordsStay sizes words new
  stack_words = own_leaves_stack sizes words new (views i).pool (views i).calls.call acted

  same_tag : state_tag new ≡ state_tag words
  same_tag = (records_stay sizes words new stack_words).state

  lists : MovedList i (held_by_call (views i).pool (views i).calls.call (held_in ghosts.ledgers i)) (held_in ghosts.ledgers)
      (held_in (with_ledger i (ledger_by_call history i (views i).pool (views i).calls.call (ghosts.ledgers i)) ghosts.ledgers))
  lists =
      let g = ledger_by_call history i (views i).pool (views i).calls.call (ghosts.ledgers i) in
      let replaced = replaced_with i g ghosts.ledgers in
      record {
        here =
            ap (λ ledger. grip ledger.entries) replaced.here ∙ grip_by_call history i (views i).pool (views i).calls.call
            (ghosts.ledgers i);
        elsewhere = λ o ne. ap (λ ledger. grip ledger.entries) (replaced.elsewhere o ne);
      }

  own_chains : Chains sizes new (ghosts.states (state_tag new)) after
      (held_in (with_ledger i (ledger_by_call history i (views i).pool (views i).calls.call (ghosts.ledgers i)) ghosts.ledgers))
  own_chains =
      rw same_tag (own_chains_at sizes words new (ghosts.states (state_tag words)) views after (held_in ghosts.ledgers) _ i
      (own_met (views i) (words (name_of (own_action (views i))))) d.shape d.low d.holds.chains
      d.goes.runs.kept.batch d.goes.heads refl moved (views i).calls.call d.goes.runs.kept.room (d.holds.names i d.low) acted refl lists)

  -- held blocks are low, and held by one process
  held_low : (o : ℕ) → o < sizes.processes → HeldAreLow sizes (held_in ghosts.ledgers o)
  held_low o lo =
      λ b has. (held_are_apart sizes words (ghosts.states (state_tag words)) views (held_in ghosts.ledgers) o b lo d.holds.chains has).0

  held_once : (o : ℕ) → o < sizes.processes → o ≢ i → (b : ℕ) → Contains (held_in ghosts.ledgers i) b
      → ¬ Contains (held_in ghosts.ledgers o) b
  held_once o lo ne =
      λ b has. (held_are_apart sizes words (ghosts.states (state_tag words)) views (held_in ghosts.ledgers) i b d.low d.holds.chains has).1
      o lo ne

  -- what holds of each process
  own_uses : UsesPool sizes i (own_met (views i) (words (name_of (own_action (views i)))))
      (ledger_by_call history i (views i).pool (views i).calls.call (ghosts.ledgers i))
  own_uses =
      let word = words (name_of (own_action (views i))) in
      let g = ledger_by_call history i (views i).pool (views i).calls.call (ghosts.ledgers i) in
      uses_calls sizes i (own_met (views i) word) g (views i).calls.way d.goes.way
      (own_goes sizes i word (views i) (ghosts.ledgers i) history (views i).calls.call d.goes d.scheduled d.own refl)

  own_finds : KnowsOfNothing (ghosts.states (state_tag words)) i (views i).transfer
      (ledger_by_call history i (views i).pool (views i).calls.call (ghosts.ledgers i))
  own_finds =
      λ announced applied take nothing. finds_by_call history i (views i).pool (views i).calls.call (ghosts.ledgers i) ∙ d.holds.empties i
      d.low announced applied take nothing

  own_knows : DataHolds sizes new (grip (ledger_by_call history i (views i).pool (views i).calls.call (ghosts.ledgers i)).entries)
      (known_by_call (words (name_of (own_action (views i)))) (views i).calls.call (ghosts.known i))
  own_knows = rw (grip_by_call history i (views i).pool (views i).calls.call (ghosts.ledgers i))
      (own_data sizes words new (views i).pool (held_in ghosts.ledgers i) (ghosts.known i) (views i).calls.call (held_low i d.low)
      (d.holds.names i d.low) acted (d.holds.data_words i d.low))

  other_knows : (o : ℕ) → o < sizes.processes → o ≢ i → DataHolds sizes new (held_in ghosts.ledgers o) (ghosts.known o)
  other_knows o lo ne =
      data_stays sizes words new (held_in ghosts.ledgers o) (held_in ghosts.ledgers o) (ghosts.known o) (d.holds.data_words o lo)
      (others_words_stay sizes words new (views i).pool (held_in ghosts.ledgers i) (held_in ghosts.ledgers o) (views i).calls.call
      (held_low o lo) (held_once o lo ne) (d.holds.names i d.low) acted) (λ b has. has)

  -- the whole invariant
  own_keeps : Holds sizes new after
      (history ++ entries_of (happened (own_kind (views i)) (own_answer (views i) (words (name_of (own_action (views i)))))))
      (own_ghosts history i (views i) (words (name_of (own_action (views i)))) ghosts)
  own_keeps =
      let v = views i in
      let word = words (name_of (own_action v)) in
      let x = own_met v word in
      let g = ledger_by_call history i v.pool v.calls.call (ghosts.ledgers i) in
      let mine = known_by_call word v.calls.call (ghosts.known i) in
      let number = (each_process sizes words (transfers views) ghosts.states i d.low d.holds.stack).number in
      record {
        stack = stack_stays sizes words new i x views after ghosts.states moved refl stack_words d.holds.stack;
        chains = own_chains;
        pools =
            each_owned (λ o y ledger knows. UsesPool sizes o y ledger) sizes.processes i x g mine views after ghosts.ledgers ghosts.known
            moved own_uses (λ o lo ne. d.holds.pools o lo);
        entries = own_history sizes words views history ghosts i d v.transfer.number word number v.calls.call refl;
        empties =
            rw same_tag (each_owned (λ o y ledger knows. KnowsOfNothing (ghosts.states (state_tag words)) o y.transfer ledger)
            sizes.processes i x g mine views after ghosts.ledgers ghosts.known moved own_finds
            (λ o lo ne. d.holds.empties o lo));
        few =
            each_owned (λ o y ledger knows. TakesHadFew (limits_of sizes)
            (history ++ entries_of (happened (own_kind v) (own_answer v word))) ledger y.pool.plan)
            sizes.processes i x g mine views after ghosts.ledgers ghosts.known moved
            (few_owned (limits_of sizes) history _ i word v.pool v.calls.call (ghosts.ledgers i) (d.holds.few i d.low))
            (λ o lo ne. few_longer (limits_of sizes) history _ (ghosts.ledgers o) (views o).pool.plan (d.holds.few o lo));
        names =
            each_owned (λ o y ledger knows. NamesHeld sizes (grip ledger.entries) y.calls.call) sizes.processes i x g mine views after
            ghosts.ledgers ghosts.known moved tt (λ o lo ne. d.holds.names o lo);
        data_words =
            each_owned (λ o y ledger knows. DataHolds sizes new (grip ledger.entries) knows) sizes.processes i x g mine views after
            ghosts.ledgers ghosts.known moved own_knows other_knows;
      }

-- so the own step of a call keeps the invariant
pub own_step_holds : (sizes : Sizes) (words new : Words) (views after : ProcessViews) (history : List Entry) (ghosts : Ghosts) (i : ℕ)
    → IsShape sizes → i < sizes.processes → Holds sizes words views history ghosts
    → (views i).calls.way ≢ Alone → (views i).calls.stage ≡ Own
    → Acted sizes (own_action (views i)) words new
    → MovedProcess i (own_met (views i) (words (name_of (own_action (views i))))) views after
    → Meets sizes new after
    (history ++ entries_of (happened (own_kind (views i)) (own_answer (views i) (words (name_of (own_action (views i)))))))
own_step_holds sizes words new views after history ghosts i shape li h ne own acted moved = (
  own_ghosts history i (views i) (words (name_of (own_action (views i)))) ghosts,
  own_keeps sizes words new views after history ghosts i (due_of sizes words views history ghosts i shape li h ne own) acted moved,
)
