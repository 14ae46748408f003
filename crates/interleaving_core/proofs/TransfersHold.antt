-- the step of a transfer, alone or in a call, keeps the whole invariant
use Rattle.std.proofs.Common.{◌≡◌, ◌≢◌, ℕ, ◌<◌, Bool, true, false, List, length, refl, sym, ap, ◌∙◌, inl, inr, arith, subst}
use Rattle.std.specs.Prelude.{◌⊎◌}
use Rattle.std.proofs.Math.Path.{fun_ext}
use Rattle.std.proofs.lemmas.Bool.{cases_eq}
use Rattle.word_layout.specs.Sizes.{Sizes, IsShape, transfer_bound, limits_of}
use Rattle.pool_model.specs.declared.entry.Entry.{Entry}
use Rattle.pool_model.specs.History.{HasFewUnheld, grip}
use Rattle.transfer_machine.specs.Machine.{action_of}
use Rattle.pool_machine.specs.Pools.{view_met}
use Rattle.transfer_machine.specs.Words.{name_of}
use Rattle.pool_machine.specs.declared.view.ProcessView.{ProcessView}
use Rattle.transfer_invariant.specs.Memory.{Words, Acted, state_tag}
use Rattle.transfer_invariant.specs.Installing.{states_after}
use Rattle.transfer_invariant.specs.Progress.{has_only_begun}
use Rattle.stack_invariant.specs.Laws.{HitsNot}
use Rattle.stack_invariant.proofs.Exchanging.{present_stays}
use Rattle.stack_invariant.proofs.Keeps.{steps_keep_stack}
use Rattle.batch_invariant.specs.Batches.{ProcessViews, MovedProcess}
use Rattle.batch_invariant.proofs.Steps.{transfers_move}
use Rattle.chain_invariant.specs.Chains.{ChainsHold}
use Rattle.chain_invariant.specs.Steps.{SameParts}
use Rattle.chain_invariant.specs.Calls.{NamesHeld}
use Rattle.chain_invariant.proofs.Gives.{held_are_apart}
use Rattle.chain_invariant.proofs.Transfers.{transfer_keeps}
use Rattle.history_invariant.specs.Ledger.{Ledger, Ledgers}
use Rattle.history_invariant.specs.Holds.{HistoryHolds}
use Rattle.history_invariant.specs.Steps.{with_ledger}
use Rattle.history_invariant.proofs.Holding.{exchange_holds}
use Rattle.call_invariant.specs.Uses.{UsesPool}
use Rattle.call_invariant.proofs.Uses.{uses_stay}
use Rattle.interleaving_core.specs.EmptyTakes.{TakesHadFew}
use Rattle.interleaving_core.proofs.EmptyTakes.{few_known}
use Rattle.interleaving_core.specs.Invariant.{Ghosts, Holds, Meets, DataHolds, KnowsOfNothing, held_in}
use Rattle.interleaving_core.proofs.Joins.{transfers, in_step, installs_next, supplied}
use Rattle.interleaving_core.proofs.TransferSteps.{data_stays, known_of, known_entries, known_account, emptied, own_knows, each_ledger}

-- what a step of a transfer of process i owes besides: the view and the ledger that it leads to
pub record Made (sizes : Sizes) (words : Words) (history : List Entry) (ghosts : Ghosts) (i : ℕ) (v x : ProcessView) (g : Ledger) : Type 0
  where
    pub parts : SameParts x (view_met sizes v (words (name_of (action_of sizes v.transfer))))
    pub call : x.calls.call ≡ v.calls.call
    pub entries : HistoryHolds (limits_of sizes) (transfer_bound sizes) sizes.quantum history (with_ledger i g ghosts.ledgers)
    pub same : g.entries ≡ (ghosts.ledgers i).entries
    pub found : has_only_begun v.transfer.next ≡ false → g.found_nothing ≡ (ghosts.ledgers i).found_nothing
    pub uses : UsesPool sizes i x g
    pub few : TakesHadFew (limits_of sizes) history g x.pool.plan

-- the ledgers afterwards
abbrev pub ledgers_made : ℕ → Ledger → (ℕ → Bool) → Ledgers → Ledgers
ledgers_made i g found ledgers = known_of found (with_ledger i g ledgers)

-- the entries of each process stay
with_same : (i o : ℕ) (g : Ledger) (ledgers : Ledgers) → g.entries ≡ (ledgers i).entries
    → (with_ledger i g ledgers o).entries ≡ (ledgers o).entries
with_same i o g ledgers same = each_ledger (λ k h. h.entries ≡ (ledgers k).entries) i o g ledgers (λ e. rw e same) (λ ne. refl)

held_same : (i : ℕ) (g : Ledger) (found : ℕ → Bool) (ledgers : Ledgers) → g.entries ≡ (ledgers i).entries
    → held_in (ledgers_made i g found ledgers) ≡ held_in ledgers
held_same i g found ledgers same =
    fun_ext (λ o. ap grip (known_entries (found o) (with_ledger i g ledgers o) ∙ with_same i o g ledgers same))

-- the whole invariant after such a step, where it is known who found nothing
pub step_made : (sizes : Sizes) (words new : Words) (views after : ProcessViews) (history : List Entry) (ghosts : Ghosts) (i : ℕ)
    (x : ProcessView) (g : Ledger) (found : ℕ → Bool)
    → IsShape sizes → i < sizes.processes → Holds sizes words views history ghosts
    → Acted sizes (action_of sizes (views i).transfer) words new → MovedProcess i x views after
    → Made sizes words history ghosts i (views i) x g
    → ((o : ℕ) → o < sizes.processes → found o ≡ true → HasFewUnheld (limits_of sizes) history (length history))
    → ((o : ℕ) → o < sizes.processes → KnowsOfNothing (states_after words (views i).transfer ghosts.states (state_tag new)) o
    (after o).transfer (ledgers_made i g found ghosts.ledgers o))
    → Holds sizes new after history
    (record {
      states = states_after words (views i).transfer ghosts.states;
      ledgers = ledgers_made i g found ghosts.ledgers;
      known = ghosts.known;
    })
step_made sizes words new views after history ghosts i x g found shape li h acted moved made few knows =
    let v = views i in
    let ledgers = ledgers_made i g found ghosts.ledgers in
    let met = view_met sizes v (words (name_of (action_of sizes v.transfer))) in
    let same = held_same i g found ghosts.ledgers made.same in
    let chains = transfer_keeps sizes words new views after ghosts.states h.chains.batch_blocks h.chains.current_blocks
    (held_in ghosts.ledgers) i x shape li h.chains.hold (in_step sizes words views history ghosts i li h)
    (λ second. installs_next sizes words views history ghosts i second shape li h) acted made.parts moved in
    let moves = transfers_move i x views after moved in
    record {
      stack =
          steps_keep_stack sizes words new (transfers views) (transfers after) ghosts.states i shape li h.stack
          (supplied sizes words views history ghosts i shape li h) acted (rw made.parts.transfer at moves);
      chains =
          record {
            batch_blocks = h.chains.batch_blocks;
            current_blocks = h.chains.current_blocks;
            hold = subst
                (λ (f : ℕ → List ℕ). ChainsHold sizes new (states_after words v.transfer ghosts.states (state_tag new)) after
                h.chains.batch_blocks h.chains.current_blocks f) (sym same) chains;
          };
      pools =
          λ o lo. uses_stay sizes o (after o) (with_ledger i g ghosts.ledgers o) (ledgers o) (after o).calls.way
          (known_account (found o) (with_ledger i g ghosts.ledgers o)) (known_entries (found o) (with_ledger i g ghosts.ledgers o))
          (pools_made o lo);
      entries =
          exchange_holds (limits_of sizes) (transfer_bound sizes) sizes.quantum history (with_ledger i g ghosts.ledgers) ledgers
          made.entries
          (λ o lo. emptied (limits_of sizes) history (found o) (with_ledger i g ghosts.ledgers o) (few o lo));
      empties = knows;
      few = few_made;
      names = λ o lo. subst (λ (f : ℕ → List ℕ). NamesHeld sizes (f o) (after o).calls.call) (sym same) (names_made o lo (cases_eq o i));
      data_words = λ o lo. subst (λ (f : ℕ → List ℕ). DataHolds sizes new (f o) (ghosts.known o)) (sym same) (data_made o lo);
    }
  where
    pools_made : (o : ℕ) → o < sizes.processes → UsesPool sizes o (after o) (with_ledger i g ghosts.ledgers o)
    pools_made o lo =
        each_ledger (λ k l. UsesPool sizes k (after k) l) i o g ghosts.ledgers (λ e. rw e (rw moved.here made.uses))
        (λ ne. rw (moved.elsewhere o ne) (h.pools o lo))

    few_made : (o : ℕ) → o < sizes.processes
        → TakesHadFew (limits_of sizes) history (ledgers_made i g found ghosts.ledgers o) (after o).pool.plan
    few_made o lo =
        let l = with_ledger i g ghosts.ledgers o in
        few_known (limits_of sizes) history (found o) l (after o).pool.plan (few o lo) (made.entries.each o lo).places.begun_within
        (each_ledger (λ k l. TakesHadFew (limits_of sizes) history l (after k).pool.plan) i o g ghosts.ledgers
        (λ e. rw e (rw moved.here made.few)) (λ ne. rw (moved.elsewhere o ne) (h.few o lo)))

    names_made : (o : ℕ) → o < sizes.processes → (o ≡ i) ⊎ (o ≢ i) → NamesHeld sizes (held_in ghosts.ledgers o) (after o).calls.call
    names_made o lo (inl e) = rw e (rw moved.here (rw made.call (h.names i li)))
    names_made o lo (inr ne) = rw (moved.elsewhere o ne) (h.names o lo)

    data_made : (o : ℕ) → o < sizes.processes → DataHolds sizes new (held_in ghosts.ledgers o) (ghosts.known o)
    data_made o lo =
        let d = h.data_words o lo in
        record {
          holds = d.holds;
          within = d.within;
          value = λ block index value e.
              let (low, apart) = held_are_apart sizes words (ghosts.states (state_tag words)) views (held_in ghosts.ledgers) o block lo
              h.chains (d.holds block index value e) in
              data_stays sizes (views i).transfer words new block index acted low (d.within block index value e) ∙ d.value block index value
              e;
        }

-- who knows of nothing after a step that leaves the state
stays_known : (sizes : Sizes) (words new : Words) (views after : ProcessViews) (history : List Entry) (ghosts : Ghosts) (i : ℕ)
    (x : ProcessView) (g : Ledger)
    → i < sizes.processes → Holds sizes words views history ghosts
    → Acted sizes (action_of sizes (views i).transfer) words new → MovedProcess i x views after
    → Made sizes words history ghosts i (views i) x g → HitsNot (views i).transfer words (views i).transfer.next
    → (o : ℕ) → o < sizes.processes
    → KnowsOfNothing (states_after words (views i).transfer ghosts.states (state_tag new)) o (after o).transfer
    (with_ledger i g ghosts.ledgers o)
stays_known sizes words new views after history ghosts i x g li h acted moved made not o lo =
    let v = (views i).transfer in
    let now = present_stays sizes v words new ghosts.states acted not in
    rw now (each_ledger (λ k l. KnowsOfNothing (ghosts.states (state_tag words)) k (after k).transfer l) i o g ghosts.ledgers
    (λ e. rw e (rw moved.here (rw made.parts.transfer
    (own_knows sizes (ghosts.states (state_tag words)) i v (words (name_of (action_of sizes v))) (ghosts.ledgers i) g v.next refl
    (in_step sizes words views history ghosts i li h).calm made.found (h.empties i li)))))
    (λ ne. rw (moved.elsewhere o ne) (h.empties o lo)))

-- a step of a transfer that leaves the state
pub step_stays : (sizes : Sizes) (words new : Words) (views after : ProcessViews) (history : List Entry) (ghosts : Ghosts) (i : ℕ)
    (x : ProcessView) (g : Ledger)
    → IsShape sizes → i < sizes.processes → Holds sizes words views history ghosts
    → Acted sizes (action_of sizes (views i).transfer) words new → MovedProcess i x views after
    → Made sizes words history ghosts i (views i) x g → HitsNot (views i).transfer words (views i).transfer.next
    → Meets sizes new after history
step_stays sizes words new views after history ghosts i x g shape li h acted moved made not = (
  _,
  step_made sizes words new views after history ghosts i x g (λ o. false) shape li h acted moved made (λ o lo e. absurd (never e))
      (stays_known sizes words new views after history ghosts i x g li h acted moved made not),
)
  where
    never : false ≡ true → ⊥
    never e = grind arith
