-- the ledgers and the history under the own step of a call
use Rattle.std.proofs.Common.{◌≡◌, ◌≢◌, ℕ, ◌<◌, true, Option, None, Some, List, [], ◌∷◌, ◌++◌, refl, ap, ◌∙◌}
use Rattle.std.specs.Prelude.{Contains}
use Rattle.std.proofs.lemmas.List.{append-nil}
use Rattle.word_layout.specs.Sizes.{Sizes, IsShape, transfer_bound, limits_of}
use Rattle.pool_model.specs.declared.entry.Entry.{Entry}
use Rattle.pool_model.specs.declared.entry.Entry.TheVariants.{Got, Back, Dry}
use Rattle.pool_model.specs.History.{held}
use Rattle.transfer_schedule.specs.Account as schedule
use Rattle.pool_machine.specs.declared.call.Call.{Call}
use Rattle.pool_machine.specs.declared.call.Call.TheVariants.{Allocate, Free, Read, Write, Search}
use Rattle.pool_machine.specs.declared.call.CallStage.TheVariants.{Own}
use Rattle.pool_machine.specs.declared.call.Way.TheVariants.{Alone}
use Rattle.pool_machine.specs.declared.view.ProcessView.{ProcessView}
use Rattle.transfer_invariant.specs.Memory.{Words, state_tag}
use Rattle.pool_machine.specs.OwnSteps.{next_block, own_met, own_answer_for, own_kind_for, allocate_kind, allocate_answer}
use Rattle.pool_machine.specs.Steps.{happened}
use Rattle.batch_invariant.specs.Batches.{ProcessViews}
use Rattle.chain_invariant.specs.Calls.{NamesHeld}
use Rattle.chain_invariant.specs.Laws.{IsFree}
use Rattle.chain_invariant.proofs.Calls.{got_is_free}
use Rattle.history_invariant.specs.Grips.{SharesOut}
use Rattle.history_invariant.specs.Holds.{HistoryHolds}
use Rattle.history_invariant.specs.Ledger.{Ledger}
use Rattle.history_invariant.specs.Steps.{with_ledger, got_one, got_none, gave_back}
use Rattle.history_invariant.proofs.Entering.{got_owes, back_owes, refusal_owes}
use Rattle.history_invariant.proofs.Fitting.{entry_kept}
use Rattle.history_invariant.proofs.Holding.{held_shared}
use Rattle.history_invariant.proofs.Replacing.{replaced_with}
use Rattle.history_invariant.proofs.Shared.{legal_shared}
use Rattle.call_invariant.specs.InCalls.{Scheduled, InCalls}
use Rattle.call_invariant.specs.Phases.{is_getting, own_phase}
use Rattle.call_invariant.proofs.Owned.{phase_own, getting_asks, gets_leave, refusals_leave}
use Rattle.call_invariant.proofs.Owned.{frees_leave, keeping_steps_leave, block_has_source}
use Rattle.call_invariant.proofs.Owned.{no_block_has_none}
use Rattle.call_invariant.proofs.Uses.{calls_used}
use Rattle.interleaving_core.specs.Invariant.{Ghosts, held_in, Holds}
use Rattle.interleaving_core.specs.Runs.{entries_of}
use Rattle.interleaving_core.proofs.Joins as joins
use Rattle.interleaving_core.proofs.OwnParts.{ledger_allocated, ledger_by_call}

-- a process that makes calls goes with its ledger
pub in_calls : (sizes : Sizes) (words : Words) (views : ProcessViews) (history : List Entry) (ghosts : Ghosts) (i : ℕ) → i < sizes.processes
    → Holds sizes words views history ghosts → (views i).calls.way ≢ Alone
    → InCalls sizes i (views i) (ghosts.ledgers i)
in_calls sizes words views history ghosts i li h ne = calls_used sizes i (views i) (ghosts.ledgers i) (views i).calls.way ne (h.pools i li)

-- the ledger of its process
allocated_goes : (sizes : Sizes) (i word : ℕ) (v : ProcessView) (g : Ledger) (history : List Entry) (block : Option ℕ) → InCalls sizes i v g
    → v.calls.stage ≡ Own → is_getting v.calls.call ≡ true
    → InCalls sizes i (own_met v word) (ledger_allocated history i block g)
allocated_goes sizes i word v g history None h own call = refusals_leave sizes i v word g history (Dry i) h own call
allocated_goes sizes i word v g history (Some block) h own call = gets_leave sizes i v word g history (Got i block) h own call

-- after its own step a process is between two calls, with its entry in the ledger
pub own_goes : (sizes : Sizes) (i word : ℕ) (v : ProcessView) (g : Ledger) (history : List Entry) (call : Option Call) → InCalls sizes i v g
    → Scheduled sizes g.account → v.calls.stage ≡ Own → v.calls.call ≡ call
    → InCalls sizes i (own_met v word) (ledger_by_call history i v.pool call g)
own_goes sizes i word v g history None h s own e = absurd (h.stage.some own e)
own_goes sizes i word v g history (Some Allocate) h s own e = allocated_goes sizes i word v g history (next_block v.pool) h own (rw e refl)
own_goes sizes i word v g history (Some (Free block)) h s own e = frees_leave sizes i v word block g history (Back i block) h s own e
own_goes sizes i word v g history (Some (Read block index)) h s own e = keeping_steps_leave sizes i v word g h own (rw e refl)
own_goes sizes i word v g history (Some (Write block index value)) h s own e = keeping_steps_leave sizes i v word g h own (rw e refl)
own_goes sizes i word v g history (Some Search) h s own e = allocated_goes sizes i word v g history (next_block v.pool) h own (rw e refl)

-- what holds as the own step of a call is due: its parts, for one process
pub record OwnDue (sizes : Sizes) (words : Words) (views : ProcessViews) (history : List Entry) (ghosts : Ghosts) (i : ℕ) : Type 0 where
  pub shape : IsShape sizes
  pub low : i < sizes.processes
  pub holds : Holds sizes words views history ghosts
  pub goes : InCalls sizes i (views i) (ghosts.ledgers i)
  pub scheduled : Scheduled sizes (ghosts.ledgers i).account
  pub own : (views i).calls.stage ≡ Own

-- what a process at its own step owes to the other parts
pub due_of : (sizes : Sizes) (words : Words) (views : ProcessViews) (history : List Entry) (ghosts : Ghosts) (i : ℕ) → IsShape sizes
    → i < sizes.processes → Holds sizes words views history ghosts
    → (views i).calls.way ≢ Alone → (views i).calls.stage ≡ Own → OwnDue sizes words views history ghosts i
due_of sizes words views history ghosts i shape li h ne own = record {
  shape = shape;
  low = li;
  holds = h;
  goes = in_calls sizes words views history ghosts i li h ne;
  scheduled = joins.scheduled sizes words views history ghosts i shape li h;
  own = own;
}

module _ (sizes : Sizes) (words : Words) (views : ProcessViews) (history : List Entry) (ghosts : Ghosts) (i : ℕ)
    (d : OwnDue sizes words views history ghosts i) where
  is_own : (call : Option Call) → (views i).calls.call ≡ call → (ghosts.ledgers i).account.phase ≡ own_phase call
  is_own call e = phase_own sizes i (views i) (ghosts.ledgers i) d.goes d.own ∙ ap own_phase e

  owns : (call : Option Call) → (views i).calls.call ≡ call → is_getting call ≡ true
      → schedule.asks_in (ghosts.ledgers i).account.phase ≡ true
  owns call e gets = rw (is_own call e) (getting_asks call gets)

  pub shares : SharesOut (limits_of sizes) history ghosts.ledgers
  shares = held_shared (limits_of sizes) (transfer_bound sizes) sizes.quantum history ghosts.ledgers d.holds.entries

  pub names : NamesHeld sizes (held_in ghosts.ledgers i) (views i).calls.call
  names = d.holds.names i d.low

  -- the entry of an allocate
  unheld_block : (block : ℕ) → IsFree sizes (held_in ghosts.ledgers) block → ¬ Contains (held history) block
  unheld_block block free = λ c. let one = shares.holder block c in free.free one.process one.one one.holds

  got_history : (call : Option Call) (block : ℕ) → (views i).calls.call ≡ call → is_getting call ≡ true
      → next_block (views i).pool ≡ Some block
      → HistoryHolds (limits_of sizes) (transfer_bound sizes) sizes.quantum (history ++ Got i block ∷ [])
      (with_ledger i (ledger_allocated history i (Some block) (ghosts.ledgers i)) ghosts.ledgers)
  got_history called block call gets e =
      let free = got_is_free sizes words (ghosts.states (state_tag words)) views (held_in ghosts.ledgers) i d.shape d.low d.holds.chains
      d.goes.heads block e in
      let ledger = ghosts.ledgers i in
      entry_kept (limits_of sizes) (transfer_bound sizes) sizes.quantum history ghosts.ledgers _ (Got i block) i (got_one ledger.account)
      d.low d.holds.entries refl
      (got_owes (limits_of sizes) (transfer_bound sizes) sizes.quantum history i block ledger d.low (d.holds.entries.each i d.low)
      (owns called call gets)
      (rw d.goes.plan (block_has_source (views i).pool block e)) free.low (unheld_block block free))
      (replaced_with i _ ghosts.ledgers)

  refused_history : (call : Option Call) → (views i).calls.call ≡ call → is_getting call ≡ true → next_block (views i).pool ≡ None
      → HistoryHolds (limits_of sizes) (transfer_bound sizes) sizes.quantum (history ++ Dry i ∷ [])
      (with_ledger i (ledger_allocated history i None (ghosts.ledgers i)) ghosts.ledgers)
  refused_history called call gets e =
      let ledger = ghosts.ledgers i in
      entry_kept (limits_of sizes) (transfer_bound sizes) sizes.quantum history ghosts.ledgers _ (Dry i) i (got_none ledger.account) d.low
      d.holds.entries refl
      (refusal_owes (limits_of sizes) (transfer_bound sizes) sizes.quantum history i ledger d.scheduled.fit d.low
      (d.holds.entries.each i d.low) (owns called call gets)
      (rw d.goes.plan (no_block_has_none (views i).pool e)))
      (replaced_with i _ ghosts.ledgers)

  -- the entry of a free
  back_history : (block : ℕ) → (views i).calls.call ≡ Some (Free block)
      → HistoryHolds (limits_of sizes) (transfer_bound sizes) sizes.quantum (history ++ Back i block ∷ [])
      (with_ledger i (ledger_by_call history i (views i).pool (Some (Free block)) (ghosts.ledgers i)) ghosts.ledgers)
  back_history block call =
      let ledger = ghosts.ledgers i in
      entry_kept (limits_of sizes) (transfer_bound sizes) sizes.quantum history ghosts.ledgers _ (Back i block) i (gave_back ledger.account)
      d.low d.holds.entries refl
      (back_owes (limits_of sizes) (transfer_bound sizes) sizes.quantum history i block ledger d.low
      (legal_shared (limits_of sizes) history d.holds.entries.legal) (d.holds.entries.each i d.low)
      (is_own (Some (Free block)) call)
      (rw call at names))
      (replaced_with i _ ghosts.ledgers)

  -- a read or a write makes none
  same_history : HistoryHolds (limits_of sizes) (transfer_bound sizes) sizes.quantum (history ++ [])
      (with_ledger i (ghosts.ledgers i) ghosts.ledgers)
  same_history = rw (append-nil history, joins.same_ledgers i ghosts.ledgers) d.holds.entries

  -- the history after the own step of any call
  allocated_history : (by : ℕ) → by ≡ i → (call : Option Call) → (views i).calls.call ≡ call → is_getting call ≡ true → (block : Option ℕ)
      → next_block (views i).pool ≡ block
      → HistoryHolds (limits_of sizes) (transfer_bound sizes) sizes.quantum
      (history ++ entries_of (happened (allocate_kind block) (allocate_answer by block)))
      (with_ledger i (ledger_allocated history i block (ghosts.ledgers i)) ghosts.ledgers)
  allocated_history by same called call gets None e = rw same (refused_history called call gets e)
  allocated_history by same called call gets (Some block) e = rw same (got_history called block call gets e)

  pub own_history : (by word : ℕ) → by ≡ i → (call : Option Call) → (views i).calls.call ≡ call
      → HistoryHolds (limits_of sizes) (transfer_bound sizes) sizes.quantum
      (history ++ entries_of (happened (own_kind_for (views i).pool call) (own_answer_for by (views i).pool word call)))
      (with_ledger i (ledger_by_call history i (views i).pool call (ghosts.ledgers i)) ghosts.ledgers)
  own_history by word same None e = absurd (d.goes.stage.some d.own e)
  own_history by word same (Some Allocate) e = allocated_history by same (Some Allocate) e refl (next_block (views i).pool) refl
  own_history by word same (Some (Free block)) e = rw same (back_history block e)
  own_history by word same (Some (Read block index)) e = same_history
  own_history by word same (Some (Write block index value)) e = same_history
  own_history by word same (Some Search) e = allocated_history by same (Some Search) e refl (next_block (views i).pool) refl
