-- the steps of transfers, alone and in calls
use Rattle.std.proofs.Common.{◌≡◌, ◌≢◌, ℕ, ◌<◌, true, List, refl, sym, ap, ◌∙◌}
use Rattle.word_layout.specs.Sizes.{Sizes, IsShape, transfer_bound, limits_of}
use Rattle.word_layout.specs.Packing.{value_of, reply_of}
use Rattle.word_layout.specs.declared.reply.Reply.TheVariants.{Nothing}
use Rattle.pool_model.specs.declared.entry.Entry.{Entry}
use Rattle.transfer_machine.specs.Machine.{action_of}
use Rattle.pool_machine.specs.Pools.{view_met}
use Rattle.transfer_schedule.specs.Numbers.{is_taking}
use Rattle.transfer_machine.specs.Tries.{is_take}
use Rattle.transfer_machine.specs.Words.{name_of}
use Rattle.pool_machine.specs.declared.call.CallStage.TheVariants.{Moving}
use Rattle.pool_machine.specs.declared.call.Way.TheVariants.{Alone}
use Rattle.pool_machine.specs.declared.view.ProcessView.{ProcessView}
use Rattle.transfer_machine.specs.declared.stage.NextStep.TheVariants.{LoadReply}
use Rattle.transfer_invariant.specs.Memory.{Words, Acted}
use Rattle.batch_invariant.specs.Batches.{ProcessViews, MovedProcess}
use Rattle.pool_machine.specs.Steps.{call_met_at}
use Rattle.chain_invariant.specs.Steps.{SameParts}
use Rattle.history_invariant.specs.Fits.{LedgerFits}
use Rattle.history_invariant.specs.Ledger.{Ledger}
use Rattle.history_invariant.specs.Steps.{with_ledger}
use Rattle.history_invariant.proofs.Fitting.{step_kept, seen_within}
use Rattle.history_invariant.proofs.GoingOn.{going_fits, going_sees}
use Rattle.history_invariant.proofs.Replacing.{replaced_with}
use Rattle.call_invariant.specs.Ledgers.{ledger_moved}
use Rattle.call_invariant.specs.Uses.{UsesPool}
use Rattle.call_invariant.proofs.Alone.{transfers_step}
use Rattle.call_invariant.proofs.Carried.{transfer_steps_carry, enters_nothing, take_wished}
use Rattle.call_invariant.proofs.Standing.{shape_fits}
use Rattle.call_invariant.proofs.Uses.{transfers_used, uses_transfers, calls_used, uses_calls, uses_stay}
use Rattle.interleaving_core.specs.Invariant.{Ghosts, Holds, Meets}
use Rattle.interleaving_core.proofs.EmptyTakes.{PlacesMove, ledger_alone, alone_book, alone_places, alone_fits, call_places_by, few_moved}
use Rattle.interleaving_core.proofs.Joins.{in_step, given, scheduled, keeps}
use Rattle.interleaving_core.proofs.InstallsHold.{transfer_step_holds}

-- a take that is answered with nothing is known to have found nothing
knows_at_end : (sizes : Sizes) (words : Words) (views : ProcessViews) (history : List Entry) (ghosts : Ghosts) (i : ℕ) → i < sizes.processes
    → Holds sizes words views history ghosts
    → (views i).transfer.next ≡ LoadReply → is_take (views i).transfer.wish ≡ true
    → reply_of (value_of (words (name_of (action_of sizes (views i).transfer)))) ≡ Nothing → (ghosts.ledgers i).found_nothing ≡ true
knows_at_end sizes words views history ghosts i li h e take nothing =
    let step = in_step sizes words views history ghosts i li h in
    h.empties i li (rw e refl) (step.applied e) take (ap reply_of (sym (step.reply e)) ∙ nothing)

-- the same, as the plan says that a take is pending
found_at_end : (sizes : Sizes) (words : Words) (views : ProcessViews) (history : List Entry) (ghosts : Ghosts) (i : ℕ) → IsShape sizes
    → i < sizes.processes → Holds sizes words views history ghosts
    → (views i).transfer.next ≡ LoadReply → is_taking (views i).pool.plan.pending ≡ true
    → reply_of (value_of (words (name_of (action_of sizes (views i).transfer)))) ≡ Nothing → (ghosts.ledgers i).found_nothing ≡ true
found_at_end sizes words views history ghosts i shape li h e taking nothing =
    let pending = (keeps sizes words views history ghosts i shape li h).runs.kept.pending (rw e refl) in
    knows_at_end sizes words views history ghosts i li h e (take_wished (views i).transfer.wish (rw pending at taking)) nothing

-- what the ledger that a step of a transfer leads to owes to the one before
record LedgerMoves (sizes : Sizes) (history : List Entry) (i : ℕ) (v x : ProcessView) (old new : Ledger) : Type 0 where
  fits : LedgerFits (limits_of sizes) (transfer_bound sizes) sizes.quantum history i new
  seen : new.seen ≡ old.seen
  entries : new.entries ≡ old.entries
  places : PlacesMove v.transfer.next (is_taking v.pool.plan.pending) old new
  uses : UsesPool sizes i x new

-- a step of a transfer, alone or in a call, that leads to such a ledger
moves_hold : (sizes : Sizes) (words new : Words) (views after : ProcessViews) (history : List Entry) (ghosts : Ghosts) (i : ℕ)
    (x : ProcessView) (g : Ledger)
    → IsShape sizes → i < sizes.processes → Holds sizes words views history ghosts
    → Acted sizes (action_of sizes (views i).transfer) words new → MovedProcess i x views after
    → SameParts x (view_met sizes (views i) (words (name_of (action_of sizes (views i).transfer))))
    → x.calls.call ≡ (views i).calls.call
    → LedgerMoves sizes history i (views i) x (ghosts.ledgers i) g
    → Meets sizes new after history
moves_hold sizes words new views after history ghosts i x g shape li h acted moved parts call moves =
    let v = views i in
    transfer_step_holds sizes words new views after history ghosts i x g shape li h acted moved (record {
      parts = parts;
      call = call;
      entries =
          step_kept (limits_of sizes) (transfer_bound sizes) sizes.quantum history ghosts.ledgers (with_ledger i g ghosts.ledgers) i g li
          h.entries moves.fits moves.seen (replaced_with i g ghosts.ledgers);
      same = moves.entries;
      found = moves.places.found;
      uses = moves.uses;
      few =
          rw parts.pool (few_moved (limits_of sizes) history v.transfer.next (words (name_of (action_of sizes v.transfer))) v.pool
          (ghosts.ledgers i) g moves.places (found_at_end sizes words views history ghosts i shape li h) (h.few i li));
    })

-- the step of a transfer alone
pub alone_step_holds : (sizes : Sizes) (words new : Words) (views after : ProcessViews) (history : List Entry) (ghosts : Ghosts) (i : ℕ)
    → IsShape sizes → i < sizes.processes → Holds sizes words views history ghosts → (views i).calls.way ≡ Alone
    → Acted sizes (action_of sizes (views i).transfer) words new
    → MovedProcess i (view_met sizes (views i) (words (name_of (action_of sizes (views i).transfer)))) views after
    → Meets sizes new after history
alone_step_holds sizes words new views after history ghosts i shape li h alone acted moved =
    let v = views i in
    let word = words (name_of (action_of sizes v.transfer)) in
    let x = view_met sizes v word in
    let g = ghosts.ledgers i in
    let taking = is_taking v.pool.plan.pending in
    let next = ledger_alone v.transfer.next taking g in
    let same = alone_book v.transfer.next taking g in
    let used = transfers_used sizes i v g v.calls.way alone (h.pools i li) in
    let step = transfers_step sizes i v word g used shape.a_process (given sizes words views history ghosts i li h) in
    let fits = h.entries.each i li in
    moves_hold sizes words new views after history ghosts i x next shape li h acted moved (record { transfer = refl; pool = refl }) refl
    (record {
      fits =
          alone_fits (limits_of sizes) (transfer_bound sizes) sizes.quantum history i v.transfer.next taking g fits used.nothing.account
          used.nothing.none (seen_within history i g fits.sees);
      seen = same.seen;
      entries = same.entries;
      places = alone_places v.transfer.next taking g;
      uses = uses_stay sizes i x g next x.calls.way same.account same.entries (uses_transfers sizes i x g x.calls.way alone step);
    })

-- the transfer step of a call
pub call_step_holds : (sizes : Sizes) (words new : Words) (views after : ProcessViews) (history : List Entry) (ghosts : Ghosts) (i : ℕ)
    → IsShape sizes → i < sizes.processes → Holds sizes words views history ghosts → (views i).calls.way ≢ Alone
    → (views i).calls.stage ≡ Moving
    → Acted sizes (action_of sizes (views i).transfer) words new
    → MovedProcess i (call_met_at sizes (views i) (words (name_of (action_of sizes (views i).transfer))) Moving) views after
    → Meets sizes new after history
call_step_holds sizes words new views after history ghosts i shape li h calls stage acted moved =
    let v = views i in
    let word = words (name_of (action_of sizes v.transfer)) in
    let x = call_met_at sizes v word Moving in
    let g = ghosts.ledgers i in
    let next = ledger_moved word v g in
    let used = calls_used sizes i v g v.calls.way calls (h.pools i li) in
    let carries = transfer_steps_carry sizes i v word g used (scheduled sizes words views history ghosts i shape li h) stage shape.a_process
    (given sizes words views history ghosts i li h) (knows_at_end sizes words views history ghosts i li h) in
    moves_hold sizes words new views after history ghosts i x next shape li h acted moved (record { transfer = refl; pool = refl }) refl
    (record {
      fits =
          going_fits (limits_of sizes) (transfer_bound sizes) sizes.quantum history i g next (shape_fits sizes shape) (h.entries.each i li)
          carries.goes;
      seen = going_sees g next carries.goes;
      entries = (enters_nothing word v.transfer.next g).0;
      places =
          call_places_by (is_taking v.pool.plan.pending) word v.transfer.next g (ap (λ p. is_taking p.pending) used.plan);
      uses = uses_calls sizes i x next x.calls.way calls carries.calls;
    })
