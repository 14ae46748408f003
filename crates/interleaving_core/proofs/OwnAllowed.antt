-- the own step of a call can be made
use Rattle.std.proofs.Common.{◌≡◌, ◌≢◌, ℕ, ◌<◌, Some, List, length, refl, arith}
use Rattle.std.proofs.lemmas.Bool.Decides.{nat_tests}
use Rattle.word_layout.specs.Sizes.{Sizes, IsShape}
use Rattle.pool_model.specs.declared.entry.Entry.{Entry}
use Rattle.transfer_schedule.specs.Numbers as schedule
use Rattle.transfer_schedule.specs.declared.own_step.Target.TheVariants as target
use Rattle.transfer_machine.specs.Words.{name_of}
use Rattle.pool_machine.specs.declared.call.Call.TheVariants.{Free}
use Rattle.pool_machine.specs.declared.call.CallStage.TheVariants.{Own}
use Rattle.pool_machine.specs.declared.call.Way.TheVariants.{Alone}
use Rattle.transfer_invariant.specs.Memory.{Words, state_tag}
use Rattle.pool_machine.specs.OwnSteps.{own_action}
use Rattle.pool_machine.specs.Ready.{CanOwn, CanMeetOwn}
use Rattle.batch_invariant.specs.Batches.{ProcessViews}
use Rattle.chain_invariant.proofs.Calls.{own_can_at}
use Rattle.call_invariant.proofs.Owned.{frees_have_room, holders_may_free}
use Rattle.interleaving_core.specs.Invariant.{Ghosts, held_in, Holds}
use Rattle.interleaving_core.proofs.OwnLedgers.{OwnDue, due_of, names, shares}

-- where the current list is full
starts_fresh : (plan : schedule.Numbers) (l : ℕ) → plan.length ≡ l → plan.current ≡ l → schedule.target_of plan ≡ target.Fresh
starts_fresh plan l size full = grind (arith, nat_tests)

module _ (sizes : Sizes) (words : Words) (views : ProcessViews) (history : List Entry) (ghosts : Ghosts) (i : ℕ)
    (d : OwnDue sizes words views history ghosts i) where
  -- a process that holds a block has room for one more spare
  free_room : (block : ℕ) → (views i).calls.call ≡ Some (Free block) → (views i).pool.plan.current ≡ sizes.length
      → length (views i).pool.heads < 3
  free_room block call full =
      let g = ghosts.ledgers i in
      let counts = (d.holds.entries.each i d.low).counts in
      let balance = (shares sizes words views history ghosts i d).balance i d.low in
      frees_have_room sizes i (views i) g d.goes d.scheduled d.own (rw call refl)
      (holders_may_free g.account g.entries block counts balance (rw call at (names sizes words views history ghosts i d)))
      (starts_fresh (views i).pool.plan sizes.length d.goes.runs.kept.batch full)

  own_can : CanOwn sizes (views i) × CanMeetOwn (views i) (words (name_of (own_action (views i))))
  own_can =
      let can = own_can_at sizes words (ghosts.states (state_tag words)) views (held_in ghosts.ledgers) i d.shape d.low d.holds.chains
      d.goes.heads (views i).calls.call d.goes.runs.kept.batch d.goes.runs.kept.room (names sizes words views history ghosts i d) free_room
      in
      (can.0, can.1)

-- the own step of a call is in the ranges of its table, and what it makes of the view too
pub own_step_allowed : (sizes : Sizes) (words : Words) (views : ProcessViews) (history : List Entry) (ghosts : Ghosts) (i : ℕ)
    → IsShape sizes → i < sizes.processes → Holds sizes words views history ghosts
    → (views i).calls.way ≢ Alone → (views i).calls.stage ≡ Own
    → CanOwn sizes (views i) × CanMeetOwn (views i) (words (name_of (own_action (views i))))
own_step_allowed sizes words views history ghosts i shape li h ne own =
    own_can sizes words views history ghosts i (due_of sizes words views history ghosts i shape li h ne own)
