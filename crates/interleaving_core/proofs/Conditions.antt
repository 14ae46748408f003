-- a process that is to make a step of a transfer meets the conditions on the call that its view names
use Rattle.std.proofs.Common.{◌≡◌, ◌≢◌, ℕ, ◌<◌, Bool, true, false, Option, None, Some, List, refl, sym, subst}
use Rattle.std.proofs.lemmas.Bool.{false≢true}
use Rattle.word_layout.specs.Sizes.{Sizes}
use Rattle.word_layout.specs.Names.{word_at}
use Rattle.pool_model.specs.declared.entry.Entry.{Entry}
use Rattle.pool_model.specs.History.{own, grip}
use Rattle.pool_machine.specs.Conditions.{may_use_calls}
use Rattle.pool_machine.specs.declared.call.Call.{Call}
use Rattle.pool_machine.specs.declared.call.Call.TheVariants.{Allocate, Free, Read, Write, Search}
use Rattle.pool_machine.specs.declared.call.CallStage.{CallStage}
use Rattle.pool_machine.specs.declared.call.CallStage.TheVariants.{Between, Choosing, Moving, Own}
use Rattle.pool_machine.specs.declared.call.Way.{Way}
use Rattle.pool_machine.specs.Steps.{is_paced}
use Rattle.pool_machine.specs.declared.call.Way.TheVariants.{Fresh, Alone, Calls}
use Rattle.pool_machine.specs.declared.view.ProcessView.{ProcessView}
use Rattle.batch_invariant.specs.Batches.{ProcessViews}
use Rattle.chain_invariant.specs.Calls.{NamesHeld}
use Rattle.call_invariant.specs.Phases.{changes_pool}
use Rattle.call_invariant.proofs.Uses.{calls_used, transfers_used}
use Rattle.interleaving_core.specs.CallConditions.{CallConditions}
use Rattle.interleaving_core.specs.Invariant.{Ghosts, BlockIsHeld, Holds}
use Rattle.interleaving_core.specs.StepLaws.{CallsMeetConditions}
use Rattle.interleaving_core.specs.Steps.{is_alone}
use Rattle.interleaving_core.specs.TransferLaws.{moves_at, moves_transfer}
use Rattle.interleaving_core.proofs.Holds.{is_alone_way}
use Rattle.interleaving_core.proofs.Standing.{isnt_alone}

block_is_held : (sizes : Sizes) (held : List ℕ) (call : Call) → NamesHeld sizes held (Some call) → BlockIsHeld held call
block_is_held sizes held Allocate named = tt
block_is_held sizes held (Free block) named = named
block_is_held sizes held (Read block index) named = named.0
block_is_held sizes held (Write block index value) named = named.0
block_is_held sizes held Search named = tt

uses_calls : (way : Way) → way ≢ Alone → may_use_calls way ≡ true
uses_calls Fresh ne = refl
uses_calls Alone ne = absurd (ne refl)
uses_calls Calls ne = refl

moving_stage : (stage : CallStage) → moves_at stage ≡ true → stage ≡ Moving
moving_stage Between e = absurd (false≢true e)
moving_stage Choosing e = absurd (false≢true e)
moving_stage Moving e = refl
moving_stage Own e = absurd (false≢true e)

-- in a call
in_call_conditions : (sizes : Sizes) (held : List ℕ) (v : ProcessView) (call : Option Call) → v.calls.call ≡ call
    → changes_pool call ≡ true → v.calls.stage ≡ Moving → may_use_calls v.calls.way ≡ true
    → NamesHeld sizes held call → (is_paced call ≡ true → v.calls.steps < sizes.quantum) → CallConditions sizes held call v
in_call_conditions sizes held v None e changes moving way named few = absurd (false≢true changes)
in_call_conditions sizes held v (Some call) e changes moving way named few = record {
  changes = changes;
  way = way;
  may = (rw moving refl, block_is_held sizes held call named);
  own = λ inside. e;
  few = λ paced. rw moving (few paced);
}

-- alone
alone_conditions : (sizes : Sizes) (held : List ℕ) (v : ProcessView) (call : Option Call) → v.calls.way ≡ Alone → call ≡ None
    → CallConditions sizes held call v
alone_conditions sizes held v call alone none = rw none (rw alone refl)

module _ (sizes : Sizes) (words : List ℕ) (views : ProcessViews) (history : List Entry) (ghosts : Ghosts)
    (h : Holds sizes (word_at sizes words) views history ghosts) (i : ℕ) (li : i < sizes.processes) where
  conditions_by : (t : Bool) → is_alone (views i).calls.way ≡ t → moves_transfer (views i) ≡ true
      → CallConditions sizes (grip (own history i)) (views i).calls.call (views i)
  conditions_by true alone moves =
      let way = is_alone_way (views i).calls.way alone in
      alone_conditions sizes (grip (own history i)) (views i) (views i).calls.call way
      (transfers_used sizes i (views i) (ghosts.ledgers i) (views i).calls.way way (h.pools i li)).none
  conditions_by false calls moves =
      let v = views i in
      let way = isnt_alone v.calls.way calls in
      let used = calls_used sizes i v (ghosts.ledgers i) v.calls.way way (h.pools i li) in
      let moving = moving_stage v.calls.stage (rw calls at moves) in
      let entries = (h.entries.each i li).sees.own_entries in
      in_call_conditions sizes (grip (own history i)) v v.calls.call refl (used.stage.changes moving) moving (uses_calls v.calls.way way)
      (subst (λ es. NamesHeld sizes (grip es) v.calls.call) (sym entries) (h.names i li)) (λ paced. used.stage.few moving paced)

-- a process that is to make a step of a transfer meets the conditions on the call that its view names
pub calls_meet_conditions : CallsMeetConditions
calls_meet_conditions sizes words views history shape (ghosts, h) i li moves = conditions_by sizes words views history ghosts h i li
    (is_alone (views i).calls.way) refl moves
