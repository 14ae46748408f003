-- when a process may make its next step, alone or in a call, and the conditions on the call that a step of a transfer is made in
use Rattle.std.specs.Prelude.{◌≡◌, ℕ, ◌<◌, true, Option, None, Some, List}
use Rattle.word_layout.specs.Sizes.{Sizes}
use Rattle.word_layout.specs.declared.announced.Wish.{Wish}
use Rattle.pool_machine.specs.Conditions.{may_use_calls, may_use_transfers}
use Rattle.pool_machine.specs.declared.call.Call.{Call}
use Rattle.pool_machine.specs.declared.call.CallStage.{CallStage}
use Rattle.pool_machine.specs.declared.call.CallStage.TheVariants.{Between, Choosing, Moving, Own}
use Rattle.pool_machine.specs.declared.call.CallView.{CallView}
use Rattle.pool_machine.specs.declared.view.ProcessView.{ProcessView}
use Rattle.call_invariant.specs.Phases.{changes_pool}
use Rattle.pool_machine.specs.Steps.{is_paced}
use Rattle.interleaving_core.specs.Invariant.{BlockIsHeld}
use Rattle.interleaving_core.specs.Moves.{may_go, may_go_alone}
use Rattle.interleaving_core.specs.Steps.{is_at_step}

-- a process may make its next step alone: it goes on with its transfer, or may begin one with this wish
abbrev pub MayStepAlone : Sizes → Wish → ProcessView → Type 0
MayStepAlone sizes wish v = may_go_alone sizes wish v ≡ true

-- a process that holds these blocks may make its next step in this call: it goes on with a call whatever its age, or may begin this one,
-- for which alone an age is asked; and it holds the block that this names
abbrev pub MayStepInCall : Sizes → List ℕ → Call → ProcessView → Type 0
MayStepInCall sizes held call v = (may_go sizes true call v ≡ true) × BlockIsHeld held call

-- how many steps of a transfer a call at that stage has made: one that only begins has made none
abbrev pub steps_at : CallView → CallStage → ℕ
steps_at calls Between = 0
steps_at calls Choosing = 0
steps_at calls Moving = calls.steps
steps_at calls Own = calls.steps

-- a process that holds these blocks makes steps of a transfer in this call
pub record MovesInCall (sizes : Sizes) (held : List ℕ) (call : Call) (v : ProcessView) : Type 0 where
  -- the call is an allocate, a free or a search
  pub changes : changes_pool (Some call) ≡ true
  -- the process has begun no transfer alone, and may make the step: so it holds the block that the call names
  pub way : may_use_calls v.calls.way ≡ true
  pub may : MayStepInCall sizes held call v
  -- where it is in one, it is in this one
  pub own : is_at_step v.calls.stage ≡ true → v.calls.call ≡ Some call
  -- it has made fewer than a quantum of steps in it
  pub few : is_paced (Some call) ≡ true → steps_at v.calls v.calls.stage < sizes.quantum

-- a step of a transfer is made in that call; without one it is a step of a transfer alone, and the process has begun no call
abbrev pub CallConditions : Sizes → List ℕ → Option Call → ProcessView → Type 0
CallConditions sizes held None v = may_use_transfers v.calls.way ≡ true
CallConditions sizes held (Some call) v = MovesInCall sizes held call v
