-- the own step of a call
use Rattle.std.specs.Prelude.{◌≡◌, ℕ, ◌↔◌, Option, None, Some}
use Rattle.transfer_schedule.specs.Numbers.{after_took_one}
use Rattle.pool_machine.specs.OwnSteps.{pool_own_met, next_block}
use Rattle.pool_machine.specs.declared.call.Call.{Call}
use Rattle.pool_table.specs.declared.about.About.TheVariants.{InCall}
use Rattle.pool_table.specs.Steps.{Stepped}
use Rattle.block_pool.specs.declared.process.Process.{Process}
use Rattle.block_pool.specs.Calls.{HasNoBlock}

-- the own step of this call was made: its pool is what the machine makes of it by the word that it met, and the transfer stays
pub record OwnMade (call : Call) (old new : Process) : Type 0 where
  pub word : ℕ
  pub stepped : Stepped (InCall call) old.seat.view word new.seat.view
  pub transfer : new.transfer ≡ old.transfer
  pub pool : new.pool ≡ pool_own_met word old.pool (Some call)

-- that of an allocate or of a search was made, which gets this block, if any
pub record AllocateMade (call : Call) (got : Option ℕ) (old new : Process) : Type 0 where
  pub made : OwnMade call old new
  pub block : got ≡ next_block old.pool
  pub plan : new.pool.plan ≡ after_took_one old.pool.plan
  pub none : (got ≡ None) ↔ HasNoBlock old.pool.plan
