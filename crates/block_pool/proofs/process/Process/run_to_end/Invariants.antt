use Rattle.std.proofs.Common.{◌≡◌, ℕ, ◌+◌, ◌-◌}
use Rattle.transfer_schedule.specs.Numbers.{after_steps}
use Rattle.word_table.specs.Seats.{SameSeat}
use Rattle.block_pool.specs.Moves.{MovedOn, AgesWithin}
use Rattle.block_pool.specs.Searching.{IsSeeking}
use Rattle.block_pool.proofs.process.Process.run_to_end.Given as goal

abbrev pub invariant-loop-chosen : goal.invariant-loop-chosen
invariant-loop-chosen g l = record {
  seat : SameSeat l.fn.self.seat l.self.seat;
  steps : l.steps ≡ l.fn.steps + l.made;
  seeking : IsSeeking l.shape l.chosen l.self;
  moved : MovedOn l.fn.self.seat.view l.made l.self.seat.view;
  plan : l.self.pool.plan ≡ after_steps l.made l.fn.self.pool.plan;
  age : (most : ℕ) → AgesWithin most l.fn.self.transfer → AgesWithin most l.self.transfer;
}

abbrev pub decreases-loop-chosen : goal.decreases-loop-chosen
decreases-loop-chosen g l = l.self.pool.plan.bound - l.self.pool.plan.done
