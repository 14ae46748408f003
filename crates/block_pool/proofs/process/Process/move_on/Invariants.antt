use Rattle.std.proofs.Common.{◌≡◌, ◌+◌, ◌≤◌}
use Rattle.word_table.specs.Seats.{SameSeat}
use Rattle.block_pool.specs.Running.{IsRunning}
use Rattle.block_pool.specs.Moves.{MovedOn, AgesWithin}
use Rattle.block_pool.proofs.process.Process.move_on.Given as goal

abbrev pub invariant-loop-made : goal.invariant-loop-made
invariant-loop-made g l = record {
  seat : SameSeat l.fn.self.seat l.self.seat;
  steps : l.steps ≡ l.fn.steps + l.made;
  running : IsRunning l.shape l.most l.call l.made l.self;
  moved : MovedOn l.fn.self.seat.view l.made l.self.seat.view;
  plan : l.self.pool.plan ≡ l.fn.self.pool.plan;
  within : 1 ≤ l.made → l.fn.self.pool.plan.done + l.made ≤ l.fn.self.pool.plan.bound;
  age : AgesWithin (l.fn.self.transfer.age + 1) l.self.transfer;
}
