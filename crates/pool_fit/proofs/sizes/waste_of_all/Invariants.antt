use Rattle.std.proofs.Common.{◌≡◌, ◌*◌, ◌^◌, ◌≤◌, take}
use Rattle.std.specs.Prelude.{sum_by}
use Rattle.pool_fit.specs.Moves.{waste_of}
use Rattle.pool_fit.proofs.sizes.waste_of_all.Given as goal

-- the waste of the traces so far
abbrev pub invariant-loop-list : goal.invariant-loop-list
invariant-loop-list l = record {
  waste : l.sum ≡ sum_by (waste_of l.size) (take l.list-index l.moves);
  few : l.sum ≤ 2 ^ 96 * l.list-index;
}
