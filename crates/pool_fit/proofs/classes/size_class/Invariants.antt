use Rattle.std.proofs.Common.{◌≡◌, ◌*◌, ◌^◌, ◌≤◌, take}
use Rattle.pool_fit.specs.Classes.{class_between}
use Rattle.pool_fit.proofs.classes.size_class.Given as goal

-- the class of the traces so far
abbrev pub invariant-loop-list : goal.invariant-loop-list
invariant-loop-list l = record {
  class : l.class ≡ class_between (take l.list-index l.moves) l.exponent l.least l.most;
  few : l.class.count ≤ 2 ^ 64 * l.list-index;
  low : l.class.peak ≤ 2 ^ 64 * l.list-index;
}
