use Rattle.std.proofs.Common.{◌≡◌, ◌^◌, map}
use Rattle.std.specs.List.{range_with_len}
use Rattle.pool_fit.specs.Classes.{class_of, least_bytes}
use Rattle.pool_fit.proofs.classes.size_classes.Given as goal

-- the classes so far, and the bounds of the next
abbrev pub invariant-loop-exponent : goal.invariant-loop-exponent
invariant-loop-exponent l = record {
  classes : l.classes.items ≡ map (class_of l.moves) (range_with_len 0 l.exponent);
  least : l.least ≡ least_bytes l.exponent;
  most : l.most ≡ 2 ^ l.exponent;
}
