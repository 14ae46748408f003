use Rattle.std.proofs.Common.{◌≡◌, take}
use Rattle.pool_fit.specs.Choices.{rounded_sizes}
use Rattle.pool_fit.proofs.fitting.rounded.Given as goal

-- the sizes of the classes so far
abbrev pub invariant-loop-class : goal.invariant-loop-class
invariant-loop-class l = l.sizes.items ≡ rounded_sizes (take l.class-index l.classes)
