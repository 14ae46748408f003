use Rattle.std.proofs.Common.{◌≡◌, take}
use Rattle.pool_fit.specs.Choices.{offers_of}
use Rattle.pool_fit.proofs.choice.offers.Given as goal

-- the pools of the sizes so far
abbrev pub invariant-loop-row : goal.invariant-loop-row
invariant-loop-row l = l.offers.items ≡ offers_of l.most (take l.row-index l.sizes)
