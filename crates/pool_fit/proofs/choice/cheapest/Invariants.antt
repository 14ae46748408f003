use Rattle.std.proofs.Common.{take}
use Rattle.pool_fit.specs.Choices.{IsCheapest}
use Rattle.pool_fit.proofs.choice.cheapest.Given as goal

-- the cheapest of the offers so far
abbrev pub invariant-loop-offer : goal.invariant-loop-offer
invariant-loop-offer l = IsCheapest (take l.offer-index l.offers) l.best
