use Rattle.std.proofs.Common.{◌≡◌, ◌++◌, take}
use Rattle.std.specs.Prelude.{flat_map}
use Rattle.pool_fit.specs.declared.rows.QuantumRow.{QuantumRow}
use Rattle.pool_fit.specs.Choices.{offer_of}
use Rattle.pool_fit.proofs.choice.push_offers.Given as goal

-- the pools of the quanta so far
abbrev pub invariant-loop-one : goal.invariant-loop-one
invariant-loop-one l =
    l.offers.items
    ≡ l.initial.offers.items
    ++ flat_map (λ (one : QuantumRow). offer_of l.row.size one.quantum one.pool) (take l.one-index l.row.quanta.items)
