-- Opening handles, in plain lists and numbers.
use Rattle.std.proofs.Common.{◌≡◌, ℕ, ◌<◌, Some, List, [], ◌∷◌, map, refl, ap, arith}
use Rattle.word_layout.specs.Faults.{HasFault, IsFirstFault, rank}
use Rattle.word_layout.specs.declared.fault.ShapeFault.{ShapeFault}
use Rattle.word_layout.specs.declared.fault.ShapeFault.TheVariants.{NoProcess, ManyProcesses, FewBatches, BadQuantum, ManyBlocks, WideBlock}

-- values that boxes have, each as one that is there
pub some_each : {B M : Type 0} (value : B → M) (boxes : List B) → map (λ (boxed : B). Some (value boxed)) boxes ≡ map Some (map value boxes)
some_each value [] = refl
some_each value (boxed ∷ boxes) = ap (λ rest. Some (value boxed) ∷ rest) (some_each value boxes)

-- no fault stands before that of too many processes where there are more than 32
none_before : (processes batches words quantum : ℕ) (other : ShapeFault) → 32 < processes → rank other < 1
    → HasFault processes batches words quantum other → ⊥
none_before processes batches words quantum NoProcess many low has = omega (arith, many, has)
none_before processes batches words quantum ManyProcesses many low has = omega (arith, low)
none_before processes batches words quantum FewBatches many low has = omega (arith, low)
none_before processes batches words quantum BadQuantum many low has = omega (arith, low)
none_before processes batches words quantum ManyBlocks many low has = omega (arith, low)
none_before processes batches words quantum WideBlock many low has = omega (arith, low)

-- so it is the first
pub many_first : (processes batches words quantum : ℕ) → 32 < processes → IsFirstFault processes batches words quantum ManyProcesses
many_first processes batches words quantum many = record {
  has = many;
  first = λ other. λ low. none_before processes batches words quantum other many low;
}
