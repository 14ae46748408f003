-- The members of a pool at its opening.
use Rattle.std.specs.Prelude.{◌≡◌, ℕ, List}
use Rattle.atomic_table.specs.Seated.{TableId}
use Rattle.word_layout.specs.Faults.{IsFirstFault}
use Rattle.word_layout.specs.Sizes.{Sizes, IsShape}
use Rattle.block_pool.specs.Opening.{AreOpenedPasses}
use Rattle.block_pool.specs.Passing.{Passed}
use Rattle.pool_member.specs.declared.opening.OpenFault.{OpenFault}
use Rattle.pool_member.specs.declared.opening.OpenFault.TheVariants as fault

-- they are the opened passes of one pool of these numbers, all of them, in the order of their processes
pub record AreOpenedMembers (sizes : Sizes) (members : List Passed) : Type 0 where
  pub table : TableId
  pub opened : AreOpenedPasses (record { table = table; sizes = sizes }) members

-- they are those of a pool whose shape has these numbers
pub record HasShape (processes batches words quantum : ℕ) (members : List Passed) : Type 0 where
  pub sizes : Sizes
  pub shape : IsShape sizes
  pub processes_of : sizes.processes ≡ processes
  pub batches_of : sizes.batches ≡ batches
  pub words_of : sizes.words ≡ words
  pub quantum_of : sizes.quantum ≡ quantum
  pub members_of : AreOpenedMembers sizes members

-- the fault of these numbers, or want of memory where they are a shape's
abbrev pub IsOpenFault : ℕ → ℕ → ℕ → ℕ → OpenFault → Type 0
IsOpenFault processes batches words quantum (fault.Shape told) = IsFirstFault processes batches words quantum told
IsOpenFault processes batches words quantum fault.NoMemory =
    (sizes : Sizes) × IsShape sizes × (sizes.processes ≡ processes) × (sizes.batches ≡ batches) × (sizes.words ≡ words)
    × (sizes.quantum ≡ quantum)
