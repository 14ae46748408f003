use Rattle.std.specs.Prelude.{◌≡◌, ℕ, ◌*◌, ◌<◌}
use Rattle.word_layout.specs.Sizes.{IsQuantum, IsLength, most_blocks}
use Rattle.word_layout.specs.declared.fault.ShapeFault.{ShapeFault}
use Rattle.word_layout.specs.declared.fault.ShapeFault.TheVariants.{NoProcess, ManyProcesses, FewBatches, BadQuantum, ManyBlocks, WideBlock}

-- the number of a fault
abbrev pub number_of : ShapeFault → ℕ
number_of NoProcess = 1
number_of ManyProcesses = 2
number_of FewBatches = 3
number_of ManyBlocks = 4
number_of WideBlock = 5
number_of BadQuantum = 6

-- where numbers have a fault
abbrev pub HasFault : ℕ → ℕ → ℕ → ℕ → ShapeFault → Type 0
HasFault processes batches words quantum NoProcess = processes ≡ 0
HasFault processes batches words quantum ManyProcesses = 32 < processes
HasFault processes batches words quantum FewBatches = batches < 2 * processes
HasFault processes batches words quantum BadQuantum = ¬ IsQuantum quantum
HasFault processes batches words quantum ManyBlocks =
    (length : ℕ) × IsLength processes quantum length × (most_blocks < batches * length)
HasFault processes batches words quantum WideBlock = 8 < words

-- which fault is told where there are several: the quantum's stands before those of blocks and words
abbrev pub rank : ShapeFault → ℕ
rank NoProcess = 0
rank ManyProcesses = 1
rank FewBatches = 2
rank BadQuantum = 3
rank ManyBlocks = 4
rank WideBlock = 5

-- the numbers have this fault and none of a lower rank
pub record IsFirstFault (processes batches words quantum : ℕ) (fault : ShapeFault) : Type 0 where
  pub has : HasFault processes batches words quantum fault
  pub first : (other : ShapeFault) → rank other < rank fault → ¬ HasFault processes batches words quantum other
