-- which numbers are refused
use Rattle.std.proofs.Common.{◌≡◌, ℕ, ◌*◌, ◌<◌, ◌≤◌, subst, arith}
use Rattle.word_layout.specs.Sizes.{Sizes, IsLength, IsQuantum, IsShape, most_blocks, blocks}
use Rattle.word_layout.specs.Faults.{HasFault}
use Rattle.word_layout.specs.declared.fault.ShapeFault.{ShapeFault}
use Rattle.word_layout.specs.declared.fault.ShapeFault.TheVariants.{NoProcess, ManyProcesses, FewBatches, BadQuantum, ManyBlocks, WideBlock}
use Rattle.word_layout.proofs.Lengths.{one_length}

-- numbers that passed all tests are those of a shape
pub shape_is : (processes batches words quantum l : ℕ)
    → 1 ≤ processes
    → processes ≤ 32
    → 2 * processes ≤ batches
    → IsQuantum quantum
    → IsLength processes quantum l
    → batches * l ≤ most_blocks
    → words ≤ 8
    → IsShape (record { processes = processes; batches = batches; words = words; quantum = quantum; length = l })
unfolding blocks
shape_is processes batches words quantum l some few two is_quantum is_length few_blocks narrow = record {
  a_process = some;
  few_processes = few;
  two_batches_each = two;
  a_quantum = is_quantum;
  least_length = is_length;
  few_blocks = few_blocks;
  few_words = narrow;
}

-- the numbers of a shape have no fault
pub no_fault : (sizes : Sizes) (fault : ShapeFault)
    → IsShape sizes
    → ¬ HasFault sizes.processes sizes.batches sizes.words sizes.quantum fault
unfolding blocks
no_fault sizes NoProcess is has = omega (arith, is.a_process)
no_fault sizes ManyProcesses is has = omega (arith, is.few_processes)
no_fault sizes FewBatches is has = omega (arith, is.two_batches_each)
no_fault sizes BadQuantum is has = has is.a_quantum
no_fault sizes ManyBlocks is has =
    let same : has.0 ≡ sizes.length = one_length sizes.processes sizes.quantum has.0 sizes.length has.1 is.least_length in
    let many : most_blocks < sizes.batches * sizes.length = subst (λ (l : ℕ). most_blocks < sizes.batches * l) same has.2 in
    omega (arith, is.few_blocks)
no_fault sizes WideBlock is has = omega (arith, is.few_words)
