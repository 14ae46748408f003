-- bounds of the numbers of a shape
use Rattle.std.proofs.Common.{ℕ, ◌+◌, ◌*◌, ◌^◌, ◌<◌, ◌≤◌, arith}
use Rattle.std.proofs.Math.Nat.{mul-le-mul_left, mul-le-mul_right}
use Rattle.word_layout.specs.Sizes.{Sizes, IsShape, IsQuantum, blocks}
use Rattle.word_layout.specs.Names.{record_words, slots_start, nexts_start, data_start}

-- a quantum is 1 to 16
pub quantum_bounds : (quantum : ℕ) → IsQuantum quantum → (1 ≤ quantum) × (quantum ≤ 16)
quantum_bounds quantum is = grind arith

-- a batch has at least two blocks, since even 16 steps a call leave a transfer unfinished after one
pub two_blocks_a_batch : (sizes : Sizes) → IsShape sizes → 2 ≤ sizes.length
two_blocks_a_batch sizes is =
    let bounds = quantum_bounds sizes.quantum is.a_quantum in
    omega (arith, is.a_process, is.least_length.enough, mul-le-mul_right {m = sizes.quantum} {n = 16} sizes.length bounds.1)

-- every batch lies within the blocks
pub batch_within_blocks : (sizes : Sizes) (t : ℕ) → t < sizes.batches → t * sizes.length + sizes.length ≤ blocks sizes
unfolding blocks
batch_within_blocks sizes t h = omega (arith, mul-le-mul_right {m = t + 1} {n = sizes.batches} sizes.length (omega arith))

-- there are twice as many blocks as batches, or more
pub batches_le_blocks : (sizes : Sizes) → IsShape sizes → 2 * sizes.batches ≤ blocks sizes
unfolding blocks
batches_le_blocks sizes is =
    omega (arith, mul-le-mul_left {m = 2} {n = sizes.length} sizes.batches (two_blocks_a_batch sizes is))

-- there are at least two batches of blocks
pub length_le_blocks : (sizes : Sizes) → IsShape sizes → 2 * sizes.length ≤ blocks sizes
unfolding blocks
length_le_blocks sizes is =
    omega (arith, mul-le-mul_right {m = 2} {n = sizes.batches} sizes.length (omega (arith, is.a_process, is.two_batches_each)))

-- the slots begin below 2^13
pub slots_start_lt : (sizes : Sizes) → IsShape sizes → slots_start sizes < 2 ^ 13
unfolding slots_start
slots_start_lt sizes is =
    let few = is.few_processes in
    omega (arith, mul-le-mul_right {m = 2 * sizes.processes + 1} {n = 65} (record_words sizes) (omega arith))

-- the next words begin below 2^22
pub nexts_start_lt : (sizes : Sizes) → IsShape sizes → nexts_start sizes < 2 ^ 22
unfolding nexts_start
nexts_start_lt sizes is = omega (arith, slots_start_lt sizes is, batches_le_blocks sizes is, is.few_blocks)

-- the data words begin below 2^23
pub data_start_lt : (sizes : Sizes) → IsShape sizes → data_start sizes < 2 ^ 23
unfolding data_start
data_start_lt sizes is = omega (arith, nexts_start_lt sizes is, is.few_blocks)
