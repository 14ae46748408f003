use Rattle.std.specs.Prelude.{◌≡◌, ℕ, ◌+◌, ◌*◌, ◌^◌, ◌≤◌, ◌⊎◌}
use Rattle.pool_model.specs.Limits.{Limits}

-- the numbers of a pool: its processes, its batches, the data words of a block, the quantum, the blocks of a batch
pub record Sizes : Type 0 where
  pub processes : ℕ
  pub batches : ℕ
  pub words : ℕ
  pub quantum : ℕ
  pub length : ℕ

-- the numbers, one by one
abbrev pub sizes : ℕ → ℕ → ℕ → ℕ → ℕ → Sizes
sizes processes batches words quantum length =
    record { processes = processes; batches = batches; words = words; quantum = quantum; length = length }

-- how many steps of a transfer one call may make
abbrev pub IsQuantum : ℕ → Type 0
IsQuantum q = (q ≡ 1) ⊎ ((q ≡ 2) ⊎ ((q ≡ 4) ⊎ ((q ≡ 8) ⊎ (q ≡ 16))))

-- a transfer among so many processes takes at most so many steps
abbrev pub transfer_steps : ℕ → ℕ
transfer_steps processes = 16 * processes + 15

-- a batch has the least number of blocks with which as many calls have room for a transfer
pub record IsLength (processes quantum length : ℕ) : Type 0 where
  pub enough : transfer_steps processes ≤ quantum * length
  pub least : (n : ℕ) → transfer_steps processes ≤ quantum * n → length ≤ n

-- the most blocks of a pool
abbrev pub most_blocks : ℕ
most_blocks = 2 ^ 22

-- how many blocks there are
unfoldable pub blocks : Sizes → ℕ
blocks sizes = sizes.batches * sizes.length

-- the numbers are within their limits
pub record IsShape (sizes : Sizes) : Type 0 where
  pub a_process : 1 ≤ sizes.processes
  pub few_processes : sizes.processes ≤ 32
  pub two_batches_each : 2 * sizes.processes ≤ sizes.batches
  pub a_quantum : IsQuantum sizes.quantum
  pub least_length : IsLength sizes.processes sizes.quantum sizes.length
  pub few_blocks : blocks sizes ≤ most_blocks
  pub few_words : sizes.words ≤ 8

-- the numbers by which a history of the pool is judged: its slack and its windows follow from them
abbrev pub limits_of : Sizes → Limits
limits_of sizes = record { processes = sizes.processes; blocks = blocks sizes; batch_length = sizes.length }

-- a transfer takes at most so many steps
abbrev pub transfer_bound : Sizes → ℕ
transfer_bound sizes = transfer_steps sizes.processes
