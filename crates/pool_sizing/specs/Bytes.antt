-- What a pool takes, in bytes.
use Rattle.std.specs.Prelude.{ℕ, ◌+◌, ◌*◌, ◌/◌}
use Rattle.word_layout.specs.Sizes.{Sizes, blocks}
use Rattle.word_layout.specs.Names.{table_words}

-- marks on the blocks, a bit each, stand in so many words of 64 bits
abbrev pub mark_words : Sizes → ℕ
mark_words pool = (blocks pool + 63) / 64

-- the table, its data words among it, and the marks of each process
abbrev pub memory : Sizes → ℕ
memory pool = 8 * (table_words pool + pool.processes * mark_words pool)

-- while the pool is opened, the words that the table begins with stand beside it
abbrev pub opening_memory : Sizes → ℕ
opening_memory pool = 8 * (table_words pool + table_words pool)
