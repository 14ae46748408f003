-- What a sink in memory takes.
use Rattle.std.specs.Prelude.{ℕ, ◌+◌, ◌-◌, ◌≤◌, length, min, max}
use Rattle.pool_io.specs.Counts.{NoneFrom}
use Rattle.pool_io.specs.declared.memory_sink.MemorySink.{MemorySink}

-- how many bytes of a piece of this length a write takes: as many as fit, and no more than `most`
abbrev pub taken_of : MemorySink → ℕ → ℕ
taken_of sink piece = min (max sink.most 1) (min piece (sink.room - length sink.bytes.items))

-- no later write is named as failing, and there is room for so many bytes more
pub record TakesAll (sink : MemorySink) (more : ℕ) : Type 0 where
  pub none_failing : NoneFrom sink.failing.items sink.calls
  pub fits : length sink.bytes.items + more ≤ sink.room
