-- The scripts of a drill.
use Rattle.std.specs.Prelude.{ℕ, ◌+◌, ◌%◌, ◌^◌, List, map}
use Rattle.std.specs.List.{range_with_len}
use Rattle.mtrace_reader.specs.Made.{made_trace}
use Rattle.mtrace_reader.specs.declared.steps.Script.{Script}
use Rattle.mtrace_reader.specs.Script.{script_of}

-- how many bytes a block of a drill holds
abbrev pub drill_size : ℕ
drill_size = 64

-- the script of process k, whose trace is made of the seed and k
abbrev pub drill_script : ℕ → ℕ → ℕ → Script
drill_script seed calls k = script_of (made_trace ((seed + k) % 2 ^ 64) calls) drill_size

-- the scripts of the first so many processes, in their order
abbrev pub drill_scripts : ℕ → ℕ → ℕ → List Script
drill_scripts seed calls processes = map (drill_script seed calls) (range_with_len 0 processes)
