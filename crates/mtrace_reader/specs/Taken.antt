-- The reads that a call makes.
use Rattle.std.specs.Prelude.{ℕ, List, Option, Result}
use Rattle.line_text.specs.Taken as text
use Rattle.line_text.specs.declared.fault.TextFault.{TextFault}
use Rattle.mtrace_reader.specs.declared.trace.Trace.{Trace}

-- the reads by the answer, where so many bytes may be read
abbrev pub ReadsFor : ℕ → List (Option ℕ) → List (Option ℕ) → Result Trace TextFault → Type 0
ReadsFor limit before now result = text.ReadsFor (λ (trace : Trace). trace.bytes) limit before now result
