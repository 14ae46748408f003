-- The reads that a call makes.
use Rattle.std.specs.Prelude.{ℕ, List, Option, Result}
use Rattle.line_text.specs.Taken as text
use Rattle.line_text.specs.declared.fault.TextFault.{TextFault}
use Rattle.store_script.specs.declared.command.StoreScript.{StoreScript}

-- the reads by the answer, where so many bytes may be read
abbrev pub ReadsFor : ℕ → List (Option ℕ) → List (Option ℕ) → Result StoreScript TextFault → Type 0
ReadsFor limit before now result = text.ReadsFor (λ (script : StoreScript). script.bytes) limit before now result
