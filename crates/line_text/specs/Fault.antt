-- The faults of a text by their numbers.
use Rattle.std.specs.Prelude.{ℕ}
use Rattle.line_text.specs.declared.fault.TextFault.{TextFault}
use Rattle.line_text.specs.declared.fault.TextFault.TheVariants.{ReadFault, TooLong, BadLine, NoMemory}

-- the number of a fault
abbrev pub number_of : TextFault → ℕ
number_of ReadFault = 1
number_of TooLong = 2
number_of (BadLine line) = 3
number_of NoMemory = 4
