-- How words are read that have a meaning.
use Rattle.std.specs.Prelude.{◌≡◌, Option, Some, None, Result, Ok, Err}
use Rattle.command_words.specs.declared.fault.WordsFault.{WordsFault}
use Rattle.command_words.specs.declared.fault.WordsFault.TheVariants.{Faulty}

-- the answer is what is meant; it is `Faulty` only where nothing is, and may else be want of memory
abbrev pub Reads : {Asked : Type 0} → Option Asked → Result Asked WordsFault → Type 0
Reads meaning (Ok asked) = meaning ≡ Some asked
Reads meaning (Err fault) = fault ≡ Faulty → meaning ≡ None
