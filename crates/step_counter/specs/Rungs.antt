-- The number of a ledger without bytes, read off its chain of rungs.
use Rattle.std.specs.Prelude.{ℕ, ◌+◌}
use Rattle.step_counter.specs.declared.quiet.Rung.{Rung}
use Rattle.step_counter.specs.declared.quiet.Rung.TheVariants.{Bottom, Above}

-- how high a rung stands: one above the ledger below it
abbrev pub height : Rung → ℕ
height Bottom = 0
height (Above below) = below + 1
