-- The steps that free a block where nothing is refused.
use Rattle.std.specs.Prelude.{Bool, true, false}
use Rattle.mtrace_reader.specs.declared.steps.Step.{Step}
use Rattle.mtrace_reader.specs.declared.steps.Step.TheVariants.{Place, Leave}

-- whether the step is a Leave
abbrev pub is_leave : Step → Bool
is_leave (Place slot) = false
is_leave (Leave slot) = true
