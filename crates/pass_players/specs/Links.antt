-- The moments that a link of noted moments stands for.
use Rattle.std.specs.Prelude.{List, [], ◌∷◌, ◌++◌}
use Rattle.pass_players.specs.Moments.{Moment, moment_of}
use Rattle.pass_players.specs.declared.gate.Link.{Link}
use Rattle.pass_players.specs.declared.gate.Link.TheVariants.{None, After}

-- those before, and its own last
abbrev pub moments : Link → List Moment
moments None = []
moments (After before pass) = before ++ moment_of pass.value ∷ []
