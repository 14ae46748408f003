-- The changes that a link of noted changes stands for.
use Rattle.std.specs.Prelude.{List, [], ◌∷◌, ◌++◌}
use Rattle.timer_wheel.specs.declared.changes.Change.{Change}
use Rattle.timer_wheel.specs.declared.changes.Link.{Link}
use Rattle.timer_wheel.specs.declared.changes.Link.TheVariants.{None, After}

-- those before, and its own last
abbrev pub changes_of : Link → List Change
changes_of None = []
changes_of (After before change) = before ++ change ∷ []
