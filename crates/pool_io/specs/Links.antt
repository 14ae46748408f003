-- The answers that a link of noted reads stands for.
use Rattle.std.specs.Prelude.{ℕ, List, [], ◌∷◌, ◌++◌, Option}
use Rattle.pool_io.specs.declared.reads.Link.{Link}
use Rattle.pool_io.specs.declared.reads.Link.TheVariants.{None, After}

-- those before, and its own last
abbrev pub answers : Link → List (Option ℕ)
answers None = []
answers (After before answer) = before ++ answer ∷ []
