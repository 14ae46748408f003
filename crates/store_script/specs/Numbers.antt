-- Numbers that are read one by one.
use Rattle.std.specs.Prelude.{ℕ, nat_le, List, length, ◌++◌, Option, Some, None, if◌then◌else◌}

-- at most five
abbrev pub few : Option (List ℕ) → Option (List ℕ)
few None = None
few (Some numbers) = if nat_le (length numbers) 5 then Some numbers else None

-- numbers behind those that were found
abbrev pub behind : List ℕ → Option (List ℕ) → Option (List ℕ)
behind found None = None
behind found (Some numbers) = Some (found ++ numbers)
