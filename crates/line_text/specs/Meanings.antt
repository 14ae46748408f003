-- Meanings of lines, one after the other.
use Rattle.std.specs.Prelude.{ℕ, ◌+◌, Bool, true, false, List, [], ◌∷◌, Option, Some, None}
use Rattle.line_text.specs.declared.meaning.Meaning.{Meaning}
use Rattle.line_text.specs.declared.meaning.Meaning.TheVariants.{Skipped, Says, Bad}

-- the meaning of a line that says this or nothing
abbrev pub meaning_said : {T : Type 0} → Option T → Meaning T
meaning_said None = Bad
meaning_said (Some thing) = Says thing

-- what is said among meanings, in order
abbrev pub said : {T : Type 0} → List (Meaning T) → List T
said [] = []
said (Skipped ∷ others) = said others
said (Says thing ∷ others) = thing ∷ said others
said (Bad ∷ others) = said others

-- whether a line has no meaning
abbrev pub is_bad : {T : Type 0} → Meaning T → Bool
is_bad Skipped = false
is_bad (Says thing) = false
is_bad Bad = true

-- the number of the first bad line, where the first of these lines has this number
abbrev pub first_bad : {T : Type 0} → ℕ → List (Meaning T) → Option ℕ
first_bad number [] = None
first_bad number (Skipped ∷ others) = first_bad (number + 1) others
first_bad number (Says thing ∷ others) = first_bad (number + 1) others
first_bad number (Bad ∷ others) = Some number
