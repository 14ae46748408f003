-- What a line of a trace means.
use Rattle.std.specs.Prelude.{◌≡◌, ℕ, ◌||◌, ◌⊎◌, List, [], ◌∷◌, ◌++◌, reverse, Option, Some, None, option_map, if◌then◌else◌, codes}
use Rattle.std.specs.Str.{bytes_eq}
use Rattle.line_text.specs.Words.{words}
use Rattle.line_text.specs.Meanings.{meaning_said}
use Rattle.mtrace_reader.specs.Words.{NoneOrBeginsWith, none_or_begins_with}
use Rattle.mtrace_reader.specs.Value.{address_of, size_of}
use Rattle.line_text.specs.declared.meaning.Meaning.{Meaning}
use Rattle.line_text.specs.declared.meaning.Meaning.TheVariants.{Skipped, Says, Bad}
use Rattle.mtrace_reader.specs.declared.trace.Operation.{Operation}
use Rattle.mtrace_reader.specs.declared.trace.Operation.TheVariants.{New, Release, Failed}

-- the byte that begins a line which is skipped, and the byte that begins the text of a caller
abbrev pub equals_sign : ℕ
equals_sign = 61

-- the byte that begins the text of a caller
abbrev pub at_sign : ℕ
at_sign = 64

-- a line without words is skipped, and one whose first word begins with `=`
abbrev pub IsSkipped : List (List ℕ) → Type 0
IsSkipped words = NoneOrBeginsWith equals_sign words

-- The words that say an operation: a sign, an address, and but for a release a size.
abbrev pub Spells : List (List ℕ) → Operation → Type 0
Spells (sign ∷ address ∷ []) (Release place) =
    ((sign ≡ codes "-") ⊎ (sign ≡ codes "<")) × (address_of address ≡ Some place)
Spells (sign ∷ address ∷ size ∷ []) (New place bytes) =
    ((sign ≡ codes "+") ⊎ (sign ≡ codes ">")) × (address_of address ≡ Some place) × (size_of size ≡ Some bytes)
Spells (sign ∷ address ∷ size ∷ []) Failed =
    (sign ≡ codes "!") × ((place : ℕ) × (address_of address ≡ Some place)) × ((bytes : ℕ) × (size_of size ≡ Some bytes))
Spells words operation = ⊥

-- The words of a line that is an operation: those that say it, and before them none, or a caller's text.
pub record IsOperation (words : List (List ℕ)) (operation : Operation) : Type 0 where
  pub caller : List (List ℕ)
  pub form : List (List ℕ)
  pub whole : words ≡ caller ++ form
  pub begins : NoneOrBeginsWith at_sign caller
  pub spells : Spells form operation

-- what a line means: it is skipped, it is an operation, or it is bad, which is any other line
abbrev pub Means : List ℕ → Meaning Operation → Type 0
Means line Skipped = IsSkipped (words line)
Means line (Says operation) = IsOperation (words line) operation
Means line Bad = ¬ (IsSkipped (words line)) × ((operation : Operation) → ¬ (IsOperation (words line) operation))

-- What a sign says of an address and a size.
abbrev pub said_by_sign : List ℕ → Option ℕ → Option ℕ → Option Operation
said_by_sign sign (Some place) (Some bytes) =
    if bytes_eq sign (codes "+") || bytes_eq sign (codes ">") then Some (New place bytes)
    else (if bytes_eq sign (codes "!") then Some Failed else None)
said_by_sign sign (Some place) None = None
said_by_sign sign None size = None

-- What words before an address and a size say, the last one first.
abbrev pub said_before : List (List ℕ) → List ℕ → List ℕ → Option Operation
said_before [] address size = None
said_before (sign ∷ before) address size =
    if none_or_begins_with at_sign (reverse before) then said_by_sign sign (address_of address) (size_of size) else None

-- What words before a release's sign and an address say, the last one first.
abbrev pub said_by_release : List (List ℕ) → List ℕ → Option Operation
said_by_release before address =
    if none_or_begins_with at_sign (reverse before) then option_map Release (address_of address) else None

-- What words say, the last one first: a release where the last but one is its sign.
abbrev pub said_by : List (List ℕ) → Option Operation
said_by [] = None
said_by (only ∷ []) = None
said_by (last ∷ second ∷ before) =
    if bytes_eq second (codes "-") || bytes_eq second (codes "<")
    then said_by_release before last
    else said_before before second last

-- the meaning of a line, computed
abbrev pub meaning_of : List ℕ → Meaning Operation
meaning_of line =
    if none_or_begins_with equals_sign (words line) then Skipped else meaning_said (said_by (reverse (words line)))
