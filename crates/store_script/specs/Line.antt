-- What a line of a store script means.
use Rattle.std.specs.Prelude.{◌≡◌, ℕ, ◌<◌, ◌&&◌, nat_lt, List, [], ◌∷◌, Option, Some, None, if◌then◌else◌, codes}
use Rattle.std.specs.Str.{bytes_eq}
use Rattle.line_text.specs.Words.{words}
use Rattle.line_text.specs.Meanings.{meaning_said}
use Rattle.store_script.specs.Number.{number_of}
use Rattle.store_script.specs.declared.quad.Quad.{Quad}
use Rattle.line_text.specs.declared.meaning.Meaning.{Meaning}
use Rattle.line_text.specs.declared.meaning.Meaning.TheVariants.{Skipped, Says, Bad}
use Rattle.store_script.specs.declared.line.Request.{Request}
use Rattle.store_script.specs.declared.line.Request.TheVariants.{Put, Get, Set, Del}

-- the words spell these numbers
abbrev pub AreNumbers : List (List ℕ) → List ℕ → Type 0
AreNumbers [] [] = Unit {0}
AreNumbers (word ∷ words) (number ∷ numbers) = (number_of word ≡ Some number) × AreNumbers words numbers
AreNumbers words numbers = ⊥

-- the words that say a request: its name and its numbers
abbrev pub Spells : List (List ℕ) → Request → Type 0
Spells [] request = ⊥
Spells (name ∷ words) (Put key value) = (name ≡ codes "put") × AreNumbers words (key ∷ value.a ∷ value.b ∷ value.c ∷ value.d ∷ [])
Spells (name ∷ words) (Get key) = (name ≡ codes "get") × AreNumbers words (key ∷ [])
Spells (name ∷ words) (Set key index value) = (name ≡ codes "set") × AreNumbers words (key ∷ index ∷ value ∷ []) × (index < 4)
Spells (name ∷ words) (Del key) = (name ≡ codes "del") × AreNumbers words (key ∷ [])

-- what a line means: it has no words and is skipped, it says a request, or it is bad, which is any other line
abbrev pub Means : List ℕ → Meaning Request → Type 0
Means line Skipped = words line ≡ []
Means line (Says request) = Spells (words line) request
Means line Bad = ¬ (words line ≡ []) × ((request : Request) → ¬ (Spells (words line) request))

-- a number before others, where all of them are numbers
abbrev pub with_number : Option ℕ → Option (List ℕ) → Option (List ℕ)
with_number (Some number) (Some numbers) = Some (number ∷ numbers)
with_number (Some number) None = None
with_number None numbers = None

-- the numbers that words spell, where each spells one
abbrev pub numbers_of : List (List ℕ) → Option (List ℕ)
numbers_of [] = Some []
numbers_of (word ∷ words) = with_number (number_of word) (numbers_of words)

-- what a name says of one number
abbrev pub said_of_one : List ℕ → ℕ → Option Request
said_of_one name key =
    if bytes_eq name (codes "get") then Some (Get key) else (if bytes_eq name (codes "del") then Some (Del key) else None)

-- what it says of three
abbrev pub said_of_three : List ℕ → ℕ → ℕ → ℕ → Option Request
said_of_three name key index value = if bytes_eq name (codes "set") && nat_lt index 4 then Some (Set key index value) else None

-- what it says of a number and four more
abbrev pub said_of_five : List ℕ → ℕ → Quad → Option Request
said_of_five name key value = if bytes_eq name (codes "put") then Some (Put key value) else None

-- what it says of numbers
abbrev pub said_of : List ℕ → List ℕ → Option Request
said_of name (key ∷ []) = said_of_one name key
said_of name (key ∷ index ∷ value ∷ []) = said_of_three name key index value
said_of name (key ∷ a ∷ b ∷ c ∷ d ∷ []) = said_of_five name key (record { a = a; b = b; c = c; d = d })
said_of name numbers = None

-- what it says of words that may be numbers
abbrev pub said : List ℕ → Option (List ℕ) → Option Request
said name None = None
said name (Some numbers) = said_of name numbers

-- the meaning of words, computed
abbrev pub meaning_of_words : List (List ℕ) → Meaning Request
meaning_of_words [] = Skipped
meaning_of_words (name ∷ words) = meaning_said (said name (numbers_of words))

-- the meaning of a line
abbrev pub meaning_of : List ℕ → Meaning Request
meaning_of line = meaning_of_words (words line)
