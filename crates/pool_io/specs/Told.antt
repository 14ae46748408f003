-- Bytes of the outside, where they are told.
use Rattle.std.specs.Prelude.{◌≡◌, ℕ, ◌<◌, List, [], ◌++◌, length, take, Option, option_map, IfSome}

-- these were the next bytes: what was left before is these, and then what is left now
abbrev pub HandsOut : Option (List ℕ) → Option (List ℕ) → List ℕ → Type 0
HandsOut before now piece = before ≡ option_map (λ rest. piece ++ rest) now

-- nothing is left
abbrev pub IsAtEnd : Option (List ℕ) → Type 0
IsAtEnd left = IfSome left (λ rest. rest ≡ [])

-- these bytes came behind those that were there before
abbrev pub GrowsBy : Option (List ℕ) → Option (List ℕ) → List ℕ → Type 0
GrowsBy before now piece = now ≡ option_map (λ bytes. bytes ++ piece) before

-- some first bytes of the piece came behind those that were there before, but not all
pub record GrowsByPart (before now : Option (List ℕ)) (piece : List ℕ) : Type 0 where
  pub count : ℕ
  pub part : count < length piece
  pub grown : GrowsBy before now (take count piece)
