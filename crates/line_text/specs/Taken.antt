-- The reads that a call makes, and the bytes that they gave.
use Rattle.std.specs.Prelude.{◌≡◌, ℕ, ◌+◌, ◌<◌, ◌≤◌, ◌^◌, ◌⊎◌, List, [], ◌∷◌, ◌++◌, length, map, sum, All, Option, Some, None, Result, Ok}
use Rattle.std.specs.Prelude.{Err}
use Rattle.pool_io.specs.Told.{HandsOut}
use Rattle.line_text.specs.declared.fault.TextFault.{TextFault}
use Rattle.line_text.specs.declared.fault.TextFault.TheVariants.{ReadFault, TooLong, BadLine, NoMemory}

-- reads that gave at least one byte each, so many in all, and then these last ones
pub record Took (before now : List (Option ℕ)) (bytes : ℕ) (ending : List (Option ℕ)) : Type 0 where
  pub counts : List ℕ
  pub some : All (λ count. 0 < count) counts
  pub total : bytes ≡ sum counts
  pub reads : now ≡ before ++ map Some counts ++ ending

-- the same, where the bytes are no more than a limit
pub record TookWithin (limit : ℕ) (before now ending : List (Option ℕ)) : Type 0 where
  pub bytes : ℕ
  pub within : bytes ≤ limit
  pub took : Took before now bytes ending

-- the bytes that are kept, and with so many more they are few
pub record HasRoom (Has : List ℕ → Type 0) (more : ℕ) : Type 0 where
  pub bytes : List ℕ
  pub kept : Has bytes
  pub few : length bytes + more ≤ 2 ^ 32

-- so many bytes are kept
pub record HasSoMany (Has : List ℕ → Type 0) (count : ℕ) : Type 0 where
  pub bytes : List ℕ
  pub kept : Has bytes
  pub many : count ≡ length bytes

-- so many bytes of a source were taken, which are kept
pub record IsTaken (before now : Option (List ℕ)) (Has : List ℕ → Type 0) (taken : ℕ) : Type 0 where
  pub bytes : List ℕ
  pub handed : HandsOut before now bytes
  pub kept : Has bytes
  pub count : taken ≡ length bytes

-- What is answered to a source that has these bytes left, of which so many may be read. Want of memory and a fault of the
-- source may come at any bytes.
abbrev pub GivesAll : ℕ → List ℕ → (List ℕ → Type 0) → Result ℕ TextFault → Type 0
GivesAll limit left Has (Ok count) = Has left × (count ≡ length left)
GivesAll limit left Has (Err TooLong) = limit < length left
GivesAll limit left Has (Err (BadLine number)) = ⊥
GivesAll limit left Has (Err ReadFault) = Unit {0}
GivesAll limit left Has (Err NoMemory) = Unit {0}

-- The reads by the answer, where so many bytes may be read: none after one that gave nothing or failed, and none past the byte
-- after the limit.
abbrev pub ReadsOf : ℕ → List (Option ℕ) → List (Option ℕ) → Result ℕ TextFault → Type 0
ReadsOf limit before now (Ok count) = Took before now count (Some 0 ∷ [])
ReadsOf limit before now (Err TooLong) = Took before now (limit + 1) []
ReadsOf limit before now (Err (BadLine number)) = ⊥
ReadsOf limit before now (Err ReadFault) = TookWithin limit before now (None ∷ [])
ReadsOf limit before now (Err NoMemory) = TookWithin (limit + 1) before now []

-- the same, where the bytes are read as what their lines say, which tells how many they were
abbrev pub ReadsFor : {T : Type 0} → (T → ℕ) → ℕ → List (Option ℕ) → List (Option ℕ) → Result T TextFault → Type 0
ReadsFor count limit before now (Ok read) = Took before now (count read) (Some 0 ∷ [])
ReadsFor count limit before now (Err TooLong) = Took before now (limit + 1) []
ReadsFor count limit before now (Err (BadLine number)) = TookWithin limit before now (Some 0 ∷ [])
ReadsFor count limit before now (Err ReadFault) = TookWithin limit before now (None ∷ [])
ReadsFor count limit before now (Err NoMemory) = TookWithin (limit + 1) before now [] ⊎ TookWithin limit before now (Some 0 ∷ [])
