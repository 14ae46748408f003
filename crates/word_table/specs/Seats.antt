-- How clauses see a seat, and the word that an exchange met.
use Rattle.std.specs.Prelude.{◌≡◌, ℕ}
use Rattle.std.specs.declared.result.Result.{Result}
use Rattle.std.specs.declared.result.Result.TheVariants.{Ok, Err}
use Rattle.atomic_table.specs.Seated.{TableId}

-- a seat: the table that it is of, its number, and its view
pub record Seated (V : Type 0) : Type 0 where
  pub table : TableId
  pub number : ℕ
  pub view : V

-- a step changes nothing of its seat but the view
abbrev pub SameSeat : {V : Type 0} → Seated V → Seated V → Type 0
SameSeat before after = (after.table ≡ before.table) × (after.number ≡ before.number)

-- the word that an exchange met, hit or not
abbrev pub met_by : Result ℕ ℕ → ℕ
met_by (Ok word) = word
met_by (Err word) = word
