-- What is known of the slots and the commands so far.
use Rattle.std.specs.Prelude.{◌≡◌, ℕ, List, length, Some}
use Rattle.std.specs.Ordering.{nat_cmp}
use Rattle.std.specs.BTreeMap.{get, btree_map_len}
use Rattle.store_script.specs.Script.{place_of, with_key}
use Rattle.store_script.specs.declared.slots.SlotTable.{SlotTable}

-- the table has these keys, and of each its place
pub record Names (table : SlotTable) (keys : List ℕ) : Type 0 where
  pub each : (key : ℕ) → get nat_cmp table.slots key ≡ place_of key keys
  pub count : btree_map_len table.slots ≡ length keys

-- whatever keys a table had, it has them and this one, whose slot is its place
abbrev pub NamesNext : SlotTable → SlotTable → ℕ → ℕ → Type 0
NamesNext before after key slot =
    (keys : List ℕ) → Names before keys → Names after (with_key keys key) × (place_of key (with_key keys key) ≡ Some slot)
