-- the writing of a whole record
use Rattle.std.specs.Prelude.{◌≡◌, ℕ, ◌+◌, List, ◌++◌, length, drop, slice_index}
use Rattle.word_layout.specs.Sizes.{Sizes}
use Rattle.word_layout.specs.Packing.{tagged}
use Rattle.word_layout.specs.declared.announced.Wish.{Wish}
use Rattle.transfer_machine.specs.Tries.{drafted_value}
use Rattle.pool_table.specs.declared.about.About.{About}
use Rattle.pool_table.specs.declared.about.About.TheVariants.{Alone, InCall}
use Rattle.pool_table.specs.Views.{SeatView}
use Rattle.pool_table.specs.Steps.{CanStep, Stepped}
use Rattle.pool_table.specs.Transfers.{transfer_about}
use Rattle.versioned_records.specs.declared.writer.WriteStep.{WriteStep}
use Rattle.versioned_records.specs.Stores.{StoresWord, write_step}

-- what clauses see of a writer: the shape's numbers, the tag and the row that it was begun with, how many words it stored since, and its
-- values, which begin with those that it was begun with
pub record Writing : Type 0 where
  pub sizes : Sizes
  pub tag : ℕ
  pub row : ℕ
  pub index : ℕ
  pub values : List ℕ

-- the writing of this record is begun: these values come first
abbrev pub begun : ℕ → ℕ → List ℕ → Writing → Writing
begun tag row values w = record w { tag = tag; row = row; index = 0; values = values ++ drop (length values) w.values }

-- one word more is stored
abbrev pub wrote : Writing → Writing
wrote w = record w { index = w.index + 1 }

-- the value that comes next, and its word
abbrev pub next_value : Writing → ℕ
next_value w = slice_index w.values w.index

-- the word that a writer stores next
abbrev pub next_word : Writing → ℕ
next_word w = tagged w.tag (next_value w)

-- a process is to store the writer's next value
abbrev pub CanWrite : About → SeatView → Writing → Type 0
CanWrite about v w = StoresWord w.sizes about v w.tag w.row w.index (next_value w)

-- the writer stored its next value, and is so far
pub record HasWrittenOn (about : About) (v : SeatView) (w : Writing) (x : SeatView) (s : Writing) (answer : WriteStep) : Type 0 where
  pub stepped : Stepped about v (next_word w) x
  pub answered : answer ≡ write_step w.sizes w.index
  pub written : s ≡ wrote w
  -- what its process drafted stays
  pub drafted : x.mind.view.transfer.draft ≡ (transfer_about about v).draft

-- a writing outside any call that isn't over goes on: its process may store the next value, if it drafted that
abbrev pub CanWriteOn : Sizes → About → SeatView → Writing → Type 0
CanWriteOn sizes (Alone wish) x s =
    (next : Wish)
    → CanStep sizes (Alone next) x
    × (drafted_value sizes.processes x.mind.view.transfer.draft s.index ≡ next_value s → CanWrite (Alone next) x s)
CanWriteOn sizes (InCall call) x s = Unit {0}
