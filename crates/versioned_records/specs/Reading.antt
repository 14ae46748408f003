-- the reading of a whole record
use Rattle.std.specs.Prelude.{◌≡◌, ◌≢◌, ℕ, ◌+◌, ◌<◌, ◌≤◌, List, replicate, slice_index, slice_set}
use Rattle.word_layout.specs.Sizes.{Sizes}
use Rattle.word_layout.specs.Names.{record_words}
use Rattle.word_layout.specs.Packing.{tag_of, value_of}
use Rattle.word_layout.specs.declared.announced.Wish.{Wish}
use Rattle.transfer_invariant.specs.Memory.{state_tag, current_record, word_value, state_value}
use Rattle.pool_table.specs.declared.about.About.{About}
use Rattle.pool_table.specs.declared.about.About.TheVariants.{Alone, InCall}
use Rattle.pool_table.specs.Views.{SeatView}
use Rattle.pool_table.specs.Steps.{CanStep, Stepped}
use Rattle.pool_table.specs.Transfers.{transfer_about, WhereverSeated}
use Rattle.versioned_records.specs.declared.reader.ReadStep.{ReadStep}
use Rattle.versioned_records.specs.declared.reader.ReadStep.TheVariants.{Going, Whole, Moved}
use Rattle.versioned_records.specs.Loads.{LoadsWord, HasMovedOn, read_step}

-- what clauses see of a reader: the shape's numbers, the tag and the row that it was begun with, how many words it loaded since, the words,
-- and how far it is
pub record Reading : Type 0 where
  pub sizes : Sizes
  pub tag : ℕ
  pub row : ℕ
  pub index : ℕ
  pub words : List ℕ
  pub reached : ReadStep

-- nothing is begun: that is as if the state had moved on
abbrev pub opened : Sizes → Reading
opened sizes = record { sizes = sizes; tag = 0; row = 0; index = 0; words = replicate 66 0; reached = Moved }

-- the reading of this record is begun
abbrev pub begun : ℕ → ℕ → Reading → Reading
begun tag row r = record r { tag = tag; row = row; index = 0; reached = Going }

-- this word is loaded, and the reading is so far
abbrev pub reading_after : ReadStep → ℕ → Reading → Reading
reading_after reached word r = record r { index = r.index + 1; words = slice_set r.words r.index word; reached = reached }

-- the value of a word that was read
abbrev pub read_value : Reading → ℕ → ℕ
read_value r index = value_of (slice_index r.words index)

-- a process is to load the reader's next word, and what the reader loaded since it was begun its process loaded in its present try
pub record CanRead (about : About) (v : SeatView) (r : Reading) : Type 0 where
  pub going : r.reached ≡ Going
  pub loads : LoadsWord about v r.tag r.row r.index
  pub same : (k : ℕ) → k < r.index → slice_index r.words k ≡ slice_index (transfer_about about v).loaded.record_words k

-- what was read is the state with the reader's tag: wherever the rule holds with this view, its values are those of that state, and so has
-- the current record them while that is the state
pub record HasRead (v : SeatView) (r : Reading) : Type 0 where
  pub values : WhereverSeated v (λ words states. (index : ℕ) → index < record_words v.sizes
      → read_value r index ≡ state_value v.sizes.processes (states r.tag) index)
  pub present : WhereverSeated v (λ words states. state_tag words ≡ r.tag → (index : ℕ) → index < record_words v.sizes
      → read_value r index ≡ word_value words (current_record words) index)

-- the reader loaded its next word, and is so far
pub record ReadsOn (about : About) (v : SeatView) (r : Reading) (x : SeatView) (s : Reading) (answer : ReadStep) (word : ℕ) : Type 0 where
  pub stepped : Stepped about v word x
  pub answered : answer ≡ read_step r.sizes r.tag r.index word
  pub never_lower : r.tag ≤ tag_of word
  pub read : s ≡ reading_after answer word r
  -- a later state's word shows that the state of the words that the step was made on has moved on
  pub moved : answer ≡ Moved → HasMovedOn v.sizes stepped.made.words r.tag
  -- else what it has loaded is what its process has, and once that is whole it is the state with its tag
  pub same : answer ≢ Moved → (k : ℕ) → k < s.index → slice_index s.words k ≡ slice_index x.mind.view.transfer.loaded.record_words k
  pub whole : answer ≡ Whole → HasRead x s

-- on some word
abbrev pub HasReadOn : About → SeatView → Reading → SeatView → Reading → ReadStep → Type 0
HasReadOn about v r x s answer = (word : ℕ) × ReadsOn about v r x s answer word

-- a reading outside any call that isn't whole goes on: its process may load the next word
abbrev pub CanReadOn : Sizes → About → SeatView → Reading → Type 0
CanReadOn sizes (Alone wish) x s = (next : Wish) → CanStep sizes (Alone next) x × CanRead (Alone next) x s
CanReadOn sizes (InCall call) x s = Unit {0}
