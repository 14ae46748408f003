-- the classes of changes of the words, as far as the state and the records are concerned
use Rattle.std.proofs.Common.{◌≡◌, ◌≢◌, ℕ, ◌<◌}
use Rattle.word_layout.specs.Sizes.{Sizes}
use Rattle.word_layout.specs.Names.{records, record_words}
use Rattle.transfer_invariant.specs.Memory.{Words, state_tag, current_record, word_tag, word_value}

-- neither the state nor a record word changes
pub record RecordsStay (sizes : Sizes) (old new : Words) : Type 0 where
  pub state : state_tag new ≡ state_tag old
  pub current : current_record new ≡ current_record old
  pub tags : (row index : ℕ) → row < records sizes → index < record_words sizes → word_tag new row index ≡ word_tag old row index
  pub values : (row index : ℕ) → row < records sizes → index < record_words sizes → word_value new row index ≡ word_value old row index

-- a record word becomes one with this tag and value
pub record WordStored (sizes : Sizes) (old new : Words) (row index tag value : ℕ) : Type 0 where
  pub state : state_tag new ≡ state_tag old
  pub current : current_record new ≡ current_record old
  pub tag_here : word_tag new row index ≡ tag
  pub value_here : word_value new row index ≡ value
  pub row_tags : (r k : ℕ) → r < records sizes → k < record_words sizes → r ≢ row → word_tag new r k ≡ word_tag old r k
  pub row_values : (r k : ℕ) → r < records sizes → k < record_words sizes → r ≢ row → word_value new r k ≡ word_value old r k
  pub index_tags : (r k : ℕ) → r < records sizes → k < record_words sizes → k ≢ index → word_tag new r k ≡ word_tag old r k
  pub index_values : (r k : ℕ) → r < records sizes → k < record_words sizes → k ≢ index → word_value new r k ≡ word_value old r k

-- the state becomes one with this number and record
pub record StateInstalled (sizes : Sizes) (old new : Words) (tag row : ℕ) : Type 0 where
  pub state : state_tag new ≡ tag
  pub current : current_record new ≡ row
  pub tags : (r k : ℕ) → r < records sizes → k < record_words sizes → word_tag new r k ≡ word_tag old r k
  pub values : (r k : ℕ) → r < records sizes → k < record_words sizes → word_value new r k ≡ word_value old r k
