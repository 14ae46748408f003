-- what the words say that a transfer has loaded
use Rattle.std.specs.Prelude.{ℕ, ◌+◌, slice_index}
use Rattle.transfer_machine.specs.declared.loaded.Loaded.{Loaded}
use Rattle.word_layout.specs.Packing.{tag_of, value_of}

-- the number of the loaded state
abbrev pub loaded_tag : Loaded → ℕ
loaded_tag loaded = tag_of loaded.state

-- the record of the loaded state
abbrev pub loaded_record : Loaded → ℕ
loaded_record loaded = value_of loaded.state

-- the value of a loaded record word
abbrev pub record_value : Loaded → ℕ → ℕ
record_value loaded index = value_of (slice_index loaded.record_words index)

-- how many slots hold true content
abbrev pub loaded_base : Loaded → ℕ
loaded_base loaded = record_value loaded 0

-- how many slots the overlay covers, from the base on
abbrev pub overlay_length : Loaded → ℕ
overlay_length loaded = record_value loaded 1

-- the head that the overlay has at that place
abbrev pub overlay_head : Loaded → ℕ → ℕ
overlay_head loaded offset = record_value loaded (2 + offset)

-- the value of the reply of a process
abbrev pub loaded_reply : ℕ → Loaded → ℕ → ℕ
loaded_reply processes loaded process = record_value loaded (processes + 2 + process)

-- the batch that a process's pending take gets from a slot
abbrev pub popped_head : Loaded → ℕ → ℕ
popped_head loaded process = value_of (slice_index loaded.popped process)
