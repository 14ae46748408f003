-- What files in memory tell of their bytes.
use Rattle.std.specs.Prelude.{ℕ, ◌+◌, Bool, bytes_eq, Option, option_map, String, string_bytes, Vec}
use Rattle.std.specs.Prelude.{List, [], ◌∷◌, ◌++◌, drop, find, slice_get}
use Rattle.std.specs.declared.alloc.Global.{Global}
use Rattle.pool_io.specs.Counts.{one_more}
use Rattle.pool_io.specs.declared.memory_files.MemoryFiles.{MemoryFiles}
use Rattle.pool_io.specs.declared.memory_files.MemorySource.{MemorySource}

-- whether the file has this name
abbrev pub is_named : List ℕ → String Global × Vec ℕ Global → Bool
is_named name file = bytes_eq (string_bytes file.0) name

-- the bytes of the first file of this name
abbrev pub bytes_of : MemoryFiles → List ℕ → Option (List ℕ)
bytes_of files name = option_map (λ file. file.1.items) (find (is_named name) files.files.items)

-- the bytes of the source's file behind the place up to which it was read
abbrev pub bytes_left : MemoryFiles → MemorySource → Option (List ℕ)
bytes_left files source = option_map (λ file. drop source.place file.1.items) (slice_get files.files.items source.file)

-- the same files after one call more
abbrev pub called : MemoryFiles → MemoryFiles
called files = record files { calls = one_more files.calls }

-- after one open more
abbrev pub opened : MemoryFiles → MemoryFiles
opened files = record files { opens = files.opens + 1 }

-- after one read more, which gave so many bytes, or none
abbrev pub noted : Option ℕ → MemoryFiles → MemoryFiles
noted answer files = record files { reads = files.reads ++ answer ∷ [] }

-- after one fault more
abbrev pub faulted : MemoryFiles → MemoryFiles
faulted files = record files { faults = one_more files.faults }
