-- What the calls of C answer of the sizes of pools.
use Rattle.std.specs.Prelude.{◌≡◌, ℕ, ◌*◌, ◌⊎◌}
use Rattle.word_layout.specs.Faults.{IsFirstFault}
use Rattle.word_layout.specs.Sizes.{Sizes, IsShape}
use Rattle.word_layout.specs.declared.fault.ShapeFault.{ShapeFault}
use Rattle.pool_sizing.specs.Bytes.{memory, opening_memory}
use Rattle.pool_sizing.specs.Enough.{AreEnough, AreLeastEnough}
use Rattle.loskebri_c.specs.Filling.{shape_status}

-- the shape has these numbers
pub record IsShapeOf (processes batches words quantum : ℕ) (pool : Sizes) : Type 0 where
  pub is_shape : IsShape pool
  pub processes_of : pool.processes ≡ processes
  pub batches_of : pool.batches ≡ batches
  pub words_of : pool.words ≡ words
  pub quantum_of : pool.quantum ≡ quantum

-- the status tells the first fault of these numbers
abbrev pub TellsFault : ℕ → ℕ → ℕ → ℕ → ℕ → Type 0
TellsFault processes batches words quantum status =
    (why : ShapeFault) × (status ≡ shape_status why) × IsFirstFault processes batches words quantum why

-- a pool of these numbers takes so many bytes, and so many while it is opened
pub record Takes (processes batches words quantum bytes peak : ℕ) : Type 0 where
  pub pool : Sizes
  pub shape : IsShapeOf processes batches words quantum pool
  pub bytes_of : bytes ≡ memory pool
  pub peak_of : peak ≡ opening_memory pool

-- status 0 with what a pool takes; else the first fault of the numbers, and 0
abbrev pub MemoryAnswered : ℕ → ℕ → ℕ → ℕ → ℕ → ℕ → ℕ → Type 0
MemoryAnswered batches words quantum processes status bytes peak =
    ((status ≡ 0) × Takes processes batches words quantum bytes peak)
    ⊎ ((bytes ≡ 0) × (peak ≡ 0) × TellsFault processes batches words quantum status)

-- no number of batches is enough: already the fewest have a fault, which the status tells; or they have none, and enough batches have too
-- many blocks
pub record NoneAreEnough (processes quantum live status : ℕ) : Type 0 where
  pub none : (batches : ℕ) → AreEnough processes quantum live batches → ⊥
  pub why : TellsFault processes (2 * processes) 0 quantum status
      ⊎ ((status ≡ 11) × ((pool : Sizes) × IsShapeOf processes (2 * processes) 0 quantum pool))

-- status 0 with the least number of batches that are enough; else why none are, and 0
abbrev pub EnoughAnswered : ℕ → ℕ → ℕ → ℕ → ℕ → Type 0
EnoughAnswered processes quantum live status batches =
    ((status ≡ 0) × AreLeastEnough processes quantum live batches) ⊎ ((batches ≡ 0) × NoneAreEnough processes quantum live status)
