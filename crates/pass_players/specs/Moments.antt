-- What a gate is told of a pass: the moments before its calls.
use Rattle.std.specs.Prelude.{◌≡◌, ℕ, Some, List, [], ◌∷◌, ◌++◌, map, slice_get}
use Rattle.pool_model.specs.declared.entry.Entry.{Entry}
use Rattle.block_pool.specs.Passing.{Passed}

-- a pass as it stood when a gate was told of it: its process, its own entries, and how many steps it had made
pub record Moment : Type 0 where
  pub process : ℕ
  pub own : List Entry
  pub moves : ℕ

-- that of a pass as it stands
abbrev pub moment_of : Passed → Moment
moment_of pass = record { process = pass.number; own = pass.own; moves = pass.moves }

-- a call that got or freed a block, or was refused one: its entry, and how many steps its process had made before it and after it
pub record MadeCall : Type 0 where
  pub entry : Entry
  pub before : ℕ
  pub after : ℕ

-- the entries of calls
abbrev pub entries_of : List MadeCall → List Entry
entries_of calls = map (λ call. call.entry) calls

-- the moments of a process before each of these calls, where its own entries were `past` before them all
abbrev pub moments_before : ℕ → List Entry → List MadeCall → List Moment
moments_before process past [] = []
moments_before process past (call ∷ calls) =
    record { process = process; own = past; moves = call.before } ∷ moments_before process (past ++ call.entry ∷ []) calls

-- of the gates that were told this before and are told that now, gate k was told of these moments meanwhile and of no others
abbrev pub IsTold : List (List Moment) → List (List Moment) → ℕ → List Moment → Type 0
IsTold before now k moments =
    (earlier : List Moment) → slice_get before k ≡ Some earlier → slice_get now k ≡ Some (earlier ++ moments)
