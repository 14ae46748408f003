-- What the operations of a trace take and give: a walk that keeps the bytes at each live address.
use Rattle.std.specs.Prelude.{◌≡◌, ℕ, ◌-◌, Bool, false, ◌&&◌, not, List, [], ◌∷◌, ◌++◌, Option, Some, None, is_some, nat_eq, nat_le}
use Rattle.std.specs.Prelude.{◌==◌, if◌then◌else◌}
use Rattle.std.specs.Prelude.{fold, filter, sum_by}
use Rattle.std.specs.Map.{lookup}
use Rattle.std.specs.Ordering.{nat_cmp}
use Rattle.std.specs.BTreeMap.{get}
use Rattle.mtrace_reader.specs.declared.trace.Operation.{Operation}
use Rattle.mtrace_reader.specs.declared.trace.Operation.TheVariants.{New, Release, Failed}
use Rattle.pool_fit.specs.declared.moves.Move.{Move}
use Rattle.pool_fit.specs.declared.moves.Move.TheVariants.{Take, Give}
use Rattle.pool_fit.specs.declared.moves.MoveWriter.{MoveWriter}

-- the live pairs of an address and its bytes, and the moves so far
pub record Walk : Type 0 where
  pub live : List (ℕ × ℕ)
  pub moves : List Move

-- no address is live, and nothing was moved
abbrev pub nothing_live : Walk
nothing_live = record { live = []; moves = [] }

-- the bytes at an address, where it is live
abbrev pub bytes_at : Walk → ℕ → Option ℕ
bytes_at walk address = lookup (nat_eq address) walk.live

-- the live pairs but that of an address
abbrev pub live_but : Walk → ℕ → List (ℕ × ℕ)
live_but walk address = filter (λ pair. not (pair.0 == address)) walk.live

-- an allocation takes its bytes, unless it failed or names a live address
abbrev pub after_new : Walk → ℕ → ℕ → Walk
after_new walk address bytes =
    if address == 0 then walk
    else (if is_some (bytes_at walk address) then walk
    else record { live = (address, bytes) ∷ walk.live; moves = walk.moves ++ Take bytes ∷ [] })

-- a release gives the bytes that stood at its address, if some did
abbrev pub without : Walk → ℕ → Option ℕ → Walk
without walk address None = walk
without walk address (Some bytes) = record { live = live_but walk address; moves = walk.moves ++ Give bytes ∷ [] }

-- after a release of an address
abbrev pub after_release : Walk → ℕ → Walk
after_release walk address = without walk address (bytes_at walk address)

-- after one more operation
abbrev pub after : Walk → Operation → Walk
after walk (New address bytes) = after_new walk address bytes
after walk (Release address) = after_release walk address
after walk Failed = walk

-- what the operations take and give
abbrev pub moves_of : List Operation → List Move
moves_of operations = (fold after nothing_live operations).moves

-- a writer has a walk's moves, and at each address the bytes that the walk has there
pub record IsAt (writer : MoveWriter) (walk : Walk) : Type 0 where
  pub same_moves : writer.moves ≡ walk.moves
  pub same_bytes : (address : ℕ) → get nat_cmp writer.live address ≡ bytes_at walk address

-- a writer goes along with every walk that makes this step
abbrev pub Carries : MoveWriter → MoveWriter → (Walk → Walk) → Type 0
Carries old new step = (walk : Walk) → IsAt old walk → IsAt new (step walk)

-- whether the move takes between so many bytes and so many
abbrev pub takes : ℕ → ℕ → Move → Bool
takes least most (Take bytes) = nat_le least bytes && nat_le bytes most
takes least most (Give bytes) = false

-- whether it gives between so many bytes and so many
abbrev pub gives : ℕ → ℕ → Move → Bool
gives least most (Take bytes) = false
gives least most (Give bytes) = nat_le least bytes && nat_le bytes most

-- how many bytes of a block of `size` bytes the move doesn't use that it takes
abbrev pub unused : ℕ → Move → ℕ
unused size (Take bytes) = if nat_le bytes size then size - bytes else 0
unused size (Give bytes) = 0

-- how many bytes rounding up to `size` wastes, over all allocations that fit
abbrev pub waste_of : ℕ → List Move → ℕ
waste_of size moves = sum_by (unused size) moves
