-- Scripts: what a walk over a trace's operations makes of each, and when the steps of a script are in order.
use Rattle.std.specs.Prelude.{◌≡◌, ℕ, ◌+◌, Bool, List, [], ◌∷◌, ◌++◌, Option, Some, None, is_some, nat_eq, ◌==◌, nat_lt, not, if◌then◌else◌}
use Rattle.std.specs.Prelude.{fold, filter, take, slice_get, Contains}
use Rattle.std.specs.List.{range_with_len}
use Rattle.std.specs.Map.{lookup}
use Rattle.mtrace_reader.specs.declared.trace.Operation.{Operation}
use Rattle.mtrace_reader.specs.declared.trace.Operation.TheVariants.{New, Release, Failed}
use Rattle.mtrace_reader.specs.declared.trace.Trace.{Trace}
use Rattle.mtrace_reader.specs.declared.steps.Step.{Step}
use Rattle.mtrace_reader.specs.declared.steps.Step.TheVariants.{Place, Leave}
use Rattle.mtrace_reader.specs.declared.steps.Script.{Script}
use Rattle.mtrace_reader.specs.declared.walk.Live.{Live}
use Rattle.mtrace_reader.specs.declared.walk.Live.TheVariants.{Slot, Big}

-- a walk over operations: the live pairs of an address and what it names, and the script so far
pub record Walk : Type 0 where
  pub live : List (ℕ × Live)
  pub script : Script

-- the walk before the first operation
abbrev pub begun : Bool → Walk
begun cut = record {
  live = [];
  script = record { steps = []; news = 0; big = 0; failed = 0; stray = 0; twice = 0; cut = if cut then 1 else 0 };
}

-- what an address names, where it is live
abbrev pub named : Walk → ℕ → Option Live
named walk address = lookup (nat_eq address) walk.live

-- the live pairs but that of an address
abbrev pub live_but : Walk → ℕ → List (ℕ × Live)
live_but walk address = filter (λ pair. not (pair.0 == address)) walk.live

-- an allocation or a resize failed
abbrev pub with_failed : Walk → Walk
with_failed walk = record walk { script = record walk.script { failed = walk.script.failed + 1 } }

-- an allocation named a live address
abbrev pub with_twice : Walk → Walk
with_twice walk = record walk { script = record walk.script { twice = walk.script.twice + 1 } }

-- an address names a block larger than those of the pool
abbrev pub with_big : Walk → ℕ → Walk
with_big walk address = record {
  live = (address, Big) ∷ walk.live;
  script = record walk.script { big = walk.script.big + 1 };
}

-- an address names the next slot, which is placed
abbrev pub with_place : Walk → ℕ → Walk
with_place walk address = record {
  live = (address, Slot walk.script.news) ∷ walk.live;
  script = record walk.script { steps = walk.script.steps ++ Place walk.script.news ∷ []; news = walk.script.news + 1 };
}

-- after an allocation of so many bytes at an address, where a block has `size` bytes
abbrev pub after_new : ℕ → Walk → ℕ → ℕ → Walk
after_new size walk address bytes =
    if address == 0 then with_failed walk
    else (if is_some (named walk address) then with_twice walk
    else (if nat_lt size bytes then with_big walk address
    else with_place walk address))

-- after a release of an address that names this
abbrev pub without : Walk → ℕ → Option Live → Walk
without walk address None = record walk { script = record walk.script { stray = walk.script.stray + 1 } }
without walk address (Some Big) = record walk { live = live_but walk address }
without walk address (Some (Slot slot)) = record {
  live = live_but walk address;
  script = record walk.script { steps = walk.script.steps ++ Leave slot ∷ [] };
}

-- after a release of an address
abbrev pub after_release : Walk → ℕ → Walk
after_release walk address = without walk address (named walk address)

-- after one more operation
abbrev pub after : ℕ → Walk → Operation → Walk
after size walk (New address bytes) = after_new size walk address bytes
after size walk (Release address) = after_release walk address
after size walk Failed = with_failed walk

-- the script of a trace, where a block has `size` bytes
abbrev pub script_of : Trace → ℕ → Script
script_of trace size = (fold (after size) (begun trace.cut) trace.operations).script

-- how many operations a script counts
abbrev pub count_of : Script → ℕ
count_of script = script.news + script.big + script.failed + script.stray + script.twice

-- the slots that steps place, in their order
abbrev pub placed_slots : List Step → List ℕ
placed_slots [] = []
placed_slots (Place slot ∷ steps) = slot ∷ placed_slots steps
placed_slots (Leave slot ∷ steps) = placed_slots steps

-- each Leave names a slot that was placed before it and not left before it
abbrev pub LeavesPlaced : List Step → Type 0
LeavesPlaced steps =
    (place slot : ℕ) → slice_get steps place ≡ Some (Leave slot)
    → Contains (take place steps) (Place slot) × ¬ Contains (take place steps) (Leave slot)

-- the slots are placed in order from 0, and each is left at most once, after it was placed
pub record IsWellFormed (script : Script) : Type 0 where
  pub in_order : placed_slots script.steps ≡ range_with_len 0 script.news
  pub leaves : LeavesPlaced script.steps
