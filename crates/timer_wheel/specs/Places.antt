-- The places of a wheel, its timers at them, and the lists in which these stand.
use Rattle.std.specs.Prelude.{◌≡◌, ℕ, ◌+◌, ◌-◌, ◌%◌, ◌==◌, if◌then◌else◌, Option, None, Some, List, [], ◌∷◌}
use Rattle.std.specs.Prelude.{◌++◌, filter, fold, not, option_map, slice_index_or, slice_set}
use Rattle.object_store.specs.Objects.{ObjectView}
use Rattle.timer_wheel.specs.declared.record.TimerRecord.{TimerRecord}
use Rattle.timer_wheel.specs.declared.changes.Placed.{Placed}
use Rattle.timer_wheel.specs.declared.changes.Change.{Change}
use Rattle.timer_wheel.specs.declared.changes.Change.TheVariants.{Began, Ended}
use Rattle.timer_wheel.specs.declared.chain.Chain.{Chain}
use Rattle.timer_wheel.specs.Timers.{Timer}

-- what stands at each place
abbrev pub Places : Type 0
Places = List (Option (ObjectView TimerRecord))

-- the object at a place, if there is one
abbrev pub object_at : Places → ℕ → Option (ObjectView TimerRecord)
object_at places place = slice_index_or places place None

-- its record
abbrev pub value_at : Places → ℕ → Option TimerRecord
value_at places place = option_map (λ object. object.value) (object_at places place)

-- the objects at all places
abbrev pub objects_in : Places → List (ObjectView TimerRecord)
objects_in [] = []
objects_in (None ∷ places) = objects_in places
objects_in (Some object ∷ places) = object ∷ objects_in places

-- the object of each place has a block of its own
abbrev pub AreApart : Places → Type 0
AreApart places = (a b : ℕ) (one other : ObjectView TimerRecord) → object_at places a ≡ Some one → object_at places b ≡ Some other
    → one.block ≡ other.block → a ≡ b

-- ---- timers at places

-- the timer, as callers see it
abbrev pub timer_of : Placed → Timer
timer_of t = record { number = t.number; due = t.due; payload = t.payload }

-- which timers run after changes
abbrev pub running_after : List Placed → Change → List Placed
running_after running (Began t) = running ++ t ∷ []
running_after running (Ended number) = filter (λ t. not (t.number == number)) running

-- the timers that run after all changes
abbrev pub running_of : List Change → List Placed
running_of changes = fold running_after [] changes

-- the record of a timer, with the link to the next one of its list
abbrev pub record_of : Placed → ℕ → TimerRecord
record_of t next = record { due = t.due; number = t.number; payload = t.payload; next = next }

-- it stands at its place, with this link
pub record Stands (places : Places) (t : Placed) (next : ℕ) : Type 0 where
  pub block : ℕ
  pub at : object_at places t.place ≡ Some (record { block = block; value = record_of t next })

-- ---- lists: a link is 0, or one more than the place that it leads to

-- what follows from this link are these timers, behind which it leads on so
abbrev pub Leads : Places → ℕ → List Placed → ℕ → Type 0
Leads places from [] to = from ≡ to
Leads places from (t ∷ ts) to = (from ≡ t.place + 1) × ((next : ℕ) × (Stands places t next × Leads places next ts to))

-- the link to the last of these timers
abbrev pub last_link : List Placed → ℕ
last_link [] = 0
last_link (t ∷ []) = t.place + 1
last_link (t ∷ u ∷ us) = last_link (u ∷ us)

-- the chain begins and ends so
pub record IsChain (places : Places) (ends : Chain) (ts : List Placed) : Type 0 where
  pub leads : Leads places ends.first ts 0
  pub last : ends.last ≡ last_link ts

-- in which of so many lists a timer stands
abbrev pub list_of : ℕ → Placed → ℕ
list_of lists t = t.due % lists

-- the timers of one list
abbrev pub in_list : ℕ → ℕ → List Placed → List Placed
in_list lists list running = filter (λ t. list_of lists t == list) running

-- ---- another link

-- an object with another link in its record
abbrev pub with_next : ℕ → Option (ObjectView TimerRecord) → Option (ObjectView TimerRecord)
with_next next None = None
with_next next (Some object) = Some (record object { value = record object.value { next = next } })

-- what led on from the timer to which `before` leads does so to `next`; 0 is the head of the list
abbrev pub relinked : ℕ → ℕ → Places → Places
relinked before next places =
    if before == 0 then places else slice_set places (before - 1) (with_next next (object_at places (before - 1)))

-- where a list begins then
abbrev pub first_led : ℕ → ℕ → ℕ → ℕ
first_led before next first = if before == 0 then next else first

-- the ends of a list
abbrev pub ends_at : List Chain → ℕ → Chain
ends_at lists list = slice_index_or lists list (record { first = 0; last = 0 })

-- the ends of a chain at whose end stands the timer to which this link leads
abbrev pub ends_joined : ℕ → Chain → Chain
ends_joined link ends = record { first = first_led ends.last link ends.first; last = link }

-- the ends of a chain out of which a timer was taken that stood between these links
abbrev pub ends_cut : ℕ → ℕ → Chain → Chain
ends_cut before next ends = record { first = first_led before next ends.first; last = first_led next before ends.last }
