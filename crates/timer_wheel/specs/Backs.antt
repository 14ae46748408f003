-- The links back in the lists: from each timer to the one before it.
use Rattle.std.specs.Prelude.{◌≡◌, ℕ, ◌+◌, ◌-◌, ◌<◌, ◌==◌, if◌then◌else◌, List, [], ◌∷◌, length, slice_index, slice_set}
use Rattle.timer_wheel.specs.declared.changes.Placed.{Placed}
use Rattle.timer_wheel.specs.Places.{in_list}

-- each of these timers has at its place the link to the one before it, the first one this link
abbrev pub LeadBack : List ℕ → ℕ → List Placed → Type 0
LeadBack backs before [] = Unit {0}
LeadBack backs before (t ∷ ts) = (slice_index backs t.place ≡ before) × LeadBack backs (t.place + 1) ts

-- each place has a link back, and those of the timers lead along their lists
pub record AreBacks (backs : List ℕ) (room lists : ℕ) (running : List Placed) : Type 0 where
  pub all : length backs ≡ room
  pub each : (list : ℕ) → list < lists → LeadBack backs 0 (in_list lists list running)

-- the timer to which a link leads has another one before it; 0 leads to none
abbrev pub backed : ℕ → ℕ → List ℕ → List ℕ
backed link before backs = if link == 0 then backs else slice_set backs (link - 1) before
