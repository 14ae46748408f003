-- What a tick hands out and leaves, told of the timers at their places.
use Rattle.std.specs.Prelude.{◌≡◌, ℕ, ◌==◌, ◌++◌, Bool, not, List, drop, filter, length, map}
use Rattle.timer_wheel.specs.declared.changes.Placed.{Placed}

-- a timer is due at the moment
abbrev pub due_at : ℕ → Placed → Bool
due_at moment t = t.due == moment

-- it is not
abbrev pub not_due_at : ℕ → Placed → Bool
not_due_at moment t = not (t.due == moment)

-- the payloads of those that are due at the moment
abbrev pub rung_at : ℕ → List Placed → List ℕ
rung_at moment running = map (λ t. t.payload) (filter (due_at moment) running)

-- these are the first items of the output, as many as was answered; the other items stay
pub record HandedOut (payloads old new : List ℕ) (count : ℕ) : Type 0 where
  pub first : new ≡ payloads ++ drop (length payloads) old
  pub many : count ≡ length payloads
