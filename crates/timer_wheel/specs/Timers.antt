-- The timers of a wheel, as its callers think of them: a list in the order of their starts.
use Rattle.std.specs.Prelude.{ℕ, ◌+◌, ◌==◌, Bool, not, Option, List, [], ◌∷◌, ◌++◌, filter, map, option_map}
use Rattle.std.specs.List.{find}

-- a running timer: which start it was, from 0; the moment at which it is due; what it hands out then
pub record Timer : Type 0 where
  pub number : ℕ
  pub due : ℕ
  pub payload : ℕ

-- how many timers may run at once, the moment, how many were started so far, and those that run, in the order of their starts
pub record Timers : Type 0 where
  pub room : ℕ
  pub now : ℕ
  pub started : ℕ
  pub running : List Timer

-- at the opening nothing runs
abbrev pub opened : ℕ → Timers
opened room = record { room = room; now = 0; started = 0; running = [] }

-- one timer more, with the next number, which is due after this delay
abbrev pub with_started : ℕ → ℕ → Timers → Timers
with_started delay payload timers = record timers {
  started = timers.started + 1;
  running = timers.running ++ record { number = timers.started; due = timers.now + delay; payload = payload } ∷ [];
}

-- the timer has this number
abbrev pub has_number : ℕ → Timer → Bool
has_number number timer = timer.number == number

-- what the running timer with this number would hand out, if there is one
abbrev pub payload_of : ℕ → Timers → Option ℕ
payload_of number timers = option_map (λ timer. timer.payload) (find (has_number number) timers.running)

-- the timer with this number runs no more
abbrev pub without : ℕ → Timers → Timers
without number timers = record timers { running = filter (λ timer. not (has_number number timer)) timers.running }

-- the timer is due at the moment
abbrev pub is_due : ℕ → Timer → Bool
is_due moment timer = timer.due == moment

-- what a tick hands out: the payloads of the timers that are due at the next moment
abbrev pub rung : Timers → List ℕ
rung timers = map (λ timer. timer.payload) (filter (is_due (timers.now + 1)) timers.running)

-- a moment later those run no more
abbrev pub ticked : Timers → Timers
ticked timers = record timers {
  now = timers.now + 1;
  running = filter (λ timer. not (is_due (timers.now + 1) timer)) timers.running;
}
