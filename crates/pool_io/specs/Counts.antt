-- Counts of calls and of faults, which stand still at the last number of their type.
use Rattle.std.specs.Prelude.{ℕ, ◌+◌, ◌-◌, ◌^◌, ◌≤◌, min, List, Contains}

-- one more, but no more than the type holds
abbrev pub one_more : ℕ → ℕ
one_more count = min (count + 1) (2 ^ 64 - 1)

-- the count rose, or stands at its end
abbrev pub HasRisen : ℕ → ℕ → Type 0
HasRisen before now = one_more before ≤ now

-- neither this call nor a later one is named
abbrev pub NoneFrom : List ℕ → ℕ → Type 0
NoneFrom failing call = (later : ℕ) → call ≤ later → Contains failing later → ⊥
