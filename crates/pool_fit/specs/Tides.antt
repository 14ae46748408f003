-- Things that come and go: how many did, and the most that were there at once.
use Rattle.std.specs.Prelude.{◌≡◌, ℕ, ◌+◌, ◌-◌, ◌≤◌, Bool, if◌then◌else◌, List, length, take, map, max, count_by}
use Rattle.std.specs.List.{range_with_len}
use Rattle.trace_player.specs.Tally.{greatest}
use Rattle.pool_fit.specs.declared.tide.Tide.{Tide}

-- how many are there after the list, of those that come and go by these tests
abbrev pub there : {A : Type 0} → (A → Bool) → (A → Bool) → List A → ℕ
there comes goes xs = count_by comes xs - count_by goes xs

-- the most that are there after a first part of the list
abbrev pub most_there : {A : Type 0} → (A → Bool) → (A → Bool) → List A → ℕ
most_there comes goes xs = greatest (map (λ place. there comes goes (take place xs)) (range_with_len 0 (length xs + 1)))

-- none came
abbrev pub no_tide : Tide
no_tide = record { came = 0; gone = 0; peak = 0 }

-- one thing more, which comes or goes
abbrev pub after_one : Tide → Bool → Bool → Tide
after_one tide comes goes =
    let came = tide.came + (if comes then 1 else 0) in
    let gone = tide.gone + (if goes then 1 else 0) in
    record { came = came; gone = gone; peak = max tide.peak (came - gone) }

-- the numbers are those of the list, and each is at most as great as it is long
pub record IsTideOf {A : Type 0} (comes goes : A → Bool) (xs : List A) (tide : Tide) : Type 0 where
  pub came : tide.came ≡ count_by comes xs
  pub gone : tide.gone ≡ count_by goes xs
  pub peak : tide.peak ≡ most_there comes goes xs
  pub few_came : tide.came ≤ length xs
  pub few_gone : tide.gone ≤ length xs
