-- what a seat knows once it has taken in those of all other processes
use Rattle.std.specs.Prelude.{◌≡◌, ℕ, ◌+◌, ◌<◌, ◌≤◌, true, List, [], ◌∷◌, length}
use Rattle.word_layout.specs.Sizes.{Sizes, blocks, limits_of}
use Rattle.pool_model.specs.History.{held}
use Rattle.pool_model.specs.Legal.{IsLegal}
use Rattle.pool_table.specs.Minds.{Mind, number_of, held_in}
use Rattle.pool_table.specs.Views.{SeatView, longest_in}
use Rattle.pool_table.specs.Rule.{EachMind, count_in}
use Rattle.pool_table.specs.Settled.{FitsIn}
use Rattle.pool_table.specs.Steps.{Among}

-- the mind of each of so many processes stands once among these
abbrev pub HasEachOnce : ℕ → List Mind → Type 0
HasEachOnce processes minds = (n : ℕ) → n < processes → count_in n minds ≡ 1

-- how many blocks they hold
abbrev pub held_count : List Mind → ℕ
held_count [] = 0
held_count (mind ∷ minds) = length (held_in mind) + held_count minds

-- The longest of what they have seen is the one history of the pool: it is legal, it fits each of them, and they hold
-- what is held after it, which is no more than all blocks.
pub record AllFit (sizes : Sizes) (minds : List Mind) : Type 0 where
  pub low : EachMind (λ mind. number_of mind < sizes.processes) minds
  pub legal : IsLegal (limits_of sizes) (longest_in minds)
  pub each : EachMind (FitsIn (longest_in minds)) minds
  pub counted : length (held (longest_in minds)) ≡ held_count minds
  pub few : length (held (longest_in minds)) ≤ blocks sizes

-- so it is with the minds of a seat that has taken in those of all other processes
abbrev pub AllSeatsFit : Type 0
AllSeatsFit = (v : SeatView) → Among v → v.of_process ≡ true → HasEachOnce v.sizes.processes (v.mind ∷ v.taken)
    → AllFit v.sizes (v.mind ∷ v.taken)

-- a process holds no more than all blocks
abbrev pub EachHoldsFew : Type 0
EachHoldsFew = (v : SeatView) → Among v → v.of_process ≡ true → length (held_in v.mind) ≤ blocks v.sizes
