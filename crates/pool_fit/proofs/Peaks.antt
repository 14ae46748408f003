-- What steps hold at most where no slot is refused.
use Rattle.std.proofs.Common.{◌≡◌, ℕ, ◌+◌, false, not, List, [], ◌∷◌, length, take, replicate, refl, sym, ap, arith}
use Rattle.std.specs.List.{AllByRecursion}
use Rattle.mtrace_reader.specs.declared.steps.Step.{Step}
use Rattle.mtrace_reader.specs.declared.steps.Step.TheVariants.{Place, Leave}
use Rattle.trace_player.proofs.Lists.{count_by_same, map_range_same}
use Rattle.trace_player.proofs.Unrefused.{none_refused}
use Rattle.trace_player.specs.Tally.{empties, fills, greatest, holding, is_place, peak_of}
use Rattle.pool_fit.specs.Peaks.{is_leave}
use Rattle.pool_fit.specs.Tides.{most_there, there}

-- where no slot is refused, each Place fills one
all_fill : (news : ℕ) (steps : List Step) → AllByRecursion (λ step. is_place step ≡ fills (replicate news false) step) steps
all_fill news [] = tt
all_fill news (Place slot ∷ steps) = (ap not (sym (none_refused news slot)), all_fill news steps)
all_fill news (Leave slot ∷ steps) = (refl, all_fill news steps)

-- and each Leave empties one
all_empty : (news : ℕ) (steps : List Step) → AllByRecursion (λ step. is_leave step ≡ empties (replicate news false) step) steps
all_empty news [] = tt
all_empty news (Place slot ∷ steps) = (refl, all_empty news steps)
all_empty news (Leave slot ∷ steps) = (ap not (sym (none_refused news slot)), all_empty news steps)

-- what is held after the steps
there_held : (news : ℕ) (steps : List Step) → there is_place is_leave steps ≡ holding (replicate news false) steps
there_held news steps =
    omega (
      arith,
      count_by_same is_place (fills (replicate news false)) steps (all_fill news steps),
      count_by_same is_leave (empties (replicate news false)) steps (all_empty news steps),
    )

-- the most that the steps hold
pub most_held : (news : ℕ) (steps : List Step) → most_there is_place is_leave steps ≡ peak_of (replicate news false) steps
most_held news steps =
    ap greatest
    (map_range_same (λ place. there is_place is_leave (take place steps)) (λ place. holding (replicate news false) (take place steps))
    (length steps + 1) (λ k low. there_held news (take k steps)))
