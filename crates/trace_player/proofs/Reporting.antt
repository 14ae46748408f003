-- The sums over tallies, one tally on.
use Rattle.std.proofs.Common.{◌≡◌, ℕ, ◌+◌, ◌<◌, List, [], ◌∷◌, ◌++◌, length, take, get_or, ap, ◌∙◌}
use Rattle.std.specs.Prelude.{sum_by}
use Rattle.std.proofs.lemmas.List.{take_more}
use Rattle.std.proofs.lemmas.List.Sums.{sum_by_push}
use Rattle.trace_player.specs.declared.tally.Tally.{Tally}
use Rattle.trace_player.specs.Report.{columns_of, sums_of, plus}

-- the sums with one tally more
sums_push : (tallies : List Tally) (tally : Tally) → sums_of (tallies ++ tally ∷ []) ≡ plus (sums_of tallies) (columns_of tally)
sums_push tallies tally =
    let all : (f : Tally → ℕ) → sum_by f (tallies ++ tally ∷ []) ≡ sum_by f tallies + f tally = λ f. sum_by_push f tallies tally in
    simp all

-- the sums over the first tallies, one tally on
pub sums_more : (tallies : List Tally) (i : ℕ) (d : Tally) → i < length tallies
    → sums_of (take (i + 1) tallies) ≡ plus (sums_of (take i tallies)) (columns_of (get_or tallies i d))
sums_more tallies i d lt = ap sums_of (take_more tallies i d lt) ∙ sums_push (take i tallies) (get_or tallies i d)
