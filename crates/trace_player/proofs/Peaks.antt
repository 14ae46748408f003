-- The most blocks that are held after a prefix of some steps.
use Rattle.std.proofs.Common.{◌≡◌, ℕ, ◌+◌, ◌<◌, ◌≤◌, Bool, List, [], ◌∷◌, ◌++◌, length, take, map, max, ap, ◌∙◌, arith, length-append}
use Rattle.std.specs.List.{range_with_len}
use Rattle.std.proofs.lemmas.List.{take-append-le, take_all}
use Rattle.std.proofs.lemmas.List.Sums.{fold-append}
use Rattle.std.proofs.lemmas.List.FromFn.{map-range_with_len_more}
use Rattle.std.proofs.lemmas.List.Elements.{All-take}
use Rattle.std.proofs.Math.Nat.{le-max_right}
use Rattle.mtrace_reader.specs.declared.steps.Step.{Step}
use Rattle.trace_player.proofs.Lists.{map_range_same}
use Rattle.trace_player.proofs.Agreeing.{Below, Keeps, holding_kept}
use Rattle.trace_player.specs.Tally.{greatest, holding, peak_of}
use Rattle.trace_player.specs.Playing.{slot_of}

-- the greatest of the first n + 1 values of f
greatest_more : (f : ℕ → ℕ) (n : ℕ) → greatest (map f (range_with_len 0 (n + 1))) ≡ max (greatest (map f (range_with_len 0 n))) (f n)
greatest_more f n = ap greatest (map-range_with_len_more f 0 n n (omega arith)) ∙ fold-append max 0 (map f (range_with_len 0 n)) (f n ∷ [])

-- the peak with one step more is the greater of the peak before and of what is held after it
pub peak_more : (refused : List Bool) (steps : List Step) (step : Step)
    → peak_of refused (steps ++ step ∷ []) ≡ max (peak_of refused steps) (holding refused (steps ++ step ∷ []))
peak_more refused steps step =
    let all = steps ++ step ∷ [] in
    let long : length all ≡ length steps + 1 = omega (arith, length-append steps (step ∷ [])) in
    let before : ℕ → ℕ = λ place. holding refused (take place steps) in
    let later : ℕ → ℕ = λ place. holding refused (take place all) in
    ap (λ n. greatest (map later (range_with_len 0 (n + 1)))) long
    ∙ greatest_more later (length steps + 1)
    ∙ ap (λ numbers. max (greatest numbers) (later (length steps + 1)))
    (map_range_same later before (length steps + 1) (λ k below. ap (holding refused) (take-append-le k steps (step ∷ []) (omega arith))))
    ∙ ap (λ end. max (peak_of refused steps) (holding refused end)) (take_all (length steps + 1) all (omega arith))

-- the blocks that are held at the end are no more than at the peak
pub holding-le-peak : (refused : List Bool) (steps : List Step) → holding refused steps ≤ peak_of refused steps
holding-le-peak refused steps =
    let at : ℕ → ℕ = λ place. holding refused (take place steps) in
    let end : at (length steps) ≡ holding refused steps = ap (holding refused) (take_all (length steps) steps (omega arith)) in
    omega (
      arith,
      greatest_more at (length steps),
      end,
      le-max_right (greatest (map at (range_with_len 0 (length steps))))
          (at (length steps)),
    )

-- the peak of steps that name only earlier slots is the same with later refusals
pub peak_kept : (refused later : List Bool) (blocks after : List ℕ) (m : ℕ) (steps : List Step) → Keeps refused later blocks after m
    → Below m steps
    → peak_of later steps ≡ peak_of refused steps
peak_kept refused later blocks after m steps keeps below =
    ap greatest
    (map_range_same (λ place. holding later (take place steps)) (λ place. holding refused (take place steps)) (length steps + 1)
    (λ k within. holding_kept refused later blocks after m (take k steps) keeps (All-take (λ step. slot_of step < m) k steps below)))
