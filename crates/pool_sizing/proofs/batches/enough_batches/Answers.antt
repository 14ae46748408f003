use Rattle.std.proofs.Common.{rules, ◌≡◌, ℕ, ◌*◌, subst, sym, ap, ◌∙◌}
use Rattle.word_layout.specs.Sizes.{Sizes, IsShape, sizes}
use Rattle.pool_sizing.specs.Enough.{AreLeastEnough}
use Rattle.pool_sizing.proofs.Counts.{none_with_two_each, least_enough, none_enough}
use Rattle.pool_sizing.proofs.batches.enough_batches.Goals as goal

pub returns-in_err-smallest-clause-none : goal.returns-in_err-smallest-clause-none
returns-in_err-smallest-clause-none c =
    let none : (l : ℕ) → IsShape (sizes c.args.processes (2 * c.args.processes) 0 c.args.quantum l) → ⊥ =
    subst (λ (n : ℕ). (l : ℕ) → IsShape (sizes c.args.processes (2 * n) 0 c.args.quantum l) → ⊥) c.from.ensures
    c.in_err-smallest.ensures.none in
    search (rules, none_with_two_each c.args.processes c.args.quantum c.args.live none)

pub returns-in_err-shape-clause-none : goal.returns-in_err-shape-clause-none
returns-in_err-shape-clause-none c =
    search (
      rules,
      none_enough c.args.processes c.args.quantum c.args.live (2 * c.from.result) c.batches_above.result c.in_ok-smallest.smallest
          c.in_ok-smallest.ensures.shape c.in_ok-smallest.ensures.sizes c.batches_above.ensures c.in_err-shape.ensures.none,
    )

pub returns-clause-least : goal.returns-clause-least
returns-clause-least c =
    let same : c.batches.result ≡ c.batches_above.result = c.batches.ensures.value ∙ ap (λ (pool : Sizes). pool.batches)
    c.in_ok-shape.ensures.sizes in
    subst (λ (n : ℕ). AreLeastEnough c.args.processes c.args.quantum c.args.live n) (sym same)
    (least_enough c.args.processes c.args.quantum c.args.live (2 * c.from.result) c.batches_above.result c.in_ok-smallest.smallest
    c.in_ok-smallest.ensures.shape c.in_ok-smallest.ensures.sizes c.batches_above.ensures c.in_ok-shape.shape.length
    (subst IsShape c.in_ok-shape.ensures.sizes c.in_ok-shape.ensures.shape))
