-- How many batches are enough.
use Rattle.std.proofs.Common.{◌≡◌, ℕ, ◌+◌, ◌*◌, ◌^◌, ◌<◌, ◌≤◌, ◌↔◌, subst, inl, inr, arith}
use Rattle.std.proofs.Math.Nat.{mul-le-mul_right}
use Rattle.std.proofs.lemmas.Bool.{cases_lt}
use Rattle.pool_model.specs.Limits.{greatest_slack}
use Rattle.word_layout.specs.Sizes.{Sizes, IsShape, IsLength, sizes, blocks, limits_of}
use Rattle.word_layout.specs.Faults.{IsFirstFault}
use Rattle.word_layout.specs.declared.fault.ShapeFault.{ShapeFault}
use Rattle.word_layout.proofs.Refusals.{no_fault}
use Rattle.word_layout.proofs.Lengths.{one_length}
use Rattle.word_layout.proofs.Limits.{two_blocks_a_batch}
use Rattle.pool_sizing.specs.Enough.{AreEnough, AreLeastEnough}

-- a shape has few batches, since each has a block
pub few_batches : (processes batches quantum l : ℕ) → IsShape (sizes processes batches 0 quantum l) → batches < 2 ^ 32
unfolding blocks
few_batches processes batches quantum l is =
    let two = two_blocks_a_batch (sizes processes batches 0 quantum l) is in
    omega (arith, is.few_blocks, mul-le-mul_right {m = 1} {n = l} batches (omega (arith, two)))

-- numbers with a fault are those of no shape
pub no_shape : (processes batches quantum : ℕ) (fault : ShapeFault) → IsFirstFault processes batches 0 quantum fault → (l : ℕ)
    → IsShape (sizes processes batches 0 quantum l) → ⊥
no_shape processes batches quantum fault first l is = no_fault (sizes processes batches 0 quantum l) fault is first.has

-- with fewer batches, but two a process, a shape stays one
fewer_is_shape : (processes batches fewer quantum l : ℕ) → IsShape (sizes processes batches 0 quantum l) → fewer ≤ batches
    → 2 * processes ≤ fewer → IsShape (sizes processes fewer 0 quantum l)
unfolding blocks
fewer_is_shape processes batches fewer quantum l is at_most two = record {
  a_process = is.a_process;
  few_processes = is.few_processes;
  two_batches_each = two;
  a_quantum = is.a_quantum;
  least_length = is.least_length;
  few_blocks = omega (arith, is.few_blocks, mul-le-mul_right {m = fewer} {n = batches} l at_most);
  few_words = is.few_words;
}

-- where two batches a process are those of no shape, more aren't enough
pub none_with_two_each : (processes quantum live : ℕ) → ((l : ℕ) → IsShape (sizes processes (2 * processes) 0 quantum l) → ⊥)
    → (batches : ℕ) → AreEnough processes quantum live batches → ⊥
none_with_two_each processes quantum live none batches are =
    none are.length
    (fewer_is_shape processes batches (2 * processes) quantum are.length are.is_shape are.is_shape.two_batches_each (omega arith))

-- blocks above the slack are two batches a process and more
two_each : (processes live batches l : ℕ) → 5 * processes * l + live < batches * l → 2 * processes ≤ batches
two_each processes live batches l above =
    elim (cases_lt batches (2 * processes)) [
      | inl below ↦ omega (arith, mul-le-mul_right {m = batches} {n = 2 * processes} l (omega (arith, below)))
      | inr least ↦ least
    ]

module _ (processes quantum live batches least : ℕ) (pool : Sizes) (is : IsShape pool)
    (of : pool ≡ sizes processes batches 0 quantum pool.length)
    (exact : (n : ℕ) → (greatest_slack (limits_of pool) + live < n * pool.length) ↔ (least ≤ n)) where
  is_length : IsLength processes quantum pool.length
  is_length = subst (λ (same : Sizes). IsLength same.processes same.quantum pool.length) of is.least_length

  is_above : (n : ℕ) → (5 * processes * pool.length + live < n * pool.length) ↔ (least ≤ n)
  is_above = subst (λ (same : Sizes). (n : ℕ) → (5 * same.processes * pool.length + live < n * pool.length) ↔ (least ≤ n)) of exact

  -- so many are needed
  needs : (n : ℕ) → AreEnough processes quantum live n → least ≤ n
  unfolding blocks
  needs n are =
      let same = one_length processes quantum are.length pool.length are.is_shape.least_length is_length in
      (is_above n).0 (subst (λ (l : ℕ). 5 * processes * l + live < n * l) same are.enough)

  two : 2 * processes ≤ least
  two = two_each processes live least pool.length ((is_above least).1 (omega arith))

  -- where they are those of a shape, they are enough, and no fewer are
  pub least_enough : (l : ℕ) → IsShape (sizes processes least 0 quantum l) → AreLeastEnough processes quantum live least
  unfolding blocks
  least_enough l shape =
      let same = one_length processes quantum pool.length l is_length shape.least_length in
      let above = (is_above least).1 (omega arith) in
      record {
        enough = record {
          length = l;
          is_shape = shape;
          enough = subst (λ (m : ℕ). 5 * processes * m + live < least * m) same above;
        };
        least = needs;
      }

  -- where they are those of no shape, none are enough
  pub none_enough : ((l : ℕ) → IsShape (sizes processes least 0 quantum l) → ⊥) → (n : ℕ) → AreEnough processes quantum live n → ⊥
  none_enough none n are =
      none are.length (fewer_is_shape processes n least quantum are.length are.is_shape (needs n are) two)
