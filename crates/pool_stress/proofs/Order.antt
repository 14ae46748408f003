-- passes that stay in their order
use Rattle.std.proofs.Common.{ℕ, zero, suc, ◌<◌, List, [], ◌∷◌, ◌++◌, length, ap, ◌∙◌, arith}
use Rattle.std.specs.Prelude.{slice_index_or}
use Rattle.std.specs.List.{All}
use Rattle.block_pool.specs.Passing.{Pooled, Passed, IsOf}
use Rattle.block_pool.specs.Calls.{SamePass}
use Rattle.block_pool.specs.Opening.{AreOpenedPasses}
use Rattle.block_pool.specs.Closing.{AreAllPasses}
use Rattle.block_pool.proofs.Ordered.{opened_fresh, played_all}
use Rattle.pool_stress.specs.Order.{StayInOrder}

-- passes of a pool are of it still
pub stay_of : (pool : Pooled) (old new : List Passed) → StayInOrder old new → All (IsOf pool) old → All (IsOf pool) new
stay_of pool old new stay all k d within =
    let before : k < length old = omega (arith, within, stay.many) in
    let was = all k d before in
    let same = stay.each k d before in
    record { table = same.table ∙ was.table; sizes = same.sizes ∙ was.sizes }

-- two rows of calls, one after the other
pub stay_twice : (old mid new : List Passed) → StayInOrder old mid → StayInOrder mid new → StayInOrder old new
stay_twice old mid new first second = record {
  many = second.many ∙ first.many;
  each = λ k d within.
      let a = first.each k d within in
      let b = second.each k d (omega (arith, within, first.many)) in
      record { table = b.table ∙ a.table; sizes = b.sizes ∙ a.sizes; number = b.number ∙ a.number };
}

same_with : (pass after : Passed) (old new : List Passed) → SamePass pass after → StayInOrder old new → (k : ℕ) (d : Passed)
    → k < length (pass ∷ old) → SamePass (slice_index_or (pass ∷ old) k d) (slice_index_or (after ∷ new) k d)
same_with pass after old new same stay zero d within = same
same_with pass after old new same stay (suc k) d within = stay.each k d (omega (arith, within))

-- one more pass in front
pub stay_with : (pass after : Passed) (old new : List Passed) → SamePass pass after → StayInOrder old new
    → StayInOrder (pass ∷ old) (after ∷ new)
stay_with pass after old new same stay = record { many = ap suc stay.many; each = same_with pass after old new same stay }

-- two parts of the passes, one after the other
pub stay_joined : (front front-new back back-new : List Passed) → StayInOrder front front-new → StayInOrder back back-new
    → StayInOrder (front ++ back) (front-new ++ back-new)
stay_joined [] [] back back-new first second = second
stay_joined [] (after ∷ new) back back-new first second = absurd (omega (arith, first.many))
stay_joined (pass ∷ old) [] back back-new first second = absurd (omega (arith, first.many))
stay_joined (pass ∷ old) (after ∷ new) back back-new first second =
    let rest : StayInOrder old new = record {
      many = omega (arith, first.many);
      each = λ k d within. first.each (suc k) d (omega (arith, within));
    } in
    stay_with pass after (old ++ back) (new ++ back-new) (first.each 0 pass (omega arith)) (stay_joined old new back back-new rest second)

-- at the opening all passes are of the pool, and calls leave them all its passes
pub opened_of : (pool : Pooled) (passes : List Passed) → AreOpenedPasses pool passes → All (IsOf pool) passes
opened_of pool passes opened k d within = (opened_fresh pool passes opened k d within).is_of

-- so they are all passes of the pool still
pub all_there : (pool : Pooled) (passes played : List Passed) → AreOpenedPasses pool passes → StayInOrder passes played
    → AreAllPasses pool played
all_there pool passes played opened stay = played_all pool passes played opened stay.many stay.each
