-- How many steps the calls of a pass made, one call on.
use Rattle.std.proofs.Common.{◌≡◌, ℕ, ◌+◌, ◌*◌, ◌≤◌, List, [], ◌∷◌, ◌++◌, length, arith, refl, subst}
use Rattle.pool_model.specs.declared.entry.Entry.{Entry}
use Rattle.block_pool.specs.Calls.{Counted, Entered, SamePass}
use Rattle.block_pool.specs.Passing.{Passed}
use Rattle.pass_players.specs.Moments.{MadeCall, Moment, moment_of}
use Rattle.pool_player.specs.Calling.{AreShort, IsShort, ShortCallsMakeFew, ToldCall}

-- a call of the pool that the gate was told of is a told call, and short
pub told_call : (entry : Entry) (first now : List Moment) (old new : Passed) (before after : ℕ) → SamePass old new → Entered entry old new
    → Counted old.sizes.quantum before after old new → new.age ≤ old.age + 1 → now ≡ first ++ moment_of old ∷ []
    → ToldCall entry first now old new
told_call entry first now old new before after same entered counted age told = record {
  made = record { same = same; entered = entered; age = age };
  short = record { begins = refl; some = omega (arith, counted.moves); few = omega (arith, counted.moves, counted.few) };
  told = told;
}

-- one short call more, which began where the others had ended
pub short_more : (quantum before between : ℕ) (calls : List MadeCall) (call : MadeCall) → AreShort quantum before calls between
    → IsShort quantum between call → AreShort quantum before (calls ++ call ∷ []) call.after
short_more quantum before between [] call are is = (subst (λ (n : ℕ). IsShort quantum n call) are is, refl)
short_more quantum before between (first ∷ calls) call are is =
    (are.0, short_more quantum first.after between calls call are.1 is)

-- all of them together made a step each at least, and a quantum and one each at most
pub short_calls_make_few : ShortCallsMakeFew
short_calls_make_few quantum before after [] are = (omega (arith, are), omega (arith, are))
short_calls_make_few quantum before after (call ∷ calls) are =
    let rest = short_calls_make_few quantum call.after after calls are.1 in
    let one : length (call ∷ calls) ≡ length calls + 1 = omega arith in (
      omega (arith, one, are.0.some, rest.0),
      more quantum (length calls) (length (call ∷ calls)) before call.after after one are.0.few rest.1,
    )
  where
    more : (q n m a b c : ℕ) → m ≡ n + 1 → b ≤ a + q + 1 → c ≤ b + n * (q + 1) → c ≤ a + m * (q + 1)
    more q n m a b c one first rest = rw one (omega (arith, first, rest))
