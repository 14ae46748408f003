use Rattle.std.proofs.Common.{◌≡◌, ◌<◌, true, ℕ, arith, refl}
use Rattle.std.proofs.lemmas.Bool.Decides.{nat_tests}
use Rattle.std.specs.Prelude.{nat_lt, nat_le}
use Rattle.word_layout.specs.Packing.{most_age}
use Rattle.word_layout.specs.Sizes.{Sizes}
use Rattle.word_layout.specs.declared.announced.Wish.TheVariants.{Take}
use Rattle.pool_machine.specs.Pools.{opening_view}
use Rattle.interleaving_core.specs.CallConditions.{MayStepAlone}
use Rattle.pool_table.proofs.seats.tests.announce.Goals as goal

-- a number above 0, as a test
above_none : (n : ℕ) → 0 < n → nat_lt 0 n ≡ true
above_none n some = grind (arith, nat_tests)

-- a process may begin a take at the opening
may_take : (sizes : Sizes) (process : ℕ) → 0 < most_age sizes → MayStepAlone sizes Take (opening_view sizes process)
may_take sizes process some = rw (above_none (most_age sizes) some) refl

pub act-requires-clause-may : goal.act-requires-clause-may
act-requires-clause-may c =
    let sizes = c.args.shape.now in
    let some : 0 < most_age sizes = omega (arith, c.most_age-age.ensures.value, c.most_age-age.ensures.many) in
    record {
      of_table = c.requires.seat;
      whole = c.requires.words;
      room = c.requires.steps;
      can = record {
        of_process = c.requires.of_process;
        shape = c.requires.shape;
        may = rw c.requires.mind (may_take sizes c.args.process some);
        among = c.requires.among;
      };
    }
