-- What playing scripts over a pool of their own leaves.
use Rattle.std.specs.Prelude.{◌≡◌, ℕ, ◌<◌, Some, List, [], slice_get}
use Rattle.word_layout.specs.Sizes.{Sizes, limits_of}
use Rattle.pool_model.specs.History.{own}
use Rattle.pool_model.specs.Legal.{IsLegal}
use Rattle.block_pool.specs.Closing.{Settlement}
use Rattle.mtrace_reader.specs.declared.steps.Script.{Script}
use Rattle.trace_player.specs.declared.tally.Tally.{Tally}
use Rattle.trace_player.specs.Plain.{tallies_without_refusals}
use Rattle.pass_players.specs.Moments.{IsTold, MadeCall, Moment, entries_of, moments_before}
use Rattle.pass_players.specs.Settled.{OthersUntold}
use Rattle.pool_player.specs.Calling.{AreShort}
use Rattle.pool_runs.specs.Enough.{AreTallied, HasEnough}

-- the entries of process k in the history are those of calls each of which made one step at least, and a quantum and one at most, and it
-- made no step outside them; and gate k was told of the moment before each of these calls, and of no other
pub record HasShortCalls (told_before told_now : List (List Moment)) (settled : Settlement) (k : ℕ) : Type 0 where
  pub calls : List MadeCall
  pub its_own : own settled.history k ≡ entries_of calls
  pub moves : ℕ
  pub made : slice_get settled.moves k ≡ Some moves
  pub short : AreShort settled.sizes.quantum 0 calls moves
  pub told : IsTold told_before told_now k (moments_before k [] calls)

-- the pool had this shape and was closed with one legal history; the calls of each process were short, and it told its gate of each before;
-- and further gates were told of nothing
pub record IsClosedRun (told_before told_now : List (List Moment)) (sizes : Sizes) (settled : Settlement) : Type 0 where
  pub shape : settled.sizes ≡ sizes
  pub legal : IsLegal (limits_of sizes) settled.history
  pub calls : (k : ℕ) → k < sizes.processes → HasShortCalls told_before told_now settled k
  pub untold : OthersUntold sizes.processes told_before told_now

-- in it the entries of each process fit the script of its place, with refusals that they determine, and give its tally; with enough blocks
-- the tallies follow from the scripts alone
pub record IsSettledBy (told_before told_now : List (List Moment)) (sizes : Sizes) (scripts : List Script) (tallies : List Tally)
    (settled : Settlement) : Type 0 where
  pub run : IsClosedRun told_before told_now sizes settled
  pub tallied : AreTallied settled.history scripts tallies
  pub unrefused : HasEnough (limits_of sizes) scripts → tallies ≡ tallies_without_refusals scripts
