-- A pool that was opened, played over and closed.
use Rattle.std.proofs.Common.{◌≡◌, ℕ, ◌<◌, List, length, sym, subst}
use Rattle.std.specs.List.{All}
use Rattle.word_layout.specs.Sizes.{Sizes, limits_of}
use Rattle.mtrace_reader.specs.declared.steps.Script.{Script}
use Rattle.mtrace_reader.specs.Script.{IsWellFormed}
use Rattle.trace_player.specs.declared.tally.Tally.{Tally}
use Rattle.block_pool.specs.Closing.{Settlement}
use Rattle.pool_model.specs.declared.entry.Entry.{Entry}
use Rattle.trace_player.specs.Fit.{IsTallied}
use Rattle.pass_players.specs.Moments.{Moment}
use Rattle.pass_players.specs.Settled as pass
use Rattle.pass_players.proofs.Settling.{part_of}
use Rattle.pass_players.specs.declared.preparing.Prepared.{Prepared}
use Rattle.pass_players.specs.Prepared.{IsFresh}
use Rattle.pool_player.specs.declared.player.TracePlayer.{TracePlayer}
use Rattle.pool_player.specs.Player.{IsTraced}
use Rattle.pool_runs.specs.Enough.{AreTallied}
use Rattle.pool_runs.specs.Playable.{IsPlayable}
use Rattle.pool_runs.specs.Ready.{IsReady, sizes_in}
use Rattle.pool_runs.specs.Settled.{HasShortCalls, IsSettledBy}
use Rattle.pool_runs.proofs.Enough.{enough_blocks}

-- each playable script is well formed
pub all_formed : (scripts : List Script) → All IsPlayable scripts → All IsWellFormed scripts
all_formed scripts playable k d low = (playable k d low).formed

module _ (told_before told_now : List (List Moment)) (sizes : Sizes) (scripts : List Script) (tallies : List Tally) (settled : Settlement)
    (each : length scripts ≡ sizes.processes) (all : pass.IsSettledBy IsTraced told_before told_now sizes scripts tallies settled) where
  -- the entries of each process in the history give its tally
  are_tallied : AreTallied settled.history scripts tallies
  are_tallied = record {
    one_each = all.one_each;
    each = λ k script tally at tally_at.
        let its = all.each k script tally at tally_at in
        subst (λ (entries : List Entry). IsTallied k script entries tally) (sym its.its_own) its.fitted.tallied;
  }

  -- its calls were short, and its gate was told of each
  has_short_calls : (k : ℕ) → k < sizes.processes → HasShortCalls told_before told_now settled k
  has_short_calls k low =
      let (script, tally, its) = part_of IsTraced told_before told_now sizes scripts tallies settled each all k low in
      record {
        calls = its.calls;
        its_own = its.its_own;
        moves = its.moves;
        made = its.its_moves;
        short = its.fitted.short;
        told = its.told;
      }

  -- the pool was closed with a history of these scripts
  pub settles : All IsWellFormed scripts → IsSettledBy told_before told_now sizes scripts tallies settled
  settles formed = record {
    run = record { shape = all.shape; legal = all.legal; calls = has_short_calls; untold = all.untold };
    tallied = are_tallied;
    unrefused = enough_blocks (limits_of sizes) settled.history scripts tallies all.legal each formed are_tallied;
  }

-- so it is where the players were ready
pub settles_ready : {G : Type 0} (told_before told_now : List (List Moment)) (scripts : List Script) (tallies : List Tally)
    (settled : Settlement) (gates : ℕ) (prepared : Prepared TracePlayer Tally G) → IsReady scripts gates prepared
    → ((sizes : Sizes) → IsFresh sizes prepared → pass.IsSettledBy IsTraced told_before told_now sizes scripts tallies settled)
    → IsSettledBy told_before told_now (sizes_in prepared) scripts tallies settled
settles_ready told_before told_now scripts tallies settled gates prepared ready played =
    settles told_before told_now (sizes_in prepared) scripts tallies settled ready.one_each (played (sizes_in prepared) ready.fresh)
    ready.formed
