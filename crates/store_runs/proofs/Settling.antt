-- A pool that was opened, whose passes played store scripts, and that was closed.
use Rattle.std.proofs.Common.{◌≡◌, ℕ, List, length, sym, subst}
use Rattle.word_layout.specs.Sizes.{Sizes, limits_of}
use Rattle.pool_model.specs.declared.entry.Entry.{Entry}
use Rattle.store_script.specs.declared.command.StoreScript.{StoreScript}
use Rattle.store_script.specs.declared.answered.Answered.{Answered}
use Rattle.store_script.specs.Fit.{IsAnswered}
use Rattle.block_pool.specs.Closing.{Settlement}
use Rattle.pass_players.specs.Moments.{Moment}
use Rattle.pass_players.specs.Settled as pass
use Rattle.pass_players.specs.declared.preparing.Prepared.{Prepared}
use Rattle.pass_players.specs.Prepared.{IsFresh}
use Rattle.store_player.specs.declared.player.StorePlayer.{StorePlayer}
use Rattle.store_player.specs.Player.{IsServed}
use Rattle.store_runs.specs.Enough.{AreAnswered}
use Rattle.store_runs.specs.Ready.{IsReady, sizes_in}
use Rattle.store_runs.specs.Settled.{IsSettledBy}
use Rattle.store_runs.proofs.Enough.{enough_blocks}

module _ (told_before told_now : List (List Moment)) (sizes : Sizes) (scripts : List StoreScript) (lists : List (List Answered))
    (settled : Settlement) (all : pass.IsSettledBy IsServed told_before told_now sizes scripts lists settled) where
  -- the entries of each process in the history give its answers
  are_answered : AreAnswered settled.history scripts lists
  are_answered = record {
    one_each = all.one_each;
    each = λ k script answers at answers_at.
        let its = all.each k script answers at answers_at in
        subst (λ (entries : List Entry). IsAnswered k script entries answers) (sym its.its_own) its.fitted.answered;
  }

  -- with enough blocks they follow from the scripts alone
  pub settles : length scripts ≡ sizes.processes → IsSettledBy told_before told_now sizes scripts lists settled
  settles each = record {
    played = all;
    unrefused = enough_blocks (limits_of sizes) settled.history scripts lists all.legal each are_answered;
  }

-- so it is where the players were ready
pub settles_ready : {G : Type 0} (told_before told_now : List (List Moment)) (scripts : List StoreScript) (lists : List (List Answered))
    (settled : Settlement) (gates : ℕ) (prepared : Prepared StorePlayer (List Answered) G) → IsReady scripts gates prepared
    → ((sizes : Sizes) → IsFresh sizes prepared → pass.IsSettledBy IsServed told_before told_now sizes scripts lists settled)
    → IsSettledBy told_before told_now (sizes_in prepared) scripts lists settled
settles_ready told_before told_now scripts lists settled gates prepared ready played =
    settles told_before told_now (sizes_in prepared) scripts lists settled (played (sizes_in prepared) ready.fresh) ready.one_each
