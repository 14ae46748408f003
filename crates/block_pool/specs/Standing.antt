-- what holds of every pass between two calls
use Rattle.std.specs.Prelude.{◌≡◌, ℕ, ◌*◌, ◌<◌, ◌≤◌, Some, Contains}
use Rattle.word_layout.specs.Sizes.{limits_of, transfer_bound}
use Rattle.pool_model.specs.History.{own, grip}
use Rattle.pool_model.specs.Legal.{IsLegal}
use Rattle.transfer_schedule.specs.Numbers.{kept, withheld}
use Rattle.transfer_schedule.specs.Account.{Account, Between, Reached}
use Rattle.transfer_schedule.specs.Laws.{IsSound}
use Rattle.history_invariant.specs.Fits.{CountsEntries}
use Rattle.pool_table.specs.Minds.{known_in}
use Rattle.block_pool.specs.Passing.{Passed}

-- an account of the pass: the schedule reaches it between two calls, it counts the pass's entries, and its plan is the pass's
pub record AccountedFor (pass : Passed) (account : Account) : Type 0 where
  pub reached : Reached pass.sizes.length (transfer_bound pass.sizes) pass.sizes.quantum account
  pub between : account.phase ≡ Between
  pub counts : CountsEntries account pass.own
  pub plan : account.plan ≡ pass.plan

-- a pass stands well
pub record StandsWell (pass : Passed) : Type 0 where
  -- what it has seen is legal and has its own entries, by which it holds its blocks
  pub legal : IsLegal (limits_of pass.sizes) pass.seen
  pub own : own pass.seen pass.number ≡ pass.own
  pub held : pass.held ≡ grip pass.own
  -- each data word that it knows is one of a block that it holds
  pub known_held : (block index value : ℕ) → known_in pass.known block index ≡ Some value → Contains pass.held block
  pub known_within : (block index value : ℕ) → known_in pass.known block index ≡ Some value → index < pass.sizes.words
  -- it keeps at most five batches, and no more with the one in transit
  pub five : kept pass.plan ≤ 5 * pass.sizes.length
  pub withholds : withheld pass.plan ≤ 5 * pass.sizes.length
  -- its account is sound: what it keeps and holds together, and why it keeps few
  pub account : Account
  pub accounted : AccountedFor pass account
  pub sound : IsSound account
