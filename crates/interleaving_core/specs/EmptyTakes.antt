-- takes that found nothing: few blocks were unheld since they were announced
use Rattle.std.specs.Prelude.{◌≡◌, true, List}
use Rattle.pool_model.specs.declared.entry.Entry.{Entry}
use Rattle.pool_model.specs.Limits.{Limits}
use Rattle.transfer_schedule.specs.Numbers.{Numbers}
use Rattle.history_invariant.specs.Fits.{HadFewSince}
use Rattle.history_invariant.specs.Ledger.{Ledger}

-- Empty takes, of one process, whichever way it uses its pool: at a place of the history, not before the one that was kept when the
-- take was announced, at most the slack was unheld. So it is of the last announced one, where it has been applied and found nothing,
-- and of the last ended one, where the plan says dry
pub record TakesHadFew (limits : Limits) (history : List Entry) (ledger : Ledger) (plan : Numbers) : Type 0 where
  pub pending : ledger.found_nothing ≡ true → HadFewSince limits history ledger.begun_place
  pub dry : plan.dry ≡ true → HadFewSince limits history ledger.ended_place
