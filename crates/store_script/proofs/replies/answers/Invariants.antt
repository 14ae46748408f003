use Rattle.std.proofs.Common.{◌≤◌, take}
use Rattle.store_script.specs.Replies.{walked}
use Rattle.store_script.specs.PlainStore.{IsAfter}
use Rattle.store_script.proofs.replies.answers.Given as goal

-- the store is after the commands so far, each of which is at most one put
abbrev pub invariant-loop-command : goal.invariant-loop-command
invariant-loop-command l = record {
  walked : IsAfter l.store (walked l.refused (take l.command-index l.command-items));
  few : l.store.puts ≤ l.command-index;
}
