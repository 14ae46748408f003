use Rattle.std.proofs.Common.{◌≡◌, ◌+◌}
use Rattle.object_store.specs.Calls.{written}
use Rattle.object_store.proofs.words.write_words.Given as goal

-- the words so far were written
abbrev pub invariant-loop-index : goal.invariant-loop-index
invariant-loop-index g l = record {
  pass : l.pass ≡ record l.initial.pass {
    moves = l.initial.pass.moves + l.index;
    known = written l.block l.words l.index l.initial.pass.known;
  };
  steps : l.steps ≡ l.initial.steps + l.index;
}
