use Rattle.std.proofs.Common.{◌≡◌, ℕ, ◌+◌, ◌<◌, ◌≤◌, Some, length, get_or}
use Rattle.pool_table.specs.Minds.{known_in}
use Rattle.object_store.proofs.words.read_words.Given as goal

-- the words so far were read, and those that are known are these; the others are 0
abbrev pub invariant-loop-index : goal.invariant-loop-index
invariant-loop-index g l = record {
  pass : l.pass ≡ record l.initial.pass { moves = l.initial.pass.moves + l.index };
  steps : l.steps ≡ l.initial.steps + l.index;
  eight : length l.words ≡ 8;
  read : (place value : ℕ) → place < l.index → known_in l.initial.pass.known l.block place ≡ Some value → get_or l.words place 0 ≡ value;
  rest : (place : ℕ) → l.index ≤ place → get_or l.words place 0 ≡ 0;
}
