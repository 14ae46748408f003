use Rattle.std.proofs.Common.{◌≡◌, ◌+◌, ◌≤◌, List, ℕ, ◌++◌, length}
use Rattle.mtrace_reader.specs.LineReader.{HasRead}
use Rattle.mtrace_reader.proofs.reading.LineReader.read.Given as goal

-- the bytes so far are those of the lines that have ended, and the rest stands behind them
abbrev pub invariant-loop-line : goal.invariant-loop-line
invariant-loop-line l = record {
  read : (bytes : List ℕ) → HasRead bytes l.initial.self
      → (so_far : List ℕ) × (so_far ++ l.rest ≡ bytes ++ l.piece) × HasRead so_far l.self;
  room : l.self.number + length l.rest ≤ l.initial.self.number + length l.piece;
}

abbrev pub decreases-loop-line : goal.decreases-loop-line
decreases-loop-line l = length l.rest
