use Rattle.std.proofs.Common.{◌≡◌}
use Rattle.mtrace_reader.specs.Made.{making_after}
use Rattle.mtrace_reader.proofs.made.make_trace.Given as goal

-- the calls so far are made
abbrev pub invariant-loop-index : goal.invariant-loop-index
invariant-loop-index l = l.maker ≡ making_after l.seed l.index
