use Rattle.std.proofs.Common.{◌≤◌, take, fold}
use Rattle.mtrace_reader.specs.Script.{after, begun, count_of}
use Rattle.mtrace_reader.specs.ScriptWriter.{IsAt}
use Rattle.mtrace_reader.proofs.walk.script.Given as goal

-- the writer is at the walk over the operations so far, of which it has counted each at most once
abbrev pub invariant-loop-operation : goal.invariant-loop-operation
invariant-loop-operation l =
    IsAt l.writer (fold (after l.size) (begun l.trace.cut) (take l.operation-index l.operation-items))
    × (count_of l.writer.script ≤ l.operation-index)
