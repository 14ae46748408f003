use Rattle.std.proofs.Common.{sym}
use Rattle.mtrace_reader.proofs.Readers.{few_answered}
use Rattle.mtrace_reader.proofs.source.read_trace.Goals as goal

pub returns-clause-few : goal.returns-clause-few
returns-clause-few g c =
    let read = c.in_ok-bytes.ensures.kept in
    few_answered read.bytes c.finish.result (c.finish.ensures.answer read.bytes read.kept (sym read.many))
