use Rattle.std.proofs.Common.{sym, ap, ◌∙◌}
use Rattle.mtrace_reader.specs.Line.{meaning_of}
use Rattle.mtrace_reader.proofs.Readers.{is_reading}
use Rattle.mtrace_reader.proofs.reading.LineReader.finish.Goals as goal

pub returns-clause-answer : goal.returns-clause-answer
returns-clause-answer c = λ all read count.
    is_reading all c.args.self _ c.read_line.result read c.in_default.is (c.read_line.ensures ∙ ap meaning_of c.deref.ensures.value)
    (c.new.ensures ∙ c.in_ok-cut.ensures.kept) c.in_ok-cut.ensures.bad (sym count)
