use Rattle.std.proofs.Common.{arith, ap, ◌∙◌, ◌+◌, ◌∷◌, [], ◌++◌}
use Rattle.line_text.specs.Meanings.{said}
use Rattle.mtrace_reader.proofs.Readers.{has_read_line}
use Rattle.mtrace_reader.proofs.reading.LineReader.read_end.Goals as goal

pub returns-clause-read : goal.returns-clause-read
returns-clause-read c = λ open_end bytes read.
    let taken = c.in_ok-meaning.ensures in
    let meaning = c.in_ok-meaning.meaning in
    has_read_line bytes c.args.others.now c.args.self.now _ open_end read meaning taken.meaning
    (c.in_ok-bad.ensures.kept ∙ ap (λ list. list.items ++ said (meaning ∷ [])) taken.operations)
    (c.or-self.ensures ∙ grind (arith, c.then_some.ensures, c.in_ok-bad.ensures.bad, taken.bad_line, taken.number))
    (ap (λ n. n + 1) taken.number) taken.emptied
