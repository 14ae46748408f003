use Rattle.std.proofs.Common.{arith}
use Rattle.pool_io.proofs.InMemory.{rest_of_file, rest_of_nothing}
use Rattle.pool_io.proofs.memory_files.MemoryFiles.rest.Goals as goal

pub returns-in-Some : goal.returns-in-Some
returns-in-Some c =
    let file = c.in-Some.field-0.now in
    let left = rest_of_file (λ file. file.1.items) c.deref.result.now c.args.source.now.file c.args.source.now.place file
    c.in-Some.ensures.lookup.3.0 (c.in-Some.ensures.lookup.3.1 file) in
    grind (arith, left, c.deref.ensures.value, c.deref-in-Some.ensures.value, c.deref-in-Some.ensures.len, c.min.ensures, c.len.ensures)

pub returns-in-None : goal.returns-in-None
returns-in-None c =
    let left = rest_of_nothing (λ file. file.1.items) c.deref.result.now c.args.source.now.file c.args.source.now.place
    c.in-None.ensures.lookup.3 in
    grind (arith, left, c.deref.ensures.value)
