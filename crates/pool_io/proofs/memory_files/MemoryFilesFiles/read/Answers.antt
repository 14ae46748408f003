use Rattle.std.proofs.Common.{drop, length-take, arith}
use Rattle.pool_io.proofs.InMemory.{HandsOut-copied}
use Rattle.pool_io.proofs.memory_files.MemoryFilesFiles.read.Goals as goal

pub returns-clause-next : goal.returns-clause-next
returns-clause-next c =
    HandsOut-copied (λ file. file.1.items) _ c.args.source.now.place c.min-count.result c.rest-rest.result.now c.copy_from_slice.new.self
    (drop c.min-count.result c.args.buffer.now) c.rest-rest.ensures c.copy_from_slice.ensures.after
    (grind (arith, c.copy_from_slice.ensures.len, length-take))

pub returns-clause-reliable : goal.returns-clause-reliable
returns-clause-reliable c = rw c.deref.ensures.value at c.count_call.ensures.none
