use Rattle.std.proofs.Common.{arith, subst, sym}
use Rattle.std.proofs.lemmas.Grind.{common_steps}
use Rattle.pool_io.specs.Counts.{NoneFrom}
use Rattle.pool_io.specs.MemoryFiles.{is_named}
use Rattle.pool_io.proofs.InMemory.{told_at_position, told_where_found, not_told_elsewhere}
use Rattle.pool_io.proofs.memory_files.MemoryFilesFiles.open.Goals as goal

pub returns-in-Some-clause-source : goal.returns-in-Some-clause-source
returns-in-Some-clause-source c =
    told_at_position (is_named c.args.name.now) (λ file. file.1.items) c.args.self.now.files.items c.in-Some.file c.in-Some.ensures

pub returns-in-Some-clause-fails : goal.returns-in-Some-clause-fails
returns-in-Some-clause-fails c = grind (
  arith,
  common_steps,
  told_where_found (is_named c.args.name.now) (λ file. file.1.items) c.args.self.now.files.items c.in-Some.file c.in-Some.ensures,
)

pub returns-in-None-clause-fails : goal.returns-in-None-clause-fails
returns-in-None-clause-fails c = grind (
  arith,
  common_steps,
  not_told_elsewhere (is_named c.args.name.now) (λ file. file.1.items) c.args.self.now.files.items c.in-None.ensures,
)

pub returns-in-Some-clause-reliable : goal.returns-in-Some-clause-reliable
returns-in-Some-clause-reliable c = rw c.deref.ensures.value at c.count_call.ensures.none

pub returns-in-None-clause-reliable : goal.returns-in-None-clause-reliable
returns-in-None-clause-reliable c none =
    subst (λ files. NoneFrom files.failing.items files.calls) (sym c.fail-in-None.ensures)
    ((rw c.deref.ensures.value at c.count_call.ensures.none) none)
