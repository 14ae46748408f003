use Rattle.std.proofs.Common.{refl}
use Rattle.pool_cli.specs.Asked.{batches_of, processes_of, quantum_of, words_of}
use Rattle.pool_cli.proofs.Endings.{fault_for_all}
use Rattle.pool_cli.proofs.shape.shape_of.Goals as goal

pub returns-in-Err-clause-refused : goal.returns-in-Err-clause-refused
returns-in-Err-clause-refused c =
    let asked = c.numbers_of-asked.ensures in
    let command = c.args.command.now in
    record {
      fault = c.in-Err.fault;
      ends = refl;
      first = fault_for_all (processes_of command) (batches_of command) (words_of command) (quantum_of command) c.in-Err.fault
          (rw (c.counted-processes.ensures, asked.processes, asked.batches, asked.words, asked.quantum) at c.in-Err.ensures.fault);
    }
