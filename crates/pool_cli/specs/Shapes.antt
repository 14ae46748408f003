-- The numbers of the pool that a command asks for.
use Rattle.std.specs.Prelude.{◌≡◌}
use Rattle.command_words.specs.declared.command.Command.{Command}
use Rattle.word_layout.specs.declared.fault.ShapeFault.{ShapeFault}
use Rattle.word_layout.specs.Sizes.{Sizes, IsShape}
use Rattle.word_layout.specs.Faults.{IsFirstFault}
use Rattle.pool_cli.specs.Asked.{batches_of, processes_of, quantum_of, words_of}
use Rattle.file_runs.specs.declared.ending.Ending.{Ending}
use Rattle.file_runs.specs.declared.ending.Ending.TheVariants.{Shape}

-- the numbers are those that the command asks for
pub record IsShapeOf (command : Command) (sizes : Sizes) : Type 0 where
  pub shape : IsShape sizes
  pub processes : sizes.processes ≡ processes_of command
  pub batches : sizes.batches ≡ batches_of command
  pub words : sizes.words ≡ words_of command
  pub quantum : sizes.quantum ≡ quantum_of command

-- the numbers that the command asks for have a fault, of which the run ends
pub record IsRefused (command : Command) (ending : Ending) : Type 0 where
  pub fault : ShapeFault
  pub ends : ending ≡ Shape fault
  pub first : IsFirstFault (processes_of command) (batches_of command) (words_of command) (quantum_of command) fault
