use Rattle.std.proofs.Common.{arith}
use Rattle.mtrace_reader.proofs.Readers.{few_numbers}
use Rattle.mtrace_reader.proofs.reading.LineReaderPieceKeeper.keep.Goals as goal

pub read-requires : goal.read-requires
read-requires c = omega (arith, c.requires.few, few_numbers c.requires.bytes c.args.self.now c.requires.kept)
