use Rattle.std.proofs.Common.{refl}
use Rattle.mtrace_reader.proofs.Readers.{has_read_more}
use Rattle.mtrace_reader.proofs.reading.LineReader.read.Goals as goal

pub returns : goal.returns
returns c = record {
  read = λ bytes read.
      let so_far = c.loop-line.invariant.read bytes read in
      has_read_more so_far.0 c.loop-line.rest.now c.loop-line.self _ c.in_default.ensures.none so_far.2 refl refl refl
      c.in_ok-extend_from_slice.ensures.items _ so_far.1;
}
