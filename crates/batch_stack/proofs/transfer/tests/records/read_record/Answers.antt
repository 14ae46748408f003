use Rattle.std.proofs.Common.{refl}
use Rattle.batch_stack.proofs.InTry.{begun_reads_seen}
use Rattle.batch_stack.proofs.transfer.tests.records.read_record.Goals as goal

pub returns-clause-reads : goal.returns-clause-reads
returns-clause-reads g c =
    begun_reads_seen _ _ _ _ _ _ _ c.transfer.view_is c.requires.goes (c.if-not-tries_next.ensures refl) c.tag.ensures.tag
    c.row-row.ensures.row c.in_ok-reader.ensures c.begin.ensures
