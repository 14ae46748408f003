use Rattle.std.proofs.Common.{ℕ, ◌+◌, refl, ap}
use Rattle.batch_stack.proofs.Alone.{alone_acts}
use Rattle.batch_stack.proofs.Parts.{fits_in_try}
use Rattle.batch_stack.proofs.Written.{begun_writes_seen}
use Rattle.batch_stack.proofs.transfer.tests.writing.write_record.Goals as goal

pub has_drafted-requires : goal.has_drafted-requires
has_drafted-requires g c =
    let t = c.args.player.now.transfer in
    (fits_in_try t.sizes t.part _ (alone_acts _ _ _ c.requires.goes) (c.if-not-tries_next.ensures refl)).2

pub returns-clause-writes : goal.returns-clause-writes
returns-clause-writes g c =
    begun_writes_seen _ _ _ c.in_ok-writer.writer _ _ _ _ c.transfer.view_is c.requires.goes (c.if-not-tries_next.ensures refl)
    (c.if-not-has_drafted.ensures refl) (ap (λ (n : ℕ). n + 1) c.tag.ensures.tag) refl c.in_ok-writer.ensures.sizes c.begin.ensures
