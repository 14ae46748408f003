use Rattle.std.proofs.Common.{rules}
use Rattle.block_marks.proofs.Bits.{set_one}
use Rattle.block_marks.proofs.marks.Marks.set.Goals as goal

pub returns : goal.returns
returns c =
    let one = set_one c.self.inside.bound c.self.inside.words.items _ c.args.number c.index_mut.result.now c.self.view_is
    c.requires c.self.invariant c.index_mut.ensures.value in
    record { bound = search rules; marked = one.0; others = one.1 }
