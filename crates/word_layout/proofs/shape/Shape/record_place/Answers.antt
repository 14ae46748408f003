use Rattle.std.proofs.Common.{arith}
use Rattle.word_layout.specs.Names.{place}
use Rattle.word_layout.specs.declared.name.WordName.TheVariants.{RecordWord}
use Rattle.word_layout.proofs.Placed.{place_below}
use Rattle.word_layout.proofs.shape.Shape.record_place.Goals as goal

pub returns-clause-within : goal.returns-clause-within
unfolding place
returns-clause-within c = grind (arith, place_below c.args.self.now (RecordWord c.args.row c.args.index) (c.requires.row, c.requires.index))
