use Rattle.std.proofs.Common.{arith}
use Rattle.word_layout.specs.Names.{place}
use Rattle.word_layout.specs.declared.name.WordName.TheVariants.{Slot}
use Rattle.word_layout.proofs.Placed.{place_below}
use Rattle.word_layout.proofs.shape.Shape.slot_place.Goals as goal

pub returns-clause-within : goal.returns-clause-within
unfolding place
returns-clause-within c = omega (arith, place_below c.args.self.now (Slot c.args.slot) c.requires)
