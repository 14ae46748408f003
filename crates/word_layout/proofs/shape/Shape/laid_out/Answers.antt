use Rattle.std.proofs.Common.{rules}
use Rattle.word_layout.specs.Packing.{most_age}
use Rattle.word_layout.specs.Sizes.{blocks}
use Rattle.word_layout.specs.Names.{slots_start, nexts_start, data_start}
use Rattle.word_layout.proofs.shape.Shape.laid_out.Goals as goal

pub invariant_of-result : goal.invariant_of-result
unfolding blocks most_age slots_start nexts_start data_start
invariant_of-result c = search rules
