use Rattle.std.proofs.Common.{rules}
use Rattle.word_table.proofs.Allowed.{loads}
use Rattle.word_table.proofs.table.WordTable.load_as.Goals as goal

pub load-requires : goal.load-requires
load-requires g c = (
  search rules,
  search rules,
  loads g.R.WordRule.holds g.M.Learning.learn _ _ c.seat.inside.seat.id c.seat.inside.seat.me c.args.place (search rules) (search rules),
)
