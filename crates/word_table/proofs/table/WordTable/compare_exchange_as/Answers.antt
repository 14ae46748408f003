use Rattle.std.proofs.Common.{rules}
use Rattle.word_table.proofs.Allowed.{exchanges}
use Rattle.word_table.proofs.table.WordTable.compare_exchange_as.Goals as goal

pub compare_exchange-met-requires : goal.compare_exchange-met-requires
compare_exchange-met-requires g c = (
  search rules,
  search rules,
  exchanges g.R.WordRule.holds g.M.Learning.learn _ _ c.seat.inside.seat.id c.seat.inside.seat.me c.args.place c.args.old c.args.new
      (search rules) (search rules),
)
