use Rattle.std.proofs.Common.{rules}
use Rattle.word_table.proofs.Allowed.{stores}
use Rattle.word_table.proofs.table.WordTable.store_as.Goals as goal

pub store-requires : goal.store-requires
store-requires g c = (
  search rules,
  search rules,
  stores g.R.WordRule.holds g.M.Learning.learn _ _ c.seat.inside.seat.id c.seat.inside.seat.me c.args.place c.args.value (search rules)
      (search rules),
)
