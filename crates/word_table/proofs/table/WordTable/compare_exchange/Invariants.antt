use Rattle.word_table.proofs.table.WordTable.compare_exchange.Given as goal

abbrev pub ghosts-compare_exchange_as : goal.ghosts-compare_exchange_as
ghosts-compare_exchange_as g a = record { number = a.seat.now.number; learn = g.R.WordRule.learn }
