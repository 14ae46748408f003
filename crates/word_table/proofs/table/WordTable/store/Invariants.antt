use Rattle.word_table.proofs.table.WordTable.store.Given as goal

abbrev pub ghosts-store_as : goal.ghosts-store_as
ghosts-store_as g a = record { number = a.seat.now.number; learn = g.R.WordRule.learn }
