use Rattle.word_table.proofs.table.WordTable.load.Given as goal

abbrev pub ghosts-load_as : goal.ghosts-load_as
ghosts-load_as g a = record { number = a.seat.now.number; learn = g.R.WordRule.learn }
