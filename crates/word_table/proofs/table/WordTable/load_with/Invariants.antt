use Rattle.word_table.proofs.table.WordTable.load_with.Given as goal

abbrev pub ghosts-load_as : goal.ghosts-load_as
ghosts-load_as g a = record { number = a.seat.now.number; learn = g.R.LearnAbout.learn_about a.about.now }
