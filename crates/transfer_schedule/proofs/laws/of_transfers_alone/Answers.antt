use Rattle.transfer_schedule.proofs.MovingAlone.{alone_spared}
use Rattle.transfer_schedule.proofs.Spared.{spared_table, spared_rests, spared_withholds}
use Rattle.transfer_schedule.proofs.laws.of_transfers_alone.Goals as goal

pub returns-clause-table : goal.returns-clause-table
returns-clause-table c = λ l t q x sizes m. spared_table x 0 (alone_spared l t q x sizes m)

pub returns-clause-rests : goal.returns-clause-rests
returns-clause-rests c = λ l t q x sizes m. spared_rests x 0 (alone_spared l t q x sizes m)

pub returns-clause-withholds : goal.returns-clause-withholds
returns-clause-withholds c = λ l t q x sizes m. spared_withholds x 0 (alone_spared l t q x sizes m)
