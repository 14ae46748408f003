use Rattle.transfer_schedule.proofs.AtPhase.{stands_table, stands_rests, stands_withholds, stands_in_time}
use Rattle.transfer_schedule.proofs.Reaching.{reached_stands, reached_sizes}
use Rattle.transfer_schedule.proofs.AtPhase.{stands_gives, stands_counts, stands_sound, stands_begins, stands_refuses}
use Rattle.transfer_schedule.proofs.AtPhase.{stands_misses, stands_rested, stands_waits, stands_begun, stands_pends, stands_still}
use Rattle.transfer_schedule.proofs.laws.of_accounts.Goals as goal

pub returns-clause-sizes : goal.returns-clause-sizes
returns-clause-sizes c = reached_sizes

pub returns-clause-table : goal.returns-clause-table
returns-clause-table c = λ l t q a sizes r. stands_table a (reached_stands l t q a sizes r)

pub returns-clause-rests : goal.returns-clause-rests
returns-clause-rests c = λ l t q a sizes r. stands_rests a (reached_stands l t q a sizes r)

pub returns-clause-withholds : goal.returns-clause-withholds
returns-clause-withholds c = λ l t q a sizes r. stands_withholds a (reached_stands l t q a sizes r)

pub returns-clause-ends : goal.returns-clause-ends
returns-clause-ends c = λ l t q a sizes r. stands_in_time a (reached_stands l t q a sizes r)

pub returns-clause-gives : goal.returns-clause-gives
returns-clause-gives c = λ l t q a sizes r. stands_gives a (reached_stands l t q a sizes r)

pub returns-clause-counts : goal.returns-clause-counts
returns-clause-counts c = λ l t q a sizes r. stands_counts a (reached_stands l t q a sizes r)

pub returns-clause-sound : goal.returns-clause-sound
returns-clause-sound c = λ l t q a sizes r. stands_sound a (reached_stands l t q a sizes r)

pub returns-clause-begins : goal.returns-clause-begins
returns-clause-begins c = λ l t q a sizes r. stands_begins a (reached_stands l t q a sizes r)

pub returns-clause-refuses : goal.returns-clause-refuses
returns-clause-refuses c = λ l t q a sizes r. stands_refuses a (reached_stands l t q a sizes r)

pub returns-clause-misses : goal.returns-clause-misses
returns-clause-misses c = λ l t q a sizes r. stands_misses a (reached_stands l t q a sizes r)

pub returns-clause-rested : goal.returns-clause-rested
returns-clause-rested c = λ l t q a sizes r. stands_rested a (reached_stands l t q a sizes r)

pub returns-clause-waits : goal.returns-clause-waits
returns-clause-waits c = λ l t q a sizes r. stands_waits a (reached_stands l t q a sizes r)

pub returns-clause-just_begun : goal.returns-clause-just_begun
returns-clause-just_begun c = λ l t q a sizes r. stands_begun a (reached_stands l t q a sizes r)

pub returns-clause-pends : goal.returns-clause-pends
returns-clause-pends c = λ l t q a sizes r. stands_pends a (reached_stands l t q a sizes r)

pub returns-clause-still : goal.returns-clause-still
returns-clause-still c = λ l t q a sizes r. stands_still a (reached_stands l t q a sizes r)
