-- when a process may begin a call, or a transfer alone
use Rattle.std.specs.Prelude.{◌≡◌, ◌≢◌, ℕ, ◌<◌, Bool, IsTrue, true, false, ◌&&◌, ◌||◌, nat_lt}
use Rattle.word_layout.specs.Sizes.{Sizes}
use Rattle.word_layout.specs.Packing.{most_age}
use Rattle.transfer_schedule.specs.Numbers.{Numbers, due, is_idle}
use Rattle.transfer_schedule.specs.declared.pending.Pending.TheVariants.{Idle}
use Rattle.pool_machine.specs.declared.call.Call.{Call}
use Rattle.pool_machine.specs.declared.call.Call.TheVariants.{Allocate, Free, Read, Write, Search}
use Rattle.pool_machine.specs.declared.call.Way.{Way}
use Rattle.pool_machine.specs.declared.call.Way.TheVariants.{Fresh, Alone, Calls}
use Rattle.pool_machine.specs.declared.view.ProcessView.{ProcessView}

-- the block of a call is held, and its index is one of the block's data words; `holds` says whether the process holds the block
abbrev pub NamesFit : Sizes → Bool → Call → Type 0
NamesFit sizes holds Allocate = Unit {0}
NamesFit sizes holds (Free block) = IsTrue holds
NamesFit sizes holds (Read block index) = IsTrue holds × (index < sizes.words)
NamesFit sizes holds (Write block index value) = IsTrue holds × (index < sizes.words)
NamesFit sizes holds Search = Unit {0}

-- where a transfer is due, the age is below its limit
abbrev pub HasAgeFor : Sizes → Numbers → ℕ → Type 0
HasAgeFor sizes plan age = due plan ≢ Idle → age < most_age sizes

-- An allocate or a free begins the transfer that is due, and needs an age below the limit where one is. A search may begin one after a
-- transfer that it meets, and needs it whatever is due; a read and a write begin none.
abbrev pub IsYoungFor : Sizes → Call → ProcessView → Type 0
IsYoungFor sizes Allocate v = HasAgeFor sizes v.pool.plan v.transfer.age
IsYoungFor sizes (Free block) v = HasAgeFor sizes v.pool.plan v.transfer.age
IsYoungFor sizes (Read block index) v = Unit {0}
IsYoungFor sizes (Write block index value) v = Unit {0}
IsYoungFor sizes Search v = v.transfer.age < most_age sizes

-- which ways of using the pool leave a process its calls: all but transfers alone
abbrev pub may_use_calls : Way → Bool
may_use_calls Fresh = true
may_use_calls Alone = false
may_use_calls Calls = true

-- which leave it transfers alone: all but calls, since it could give its batches away, and then be refused with a full stack
abbrev pub may_use_transfers : Way → Bool
may_use_transfers Fresh = true
may_use_transfers Alone = true
may_use_transfers Calls = false

-- a process may begin a call: its way leaves it calls, it is young enough, and what the call names fits
pub record MayCall (sizes : Sizes) (holds : Bool) (call : Call) (v : ProcessView) : Type 0 where
  pub way : may_use_calls v.calls.way ≡ true
  pub young : IsYoungFor sizes call v
  pub names : NamesFit sizes holds call

-- a process may begin a transfer alone
abbrev pub MayMove : ProcessView → Type 0
MayMove v = may_use_transfers v.calls.way ≡ true

-- what a call names fits, as a test
abbrev pub names_fit : Sizes → Bool → Call → Bool
names_fit sizes holds Allocate = true
names_fit sizes holds (Free block) = holds
names_fit sizes holds (Read block index) = holds && nat_lt index sizes.words
names_fit sizes holds (Write block index value) = holds && nat_lt index sizes.words
names_fit sizes holds Search = true

-- whether the age leaves room for the transfer that is due, as a test
abbrev pub has_age_for : Sizes → Numbers → ℕ → Bool
has_age_for sizes plan age = is_idle (due plan) || nat_lt age (most_age sizes)

-- whether a process is young enough for a call, as a test
abbrev pub is_young_for : Sizes → Call → ProcessView → Bool
is_young_for sizes Allocate v = has_age_for sizes v.pool.plan v.transfer.age
is_young_for sizes (Free block) v = has_age_for sizes v.pool.plan v.transfer.age
is_young_for sizes (Read block index) v = true
is_young_for sizes (Write block index value) v = true
is_young_for sizes Search v = nat_lt v.transfer.age (most_age sizes)

-- a process may begin a call, as a test
abbrev pub may_call : Sizes → Bool → Call → ProcessView → Bool
may_call sizes holds call v = may_use_calls v.calls.way && (is_young_for sizes call v && names_fit sizes holds call)

-- a process may begin a transfer alone, as a test
abbrev pub may_move : ProcessView → Bool
may_move v = may_use_transfers v.calls.way
