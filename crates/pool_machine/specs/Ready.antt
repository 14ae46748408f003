-- the numbers that the next step of a call names are in their ranges
use Rattle.std.specs.Prelude.{◌≡◌, ◌≢◌, ℕ, ◌^◌, ◌<◌, ◌≤◌, true, Option, None, Some, List, length}
use Rattle.word_layout.specs.Sizes.{Sizes, blocks, most_blocks, transfer_bound}
use Rattle.word_layout.specs.Names.{table_words}
use Rattle.transfer_schedule.specs.Numbers as schedule
use Rattle.transfer_schedule.specs.declared.pending.Pending.TheVariants.{Idle}
use Rattle.transfer_schedule.specs.declared.own_step.Source.{Source}
use Rattle.transfer_schedule.specs.declared.own_step.Target.{Target}
use Rattle.transfer_schedule.specs.declared.own_step.Source.TheVariants as source
use Rattle.transfer_schedule.specs.declared.own_step.Target.TheVariants as target
use Rattle.transfer_machine.specs.Machine.{CanAct, CanMeet}
use Rattle.pool_machine.specs.Pools.{CanCount, CanMeetPool}
use Rattle.transfer_machine.specs.Words.{met_word}
use Rattle.pool_machine.specs.declared.call.Call.{Call}
use Rattle.pool_machine.specs.declared.call.Call.TheVariants.{Allocate, Free, Read, Write, Search}
use Rattle.pool_machine.specs.declared.call.CallStage.{CallStage}
use Rattle.pool_machine.specs.declared.call.CallStage.TheVariants.{Between, Choosing, Moving, Own}
use Rattle.transfer_machine.specs.declared.stage.NextStep.TheVariants.{Rest}
use Rattle.pool_machine.specs.declared.view.PoolView.{PoolView}
use Rattle.pool_machine.specs.declared.view.ProcessView.{ProcessView}
use Rattle.pool_machine.specs.Beginning.{newest}
use Rattle.pool_machine.specs.Steps.{call_action, is_paced}

-- the plan has the sizes of the shape
pub record PlanFits (sizes : Sizes) (plan : schedule.Numbers) : Type 0 where
  pub length : plan.length ≡ sizes.length
  pub bound : plan.bound ≡ transfer_bound sizes
  pub quantum : plan.quantum ≡ sizes.quantum

-- the transfer that is due with a call can begin: none is begun where none is pending, each spare has its head, and the head that is
-- given is a block
pub record CanBegin (v : ProcessView) : Type 0 where
  pub rest : v.pool.plan.pending ≡ Idle → v.transfer.next ≡ Rest
  pub heads : length v.pool.heads ≡ v.pool.plan.spares
  pub fits : v.pool.plan.spares ≡ 3 → newest v.pool < most_blocks

-- a call that makes at most a quantum of transfer steps has made fewer
pub record HasStepLeft (sizes : Sizes) (v : ProcessView) : Type 0 where
  pub few : is_paced v.calls.call ≡ true → v.calls.steps < sizes.quantum

-- a transfer can make one more step
pub record CanGoOn (sizes : Sizes) (v : ProcessView) : Type 0 where
  pub busy : v.transfer.next ≢ Rest
  pub act : CanAct sizes v.transfer
  pub count : CanCount v.pool

-- and so can its call
pub record CanMove (sizes : Sizes) (v : ProcessView) : Type 0 where
  pub go : CanGoOn sizes v
  pub left : HasStepLeft sizes v

-- and what it makes of the view stays in range where it meets this word
pub record CanMeetMoving (sizes : Sizes) (v : ProcessView) (word : ℕ) : Type 0 where
  pub meet : CanMeet sizes v.transfer word
  pub end : CanMeetPool word v.pool v.transfer.next

-- the block of an allocate is one of the pool's
abbrev pub CanAllocate : Sizes → PoolView → Source → Type 0
CanAllocate sizes pool source.Current = (1 ≤ pool.head) × (pool.head ≤ blocks sizes)
CanAllocate sizes pool source.Spare = (1 ≤ length pool.heads) × (newest pool < blocks sizes)
CanAllocate sizes pool source.Nothing = Unit {0}

-- a full current list has a head, and there is room for one more spare
abbrev pub CanFree : PoolView → Target → Type 0
CanFree pool target.Current = Unit {0}
CanFree pool target.Fresh = (1 ≤ pool.head) × (length pool.heads < 3)

-- what the own step of a call names is in range
abbrev pub CanOwnFor : Sizes → PoolView → Option Call → Type 0
CanOwnFor sizes pool None = Unit {0}
CanOwnFor sizes pool (Some Allocate) = CanAllocate sizes pool (schedule.source_of pool.plan)
CanOwnFor sizes pool (Some (Free block)) = (block < blocks sizes) × CanFree pool (schedule.target_of pool.plan)
CanOwnFor sizes pool (Some (Read block index)) = (block < blocks sizes) × (index < sizes.words)
CanOwnFor sizes pool (Some (Write block index value)) = (block < blocks sizes) × (index < sizes.words)
CanOwnFor sizes pool (Some Search) = CanAllocate sizes pool (schedule.source_of pool.plan)

-- what the own step of the present call names is in range
abbrev pub CanOwn : Sizes → ProcessView → Type 0
CanOwn sizes v = CanOwnFor sizes v.pool v.calls.call

-- the next word of an allocated block can name a block: it fits a head
abbrev pub CanFollow : ℕ → Source → Type 0
CanFollow word source.Current = word < 2 ^ 32
CanFollow word source.Spare = word < 2 ^ 32
CanFollow word source.Nothing = Unit {0}

-- what the own step makes of the pool stays in range where it meets this word
abbrev pub CanMeetOwnFor : PoolView → ℕ → Option Call → Type 0
CanMeetOwnFor pool word None = Unit {0}
CanMeetOwnFor pool word (Some Allocate) = CanFollow word (schedule.source_of pool.plan)
CanMeetOwnFor pool word (Some (Free block)) = Unit {0}
CanMeetOwnFor pool word (Some (Read block index)) = Unit {0}
CanMeetOwnFor pool word (Some (Write block index value)) = Unit {0}
CanMeetOwnFor pool word (Some Search) = CanFollow word (schedule.source_of pool.plan)

-- the same of the present call
abbrev pub CanMeetOwn : ProcessView → ℕ → Type 0
CanMeetOwn v word = CanMeetOwnFor v.pool word v.calls.call

-- what the next step at that stage names is in range
abbrev pub CanActCallAt : Sizes → ProcessView → CallStage → Type 0
CanActCallAt sizes v Between = Unit {0}
CanActCallAt sizes v Choosing = Unit {0}
CanActCallAt sizes v Moving = CanMove sizes v
CanActCallAt sizes v Own = CanOwn sizes v

-- the same of the next step
abbrev pub CanActCall : Sizes → ProcessView → Type 0
CanActCall sizes v = CanActCallAt sizes v v.calls.stage

-- what the next step at that stage makes of the view stays in range where it meets this word
abbrev pub CanMeetCallAt : Sizes → ProcessView → ℕ → CallStage → Type 0
CanMeetCallAt sizes v word Between = Unit {0}
CanMeetCallAt sizes v word Choosing = Unit {0}
CanMeetCallAt sizes v word Moving = CanMeetMoving sizes v word
CanMeetCallAt sizes v word Own = CanMeetOwn v word

-- the same of the next step
abbrev pub CanMeetCall : Sizes → ProcessView → ℕ → Type 0
CanMeetCall sizes v word = CanMeetCallAt sizes v word v.calls.stage

-- a call can make its next step on these words
pub record CanStepCall (sizes : Sizes) (words : List ℕ) (v : ProcessView) : Type 0 where
  pub whole : length words ≡ table_words sizes
  pub act : CanActCall sizes v
  pub meet : CanMeetCall sizes v (met_word sizes words (call_action sizes v))
