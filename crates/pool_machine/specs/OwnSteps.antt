-- The own step of a call: what it does to which word, what it makes of the view, and how it answers.
use Rattle.std.specs.Prelude.{ℕ, ◌+◌, ◌-◌, false, Option, None, Some, [], ◌∷◌, ◌++◌, length, take}
use Rattle.word_layout.specs.declared.name.WordName.TheVariants.{State, Next, Data}
use Rattle.transfer_schedule.specs.Numbers as schedule
use Rattle.transfer_schedule.specs.declared.own_step.Source.{Source}
use Rattle.transfer_schedule.specs.declared.own_step.Target.{Target}
use Rattle.transfer_schedule.specs.declared.own_step.Source.TheVariants as source
use Rattle.transfer_schedule.specs.declared.own_step.Target.TheVariants as target
use Rattle.pool_model.specs.declared.entry.Entry.TheVariants.{Got, Back, Dry}
use Rattle.transfer_machine.specs.declared.action.Action.{Action}
use Rattle.transfer_machine.specs.declared.action.Action.TheVariants.{Load, Store}
use Rattle.transfer_machine.specs.declared.kind.Kind.{Kind}
use Rattle.transfer_machine.specs.declared.kind.Kind.TheVariants.{K12, K13, K14, K15, K16, K19}
use Rattle.pool_machine.specs.declared.call.Call.{Call}
use Rattle.pool_machine.specs.declared.call.Call.TheVariants.{Allocate, Free, Read, Write, Search}
use Rattle.pool_machine.specs.declared.call.CallStage.TheVariants.{Between}
use Rattle.pool_machine.specs.declared.call.CallView.{CallView}
use Rattle.pool_machine.specs.declared.view.PoolView.{PoolView}
use Rattle.pool_machine.specs.declared.view.ProcessView.{ProcessView}
use Rattle.pool_machine.specs.declared.answer.OwnAnswer.{OwnAnswer}
use Rattle.pool_machine.specs.declared.answer.OwnAnswer.TheVariants.{Recorded, Loaded, Stored}
use Rattle.pool_machine.specs.Beginning.{newest}

-- the first block of the current list, or of the newest spare, by where an allocate's block comes from
abbrev pub block_from : PoolView → Source → Option ℕ
block_from pool source.Current = Some (pool.head - 1)
block_from pool source.Spare = Some (newest pool)
block_from pool source.Nothing = None

-- the block that an allocate gets: the first of the current list, or of the newest spare where that list is empty
abbrev pub next_block : PoolView → Option ℕ
next_block pool = block_from pool (schedule.source_of pool.plan)

-- an allocate loads the next word of its block; with no block it loads the state
abbrev pub allocate_action : Option ℕ → Action
allocate_action None = Load State
allocate_action (Some block) = Load (Next block)

-- the next word that a free gives its block: the current list follows it, or nothing where that list is full
abbrev pub follower : PoolView → Target → ℕ
follower pool target.Current = pool.head
follower pool target.Fresh = 0

-- what the own step of a call does, and to which word
abbrev pub own_action_for : PoolView → Option Call → Action
own_action_for pool None = Load State
own_action_for pool (Some Allocate) = allocate_action (next_block pool)
own_action_for pool (Some (Free block)) = Store (Next block) (follower pool (schedule.target_of pool.plan))
own_action_for pool (Some (Read block index)) = Load (Data block index)
own_action_for pool (Some (Write block index value)) = Store (Data block index) value
own_action_for pool (Some Search) = allocate_action (next_block pool)

-- what the own step of the present call does, and to which word
abbrev pub own_action : ProcessView → Action
own_action v = own_action_for v.pool v.calls.call

-- a list's first block is taken off, and its next word names the new head; where the block is a spare's, that list becomes the current one
abbrev pub head_taken : ℕ → PoolView → Source → PoolView
head_taken word pool source.Current = record pool { head = word }
head_taken word pool source.Spare = record pool { head = word; heads = take (length pool.heads - 1) pool.heads }
head_taken word pool source.Nothing = pool

-- the pool after an allocate that loaded this next word
abbrev pub allocated : ℕ → PoolView → Source → PoolView
allocated word pool source = head_taken word (record pool { plan = schedule.after_took_one pool.plan }) source

-- a block is put before the current list; a full one becomes the newest spare first
abbrev pub block_put : ℕ → PoolView → Target → PoolView
block_put block pool target.Current = record pool { head = block + 1 }
block_put block pool target.Fresh = record pool { head = block + 1; heads = pool.heads ++ (pool.head - 1) ∷ [] }

-- the pool after a free
abbrev pub freed : ℕ → PoolView → Target → PoolView
freed block pool target = block_put block (record pool { plan = schedule.after_gave_one pool.plan }) target

-- the pool after the own step of a call met this word
abbrev pub pool_own_met : ℕ → PoolView → Option Call → PoolView
pool_own_met word pool None = pool
pool_own_met word pool (Some Allocate) = allocated word pool (schedule.source_of pool.plan)
pool_own_met word pool (Some (Free block)) = freed block pool (schedule.target_of pool.plan)
pool_own_met word pool (Some (Read block index)) = pool
pool_own_met word pool (Some (Write block index value)) = pool
pool_own_met word pool (Some Search) = allocated word pool (schedule.source_of pool.plan)

-- the call has ended
abbrev pub call_left : CallView → CallView
call_left calls = record calls { stage = Between; call = None; steps = 0; chosen = false }

-- the view after the own step of its call met this word
abbrev pub own_met : ProcessView → ℕ → ProcessView
own_met v word = record v { pool = pool_own_met word v.pool v.calls.call; calls = call_left v.calls }

-- the entry of an allocate
abbrev pub allocate_answer : ℕ → Option ℕ → OwnAnswer
allocate_answer by None = Recorded (Dry by)
allocate_answer by (Some block) = Recorded (Got by block)

-- how the own step of a call answers where it met this word
abbrev pub own_answer_for : ℕ → PoolView → ℕ → Option Call → OwnAnswer
own_answer_for by pool word None = Loaded word
own_answer_for by pool word (Some Allocate) = allocate_answer by (next_block pool)
own_answer_for by pool word (Some (Free block)) = Recorded (Back by block)
own_answer_for by pool word (Some (Read block index)) = Loaded word
own_answer_for by pool word (Some (Write block index value)) = Stored
own_answer_for by pool word (Some Search) = allocate_answer by (next_block pool)

-- how the own step of the present call answers where it met this word
abbrev pub own_answer : ProcessView → ℕ → OwnAnswer
own_answer v word = own_answer_for v.transfer.number v.pool word v.calls.call

-- the kind of an allocate's own step
abbrev pub allocate_kind : Option ℕ → Kind
allocate_kind None = K14
allocate_kind (Some block) = K12

-- the kind of a call's own step
abbrev pub own_kind_for : PoolView → Option Call → Kind
own_kind_for pool None = K19
own_kind_for pool (Some Allocate) = allocate_kind (next_block pool)
own_kind_for pool (Some (Free block)) = K13
own_kind_for pool (Some (Read block index)) = K15
own_kind_for pool (Some (Write block index value)) = K16
own_kind_for pool (Some Search) = allocate_kind (next_block pool)

-- the kind of the own step of the present call
abbrev pub own_kind : ProcessView → Kind
own_kind v = own_kind_for v.pool v.calls.call
