-- one turn of one process, on the words and views of all: a step of a transfer alone, or a step of a call
use Rattle.std.specs.Prelude.{ℕ, ◌==◌, nat_lt, Bool, true, false, not, ◌&&◌, ◌||◌, if◌then◌else◌}
use Rattle.std.specs.Prelude.{Option, None, Some, List, length, slice_index_or, slice_set}
use Rattle.word_layout.specs.Sizes.{Sizes}
use Rattle.word_layout.specs.declared.announced.Wish.{Wish}
use Rattle.word_layout.specs.declared.announced.Wish.TheVariants.{Take, Give}
use Rattle.transfer_schedule.specs.Beginning.{may_begin}
use Rattle.transfer_schedule.specs.declared.pending.Pending.TheVariants.{Taking, Giving}
use Rattle.word_layout.specs.Packing.{most_age}
use Rattle.pool_model.specs.declared.entry.Entry.{Entry}
use Rattle.pool_model.specs.declared.entry.Entry.TheVariants.{Got, Back, Dry}
use Rattle.pool_machine.specs.Pools.{opening_view}
use Rattle.transfer_machine.specs.Words.{acted, met_word}
use Rattle.transfer_machine.specs.Stages.{is_rest}
use Rattle.pool_machine.specs.declared.call.Call.{Call}
use Rattle.pool_machine.specs.declared.call.Call.TheVariants.{Allocate, Free, Read, Write, Search}
use Rattle.pool_machine.specs.declared.view.PoolView.{PoolView}
use Rattle.pool_machine.specs.declared.view.ProcessView.{ProcessView}
use Rattle.pool_machine.specs.Beginning.{newest, search_chosen, call_begun, alone_begun}
use Rattle.pool_machine.specs.declared.call.CallStage.{CallStage}
use Rattle.pool_machine.specs.declared.call.CallStage.TheVariants.{Choosing}
use Rattle.pool_machine.specs.Conditions.{may_call, may_use_transfers}
use Rattle.pool_machine.specs.declared.event.Happened.{Happened}
use Rattle.pool_machine.specs.declared.event.Happened.TheVariants.{Step, Ended, Loaded, Stored, Ignored}
use Rattle.interleaving_core.specs.Steps.{is_at_step, next_action, next_met, next_answer}

-- the words of the table, the views of all processes, and who holds each block, of one shape
pub record CoreState : Type 0 where
  pub sizes : Sizes
  pub words : List ℕ
  pub views : List ProcessView
  pub holders : List (Option ℕ)

-- the view of a process
abbrev pub view_at : CoreState → ℕ → ProcessView
view_at s i = slice_index_or s.views i (opening_view s.sizes i)

-- who holds a block, if anyone
abbrev pub holder_of : CoreState → ℕ → Option ℕ
holder_of s block = slice_index_or s.holders block None

-- whether that is this process
abbrev pub is_holder : ℕ → Option ℕ → Bool
is_holder by None = false
is_holder by (Some process) = by == process

-- whether a process holds the block that a call names
abbrev pub holds_for : List (Option ℕ) → ℕ → Call → Bool
holds_for holders by Allocate = true
holds_for holders by (Free block) = is_holder by (slice_index_or holders block None)
holds_for holders by (Read block index) = is_holder by (slice_index_or holders block None)
holds_for holders by (Write block index value) = is_holder by (slice_index_or holders block None)
holds_for holders by Search = true

-- who holds each block after an entry
abbrev pub holders_entered : Entry → List (Option ℕ) → List (Option ℕ)
holders_entered (Got by block) holders = slice_set holders block (Some by)
holders_entered (Back by block) holders = slice_set holders block None
holders_entered (Dry by) holders = holders

-- who holds each block after that happened
abbrev pub holders_after : Happened → List (Option ℕ) → List (Option ℕ)
holders_after (Step kind) holders = holders
holders_after (Ended kind entry) holders = holders_entered entry holders
holders_after (Loaded word) holders = holders
holders_after Stored holders = holders
holders_after Ignored holders = holders

-- what happens where a process makes the next step of this view
abbrev pub step_answer : ProcessView → CoreState → Happened
step_answer v s = next_answer v (met_word s.sizes s.words (next_action s.sizes v))

-- the words, views and holders after that
abbrev pub with_step : ℕ → ProcessView → CoreState → CoreState
with_step process v s = record s {
  words = acted s.sizes s.words (next_action s.sizes v);
  views = slice_set s.views process (next_met s.sizes v (met_word s.sizes s.words (next_action s.sizes v)));
  holders = holders_after (step_answer v s) s.holders;
}

-- whether a transfer with this wish may begin: the plan has the spares for it, and what is given is the newest one
abbrev pub may_wish : Wish → PoolView → Bool
may_wish Take pool = may_begin Taking pool.plan.spares
may_wish (Give head) pool = nat_lt 0 (length pool.heads) && (may_begin Giving pool.plan.spares && (newest pool == head))

-- whether a process moves alone: it has begun no call, and it goes on with its transfer or may begin one with this wish
abbrev pub may_go_alone : Sizes → Wish → ProcessView → Bool
may_go_alone sizes wish v =
    may_use_transfers v.calls.way && (not (is_rest v.transfer.next) || (nat_lt v.transfer.age (most_age sizes) && may_wish wish v.pool))

-- its view before that step: a process at rest first begins a transfer with this wish
abbrev pub moving_view : Wish → ProcessView → ProcessView
moving_view wish v = if is_rest v.transfer.next then alone_begun wish v else v

-- whether a process that has not begun its next step may begin it: a search chooses, and between two calls it begins this one
abbrev pub may_start_at : CallStage → Sizes → Bool → Call → ProcessView → Bool
may_start_at Choosing sizes holds call v = true
may_start_at stage sizes holds call v = may_call sizes holds call v

-- its view once it has
abbrev pub started_at : CallStage → Call → ProcessView → ProcessView
started_at Choosing call v = search_chosen v
started_at stage call v = call_begun call v

-- the view of a process that starts a call: as it begins, or goes on with what it has begun
abbrev pub started : Call → ProcessView → ProcessView
started call v = started_at v.calls.stage call v

-- whether a process goes on with its call, or may begin this one
abbrev pub may_go : Sizes → Bool → Call → ProcessView → Bool
may_go sizes holds call v = is_at_step v.calls.stage || may_start_at v.calls.stage sizes holds call v

-- its view before that step
abbrev pub calling_view : Call → ProcessView → ProcessView
calling_view call v = if is_at_step v.calls.stage then v else started call v
