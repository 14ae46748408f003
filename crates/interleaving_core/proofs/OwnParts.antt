-- what the own step of a call makes of the words, of the ledger of its process, and of the data words that it knows
use Rattle.std.proofs.Common.{◌≡◌, ◌≢◌, ℕ, true, false, Option, None, Some, List, refl}
use Rattle.word_layout.specs.Sizes.{Sizes}
use Rattle.word_layout.specs.declared.name.WordName.{WordName}
use Rattle.word_layout.specs.declared.name.WordName.TheVariants.{State, Announcement, RecordWord, Slot, Next, Data}
use Rattle.pool_model.specs.declared.entry.Entry.{Entry}
use Rattle.pool_model.specs.declared.entry.Entry.TheVariants.{Got, Back, Dry}
use Rattle.pool_model.specs.History.{grip}
use Rattle.pool_model.proofs.Histories.{grip_more}
use Rattle.transfer_machine.specs.Words.{name_of}
use Rattle.transfer_machine.specs.declared.action.Action.{Action}
use Rattle.transfer_machine.specs.declared.action.Action.TheVariants.{Load, Store}
use Rattle.pool_machine.specs.declared.call.Call.{Call}
use Rattle.pool_machine.specs.declared.call.Call.TheVariants.{Allocate, Free, Read, Write, Search}
use Rattle.pool_machine.specs.declared.view.PoolView.{PoolView}
use Rattle.transfer_invariant.specs.Memory.{Words, Acted, is_stack_word}
use Rattle.pool_machine.specs.OwnSteps.{next_block, allocate_action, own_action_for}
use Rattle.history_invariant.specs.Ledger.{Ledger}
use Rattle.history_invariant.specs.Steps.{entered, got_one, got_none, gave_back}
use Rattle.stack_invariant.proofs.OtherWords.{StackWordsStay}
use Rattle.chain_invariant.specs.Calls.{with_got, held_by_call}

-- the ledger after an allocate that was given this block, or was refused
abbrev pub ledger_allocated : List Entry → ℕ → Option ℕ → Ledger → Ledger
ledger_allocated history i None ledger = entered history (Dry i) (got_none ledger.account) ledger
ledger_allocated history i (Some block) ledger = entered history (Got i block) (got_one ledger.account) ledger

-- the ledger of a process after the own step of this call
abbrev pub ledger_by_call : List Entry → ℕ → PoolView → Option Call → Ledger → Ledger
ledger_by_call history i pool None ledger = ledger
ledger_by_call history i pool (Some Allocate) ledger = ledger_allocated history i (next_block pool) ledger
ledger_by_call history i pool (Some (Free block)) ledger = entered history (Back i block) (gave_back ledger.account) ledger
ledger_by_call history i pool (Some (Read block index)) ledger = ledger
ledger_by_call history i pool (Some (Write block index value)) ledger = ledger
ledger_by_call history i pool (Some Search) ledger = ledger_allocated history i (next_block pool) ledger

-- the blocks that its process then holds
allocated_grip : (history : List Entry) (i : ℕ) (block : Option ℕ) (ledger : Ledger)
    → grip (ledger_allocated history i block ledger).entries ≡ with_got block (grip ledger.entries)
allocated_grip history i None ledger = grip_more ledger.entries (Dry i)
allocated_grip history i (Some block) ledger = grip_more ledger.entries (Got i block)

-- the grip after a call's entry is what the call leaves held
pub grip_by_call : (history : List Entry) (i : ℕ) (pool : PoolView) (call : Option Call) (ledger : Ledger)
    → grip (ledger_by_call history i pool call ledger).entries ≡ held_by_call pool call (grip ledger.entries)
grip_by_call history i pool None ledger = refl
grip_by_call history i pool (Some Allocate) ledger = allocated_grip history i (next_block pool) ledger
grip_by_call history i pool (Some (Free block)) ledger = grip_more ledger.entries (Back i block)
grip_by_call history i pool (Some (Read block index)) ledger = refl
grip_by_call history i pool (Some (Write block index value)) ledger = refl
grip_by_call history i pool (Some Search) ledger = allocated_grip history i (next_block pool) ledger

-- what its take is known to have found stays
allocated_finds : (history : List Entry) (i : ℕ) (block : Option ℕ) (ledger : Ledger)
    → (ledger_allocated history i block ledger).found_nothing ≡ ledger.found_nothing
allocated_finds history i None ledger = refl
allocated_finds history i (Some block) ledger = refl

-- a call's entry leaves whether a take found nothing
pub finds_by_call : (history : List Entry) (i : ℕ) (pool : PoolView) (call : Option Call) (ledger : Ledger)
    → (ledger_by_call history i pool call ledger).found_nothing ≡ ledger.found_nothing
finds_by_call history i pool None ledger = refl
finds_by_call history i pool (Some Allocate) ledger = allocated_finds history i (next_block pool) ledger
finds_by_call history i pool (Some (Free block)) ledger = refl
finds_by_call history i pool (Some (Read block index)) ledger = refl
finds_by_call history i pool (Some (Write block index value)) ledger = refl
finds_by_call history i pool (Some Search) ledger = allocated_finds history i (next_block pool) ledger

-- an own step leaves all words that the invariant of the stack speaks of
differs : (name other : WordName) → is_stack_word name ≡ true → is_stack_word other ≡ false → name ≢ other
differs name other is isnt = λ e. cc

loads_state : (sizes : Sizes) (words new : Words) → Acted sizes (Load State) words new → StackWordsStay sizes words new
loads_state sizes words new a State low is = a.here
loads_state sizes words new a (Announcement process) low is = a.elsewhere (Announcement process) low (λ e. cc)
loads_state sizes words new a (RecordWord row index) low is = a.elsewhere (RecordWord row index) low (λ e. cc)
loads_state sizes words new a (Slot slot) low is = a.elsewhere (Slot slot) low (λ e. cc)
loads_state sizes words new a (Next block) low is = a.elsewhere (Next block) low (λ e. cc)
loads_state sizes words new a (Data block index) low is = a.elsewhere (Data block index) low (λ e. cc)

acts_on_other : (sizes : Sizes) (action : Action) (words new : Words) → is_stack_word (name_of action) ≡ false
    → Acted sizes action words new → StackWordsStay sizes words new
acts_on_other sizes action words new isnt a = λ name low is. a.elsewhere name low (differs name (name_of action) is isnt)

allocate_leaves_stack : (sizes : Sizes) (words new : Words) (block : Option ℕ) → Acted sizes (allocate_action block) words new
    → StackWordsStay sizes words new
allocate_leaves_stack sizes words new None a = loads_state sizes words new a
allocate_leaves_stack sizes words new (Some block) a = acts_on_other sizes (Load (Next block)) words new refl a

-- an own step leaves the words of the stack
pub own_leaves_stack : (sizes : Sizes) (words new : Words) (pool : PoolView) (call : Option Call)
    → Acted sizes (own_action_for pool call) words new → StackWordsStay sizes words new
own_leaves_stack sizes words new pool None a = loads_state sizes words new a
own_leaves_stack sizes words new pool (Some Allocate) a = allocate_leaves_stack sizes words new (next_block pool) a
own_leaves_stack sizes words new pool (Some (Free block)) a = acts_on_other sizes (own_action_for pool (Some (Free block))) words new refl a
own_leaves_stack sizes words new pool (Some (Read block index)) a = acts_on_other sizes (Load (Data block index)) words new refl a
own_leaves_stack sizes words new pool (Some (Write block index value)) a =
    acts_on_other sizes (Store (Data block index) value) words new refl a
own_leaves_stack sizes words new pool (Some Search) a = allocate_leaves_stack sizes words new (next_block pool) a
