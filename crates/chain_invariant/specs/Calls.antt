-- the own steps of calls, as the machine of calls makes them, keep each block at one place
use Rattle.std.specs.Prelude.{◌≡◌, ℕ, ◌<◌, ◌≤◌, Option, None, Some, List, ◌∷◌, length, Contains}
use Rattle.word_layout.specs.Names.{InRange}
use Rattle.word_layout.specs.Sizes.{Sizes, IsShape}
use Rattle.transfer_machine.specs.States.{StackState}
use Rattle.transfer_machine.specs.Words.{name_of}
use Rattle.pool_machine.specs.declared.call.Call.{Call}
use Rattle.pool_machine.specs.declared.call.Call.TheVariants.{Allocate, Free, Read, Write, Search}
use Rattle.pool_machine.specs.declared.view.PoolView.{PoolView}
use Rattle.pool_machine.specs.declared.view.ProcessView.{ProcessView}
use Rattle.pool_machine.specs.Beginning.{call_begun}
use Rattle.pool_machine.specs.OwnSteps.{next_block, own_action, own_met}
use Rattle.pool_machine.specs.Ready.{CanBegin, CanOwn, CanMeetOwn}
use Rattle.transfer_invariant.specs.Memory.{Words, Acted}
use Rattle.batch_invariant.specs.Batches.{ProcessViews, MovedProcess}
use Rattle.chain_invariant.specs.Chains.{BlockLists, Chains, MovedList, without}
use Rattle.chain_invariant.specs.Steps.{SameParts}
use Rattle.chain_invariant.specs.Laws.{IsFree}

-- the blocks that a process holds once it got this one, if any
abbrev pub with_got : Option ℕ → List ℕ → List ℕ
with_got None held = held
with_got (Some block) held = block ∷ held

-- the blocks that a process holds after the own step of this call
abbrev pub held_by_call : PoolView → Option Call → List ℕ → List ℕ
held_by_call pool None held = held
held_by_call pool (Some Allocate) held = with_got (next_block pool) held
held_by_call pool (Some (Free block)) held = without block held
held_by_call pool (Some (Read block index)) held = held
held_by_call pool (Some (Write block index value)) held = held
held_by_call pool (Some Search) held = with_got (next_block pool) held

-- the block that a call names is held, and its index is one of a data word
abbrev pub NamesHeld : Sizes → List ℕ → Option Call → Type 0
NamesHeld sizes held None = Unit {0}
NamesHeld sizes held (Some Allocate) = Unit {0}
NamesHeld sizes held (Some (Free block)) = Contains held block
NamesHeld sizes held (Some (Read block index)) = Contains held block × (index < sizes.words)
NamesHeld sizes held (Some (Write block index value)) = Contains held block × (index < sizes.words)
NamesHeld sizes held (Some Search) = Unit {0}

-- what other parts say of a process at the own step of its call: its plan fits the sizes, each spare has its head, what is named is held
pub record OwnStepFits (sizes : Sizes) (held : List ℕ) (v : ProcessView) : Type 0 where
  pub size : v.pool.plan.length ≡ sizes.length
  pub within : v.pool.plan.current ≤ sizes.length
  pub heads : length v.pool.heads ≡ v.pool.plan.spares
  pub names : NamesHeld sizes held v.calls.call

-- a call that begins keeps it, with the transfer that is due
abbrev pub CallsBeginWithChains : Type 0
CallsBeginWithChains =
    (sizes : Sizes) (words : Words) (s : StackState) (views after : ProcessViews) (held : BlockLists) (i : ℕ) (call : Call)
    (x : ProcessView)
    → i < sizes.processes
    → Chains sizes words s views held
    → CanBegin (views i)
    → SameParts x (call_begun call (views i))
    → MovedProcess i x views after
    → Chains sizes words s after held

-- so does the own step of a call: its process then holds the block that it got, or no longer the one that it freed
abbrev pub OwnStepsKeepChains : Type 0
OwnStepsKeepChains =
    (sizes : Sizes) (words new : Words) (s : StackState) (views after : ProcessViews) (held held_after : BlockLists) (i : ℕ)
    (x : ProcessView)
    → IsShape sizes → i < sizes.processes
    → Chains sizes words s views held
    → OwnStepFits sizes (held i) (views i)
    → Acted sizes (own_action (views i)) words new
    → SameParts x (own_met (views i) (words (name_of (own_action (views i)))))
    → MovedProcess i x views after
    → MovedList i (held_by_call (views i).pool (views i).calls.call (held i)) held held_after
    → Chains sizes new s after held_after

-- the block that an allocate gets is free
abbrev pub GotBlocksAreFree : Type 0
GotBlocksAreFree = (sizes : Sizes) (words : Words) (s : StackState) (views : ProcessViews) (held : BlockLists) (i block : ℕ)
    → IsShape sizes → i < sizes.processes
    → Chains sizes words s views held
    → OwnStepFits sizes (held i) (views i)
    → next_block (views i).pool ≡ Some block
    → IsFree sizes held block

-- the own step of a call can be made where a full current list finds room among the spares
abbrev pub OwnStepsCanBeMade : Type 0
OwnStepsCanBeMade = (sizes : Sizes) (words : Words) (s : StackState) (views : ProcessViews) (held : BlockLists) (i : ℕ)
    → IsShape sizes → i < sizes.processes
    → Chains sizes words s views held
    → OwnStepFits sizes (held i) (views i)
    → ((views i).pool.plan.current ≡ sizes.length → length (views i).pool.heads < 3)
    → CanOwn sizes (views i) × CanMeetOwn (views i) (words (name_of (own_action (views i))))
    × InRange sizes (name_of (own_action (views i)))

-- it holds of lists of held blocks that say the same of all processes
abbrev pub SameHeldKeepChains : Type 0
SameHeldKeepChains = (sizes : Sizes) (words : Words) (s : StackState) (views : ProcessViews) (held held_after : BlockLists)
    → Chains sizes words s views held
    → ((i : ℕ) → i < sizes.processes → held_after i ≡ held i)
    → Chains sizes words s views held_after
