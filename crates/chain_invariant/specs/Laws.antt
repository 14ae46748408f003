-- the opening, transfers and the own steps of processes keep each block at one place, and what follows
use Rattle.std.specs.Prelude.{◌≡◌, ◌≢◌, ℕ, ◌+◌, ◌-◌, ◌*◌, ◌<◌, ◌≤◌, Bool, true, false, [], ◌∷◌, length, slice_index, Contains}
use Rattle.std.specs.List.{All}
use Rattle.process_sums.specs.Sums.{total}
use Rattle.word_layout.specs.Sizes.{Sizes, IsShape, blocks}
use Rattle.word_layout.specs.Packing.{value_of, reply_of}
use Rattle.word_layout.specs.declared.announced.Wish.{Wish}
use Rattle.word_layout.specs.declared.name.WordName.TheVariants.{State, Next}
use Rattle.word_layout.specs.declared.reply.Reply.TheVariants.{Nothing, Gave}
use Rattle.transfer_schedule.specs.Numbers.{is_idle, withheld}
use Rattle.transfer_machine.specs.Machine.{action_of}
use Rattle.transfer_machine.specs.Opening.{opening_base, opening_slot, opening_next}
use Rattle.transfer_machine.specs.States.{StackState, next_of}
use Rattle.transfer_machine.specs.Tries.{is_take}
use Rattle.transfer_machine.specs.Words.{name_of}
use Rattle.transfer_machine.specs.declared.transfer.TransferView.{TransferView}
use Rattle.transfer_machine.specs.declared.stage.NextStep.TheVariants.{Rest, Announce, Try, LoadReply}
use Rattle.transfer_machine.specs.declared.stage.TryStep.TheVariants.{ExchangeState}
use Rattle.pool_machine.specs.Pools.{opening_view, view_begun, view_met, MayBegin}
use Rattle.pool_machine.specs.declared.view.ProcessView.{ProcessView}
use Rattle.transfer_invariant.specs.Progress.{has_announced}
use Rattle.transfer_invariant.specs.Installing.{drafted_state, states_after}
use Rattle.transfer_invariant.specs.Memory.{Words, States, Acted, state_tag}
use Rattle.transfer_invariant.specs.Laws.{DraftFits, WishIsBlock}
use Rattle.batch_invariant.specs.Places.{moving}
use Rattle.batch_invariant.specs.Batches.{ProcessViews, MovedProcess}
use Rattle.batch_invariant.specs.Premises.{InStep, PendingIsPresent, InstallsNext, SameStack}
use Rattle.chain_invariant.specs.Chains.{BlockLists, ChainsHold, Chains, MovedList, NextsStay, OtherNextsStay, times_pooled, blocks_weight}
use Rattle.chain_invariant.specs.Chains.{without, is_head}
use Rattle.chain_invariant.specs.Steps.{SameParts, KeepsLists, FirstLeaves, SpareOpens, FirstComes, ListStarts}

-- at the opening each block is at one place, and none is held
abbrev pub OpeningHasChains : Type 0
OpeningHasChains = (sizes : Sizes) (words : Words) (s : StackState) (views : ProcessViews) (held : BlockLists)
    → IsShape sizes
    → ((b : ℕ) → b < blocks sizes → words (Next b) ≡ opening_next sizes b)
    → s.height ≡ opening_base sizes
    → ((k : ℕ) → k < s.height → s.content k ≡ opening_slot sizes k)
    → ((i : ℕ) → i < sizes.processes → views i ≡ opening_view sizes i)
    → ((i : ℕ) → i < sizes.processes → held i ≡ [])
    → Chains sizes words s views held

-- a process at rest that begins a transfer keeps that
abbrev pub BeginningsKeepChains : Type 0
BeginningsKeepChains =
    (sizes : Sizes) (words : Words) (s : StackState) (views after : ProcessViews) (held : BlockLists) (i : ℕ) (wish : Wish)
    (x : ProcessView)
    → i < sizes.processes
    → Chains sizes words s views held
    → (views i).transfer.next ≡ Rest
    → MayBegin wish (views i).pool
    → SameParts x (view_begun wish (views i))
    → MovedProcess i x views after
    → Chains sizes words s after held

-- so does a step of a transfer that leaves the state
abbrev pub StepsKeepChains : Type 0
StepsKeepChains = (sizes : Sizes) (words : Words) (s : StackState) (views after : ProcessViews) (held : BlockLists) (i word : ℕ)
    (x : ProcessView)
    → i < sizes.processes
    → Chains sizes words s views held
    → InStep s i (views i).transfer word
    → SameParts x (view_met sizes (views i) word)
    → MovedProcess i x views after
    → Chains sizes words s after held

-- it holds of the states that come of one by the announcements of the first so many processes
abbrev pub NextStatesKeepChains : Type 0
NextStatesKeepChains =
    (sizes : Sizes) (words : Words) (s : StackState) (views : ProcessViews) (held : BlockLists) (announcements : ℕ → ℕ) (heard : ℕ)
    → IsShape sizes → heard ≤ sizes.processes
    → Chains sizes words s views held
    → ((o : ℕ) → o < sizes.processes → PendingIsPresent s (announcements o) o (views o).transfer)
    → Chains sizes words (next_of heard announcements s) views held

-- and of a state that says the same
abbrev pub SameStatesKeepChains : Type 0
SameStatesKeepChains = (sizes : Sizes) (words : Words) (s t : StackState) (views : ProcessViews) (held : BlockLists)
    → Chains sizes words s views held
    → SameStack sizes.processes s t
    → Chains sizes words t views held

-- where the next step of a view exchanges the state and meets the one that it loaded, it installs the next one
abbrev pub ExchangeInstalls : Sizes → Words → StackState → ProcessViews → TransferView → Type 0
ExchangeInstalls sizes words s views v =
    (second : Bool) → v.next ≡ Try second ExchangeState → words State ≡ v.loaded.state → InstallsNext sizes s views v

-- the step of a transfer on the words keeps it, of the present state before and after
abbrev pub TransfersKeepChains : Type 0
TransfersKeepChains =
    (sizes : Sizes) (words new : Words) (views after : ProcessViews) (states : States) (held : BlockLists) (i : ℕ) (x : ProcessView)
    → IsShape sizes → i < sizes.processes
    → Chains sizes words (states (state_tag words)) views held
    → InStep (states (state_tag words)) i (views i).transfer (words (name_of (action_of sizes (views i).transfer)))
    → ExchangeInstalls sizes words (states (state_tag words)) views (views i).transfer
    → Acted sizes (action_of sizes (views i).transfer) words new
    → SameParts x (view_met sizes (views i) (words (name_of (action_of sizes (views i).transfer))))
    → MovedProcess i x views after
    → Chains sizes new (states_after words (views i).transfer states (state_tag new)) after held

-- a step that changes no next word and no list keeps it: it gets no block, or it is one on data
abbrev pub QuietStepsKeepChains : Type 0
QuietStepsKeepChains =
    (sizes : Sizes) (words new : Words) (s : StackState) (views after : ProcessViews) (held : BlockLists) (i : ℕ) (x : ProcessView)
    → i < sizes.processes
    → Chains sizes words s views held
    → KeepsLists (views i) x
    → MovedProcess i x views after
    → NextsStay sizes words new
    → Chains sizes new s after held

-- the first block of the current list leaves it, and its process holds it
abbrev pub LeavingKeepsChains : Type 0
LeavingKeepsChains =
    (sizes : Sizes) (words new : Words) (s : StackState) (views after : ProcessViews) (held held_after : BlockLists) (i block : ℕ)
    (x : ProcessView)
    → i < sizes.processes
    → Chains sizes words s views held
    → FirstLeaves words block (views i).pool x.pool
    → x.transfer ≡ (views i).transfer
    → MovedProcess i x views after
    → NextsStay sizes words new
    → MovedList i (block ∷ held i) held held_after
    → Chains sizes new s after held_after

-- the newest spare becomes the current list, and its first block leaves it
abbrev pub OpeningASpareKeepsChains : Type 0
OpeningASpareKeepsChains =
    (sizes : Sizes) (words new : Words) (s : StackState) (views after : ProcessViews) (held held_after : BlockLists) (i block : ℕ)
    (x : ProcessView)
    → i < sizes.processes
    → Chains sizes words s views held
    → SpareOpens sizes.length words block (views i).pool x.pool
    → x.transfer ≡ (views i).transfer
    → MovedProcess i x views after
    → NextsStay sizes words new
    → MovedList i (block ∷ held i) held held_after
    → Chains sizes new s after held_after

-- a held block comes before the current list
abbrev pub ComingKeepsChains : Type 0
ComingKeepsChains = (sizes : Sizes) (words new : Words) (s : StackState) (views after : ProcessViews) (held held_after : BlockLists)
    (i block : ℕ) (x : ProcessView)
    → i < sizes.processes
    → Chains sizes words s views held
    → Contains (held i) block
    → FirstComes sizes.length new block (views i).pool x.pool
    → x.transfer ≡ (views i).transfer
    → MovedProcess i x views after
    → OtherNextsStay sizes block words new
    → MovedList i (without block (held i)) held held_after
    → Chains sizes new s after held_after

-- the full current list becomes the newest spare, and a held block begins another list
abbrev pub StartingKeepsChains : Type 0
StartingKeepsChains =
    (sizes : Sizes) (words new : Words) (s : StackState) (views after : ProcessViews) (held held_after : BlockLists) (i block : ℕ)
    (x : ProcessView)
    → IsShape sizes → i < sizes.processes
    → Chains sizes words s views held
    → Contains (held i) block
    → ListStarts sizes.length new block (views i).pool x.pool
    → x.transfer ≡ (views i).transfer
    → MovedProcess i x views after
    → OtherNextsStay sizes block words new
    → MovedList i (without block (held i)) held held_after
    → Chains sizes new s after held_after

-- a block of the pool that nobody holds
pub record IsFree (sizes : Sizes) (held : BlockLists) (block : ℕ) : Type 0 where
  pub low : block < blocks sizes
  pub free : (i : ℕ) → i < sizes.processes → ¬ Contains (held i) block

-- a current list that isn't empty has the code of its first block, which is free, and its next word is the code of a block or 0; the code
-- of the empty list is 0
abbrev pub CurrentListsAreFree : Type 0
CurrentListsAreFree = (sizes : Sizes) (words : Words) (s : StackState) (views : ProcessViews) (held : BlockLists) (i : ℕ)
    → i < sizes.processes
    → Chains sizes words s views held
    → ((views i).pool.plan.current ≡ 0 → (views i).pool.head ≡ 0)
    × ((views i).pool.plan.current ≢ 0 → 1 ≤ (views i).pool.head)
    × ((views i).pool.plan.current ≢ 0 → IsFree sizes held ((views i).pool.head - 1))
    × ((views i).pool.plan.current ≢ 0 → words (Next ((views i).pool.head - 1)) ≤ blocks sizes)

-- the head of each spare is free, and its next word is the code of a block or 0
abbrev pub SparesAreFree : Type 0
SparesAreFree = (sizes : Sizes) (words : Words) (s : StackState) (views : ProcessViews) (held : BlockLists) (i place : ℕ)
    → IsShape sizes → i < sizes.processes
    → Chains sizes words s views held
    → place < length (views i).pool.heads
    → IsFree sizes held (slice_index (views i).pool.heads place)
    × (words (Next (slice_index (views i).pool.heads place)) ≤ blocks sizes)

-- a held block is one of the pool, and no other process holds it
abbrev pub HeldAreApart : Type 0
HeldAreApart = (sizes : Sizes) (words : Words) (s : StackState) (views : ProcessViews) (held : BlockLists) (i block : ℕ)
    → i < sizes.processes
    → Chains sizes words s views held
    → Contains (held i) block
    → (block < blocks sizes) × ((o : ℕ) → o < sizes.processes → o ≢ i → ¬ Contains (held o) block)

-- each block of the pool is at one place, and each at a place is one of the pool
abbrev pub BlocksAreOnce : Type 0
BlocksAreOnce = (sizes : Sizes) (words : Words) (s : StackState) (views : ProcessViews)
    (batch_blocks current_blocks held_blocks : BlockLists) (block : ℕ)
    → ChainsHold sizes words s views batch_blocks current_blocks held_blocks
    → (block < blocks sizes → blocks_weight sizes s views batch_blocks current_blocks held_blocks (is_head block) ≡ 1)
    × (blocks sizes ≤ block → blocks_weight sizes s views batch_blocks current_blocks held_blocks (is_head block) ≡ 0)

-- the stack has no more batches than there are
abbrev pub StackHasRoom : Type 0
StackHasRoom = (sizes : Sizes) (words : Words) (s : StackState) (views : ProcessViews) (held : BlockLists)
    → IsShape sizes → Chains sizes words s views held → s.height ≤ sizes.batches

-- all heads are blocks: of the content, of the spares, in transit
abbrev pub HeadsAreBlocks : Type 0
HeadsAreBlocks = (sizes : Sizes) (words : Words) (s : StackState) (views : ProcessViews) (held : BlockLists)
    → IsShape sizes → Chains sizes words s views held
    → ((place : ℕ) → place < s.height → s.content place < blocks sizes)
    × ((i place : ℕ) → i < sizes.processes → place < length (views i).pool.heads → slice_index (views i).pool.heads place < blocks sizes)
    × ((i : ℕ) → i < sizes.processes → All (λ head. head < blocks sizes) (moving s i (views i).transfer))

-- no head is at two places
abbrev pub HeadsAreApart : Type 0
HeadsAreApart = (sizes : Sizes) (words : Words) (s : StackState) (views : ProcessViews) (held : BlockLists) (head : ℕ)
    → IsShape sizes → Chains sizes words s views held → times_pooled sizes s views head ≤ 1

-- a give that is begun, or announced and not applied, is of a block
abbrev pub GivesAreBlocks : Type 0
GivesAreBlocks = (sizes : Sizes) (words : Words) (s : StackState) (views : ProcessViews) (held : BlockLists) (i : ℕ)
    → IsShape sizes → Chains sizes words s views held → i < sizes.processes
    → ((views i).transfer.next ≡ Announce → WishIsBlock sizes (views i).transfer.wish)
    × (has_announced (views i).transfer.next ≡ true → s.applied i ≢ (views i).transfer.age → WishIsBlock sizes (views i).transfer.wish)

-- a draft that a view installs has room
abbrev pub DraftsHaveRoom : Type 0
DraftsHaveRoom = (sizes : Sizes) (words : Words) (s : StackState) (views : ProcessViews) (held : BlockLists) (v : TransferView)
    → IsShape sizes → Chains sizes words s views held
    → InstallsNext sizes s views v → DraftFits sizes v.draft

-- the reply that ends a transfer is one to its wish: a give is answered that it gave, a take never
abbrev pub EndsAnswerWishes : Type 0
EndsAnswerWishes = (sizes : Sizes) (words : Words) (s : StackState) (views : ProcessViews) (held : BlockLists) (i word : ℕ)
    → i < sizes.processes
    → Chains sizes words s views held
    → InStep s i (views i).transfer word
    → (views i).transfer.next ≡ LoadReply
    → (is_take (views i).transfer.wish ≡ false → reply_of (value_of word) ≡ Gave)
    × (is_take (views i).transfer.wish ≡ true → reply_of (value_of word) ≢ Gave)

-- how many blocks a process keeps: its current list, its spares, and its batch in transit
abbrev pub kept_blocks : Sizes → StackState → ℕ → ProcessView → ℕ
kept_blocks sizes s i v = v.pool.plan.current + sizes.length * (length v.pool.heads + length (moving s i v.transfer))

-- a process's numbers count its batches: each spare has its head, and where nothing is pending its transfer is at rest
pub record CountsItsBatches (sizes : Sizes) (v : ProcessView) : Type 0 where
  pub size : v.pool.plan.length ≡ sizes.length
  pub heads : length v.pool.heads ≡ v.pool.plan.spares
  pub idle : is_idle v.pool.plan.pending ≡ true → v.transfer.next ≡ Rest

-- so what it keeps is at most what its plan says that it withholds, in whatever state
abbrev pub KeptIsWithheld : Type 0
KeptIsWithheld = (sizes : Sizes) (s : StackState) (i : ℕ) (v : ProcessView) → CountsItsBatches sizes v
    → kept_blocks sizes s i v ≤ withheld v.pool.plan

-- what the processes keep, what they hold, and the batches of the content are all blocks
abbrev pub BlocksAreCounted : Type 0
BlocksAreCounted = (sizes : Sizes) (words : Words) (s : StackState) (views : ProcessViews) (held : BlockLists)
    → Chains sizes words s views held
    → total sizes.processes (λ i. kept_blocks sizes s i (views i)) + total sizes.processes (λ i. length (held i)) + sizes.length * s.height
    ≡ blocks sizes

-- where the content is empty and each process keeps at most so many blocks, all but these are held
abbrev pub FewAreFree : Type 0
FewAreFree = (sizes : Sizes) (words : Words) (s : StackState) (views : ProcessViews) (held : BlockLists) (most : ℕ → ℕ)
    → Chains sizes words s views held
    → s.height ≡ 0
    → ((i : ℕ) → i < sizes.processes → kept_blocks sizes s i (views i) ≤ most i)
    → blocks sizes ≤ total sizes.processes (λ i. length (held i)) + total sizes.processes most

-- a take that the installed state applied and answered with nothing met an empty stack, so all blocks but these are held
abbrev pub EmptyTakesFindFew : Type 0
EmptyTakesFindFew =
    (sizes : Sizes) (words : Words) (s : StackState) (views : ProcessViews) (held : BlockLists) (v : TransferView) (i : ℕ) (most : ℕ → ℕ)
    → IsShape sizes → i < sizes.processes
    → Chains sizes words s views held
    → InstallsNext sizes s views v
    → is_take (views i).transfer.wish ≡ true
    → (drafted_state s v).applied i ≢ s.applied i
    → reply_of ((drafted_state s v).reply i) ≡ Nothing
    → ((t : StackState) (o : ℕ) → o < sizes.processes → kept_blocks sizes t o (views o) ≤ most o)
    → blocks sizes ≤ total sizes.processes (λ o. length (held o)) + total sizes.processes most
