-- beginnings and steps of transfers, and changes of the state, move batches alone: the blocks stay where they are
use Rattle.std.proofs.Common.{◌≡◌, ℕ, ◌+◌, ◌*◌, ◌<◌, ◌≤◌, Bool, true, false, not, refl, inl, inr, length, arith}
use Rattle.std.specs.Prelude.{if◌then◌else◌}
use Rattle.std.proofs.lemmas.Bool.{cases_eq}
use Rattle.process_sums.proofs.Sums.{total_none}
use Rattle.word_layout.specs.Sizes.{Sizes, IsShape}
use Rattle.word_layout.specs.Packing.{value_of, reply_of}
use Rattle.word_layout.specs.declared.announced.Wish.{Wish}
use Rattle.word_layout.specs.declared.announced.Wish.TheVariants.{Take, Give}
use Rattle.word_layout.specs.declared.reply.Reply.{Reply}
use Rattle.word_layout.specs.declared.reply.Reply.TheVariants.{Nothing, Took, Gave}
use Rattle.word_layout.proofs.Limits.{two_blocks_a_batch}
use Rattle.transfer_schedule.specs.Numbers as schedule
use Rattle.transfer_schedule.specs.declared.pending.Pending.TheVariants.{Idle}
use Rattle.transfer_machine.specs.States.{StackState, next_of}
use Rattle.transfer_machine.specs.declared.transfer.TransferView.{TransferView}
use Rattle.transfer_machine.specs.declared.stage.NextStep.{NextStep}
use Rattle.transfer_machine.specs.declared.stage.NextStep.TheVariants.{Rest, Announce, Try, LoadFinalState, LoadReply}
use Rattle.pool_machine.specs.Pools.{MayBegin, view_begun, view_met, pool_begun, pool_met_at, pool_ended, step_counted}
use Rattle.pool_machine.specs.declared.view.PoolView.{PoolView}
use Rattle.pool_machine.specs.declared.view.ProcessView.{ProcessView}
use Rattle.transfer_invariant.specs.Installing.{drafted_state}
use Rattle.transfer_invariant.specs.Memory.{Words}
use Rattle.batch_invariant.specs.Places.{moving}
use Rattle.batch_invariant.specs.Batches.{ProcessViews, MovedProcess, ReplyMatches, KeepsBatches, weight}
use Rattle.batch_invariant.specs.Transit.{HeadsFit, Carried, is_large}
use Rattle.batch_invariant.specs.Premises.{InStep, PendingIsPresent, InstallsNext}
use Rattle.batch_invariant.proofs.Transit.{small_where}
use Rattle.batch_invariant.proofs.Steps.{stage_keeps, begun_keeps}
use Rattle.batch_invariant.proofs.Installing.{next_carried, drafted_carried}
use Rattle.chain_invariant.specs.Chains.{BlockLists, ChainsHold, NextsStay, pool_weight, blocks_weight, is_head}
use Rattle.chain_invariant.specs.Steps.{SameParts}
use Rattle.chain_invariant.proofs.Lists.{chain_stays}
use Rattle.chain_invariant.proofs.Pool.{pool_parts, pool_moved, pool_le, pool_each}
use Rattle.chain_invariant.proofs.Places.{batch_stays, current_stays, head_low}

-- a view that keeps its current list
record KeepsCurrent (v x : PoolView) : Type 0 where
  pub head : x.head ≡ v.head
  pub current : x.plan.current ≡ v.plan.current

-- where all batches weigh the same and each current list is kept, the blocks stay
chains_stay : (sizes : Sizes) (words : Words) (s t : StackState) (views after : ProcessViews)
    (batch_blocks current_blocks held_blocks : BlockLists)
    → ChainsHold sizes words s views batch_blocks current_blocks held_blocks
    → ((f : ℕ → ℕ) → pool_weight sizes t after f ≡ pool_weight sizes s views f)
    → ((i : ℕ) → i < sizes.processes → KeepsCurrent (views i).pool (after i).pool)
    → ((i : ℕ) → i < sizes.processes → ReplyMatches t i (after i).transfer)
    → ChainsHold sizes words t after batch_blocks current_blocks held_blocks
unfolding blocks_weight
chains_stay sizes words s t views after batch_blocks current_blocks held_blocks hold same keeps replies = record {
  batches = λ head pooled. hold.batches head (omega (arith, pooled, same (is_head head)));
  currents = λ i li. rw ((keeps i li).head, (keeps i li).current) (hold.currents i li);
  placed = λ f. omega (arith, hold.placed f, same (λ head. weight f (batch_blocks head)));
  replies = replies;
}

-- the words may change where no block of a chain is
pub words_stay : (sizes : Sizes) (words new : Words) (s : StackState) (views : ProcessViews)
    (batch_blocks current_blocks held_blocks : BlockLists)
    → ChainsHold sizes words s views batch_blocks current_blocks held_blocks → NextsStay sizes words new
    → ChainsHold sizes new s views batch_blocks current_blocks held_blocks
words_stay sizes words new s views batch_blocks current_blocks held_blocks hold stay = record {
  batches = λ head pooled. chain_stays words new (head + 1) sizes.length (batch_blocks head)
      (batch_stays sizes words s views batch_blocks current_blocks held_blocks hold new head stay pooled) (hold.batches head pooled);
  currents = λ i li. chain_stays words new (views i).pool.head (views i).pool.plan.current (current_blocks i)
      (current_stays sizes words s views batch_blocks current_blocks held_blocks hold new i stay li) (hold.currents i li);
  placed = hold.placed;
  replies = hold.replies;
}

-- one process moves, and keeps its batches and its current list
same_parts_keep : (s : StackState) (i : ℕ) (v x y : ProcessView) → SameParts x y → KeepsBatches s i v y → KeepsBatches s i v x
same_parts_keep s i v x y same keeps = record {
  same_weight = λ f. rw (same.pool, same.transfer) (keeps.same_weight f);
  matches = λ h. rw same.transfer (keeps.matches h);
}

process_moves : (sizes : Sizes) (words : Words) (s : StackState) (views after : ProcessViews)
    (batch_blocks current_blocks held_blocks : BlockLists) (i : ℕ) (x y : ProcessView)
    → i < sizes.processes → ChainsHold sizes words s views batch_blocks current_blocks held_blocks
    → SameParts x y → MovedProcess i x views after → KeepsBatches s i (views i) y → KeepsCurrent (views i).pool y.pool
    → ChainsHold sizes words s after batch_blocks current_blocks held_blocks
process_moves sizes words s views after batch_blocks current_blocks held_blocks i x y li hold same moved keeps_y current_y =
    let keeps = same_parts_keep s i (views i) x y same keeps_y in
    let current : KeepsCurrent (views i).pool x.pool = rw same.pool current_y in
    chains_stay sizes words s s views after batch_blocks current_blocks held_blocks hold
    (λ f. omega (arith, pool_moved sizes s views after i x f li moved, keeps.same_weight f))
    (λ o lo. elim (cases_eq o i) [
      | inl e ↦ rw e (rw moved.here current)
      | inr ne ↦ rw (moved.elsewhere o ne) (record { head = refl; current = refl })
    ])
    (λ o lo. elim (cases_eq o i) [
      | inl e ↦ rw e (rw moved.here (keeps.matches (hold.replies i li)))
      | inr ne ↦ rw (moved.elsewhere o ne) (hold.replies o lo)
    ])

-- beginnings and steps of transfers keep the current list
begun_keeps_current : (wish : Wish) (pool : PoolView) → KeepsCurrent pool (pool_begun wish pool)
begun_keeps_current Take pool = record { head = refl; current = refl }
begun_keeps_current (Give head) pool = record { head = refl; current = refl }

either_current : (t : Bool) (x y : schedule.Numbers) (current : ℕ) → x.current ≡ current → y.current ≡ current
    → (if t then x else y).current ≡ current
either_current true x y current ex ey = ex
either_current false x y current ex ey = ey

ended_current : (found : Bool) (x : schedule.Numbers) → (schedule.after_end found x).current ≡ x.current
ended_current found x = either_current (schedule.is_taking x.pending)
    (record x { pending = Idle; done = 0; spares = if found then schedule.one_more x.spares else x.spares; dry = not found })
    (record x { pending = Idle; done = 0 }) x.current refl refl

ended_keeps_current : (reply : Reply) (pool : PoolView) → KeepsCurrent pool (pool_ended reply pool)
ended_keeps_current Nothing pool = record { head = refl; current = ended_current false pool.plan }
ended_keeps_current (Took head) pool = record { head = refl; current = ended_current true pool.plan }
ended_keeps_current Gave pool = record { head = refl; current = ended_current true pool.plan }

counted_ended : (pool x : PoolView) → KeepsCurrent (step_counted pool) x → KeepsCurrent pool x
counted_ended pool x keeps = record { head = keeps.head; current = keeps.current }

met_keeps_current : (word : ℕ) (pool : PoolView) (stage : NextStep) → KeepsCurrent pool (pool_met_at word pool stage)
met_keeps_current word pool Rest = record { head = refl; current = refl }
met_keeps_current word pool Announce = record { head = refl; current = refl }
met_keeps_current word pool (Try second step) = record { head = refl; current = refl }
met_keeps_current word pool LoadFinalState = record { head = refl; current = refl }
met_keeps_current word pool LoadReply =
    counted_ended pool (pool_ended (reply_of (value_of word)) (step_counted pool))
    (ended_keeps_current (reply_of (value_of word)) (step_counted pool))

-- a transfer that begins keeps the chains
pub beginning_keeps : (sizes : Sizes) (words : Words) (s : StackState) (views after : ProcessViews)
    (batch_blocks current_blocks held_blocks : BlockLists) (i : ℕ) (wish : Wish) (x : ProcessView) → i < sizes.processes
    → ChainsHold sizes words s views batch_blocks current_blocks held_blocks → (views i).transfer.next ≡ Rest → MayBegin wish (views i).pool
    → SameParts x (view_begun wish (views i)) → MovedProcess i x views after
    → ChainsHold sizes words s after batch_blocks current_blocks held_blocks
beginning_keeps sizes words s views after batch_blocks current_blocks held_blocks i wish x li hold rest may same moved =
    process_moves sizes words s views after batch_blocks current_blocks held_blocks i x (view_begun wish (views i)) li hold same moved
    (begun_keeps s i wish (views i) rest may) (begun_keeps_current wish (views i).pool)

-- a step of a transfer that leaves the words of chains keeps them
pub step_keeps : (sizes : Sizes) (words : Words) (s : StackState) (views after : ProcessViews)
    (batch_blocks current_blocks held_blocks : BlockLists) (i word : ℕ) (x : ProcessView) → i < sizes.processes
    → ChainsHold sizes words s views batch_blocks current_blocks held_blocks → InStep s i (views i).transfer word
    → SameParts x (view_met sizes (views i) word) → MovedProcess i x views after
    → ChainsHold sizes words s after batch_blocks current_blocks held_blocks
step_keeps sizes words s views after batch_blocks current_blocks held_blocks i word x li hold step same moved =
    process_moves sizes words s views after batch_blocks current_blocks held_blocks i x (view_met sizes (views i) word) li hold same moved
    (stage_keeps sizes s i (views i) word (views i).transfer.next refl step (hold.replies i li))
    (met_keeps_current word (views i).pool (views i).transfer.next)

-- a change of the state moves batches between what is in transit and the content
pub carried_chains : (sizes : Sizes) (words : Words) (s t : StackState) (views : ProcessViews)
    (batch_blocks current_blocks held_blocks : BlockLists)
    → ChainsHold sizes words s views batch_blocks current_blocks held_blocks → Carried sizes s t views
    → ChainsHold sizes words t views batch_blocks current_blocks held_blocks
carried_chains sizes words s t views batch_blocks current_blocks held_blocks hold carried =
    chains_stay sizes words s t views views batch_blocks current_blocks held_blocks hold
    (λ f. omega (arith, carried.same_weight f, pool_parts sizes s views f, pool_parts sizes t views f))
    (λ i li. record { head = refl; current = refl })
    (λ i li. carried.matches i li (hold.replies i li))

-- all heads are blocks, so they fit
pub chains_fit : (sizes : Sizes) (words : Words) (s : StackState) (views : ProcessViews)
    (batch_blocks current_blocks held_blocks : BlockLists) → IsShape sizes
    → ChainsHold sizes words s views batch_blocks current_blocks held_blocks → HeadsFit sizes s views
chains_fit sizes words s views batch_blocks current_blocks held_blocks shape hold =
    let small = pool_le sizes s views is_large (λ head. 0) (λ head pooled. omega (
      arith,
      small_where head (omega (
        arith,
        head_low sizes words s views batch_blocks current_blocks held_blocks hold head
            (omega (arith, two_blocks_a_batch sizes shape)) pooled,
        shape.few_blocks,
      )),
    )) in
    let none = pool_each sizes s views 0 in
    let nothing = total_none sizes.processes (λ i. 0 * (length (views i).pool.heads + length (moving s i (views i).transfer)))
    (λ i li. no_times (length (views i).pool.heads + length (moving s i (views i).transfer))) in
    record { none_large = omega (arith, small, none, nothing, no_times s.height, pool_parts sizes s views is_large) }
  where
    no_times : (n : ℕ) → 0 * n ≡ 0
    no_times n = omega arith

-- the chains hold of the state after the announcements that a try heard
pub next_chains : (sizes : Sizes) (words : Words) (s : StackState) (views : ProcessViews)
    (batch_blocks current_blocks held_blocks : BlockLists) (announcements : ℕ → ℕ) (heard : ℕ) → IsShape sizes
    → heard ≤ sizes.processes → ChainsHold sizes words s views batch_blocks current_blocks held_blocks
    → ((o : ℕ) → o < sizes.processes → PendingIsPresent s (announcements o) o (views o).transfer)
    → ChainsHold sizes words (next_of heard announcements s) views batch_blocks current_blocks held_blocks
next_chains sizes words s views batch_blocks current_blocks held_blocks announcements heard shape le hold present =
    carried_chains sizes words s (next_of heard announcements s) views batch_blocks current_blocks held_blocks hold
    (next_carried sizes s views announcements heard le
    (chains_fit sizes words s views batch_blocks current_blocks held_blocks shape hold) present)

-- they hold of a state that is installed
pub installs_carry : (sizes : Sizes) (words : Words) (s : StackState) (views : ProcessViews)
    (batch_blocks current_blocks held_blocks : BlockLists) (v : TransferView) → IsShape sizes
    → ChainsHold sizes words s views batch_blocks current_blocks held_blocks → InstallsNext sizes s views v
    → ChainsHold sizes words (drafted_state s v) views batch_blocks current_blocks held_blocks
installs_carry sizes words s views batch_blocks current_blocks held_blocks v shape hold installs =
    carried_chains sizes words s (drafted_state s v) views batch_blocks current_blocks held_blocks hold
    (drafted_carried sizes s views v (chains_fit sizes words s views batch_blocks current_blocks held_blocks shape hold) installs)
