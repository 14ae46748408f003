-- calls as the machine makes them: their beginnings, and their own steps by where a block comes from or goes to
use Rattle.std.proofs.Common.{◌≡◌, ℕ, ◌+◌, ◌-◌, ◌<◌, ◌≤◌, Bool, true, false, Option, None, Some, refl, ap, ◌∙◌, inl, inr, length, arith}
use Rattle.std.specs.Prelude.{if◌then◌else◌, nat_lt, Contains}
use Rattle.std.proofs.lemmas.Bool.{cases_eq}
use Rattle.std.proofs.lemmas.Bool.Decides.{nat_tests}
use Rattle.process_sums.proofs.Sums.{total_same}
use Rattle.word_layout.specs.Names.{InRange}
use Rattle.word_layout.specs.Sizes.{Sizes, IsShape, blocks}
use Rattle.word_layout.specs.declared.announced.Wish.{Wish}
use Rattle.word_layout.specs.declared.name.WordName.TheVariants.{State, Next, Data}
use Rattle.word_layout.proofs.Limits.{two_blocks_a_batch}
use Rattle.transfer_schedule.specs.Numbers as schedule
use Rattle.transfer_schedule.specs.declared.own_step.Source.TheVariants as source
use Rattle.transfer_schedule.specs.declared.own_step.Target.TheVariants as target
use Rattle.transfer_machine.specs.States.{StackState}
use Rattle.transfer_machine.specs.Words.{name_of}
use Rattle.transfer_machine.specs.declared.action.Action.TheVariants.{Load, Store}
use Rattle.pool_machine.specs.declared.call.Call.{Call}
use Rattle.pool_machine.specs.declared.call.Call.TheVariants.{Allocate, Free, Read, Write, Search}
use Rattle.pool_machine.specs.declared.view.ProcessView.{ProcessView}
use Rattle.pool_machine.specs.Beginning.{newest, due, begun_if_due, search_begun_by, call_begun}
use Rattle.pool_machine.specs.OwnSteps.{block_from, next_block, allocate_action, follower, own_action_for, allocated, freed, pool_own_met}
use Rattle.pool_machine.specs.Ready.{CanBegin, CanAllocate, CanFree, CanOwnFor, CanFollow, CanMeetOwnFor}
use Rattle.pool_machine.proofs.Plans.{due_begins}
use Rattle.transfer_invariant.specs.Memory.{Words, Acted}
use Rattle.batch_invariant.specs.Batches.{ProcessViews, MovedProcess, weight}
use Rattle.chain_invariant.specs.Calls.{with_got, held_by_call, NamesHeld}
use Rattle.chain_invariant.specs.Chains.{BlockLists, ChainsHold, Chains, MovedList, NextsStay, OtherNextsStay, blocks_weight, without}
use Rattle.chain_invariant.specs.Laws.{IsFree}
use Rattle.chain_invariant.specs.Steps.{SameParts}
use Rattle.chain_invariant.proofs.Gives.{current_lists_are_free, spares_are_free, held_are_apart}
use Rattle.chain_invariant.proofs.Moves.{beginning_keeps}
use Rattle.chain_invariant.proofs.OwnChains.{quiet_chains, leaving_chains, spare_chains, coming_chains, starting_chains}
use Rattle.chain_invariant.proofs.Transfers.{acts_elsewhere}

-- held blocks by other lists that say the same
held_hold : (sizes : Sizes) (words : Words) (s : StackState) (views : ProcessViews) (batches currents held held_after : BlockLists)
    → ChainsHold sizes words s views batches currents held
    → ((i : ℕ) → i < sizes.processes → held_after i ≡ held i) → ChainsHold sizes words s views batches currents held_after
unfolding blocks_weight
held_hold sizes words s views batches currents held held_after hold same = record {
  batches = hold.batches;
  currents = hold.currents;
  placed = λ f.
      let lists = total_same sizes.processes (λ i. weight f (currents i) + weight f (held i))
      (λ i. weight f (currents i) + weight f (held_after i)) (λ i li. ap (λ list. weight f (currents i) + weight f list) (same i li)) in
      omega (arith, lists, hold.placed f);
  replies = hold.replies;
}

-- chains speak of what each process holds, and of nothing else of the history
pub held_same : (sizes : Sizes) (words : Words) (s : StackState) (views : ProcessViews) (held held_after : BlockLists)
    → Chains sizes words s views held
    → ((i : ℕ) → i < sizes.processes → held_after i ≡ held i) → Chains sizes words s views held_after
held_same sizes words s views held held_after chains same = record {
  batch_blocks = chains.batch_blocks;
  current_blocks = chains.current_blocks;
  hold = held_hold sizes words s views chains.batch_blocks chains.current_blocks held held_after chains.hold same;
}

-- a load of a next word leaves all, a store all but one
same_next : (b block : ℕ) → Next b ≡ Next block → b ≡ block
same_next b block e = cc

loads_next : (sizes : Sizes) (block : ℕ) (m n : Words) → Acted sizes (Load (Next block)) m n → NextsStay sizes m n
loads_next sizes block m n a = λ b lt. elim (cases_eq b block) [
  | inl e ↦ rw e a.here
  | inr ne ↦ a.elsewhere (Next b) lt (λ e. ne (same_next b block e))
]

stores_next : (sizes : Sizes) (block word : ℕ) (m n : Words) → Acted sizes (Store (Next block) word) m n → OtherNextsStay sizes block m n
stores_next sizes block word m n a = λ b lt ne. a.elsewhere (Next b) lt (λ e. ne (same_next b block e))

-- what the tests of the plan say
tests_some : (n : ℕ) → nat_lt 0 n ≡ true → 1 ≤ n
tests_some n e = grind (arith, nat_tests)

tests_none : (n : ℕ) → nat_lt 0 n ≡ false → n ≡ 0
tests_none n e = grind (arith, nat_tests)

tests_less : (n m : ℕ) → nat_lt n m ≡ true → n < m
tests_less n m e = grind (arith, nat_tests)

tests_full : (n m : ℕ) → nat_lt n m ≡ false → m ≤ n
tests_full n m e = grind (arith, nat_tests)

took_current : (plan : schedule.Numbers) → nat_lt 0 plan.current ≡ true → (schedule.after_took_one plan).current ≡ plan.current - 1
took_current plan e = rw e refl

took_spare : (plan : schedule.Numbers) → nat_lt 0 plan.current ≡ false → nat_lt 0 plan.spares ≡ true
    → (schedule.after_took_one plan).current ≡ plan.length - 1
took_spare plan e some = rw (e, some) refl

took_none : (plan : schedule.Numbers) → nat_lt 0 plan.current ≡ false → nat_lt 0 plan.spares ≡ false
    → (schedule.after_took_one plan).current ≡ plan.current
took_none plan e none = rw (e, none) refl

gave_more : (plan : schedule.Numbers) → nat_lt plan.current plan.length ≡ true → (schedule.after_gave_one plan).current ≡ plan.current + 1
gave_more plan e = rw e refl

gave_fresh : (plan : schedule.Numbers) → nat_lt plan.current plan.length ≡ false → (schedule.after_gave_one plan).current ≡ 1
gave_fresh plan e = rw e refl

-- the own step of an allocate
module _ (sizes : Sizes) (words new : Words) (s : StackState) (views after : ProcessViews) (held held_after : BlockLists) (i : ℕ)
    (x : ProcessView) (shape : IsShape sizes) (li : i < sizes.processes)
    (chains : Chains sizes words s views held) (size : (views i).pool.plan.length ≡ sizes.length)
    (heads : length (views i).pool.heads ≡ (views i).pool.plan.spares)
    (transfer : x.transfer ≡ (views i).transfer) (moved : MovedProcess i x views after) where
  quiet : x.pool.head ≡ (views i).pool.head → x.pool.plan.current ≡ (views i).pool.plan.current → x.pool.heads ≡ (views i).pool.heads
      → NextsStay sizes words new → MovedList i (held i) held held_after
      → Chains sizes new s after held_after
  quiet head current spares stay same =
      held_same sizes new s after held held_after (quiet_chains sizes words new s views after held i x li chains
      (record { transfer = transfer; head = head; current = current; heads = spares }) moved stay)
      (λ o lo. elim (cases_eq o i) [ inl e ↦ rw e same.here | inr ne ↦ same.elsewhere o ne ])

  allocate_at : (t u : Bool) → nat_lt 0 (views i).pool.plan.current ≡ t → nat_lt 0 (views i).pool.plan.spares ≡ u → (word : ℕ)
      → word ≡ words (name_of (allocate_action (block_from (views i).pool
      (if t then source.Current else (if u then source.Spare else source.Nothing)))))
      → Acted sizes (allocate_action (block_from (views i).pool
      (if t then source.Current else (if u then source.Spare else source.Nothing)))) words new
      → x.pool ≡ allocated word (views i).pool (if t then source.Current else (if u then source.Spare else source.Nothing))
      → MovedList i (with_got (block_from (views i).pool (if t then source.Current else (if u then source.Spare else source.Nothing)))
      (held i)) held held_after
      → Chains sizes new s after held_after
  allocate_at true u et eu word met a pool gains =
      let some = tests_some (views i).pool.plan.current et in
      let lists = current_lists_are_free sizes words s views held i li chains in
      let first = lists.1 (λ e. omega arith) in
      leaving_chains sizes words new s views after held held_after i ((views i).pool.head - 1) x li chains (record {
        first = omega arith;
        some = some;
        head = ap (λ p. p.head) pool ∙ met;
        fewer = omega (arith, ap (λ p. p.plan.current) pool, took_current (views i).pool.plan et);
        heads = ap (λ p. p.heads) pool;
      }) transfer moved (loads_next sizes ((views i).pool.head - 1) words new a) gains
  allocate_at false true et eu word met a pool gains =
      spare_chains sizes words new s views after held held_after i (newest (views i).pool) x li chains (record {
        none = tests_none (views i).pool.plan.current et;
        some = omega (arith, heads, tests_some (views i).pool.plan.spares eu);
        newest = refl;
        heads = ap (λ p. p.heads) pool;
        head = ap (λ p. p.head) pool ∙ met;
        fewer = omega (arith, ap (λ p. p.plan.current) pool, took_spare (views i).pool.plan et eu, size, two_blocks_a_batch sizes shape);
      }) transfer moved (loads_next sizes (newest (views i).pool) words new a) gains
  allocate_at false false et eu word met a pool gains =
      quiet (ap (λ p. p.head) pool) (ap (λ p. p.plan.current) pool ∙ took_none (views i).pool.plan et eu) (ap (λ p. p.heads) pool)
      (acts_elsewhere sizes (Load State) words new (λ b e. cc) a) gains

  -- the own step of a free
  free_at : (t : Bool) (block : ℕ) → (views i).pool.plan.current ≤ sizes.length → Contains (held i) block
      → nat_lt (views i).pool.plan.current (views i).pool.plan.length ≡ t
      → Acted sizes (Store (Next block) (follower (views i).pool (if t then target.Current else target.Fresh))) words new
      → x.pool ≡ freed block (views i).pool (if t then target.Current else target.Fresh)
      → MovedList i (without block (held i)) held held_after
      → Chains sizes new s after held_after
  free_at true block within has et a pool loses =
      coming_chains sizes words new s views after held held_after i block x li chains has (record {
        room = omega (arith, tests_less (views i).pool.plan.current (views i).pool.plan.length et, size);
        next = a.here;
        head = ap (λ p. p.head) pool;
        more = ap (λ p. p.plan.current) pool ∙ gave_more (views i).pool.plan et;
        heads = ap (λ p. p.heads) pool;
      }) transfer moved (stores_next sizes block (views i).pool.head words new a) loses
  free_at false block within has et a pool loses =
      starting_chains sizes words new s views after held held_after i block x shape li chains has (record {
        full = omega (arith, tests_full (views i).pool.plan.current (views i).pool.plan.length et, size);
        next = a.here;
        head = ap (λ p. p.head) pool;
        alone = ap (λ p. p.plan.current) pool ∙ gave_fresh (views i).pool.plan et;
        heads = ap (λ p. p.heads) pool;
      }) transfer moved (stores_next sizes block 0 words new a) loses

  -- the own step of any call
  pub own_chains_at : (call : Option Call) → (views i).pool.plan.current ≤ sizes.length → NamesHeld sizes (held i) call
      → Acted sizes (own_action_for (views i).pool call) words new
      → x.pool ≡ pool_own_met (words (name_of (own_action_for (views i).pool call))) (views i).pool call
      → MovedList i (held_by_call (views i).pool call (held i)) held held_after
      → Chains sizes new s after held_after
  own_chains_at None within names a pool same =
      quiet (ap (λ p. p.head) pool) (ap (λ p. p.plan.current) pool) (ap (λ p. p.heads) pool)
      (acts_elsewhere sizes (Load State) words new (λ b e. cc) a) same
  own_chains_at (Some Allocate) within names a pool gains =
      allocate_at (nat_lt 0 (views i).pool.plan.current) (nat_lt 0 (views i).pool.plan.spares) refl refl
      (words (name_of (allocate_action (next_block (views i).pool)))) refl a pool gains
  own_chains_at (Some (Free block)) within names a pool loses =
      free_at (nat_lt (views i).pool.plan.current (views i).pool.plan.length) block within names refl a pool loses
  own_chains_at (Some (Read block index)) within names a pool same =
      quiet (ap (λ p. p.head) pool) (ap (λ p. p.plan.current) pool) (ap (λ p. p.heads) pool)
      (acts_elsewhere sizes (Load (Data block index)) words new (λ b e. cc) a) same
  own_chains_at (Some (Write block index value)) within names a pool same =
      quiet (ap (λ p. p.head) pool) (ap (λ p. p.plan.current) pool) (ap (λ p. p.heads) pool)
      (acts_elsewhere sizes (Store (Data block index) value) words new (λ b e. cc) a) same
  own_chains_at (Some Search) within names a pool gains =
      allocate_at (nat_lt 0 (views i).pool.plan.current) (nat_lt 0 (views i).pool.plan.spares) refl refl
      (words (name_of (allocate_action (next_block (views i).pool)))) refl a pool gains

-- the block that an allocate gets is free, and what its step names is in range
module _ (sizes : Sizes) (words : Words) (s : StackState) (views : ProcessViews) (held : BlockLists) (i : ℕ) (shape : IsShape sizes)
    (li : i < sizes.processes) (chains : Chains sizes words s views held)
    (heads : length (views i).pool.heads ≡ (views i).pool.plan.spares) where
  got_at : (t u : Bool) (block : ℕ) → nat_lt 0 (views i).pool.plan.current ≡ t → nat_lt 0 (views i).pool.plan.spares ≡ u
      → block_from (views i).pool (if t then source.Current else (if u then source.Spare else source.Nothing)) ≡ Some block
      → IsFree sizes held block
  got_at true u block et eu e =
      let lists = current_lists_are_free sizes words s views held i li chains in
      let same : (views i).pool.head - 1 ≡ block = cc in
      rw same at (lists.2 (λ none. omega (arith, none, tests_some (views i).pool.plan.current et)))
  got_at false true block et eu e =
      let same : newest (views i).pool ≡ block = cc in
      rw same at (spares_are_free sizes words s views held i (length (views i).pool.heads - 1) shape li chains
      (omega (arith, heads, tests_some (views i).pool.plan.spares eu))).0
  got_at false false block et eu e = absurd cc

  pub got_is_free : (block : ℕ) → next_block (views i).pool ≡ Some block → IsFree sizes held block
  got_is_free block e = got_at (nat_lt 0 (views i).pool.plan.current) (nat_lt 0 (views i).pool.plan.spares) block refl refl e

  -- of an allocate
  allocate_can : (t u : Bool) → nat_lt 0 (views i).pool.plan.current ≡ t → nat_lt 0 (views i).pool.plan.spares ≡ u
      → CanAllocate sizes (views i).pool (if t then source.Current else (if u then source.Spare else source.Nothing))
      × CanFollow (words (name_of (allocate_action (block_from (views i).pool
      (if t then source.Current else (if u then source.Spare else source.Nothing))))))
      (if t then source.Current else (if u then source.Spare else source.Nothing))
      × InRange sizes (name_of (allocate_action (block_from (views i).pool
      (if t then source.Current else (if u then source.Spare else source.Nothing)))))
  allocate_can true u et eu =
      let some = tests_some (views i).pool.plan.current et in
      let lists = current_lists_are_free sizes words s views held i li chains in
      let first = lists.1 (λ e. omega arith) in
      let free = lists.2 (λ e. omega arith) in
      let next = lists.3 (λ e. omega arith) in
      ((first, omega (arith, first, free.low)), omega (arith, next, shape.few_blocks), free.low)
  allocate_can false true et eu =
      let some : 1 ≤ length (views i).pool.heads = omega (arith, heads, tests_some (views i).pool.plan.spares eu) in
      let spare = spares_are_free sizes words s views held i (length (views i).pool.heads - 1) shape li chains (omega (arith, some)) in
      ((some, spare.0.low), omega (arith, spare.1, shape.few_blocks), spare.0.low)
  allocate_can false false et eu = (tt, tt, tt)

  -- of a free
  free_can : (t : Bool) → (views i).pool.plan.length ≡ sizes.length → (views i).pool.plan.current ≤ sizes.length
      → nat_lt (views i).pool.plan.current (views i).pool.plan.length ≡ t
      → ((views i).pool.plan.current ≡ sizes.length → length (views i).pool.heads < 3)
      → CanFree (views i).pool (if t then target.Current else target.Fresh)
  free_can true size within et room = tt
  free_can false size within et room =
      let whole = tests_full (views i).pool.plan.current (views i).pool.plan.length et in
      let full : (views i).pool.plan.current ≡ sizes.length = omega (arith, whole, size, within) in
      let lists = current_lists_are_free sizes words s views held i li chains in
      (lists.1 (λ e. omega (arith, e, full, two_blocks_a_batch sizes shape)), room full)

  held_low : (block : ℕ) → Contains (held i) block → block < blocks sizes
  held_low block has = (held_are_apart sizes words s views held i block li chains has).0

  -- of any call
  pub own_can_at : (call : Option Call) → (views i).pool.plan.length ≡ sizes.length → (views i).pool.plan.current ≤ sizes.length
      → NamesHeld sizes (held i) call
      → ((block : ℕ) → call ≡ Some (Free block) → (views i).pool.plan.current ≡ sizes.length → length (views i).pool.heads < 3)
      → CanOwnFor sizes (views i).pool call × CanMeetOwnFor (views i).pool (words (name_of (own_action_for (views i).pool call))) call
      × InRange sizes (name_of (own_action_for (views i).pool call))
  own_can_at None size within names room = (tt, tt, tt)
  own_can_at (Some Allocate) size within names room =
      allocate_can (nat_lt 0 (views i).pool.plan.current) (nat_lt 0 (views i).pool.plan.spares) refl refl
  own_can_at (Some (Free block)) size within names room = (
    (held_low block names, free_can (nat_lt (views i).pool.plan.current (views i).pool.plan.length) size within refl (room block refl)),
    tt,
    held_low block names,
  )
  own_can_at (Some (Read block index)) size within names room = ((held_low block names.0, names.1), tt, (held_low block names.0, names.1))
  own_can_at (Some (Write block index value)) size within names room =
      ((held_low block names.0, names.1), tt, (held_low block names.0, names.1))
  own_can_at (Some Search) size within names room =
      allocate_can (nat_lt 0 (views i).pool.plan.current) (nat_lt 0 (views i).pool.plan.spares) refl refl

-- a call begins, with the transfer that is due
module _ (sizes : Sizes) (words : Words) (s : StackState) (views after : ProcessViews) (held : BlockLists) (i : ℕ) (x : ProcessView)
    (li : i < sizes.processes) (chains : Chains sizes words s views held)
    (can : CanBegin (views i)) (moved : MovedProcess i x views after) where
  as_it_was : SameParts x (views i) → Chains sizes words s after held
  as_it_was same = quiet_chains sizes words words s views after held i x li chains (record {
    transfer = same.transfer;
    head = ap (λ p. p.head) same.pool;
    current = ap (λ p. p.plan.current) same.pool;
    heads = ap (λ p. p.heads) same.pool;
  }) moved (λ b lt. refl)

  pub due_begun : (wish : Option Wish) → due (views i).pool ≡ wish → SameParts x (begun_if_due wish (views i))
      → Chains sizes words s after held
  due_begun None e same = as_it_was same
  due_begun (Some wish) e same =
      let begins = due_begins (views i) wish can e in
      record {
        batch_blocks = chains.batch_blocks;
        current_blocks = chains.current_blocks;
        hold = beginning_keeps sizes words s views after chains.batch_blocks chains.current_blocks held i wish x li
            chains.hold begins.rest begins.may same moved;
      }

  -- a transfer that is due is begun, or none
  pub begun_so : (wish : Option Wish) → ((w : Wish) → wish ≡ Some w → due (views i).pool ≡ Some w)
      → SameParts x (begun_if_due wish (views i))
      → Chains sizes words s after held
  begun_so None e same = as_it_was same
  begun_so (Some wish) e same = due_begun (Some wish) (e wish refl) same

  pub call_begins : (call : Call) → SameParts x (call_begun call (views i)) → Chains sizes words s after held
  call_begins Allocate same = due_begun (due (views i).pool) refl (record { transfer = same.transfer; pool = same.pool })
  call_begins (Free block) same = due_begun (due (views i).pool) refl (record { transfer = same.transfer; pool = same.pool })
  call_begins (Read block index) same = as_it_was (record { transfer = same.transfer; pool = same.pool })
  call_begins (Write block index value) same = as_it_was (record { transfer = same.transfer; pool = same.pool })
  call_begins Search same = search_begins (schedule.is_idle (views i).pool.plan.pending) same
    where
      search_begins : (t : Bool) → SameParts x (search_begun_by t (views i)) → Chains sizes words s after held
      search_begins true same = due_begun (due (views i).pool) refl (record { transfer = same.transfer; pool = same.pool })
      search_begins false same = as_it_was (record { transfer = same.transfer; pool = same.pool })
