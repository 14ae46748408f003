-- the own steps of a process: a block leaves its lists and is held, or a held block comes to them
use Rattle.std.proofs.Common.{sym, ◌≡◌, ℕ, ◌+◌, ◌-◌, ◌*◌, ◌<◌, ◌≤◌, ap, inl, inr, List, [], ◌∷◌, length, arith}
use Rattle.std.specs.Prelude.{Contains}
use Rattle.std.proofs.lemmas.Bool.{cases_eq, cases_lt}
use Rattle.std.proofs.lemmas.List.Sums.{sum_by-cons, sum_by_push}
use Rattle.process_sums.specs.Sums.{total}
use Rattle.word_layout.specs.Sizes.{Sizes, blocks}
use Rattle.transfer_machine.specs.States.{StackState}
use Rattle.pool_machine.specs.declared.view.ProcessView.{ProcessView}
use Rattle.transfer_invariant.specs.Memory.{Words}
use Rattle.batch_invariant.specs.Batches.{ProcessViews, MovedProcess, weight}
use Rattle.batch_invariant.proofs.Steps.{spares_parted}
use Rattle.chain_invariant.specs.Chains.{BlockLists, ChainsHold, IsChainOf, MovedList, NextsStay, OtherNextsStay, pool_weight, times_pooled}
use Rattle.chain_invariant.specs.Chains.{blocks_weight, without, is_head}
use Rattle.chain_invariant.specs.Steps.{FirstLeaves, SpareOpens, FirstComes, ListStarts, KeepsLists}
use Rattle.chain_invariant.proofs.Weights.{counts_no_other, has_weighs, weight_without}
use Rattle.chain_invariant.proofs.Pool.{spare_pooled, pool_same}
use Rattle.chain_invariant.proofs.Lists.{Begins, begins, rest_chain, longer_chain, chain_stays, empty_chain, no_chain}
use Rattle.chain_invariant.proofs.Places.{batch_stays, current_stays, batch_stays_but, current_stays_but, held_once, begin_weighs}
use Rattle.chain_invariant.proofs.Places.{head_weighs, current_in_no_batch}
use Rattle.chain_invariant.proofs.OwnStep.{put_list, put_list_moved, spares_moved, own_step}

module _ (sizes : Sizes) (words new : Words) (s : StackState) (views after : ProcessViews) (batches currents holds holds_after : BlockLists)
    (i block : ℕ) (x : ProcessView) (li : i < sizes.processes)
    (hold : ChainsHold sizes words s views batches currents holds) (moved : MovedProcess i x views after)
    (transfer : x.transfer ≡ (views i).transfer) where
  pooled_before : (head : ℕ) → x.pool.heads ≡ (views i).pool.heads → times_pooled sizes s after head ≡ times_pooled sizes s views head
  pooled_before head same =
      omega (arith, spares_moved sizes s views after i x (is_head head) li moved transfer, ap (weight (is_head head)) same)

  same_blocks : (f : ℕ → ℕ) → x.pool.heads ≡ (views i).pool.heads
      → blocks_weight sizes s after batches currents holds f ≡ total (blocks sizes) f
  unfolding blocks_weight
  same_blocks f heads =
      let g = λ (head : ℕ). weight f (batches head) in
      omega (arith, hold.placed f, spares_moved sizes s views after i x g li moved transfer, ap (weight g) heads)

  -- all chains stay where all next words stay
  batches_stay : NextsStay sizes words new → (head : ℕ) → 1 ≤ times_pooled sizes s views head
      → IsChainOf new (head + 1) sizes.length (batches head)
  batches_stay stay head pooled =
      chain_stays words new (head + 1) sizes.length (batches head)
      (batch_stays sizes words s views batches currents holds hold new head stay pooled) (hold.batches head pooled)

  currents_stay : NextsStay sizes words new → (o : ℕ) → o < sizes.processes
      → IsChainOf new (views o).pool.head (views o).pool.plan.current (currents o)
  currents_stay stay o lo =
      chain_stays words new (views o).pool.head (views o).pool.plan.current (currents o)
      (current_stays sizes words s views batches currents holds hold new o stay lo) (hold.currents o lo)

  -- a list without its first block and that block weigh what the list weighs
  parted : (f : ℕ → ℕ) (first : ℕ) (rest whole : List ℕ) → whole ≡ first ∷ rest → first ≡ block
      → weight f rest + weight f (block ∷ holds i) ≡ weight f whole + weight f (holds i)
  parted f first rest whole is named =
      omega (arith, ap (weight f) is, sum_by-cons f first rest, sum_by-cons f block (holds i), ap f named)

  -- the first block of the current list leaves
  first_weights : (f : ℕ → ℕ) (first : ℕ) (rest : List ℕ) → currents i ≡ first ∷ rest → first ≡ block → x.pool.heads ≡ (views i).pool.heads
      → weight f rest + weight f (block ∷ holds i) + pool_weight sizes s after (λ head. weight f (batches head))
      ≡ weight f (currents i) + weight f (holds i) + pool_weight sizes s views (λ head. weight f (batches head))
  first_weights f first rest is named heads =
      let g = λ (head : ℕ). weight f (batches head) in
      omega (
        arith,
        parted f first rest (currents i) is named,
        spares_moved sizes s views after i x g li moved transfer,
        ap (weight g) heads,
      )

  first_leaves_at : FirstLeaves words block (views i).pool x.pool → NextsStay sizes words new
      → MovedList i (block ∷ holds i) holds holds_after
      → (b : Begins words (views i).pool.head (views i).pool.plan.current (currents i))
      → ChainsHold sizes new s after batches (put_list i b.rest currents) holds_after
  first_leaves_at leaves stay gains b =
      let named : b.first ≡ block = omega (arith, b.named, leaves.first) in
      own_step sizes words new s views after batches currents holds batches (put_list i b.rest currents) holds_after i x b.rest
      (block ∷ holds i) li hold moved transfer (put_list_moved i b.rest currents) gains
      (λ head pooled. batches_stay stay head (omega (arith, pooled, pooled_before head leaves.heads)))
      (rw leaves.head (rest_chain words new (views i).pool.head (views i).pool.plan.current
      (currents i) block x.pool.plan.current b named leaves.fewer
      (current_stays sizes words s views batches currents holds hold new i stay li)))
      (λ o lo ne. currents_stay stay o lo)
      (λ f. first_weights f b.first b.rest b.is named leaves.heads)

  pub first_leaves : FirstLeaves words block (views i).pool x.pool → NextsStay sizes words new
      → MovedList i (block ∷ holds i) holds holds_after
      → (rest : List ℕ) × ChainsHold sizes new s after batches (put_list i rest currents) holds_after
  first_leaves leaves stay gains =
      let b = begins words (views i).pool.head (views i).pool.plan.current (currents i) leaves.some (hold.currents i li) in
      (b.rest, first_leaves_at leaves stay gains b)

  -- the newest spare becomes the current list, and its first block leaves
  spare_weights : (g : ℕ → ℕ) → SpareOpens sizes.length words block (views i).pool x.pool
      → pool_weight sizes s after g + g block ≡ pool_weight sizes s views g
  spare_weights g opens =
      omega (
        arith,
        spares_moved sizes s views after i x g li moved transfer,
        ap (weight g) opens.heads,
        spares_parted g (views i).pool.heads block opens.some opens.newest,
      )

  spare_is_pooled : SpareOpens sizes.length words block (views i).pool x.pool → 1 ≤ times_pooled sizes s views block
  spare_is_pooled opens = rw opens.newest at (spare_pooled sizes s views i (length (views i).pool.heads - 1) li (omega (arith, opens.some)))

  opened_weights : (f : ℕ → ℕ) (first : ℕ) (rest : List ℕ) → batches block ≡ first ∷ rest → first ≡ block → currents i ≡ []
      → SpareOpens sizes.length words block (views i).pool x.pool
      → weight f rest + weight f (block ∷ holds i) + pool_weight sizes s after (λ head. weight f (batches head))
      ≡ weight f (currents i) + weight f (holds i) + pool_weight sizes s views (λ head. weight f (batches head))
  opened_weights f first rest is named none opens =
      omega (
        arith,
        parted f first rest (batches block) is named,
        ap (weight f) none,
        spare_weights (λ head. weight f (batches head)) opens,
      )

  spare_opens_at : SpareOpens sizes.length words block (views i).pool x.pool → NextsStay sizes words new
      → MovedList i (block ∷ holds i) holds holds_after
      → (b : Begins words (block + 1) sizes.length (batches block))
      → ChainsHold sizes new s after batches (put_list i b.rest currents) holds_after
  spare_opens_at opens stay gains b =
      let named : b.first ≡ block = omega (arith, b.named) in
      let none = empty_chain words (views i).pool.head (views i).pool.plan.current (currents i) opens.none (hold.currents i li) in
      own_step sizes words new s views after batches currents holds batches (put_list i b.rest currents) holds_after i x b.rest
      (block ∷ holds i) li hold moved transfer (put_list_moved i b.rest currents) gains
      (λ head pooled. batches_stay stay head (omega (arith, pooled, spare_weights (is_head head) opens)))
      (rw opens.head (rest_chain words new (block + 1) sizes.length (batches block) block x.pool.plan.current b named opens.fewer
      (batch_stays sizes words s views batches currents holds hold new block stay (spare_is_pooled opens))))
      (λ o lo ne. currents_stay stay o lo)
      (λ f. opened_weights f b.first b.rest b.is named none opens)

  pub spare_opens : SpareOpens sizes.length words block (views i).pool x.pool → NextsStay sizes words new
      → MovedList i (block ∷ holds i) holds holds_after
      → (rest : List ℕ) × ChainsHold sizes new s after batches (put_list i rest currents) holds_after
  spare_opens opens stay gains =
      let b = begins words (block + 1) sizes.length (batches block) (omega (arith, opens.fewer))
      (hold.batches block (spare_is_pooled opens)) in
      (b.rest, spare_opens_at opens stay gains b)

  -- a held block comes: all chains stay, since none has it
  batches_stay_but : Contains (holds i) block → OtherNextsStay sizes block words new → (head : ℕ) → 1 ≤ times_pooled sizes s views head
      → IsChainOf new (head + 1) sizes.length (batches head)
  batches_stay_but has stay head pooled = chain_stays words new (head + 1) sizes.length (batches head)
      (batch_stays_but sizes words s views batches currents holds hold new i block head li (has_weighs (holds i) block has) stay pooled)
      (hold.batches head pooled)

  currents_stay_but : Contains (holds i) block → OtherNextsStay sizes block words new → (o : ℕ) → o < sizes.processes
      → IsChainOf new (views o).pool.head (views o).pool.plan.current (currents o)
  currents_stay_but has stay o lo = chain_stays words new (views o).pool.head (views o).pool.plan.current (currents o)
      (current_stays_but sizes words s views batches currents holds hold new i block o li (has_weighs (holds i) block has) stay lo)
      (hold.currents o lo)

  lost_weight : (f : ℕ → ℕ) → Contains (holds i) block → weight f (without block (holds i)) + f block ≡ weight f (holds i)
  lost_weight f has =
      let one = held_once sizes words s views batches currents holds hold i block li (has_weighs (holds i) block has) in
      let less = rw one at (weight_without f block (holds i)) in omega (arith, less, once_times (f block))
    where
      once_times : (n : ℕ) → 1 * n ≡ n
      once_times n = omega arith

  -- it comes before the current list
  coming_weights : (f : ℕ → ℕ) → Contains (holds i) block → x.pool.heads ≡ (views i).pool.heads
      → weight f (block ∷ currents i) + weight f (without block (holds i)) + pool_weight sizes s after (λ head. weight f (batches head))
      ≡ weight f (currents i) + weight f (holds i) + pool_weight sizes s views (λ head. weight f (batches head))
  coming_weights f has heads =
      let g = λ (head : ℕ). weight f (batches head) in
      omega (
        arith,
        sum_by-cons f block (currents i),
        lost_weight f has,
        spares_moved sizes s views after i x g li moved transfer,
        ap (weight g) heads,
      )

  pub first_comes : Contains (holds i) block → FirstComes sizes.length new block (views i).pool x.pool
      → OtherNextsStay sizes block words new → MovedList i (without block (holds i)) holds holds_after
      → ChainsHold sizes new s after batches (put_list i (block ∷ currents i) currents) holds_after
  first_comes has comes stay loses =
      own_step sizes words new s views after batches currents holds batches (put_list i (block ∷ currents i) currents) holds_after i x
      (block ∷ currents i) (without block (holds i)) li hold moved transfer
      (put_list_moved i (block ∷ currents i) currents) loses
      (λ head pooled. batches_stay_but has stay head (omega (arith, pooled, pooled_before head comes.heads)))
      (rw (comes.head, comes.more) (longer_chain new (views i).pool.head (views i).pool.plan.current block (currents i) comes.next
      (currents_stay_but has stay i li)))
      (λ o lo ne. currents_stay_but has stay o lo)
      (λ f. coming_weights f has comes.heads)

  -- the full current list becomes the newest spare: its head was that of no batch
  module _ (long : 1 ≤ sizes.length) (starts : ListStarts sizes.length new block (views i).pool x.pool) where
    list_begins : Begins words (views i).pool.head (views i).pool.plan.current (currents i)
    list_begins = begins words (views i).pool.head (views i).pool.plan.current (currents i) (omega (arith, starts.full))
        (hold.currents i li)

    head_code : (views i).pool.head - 1 + 1 ≡ (views i).pool.head
    head_code = omega (arith, list_begins.named)

    head_in_list : 1 ≤ weight (is_head ((views i).pool.head - 1)) (currents i)
    head_in_list =
        let same : list_begins.first ≡ (views i).pool.head - 1 = omega (arith, list_begins.named) in
        rw same at (begin_weighs words (views i).pool.head (views i).pool.plan.current (currents i) list_begins)

    head_is_fresh : times_pooled sizes s views ((views i).pool.head - 1) ≡ 0
    head_is_fresh = elim (cases_lt 0 (times_pooled sizes s views ((views i).pool.head - 1))) [
      | inl lt ↦ absurd (omega (
        arith,
        head_weighs sizes words s views batches currents holds hold ((views i).pool.head - 1) long lt,
        current_in_no_batch sizes words s views batches currents holds hold i ((views i).pool.head - 1)
            ((views i).pool.head - 1) li lt head_in_list,
      ))
      | inr le ↦ omega arith
    ]

    started_pool : (g : ℕ → ℕ) → pool_weight sizes s after g ≡ pool_weight sizes s views g + g ((views i).pool.head - 1)
    started_pool g = omega (
      arith,
      spares_moved sizes s views after i x g li moved transfer,
      ap (weight g) starts.heads,
      sum_by_push g (views i).pool.heads ((views i).pool.head - 1),
    )

    new_batch : Contains (holds i) block → OtherNextsStay sizes block words new
        → IsChainOf new ((views i).pool.head - 1 + 1) sizes.length (currents i)
    new_batch has stay = rw head_code (rw starts.full at (currents_stay_but has stay i li))

    new_batches : Contains (holds i) block → OtherNextsStay sizes block words new → (head : ℕ) → 1 ≤ times_pooled sizes s after head
        → IsChainOf new (head + 1) sizes.length (put_list ((views i).pool.head - 1) (currents i) batches head)
    new_batches has stay head pooled =
        let put = put_list_moved ((views i).pool.head - 1) (currents i) batches in
        elim (cases_eq head ((views i).pool.head - 1)) [
          | inl e ↦ rw e (rw put.here (new_batch has stay))
          | inr ne ↦ rw (put.elsewhere head ne) (batches_stay_but has stay head
              (omega (arith, pooled, started_pool (is_head head), counts_no_other head ((views i).pool.head - 1) (λ e. ne (sym e)))))
        ]

    old_weights : (f : ℕ → ℕ)
        → pool_weight sizes s views (λ head. weight f (put_list ((views i).pool.head - 1) (currents i) batches head))
        ≡ pool_weight sizes s views (λ head. weight f (batches head))
    old_weights f = pool_same sizes s views (λ head. weight f (batches head))
        (λ head. weight f (put_list ((views i).pool.head - 1) (currents i) batches head)) (λ head pooled.
        ap (weight f) ((put_list_moved ((views i).pool.head - 1) (currents i) batches).elsewhere head (λ e. fresh head e pooled)))
      where
        fresh : (head : ℕ) → head ≡ (views i).pool.head - 1 → 1 ≤ times_pooled sizes s views head → ⊥
        fresh head e pooled = let here = rw e at pooled in omega (arith, here, head_is_fresh)

    starting_weights : (f : ℕ → ℕ) → Contains (holds i) block
        → weight f (block ∷ []) + weight f (without block (holds i))
        + pool_weight sizes s after (λ head. weight f (put_list ((views i).pool.head - 1) (currents i) batches head))
        ≡ weight f (currents i) + weight f (holds i) + pool_weight sizes s views (λ head. weight f (batches head))
    starting_weights f has =
        let put = put_list_moved ((views i).pool.head - 1) (currents i) batches in
        omega (
          arith,
          sum_by-cons f block [],
          lost_weight f has,
          started_pool (λ head. weight f (put_list ((views i).pool.head - 1) (currents i) batches head)),
          ap (weight f) put.here,
          old_weights f,
        )

    pub list_starts : Contains (holds i) block → OtherNextsStay sizes block words new
        → MovedList i (without block (holds i)) holds holds_after
        → ChainsHold sizes new s after (put_list ((views i).pool.head - 1) (currents i) batches)
        (put_list i (block ∷ []) currents) holds_after
    list_starts has stay loses =
        own_step sizes words new s views after batches currents holds (put_list ((views i).pool.head - 1) (currents i) batches)
        (put_list i (block ∷ []) currents) holds_after i x (block ∷ []) (without block (holds i))
        li hold moved transfer (put_list_moved i (block ∷ []) currents) loses
        (new_batches has stay)
        (rw (starts.head, starts.alone) (longer_chain new 0 0 block [] starts.next (no_chain new)))
        (λ o lo ne. currents_stay_but has stay o lo)
        (λ f. starting_weights f has)

  -- a step that changes no list
  pub lists_stay : KeepsLists (views i) x → NextsStay sizes words new → ChainsHold sizes new s after batches currents holds
  lists_stay keeps stay = record {
    batches = λ head pooled. batches_stay stay head (omega (arith, pooled, pooled_before head keeps.heads));
    currents = λ o lo. elim (cases_eq o i) [
      | inl e ↦ rw e (rw (moved.here, keeps.head, keeps.current) (currents_stay stay i li))
      | inr ne ↦ rw (moved.elsewhere o ne) (currents_stay stay o lo)
    ];
    placed = λ f. same_blocks f keeps.heads;
    replies = λ o lo. elim (cases_eq o i) [
      | inl e ↦ rw e (rw (moved.here, transfer) (hold.replies i li))
      | inr ne ↦ rw (moved.elsewhere o ne) (hold.replies o lo)
    ];
  }
