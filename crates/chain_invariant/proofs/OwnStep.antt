-- an own step of a process in general: its lists change, and the other lists and their chains stay
use Rattle.std.proofs.Common.{◌≡◌, ◌≢◌, ℕ, ◌+◌, ◌<◌, ◌≤◌, ◌==◌, true, false, refl, ap, inl, inr, List, arith}
use Rattle.std.specs.Prelude.{if◌then◌else◌}
use Rattle.std.proofs.lemmas.Bool.{cases_eq}
use Rattle.std.proofs.lemmas.Bool.Decides.{nat_tests}
use Rattle.process_sums.proofs.Sums.{total_moved}
use Rattle.word_layout.specs.Sizes.{Sizes}
use Rattle.transfer_machine.specs.States.{StackState}
use Rattle.pool_machine.specs.declared.view.ProcessView.{ProcessView}
use Rattle.transfer_invariant.specs.Memory.{Words}
use Rattle.batch_invariant.specs.Places.{moving}
use Rattle.batch_invariant.specs.Batches.{ProcessViews, MovedProcess, weight}
use Rattle.chain_invariant.specs.Chains.{BlockLists, ChainsHold, IsChainOf, MovedList, pool_weight, times_pooled, blocks_weight}
use Rattle.chain_invariant.proofs.Pool.{pool_moved}

-- lists of blocks with another one at one number
abbrev pub put_list : ℕ → List ℕ → BlockLists → BlockLists
put_list number list lists k = if k == number then list else lists k

-- a list that is put in the place of another moves that one alone
pub put_list_moved : (number : ℕ) (list : List ℕ) (lists : BlockLists) → MovedList number list lists (put_list number list lists)
put_list_moved number list lists = record { here = put_here; elsewhere = put_elsewhere }
  where
    put_here : put_list number list lists number ≡ list
    put_here = let test : (number == number) ≡ true = grind (arith, nat_tests) in rw test refl

    put_elsewhere : (other : ℕ) → other ≢ number → put_list number list lists other ≡ lists other
    put_elsewhere other ne = let test : (other == number) ≡ false = grind (arith, nat_tests) in rw test refl

-- the spares of the process change, its transfer stays
pub spares_moved : (sizes : Sizes) (s : StackState) (views after : ProcessViews) (i : ℕ) (x : ProcessView) (f : ℕ → ℕ) → i < sizes.processes
    → MovedProcess i x views after → x.transfer ≡ (views i).transfer
    → pool_weight sizes s after f + weight f (views i).pool.heads ≡ pool_weight sizes s views f + weight f x.pool.heads
spares_moved sizes s views after i x f li moved transfer =
    omega (arith, pool_moved sizes s views after i x f li moved, ap (λ v. weight f (moving s i v)) transfer)

-- an own step: the lists of one process change, and its spares
pub own_step : (sizes : Sizes) (words new : Words) (s : StackState) (views after : ProcessViews)
    (batches currents holds batches_after currents_after holds_after : BlockLists) (i : ℕ) (x : ProcessView) (chain held : List ℕ)
    → i < sizes.processes
    → ChainsHold sizes words s views batches currents holds
    → MovedProcess i x views after → x.transfer ≡ (views i).transfer
    → MovedList i chain currents currents_after → MovedList i held holds holds_after
    → ((head : ℕ) → 1 ≤ times_pooled sizes s after head → IsChainOf new (head + 1) sizes.length (batches_after head))
    → IsChainOf new x.pool.head x.pool.plan.current chain
    → ((o : ℕ) → o < sizes.processes → o ≢ i → IsChainOf new (views o).pool.head (views o).pool.plan.current (currents o))
    → ((f : ℕ → ℕ) → weight f chain + weight f held + pool_weight sizes s after (λ head. weight f (batches_after head))
    ≡ weight f (currents i) + weight f (holds i) + pool_weight sizes s views (λ head. weight f (batches head)))
    → ChainsHold sizes new s after batches_after currents_after holds_after
unfolding blocks_weight
own_step sizes words new s views after batches currents holds batches_after currents_after holds_after i x chain held
    li hold moved transfer currents_moved holds_moved each own others weights = record {
      batches = each;
      currents = λ o lo. elim (cases_eq o i) [
        | inl e ↦ rw e (rw (moved.here, currents_moved.here) own)
        | inr ne ↦ rw (moved.elsewhere o ne, currents_moved.elsewhere o ne) (others o lo ne)
      ];
      placed = λ f.
          let lists = λ (o : ℕ). weight f (currents o) + weight f (holds o) in
          let lists_after = λ (o : ℕ). weight f (currents_after o) + weight f (holds_after o) in
          let all = total_moved sizes.processes i lists lists_after li
          (λ o lo ne. rw (currents_moved.elsewhere o ne, holds_moved.elsewhere o ne) refl) in
          let chains = ap (weight f) currents_moved.here in
          let held_here = ap (weight f) holds_moved.here in
          omega (arith, all, chains, held_here, weights f, hold.placed f);
      replies = λ o lo. elim (cases_eq o i) [
        | inl e ↦ rw e (rw (moved.here, transfer) (hold.replies i li))
        | inr ne ↦ rw (moved.elsewhere o ne) (hold.replies o lo)
      ];
    }
