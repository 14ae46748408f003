-- the own steps of a process, whatever the blocks of the batches and of the current lists are
use Rattle.std.proofs.Common.{◌≡◌, ℕ, ◌-◌, ◌<◌, [], ◌∷◌, arith}
use Rattle.std.specs.Prelude.{Contains}
use Rattle.word_layout.specs.Sizes.{Sizes, IsShape}
use Rattle.word_layout.proofs.Limits.{two_blocks_a_batch}
use Rattle.transfer_machine.specs.States.{StackState}
use Rattle.pool_machine.specs.declared.view.ProcessView.{ProcessView}
use Rattle.transfer_invariant.specs.Memory.{Words}
use Rattle.batch_invariant.specs.Batches.{ProcessViews, MovedProcess}
use Rattle.chain_invariant.specs.Chains.{BlockLists, Chains, MovedList, NextsStay, OtherNextsStay, without}
use Rattle.chain_invariant.specs.Steps.{FirstLeaves, SpareOpens, FirstComes, ListStarts, KeepsLists}
use Rattle.chain_invariant.proofs.OwnStep.{put_list}
use Rattle.chain_invariant.proofs.Own.{first_leaves, spare_opens, first_comes, list_starts, lists_stay}

module _ (sizes : Sizes) (words new : Words) (s : StackState) (views after : ProcessViews) (held : BlockLists) where
  pub quiet_chains : (i : ℕ) (x : ProcessView) → i < sizes.processes → Chains sizes words s views held → KeepsLists (views i) x
      → MovedProcess i x views after → NextsStay sizes words new
      → Chains sizes new s after held
  quiet_chains i x li chains keeps moved stay = record {
    batch_blocks = chains.batch_blocks;
    current_blocks = chains.current_blocks;
    hold = lists_stay sizes words new s views after chains.batch_blocks chains.current_blocks held held i 0 x li
        chains.hold moved keeps.transfer keeps stay;
  }

  pub leaving_chains : (held_after : BlockLists) (i block : ℕ) (x : ProcessView) → i < sizes.processes → Chains sizes words s views held
      → FirstLeaves words block (views i).pool x.pool
      → x.transfer ≡ (views i).transfer → MovedProcess i x views after → NextsStay sizes words new
      → MovedList i (block ∷ held i) held held_after → Chains sizes new s after held_after
  leaving_chains held_after i block x li chains leaves transfer moved stay gains =
      let (rest, hold) = first_leaves sizes words new s views after chains.batch_blocks chains.current_blocks held held_after i block x li
      chains.hold moved transfer leaves stay gains in
      record { batch_blocks = chains.batch_blocks; current_blocks = put_list i rest chains.current_blocks; hold = hold }

  pub spare_chains : (held_after : BlockLists) (i block : ℕ) (x : ProcessView) → i < sizes.processes → Chains sizes words s views held
      → SpareOpens sizes.length words block (views i).pool x.pool
      → x.transfer ≡ (views i).transfer → MovedProcess i x views after → NextsStay sizes words new
      → MovedList i (block ∷ held i) held held_after → Chains sizes new s after held_after
  spare_chains held_after i block x li chains opens transfer moved stay gains =
      let (rest, hold) = spare_opens sizes words new s views after chains.batch_blocks chains.current_blocks held held_after i block x li
      chains.hold moved transfer opens stay gains in
      record { batch_blocks = chains.batch_blocks; current_blocks = put_list i rest chains.current_blocks; hold = hold }

  pub coming_chains : (held_after : BlockLists) (i block : ℕ) (x : ProcessView) → i < sizes.processes → Chains sizes words s views held
      → Contains (held i) block
      → FirstComes sizes.length new block (views i).pool x.pool → x.transfer ≡ (views i).transfer → MovedProcess i x views after
      → OtherNextsStay sizes block words new
      → MovedList i (without block (held i)) held held_after → Chains sizes new s after held_after
  coming_chains held_after i block x li chains has comes transfer moved stay loses = record {
    batch_blocks = chains.batch_blocks;
    current_blocks = put_list i (block ∷ chains.current_blocks i) chains.current_blocks;
    hold = first_comes sizes words new s views after chains.batch_blocks chains.current_blocks held held_after i block x li
        chains.hold moved transfer has comes stay loses;
  }

  pub starting_chains : (held_after : BlockLists) (i block : ℕ) (x : ProcessView) → IsShape sizes → i < sizes.processes
      → Chains sizes words s views held → Contains (held i) block
      → ListStarts sizes.length new block (views i).pool x.pool → x.transfer ≡ (views i).transfer → MovedProcess i x views after
      → OtherNextsStay sizes block words new
      → MovedList i (without block (held i)) held held_after → Chains sizes new s after held_after
  starting_chains held_after i block x shape li chains has starts transfer moved stay loses = record {
    batch_blocks = put_list ((views i).pool.head - 1) (chains.current_blocks i) chains.batch_blocks;
    current_blocks = put_list i (block ∷ []) chains.current_blocks;
    hold = list_starts sizes words new s views after chains.batch_blocks chains.current_blocks held held_after i block x li
        chains.hold moved transfer
        (omega (arith, two_blocks_a_batch sizes shape)) starts has stay loses;
  }
