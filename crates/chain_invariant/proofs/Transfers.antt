-- the step of a transfer on the words: no next word changes, and the present state stays or the drafted one is installed
use Rattle.std.proofs.Common.{◌≢◌, ℕ, ◌<◌, refl}
use Rattle.word_layout.specs.Sizes.{Sizes, IsShape}
use Rattle.word_layout.specs.declared.name.WordName.TheVariants.{Next}
use Rattle.transfer_machine.specs.Machine.{action_of}
use Rattle.transfer_machine.specs.Words.{name_of}
use Rattle.transfer_machine.specs.declared.action.Action.{Action}
use Rattle.transfer_machine.specs.declared.transfer.TransferView.{TransferView}
use Rattle.pool_machine.specs.Pools.{view_met}
use Rattle.pool_machine.specs.declared.view.ProcessView.{ProcessView}
use Rattle.transfer_invariant.specs.Installing.{drafted_state, states_after}
use Rattle.transfer_invariant.specs.Memory.{Words, States, Acted, state_tag}
use Rattle.transfer_invariant.proofs.Acts.{leaves_other_words}
use Rattle.batch_invariant.specs.Batches.{ProcessViews, MovedProcess}
use Rattle.batch_invariant.specs.Premises.{InStep}
use Rattle.batch_invariant.proofs.Steps.{exchange_in_step}
use Rattle.chain_invariant.specs.Chains.{BlockLists, ChainsHold, NextsStay}
use Rattle.chain_invariant.specs.Laws.{ExchangeInstalls}
use Rattle.chain_invariant.specs.Steps.{SameParts}
use Rattle.chain_invariant.proofs.Moves.{words_stay, step_keeps, installs_carry}
use Rattle.chain_invariant.proofs.Present.{holds_after}

-- an action on another word leaves the next words
pub acts_elsewhere : (sizes : Sizes) (action : Action) (m n : Words) → ((b : ℕ) → Next b ≢ name_of action) → Acted sizes action m n
    → NextsStay sizes m n
acts_elsewhere sizes action m n other a = λ b lt. a.elsewhere (Next b) lt (other b)

-- so does a step of a transfer
transfer_keeps_nexts : (sizes : Sizes) (v : TransferView) (m n : Words) → Acted sizes (action_of sizes v) m n → NextsStay sizes m n
transfer_keeps_nexts sizes v m n a = λ b lt. leaves_other_words sizes v m n (Next b) a refl lt

-- every step of a transfer keeps the chains, also one that installs a state
pub transfer_keeps : (sizes : Sizes) (m n : Words) (views after : ProcessViews) (states : States)
    (batch_blocks current_blocks held_blocks : BlockLists) (i : ℕ) (x : ProcessView) → IsShape sizes → i < sizes.processes
    → ChainsHold sizes m (states (state_tag m)) views batch_blocks current_blocks held_blocks
    → InStep (states (state_tag m)) i (views i).transfer (m (name_of (action_of sizes (views i).transfer)))
    → ExchangeInstalls sizes m (states (state_tag m)) views (views i).transfer
    → Acted sizes (action_of sizes (views i).transfer) m n
    → SameParts x (view_met sizes (views i) (m (name_of (action_of sizes (views i).transfer)))) → MovedProcess i x views after
    → ChainsHold sizes n (states_after m (views i).transfer states (state_tag n)) after batch_blocks current_blocks held_blocks
transfer_keeps sizes m n views after states batch_blocks current_blocks held_blocks i x shape li hold step installs a parts moved =
    let v = (views i).transfer in
    let now = states (state_tag m) in
    let word = m (name_of (action_of sizes v)) in
    let stay = step_keeps sizes m now views after batch_blocks current_blocks held_blocks i word x li hold step parts moved in
    words_stay sizes m n (states_after m v states (state_tag n)) after batch_blocks current_blocks held_blocks
    (holds_after (λ t. ChainsHold sizes m t after batch_blocks current_blocks held_blocks) sizes m n v states v.next stay (λ second is same.
    let next = installs second is same in
    let drafted = drafted_state now v in (
      next.row,
      step_keeps sizes m drafted views after batch_blocks current_blocks held_blocks i word x li
          (installs_carry sizes m now views batch_blocks current_blocks held_blocks v shape hold next)
          (exchange_in_step drafted i v word second is) parts moved,
    )) a)
    (transfer_keeps_nexts sizes v m n a)
