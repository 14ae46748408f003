-- a take that found nothing, on the states of the stack
use Rattle.std.specs.Prelude.{◌≡◌, ℕ, ◌+◌, ◌<◌, ◌≤◌, true}
use Rattle.word_layout.specs.Sizes.{Sizes}
use Rattle.transfer_machine.specs.States.{next_of}
use Rattle.transfer_machine.specs.Tries.{is_pending, is_take, announced_wish}
use Rattle.transfer_machine.specs.declared.transfer.TransferView.{TransferView}
use Rattle.transfer_invariant.specs.Memory.{Words, States, state_tag}
use Rattle.stack_invariant.specs.Following.{Follows}

-- the exchange from one of the states to the next applied the last transfer of the process, a take, to an empty content
pub record MetNothing (sizes : Sizes) (words : Words) (states : States) (process : ℕ) (v : TransferView) : Type 0 where
  pub before : ℕ
  pub some : 1 ≤ before
  pub earlier : before < state_tag words
  pub follows : Follows sizes (states before) (states (before + 1))
  -- this exchange applied it: before it all transfers of the process but this one were applied
  pub pending : is_pending (follows.announcements process) ((states before).reply process) ≡ true
  pub not_yet : (states before).applied process + 1 ≡ v.age
  pub applied : (states (before + 1)).applied process ≡ v.age
  pub take : is_take (announced_wish (follows.announcements process)) ≡ true
  -- once the announcements of the processes before it were met, nothing was left
  pub empty : (next_of process follows.announcements (states before)).height ≡ 0
