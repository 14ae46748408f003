-- what other parts of the invariant say of a step, as far as batches need it
use Rattle.std.specs.Prelude.{◌≡◌, ℕ, ◌+◌, ◌<◌, true, false, slice_index}
use Rattle.word_layout.specs.Sizes.{Sizes}
use Rattle.word_layout.specs.Packing.{value_limit, value_of, announced_word}
use Rattle.transfer_machine.specs.States.{StackState, next_of}
use Rattle.transfer_machine.specs.Tries.{is_pending}
use Rattle.transfer_machine.specs.declared.transfer.TransferView.{TransferView}
use Rattle.transfer_machine.specs.declared.stage.NextStep.TheVariants.{LoadReply}
use Rattle.transfer_invariant.specs.Progress.{has_announced}
use Rattle.transfer_invariant.specs.Installing.{drafted_state}
use Rattle.batch_invariant.specs.Batches.{ProcessViews}

-- a transfer whose next step meets this word is in step with the present state: none is left to apply unless one is announced,
-- and the reply that ends it is the state's
pub record InStep (s : StackState) (process : ℕ) (v : TransferView) (word : ℕ) : Type 0 where
  pub calm : has_announced v.next ≡ false → s.applied process ≡ v.age
  pub reply : v.next ≡ LoadReply → value_of word ≡ s.reply process
  pub applied : v.next ≡ LoadReply → s.applied process ≡ v.age

-- an announcement that is pending against a state is the present one of its process: of its announced transfer, which isn't applied
pub record PendingIsPresent (s : StackState) (announcement process : ℕ) (v : TransferView) : Type 0 where
  pub announced : is_pending announcement (s.reply process) ≡ true → has_announced v.next ≡ true
  pub word : is_pending announcement (s.reply process) ≡ true → announcement ≡ announced_word (record { number = v.age; wish = v.wish })
  pub next : is_pending announcement (s.reply process) ≡ true → s.applied process + 1 ≡ v.age

-- two states have the same content, and the same replies and applied transfers of the processes
pub record SameStack (processes : ℕ) (s t : StackState) : Type 0 where
  pub height : t.height ≡ s.height
  pub content : (place : ℕ) → place < s.height → t.content place ≡ s.content place
  pub reply : (i : ℕ) → i < processes → t.reply i ≡ s.reply i
  pub applied : (i : ℕ) → i < processes → t.applied i ≡ s.applied i

-- a view that installs the state after this one: its pending announcements are present, and it drafted what they make of this state
pub record InstallsNext (sizes : Sizes) (s : StackState) (views : ProcessViews) (v : TransferView) : Type 0 where
  pub row : v.next_record < value_limit
  pub present : (o : ℕ) → o < sizes.processes → PendingIsPresent s (slice_index v.loaded.announcements o) o (views o).transfer
  pub drafted : SameStack sizes.processes (next_of sizes.processes (λ o. slice_index v.loaded.announcements o) s) (drafted_state s v)
