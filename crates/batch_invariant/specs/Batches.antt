-- the views of processes, and which of their changes keep their batches
use Rattle.std.specs.Prelude.{◌≡◌, ◌≢◌, ℕ, ◌+◌, true, false, List}
use Rattle.std.specs.List.{sum_by}
use Rattle.word_layout.specs.Packing.{reply_of}
use Rattle.word_layout.specs.declared.reply.Reply.TheVariants.{Gave}
use Rattle.transfer_machine.specs.States.{StackState}
use Rattle.transfer_machine.specs.Tries.{is_take}
use Rattle.transfer_machine.specs.declared.transfer.TransferView.{TransferView}
use Rattle.pool_machine.specs.declared.view.ProcessView.{ProcessView}
use Rattle.transfer_invariant.specs.Progress.{has_announced}
use Rattle.batch_invariant.specs.Places.{moving}

-- the views of the processes, with their pools
abbrev pub ProcessViews : Type 0
ProcessViews = ℕ → ProcessView

-- the view of one process becomes another, all others stay
pub record MovedProcess (process : ℕ) (v : ProcessView) (old new : ProcessViews) : Type 0 where
  pub here : new process ≡ v
  pub elsewhere : (other : ℕ) → other ≢ process → new other ≡ old other

-- the weight of batches: the sum of a number of each head
abbrev pub weight : (ℕ → ℕ) → List ℕ → ℕ
weight f heads = sum_by f heads

-- the weight of the batches of a process that it may give, gives or gets: of its spares, and of the one in transit
abbrev pub process_weight : StackState → ℕ → ProcessView → (ℕ → ℕ) → ℕ
process_weight s process v f = weight f v.pool.heads + weight f (moving s process v.transfer)

-- where the announced transfer of a process is applied, the state's reply is one to its wish
pub record ReplyMatches (s : StackState) (process : ℕ) (v : TransferView) : Type 0 where
  pub gave : has_announced v.next ≡ true → s.applied process ≡ v.age → is_take v.wish ≡ false → reply_of (s.reply process) ≡ Gave
  pub took : has_announced v.next ≡ true → s.applied process ≡ v.age → is_take v.wish ≡ true → reply_of (s.reply process) ≢ Gave

-- a view becomes one with the same batches, whatever number counts for a head, and the reply matches it if it matched before
pub record KeepsBatches (s : StackState) (process : ℕ) (old new : ProcessView) : Type 0 where
  pub same_weight : (f : ℕ → ℕ) → process_weight s process new f ≡ process_weight s process old f
  pub matches : ReplyMatches s process old.transfer → ReplyMatches s process new.transfer
