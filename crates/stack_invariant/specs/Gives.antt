-- what the invariant gives: of a state that is installed, of a reply that is loaded, and of each process
use Rattle.std.specs.Prelude.{◌≡◌, ℕ, ◌+◌, ◌<◌, ◌≤◌, Bool, true, slice_index}
use Rattle.word_layout.specs.Sizes.{Sizes, blocks}
use Rattle.word_layout.specs.Packing.{value_of}
use Rattle.transfer_machine.specs.Loads.{loaded_base, overlay_length}
use Rattle.transfer_machine.specs.States.{StackState, next_of}
use Rattle.transfer_machine.specs.Tries.{is_pending}
use Rattle.transfer_machine.specs.declared.transfer.TransferView.{TransferView}
use Rattle.transfer_machine.specs.declared.stage.NextStep.TheVariants.{Try}
use Rattle.transfer_machine.specs.declared.stage.TryStep.TheVariants.{LoadCoveredSlot, ExchangeSlot}
use Rattle.transfer_invariant.specs.Memory.{Words, Views, States, state_tag}
use Rattle.transfer_invariant.specs.Installing.{drafted_state}
use Rattle.transfer_invariant.specs.Progress.{has_record}
use Rattle.helping_invariant.specs.Laws.{PendsNow, AppliedCount, reply_word}
use Rattle.draft_invariant.specs.Laws.{CoversWithin}
use Rattle.draft_invariant.specs.NextState.{SameState}

-- the present state
abbrev pub present : Words → States → StackState
present words states = states (state_tag words)

-- what the announcements that a view loaded make of a state
abbrev pub next_by : Sizes → TransferView → StackState → StackState
next_by sizes v s = next_of sizes.processes (λ o. slice_index v.loaded.announcements o) s

-- whoever installs a state installs the next one
pub record Installs (sizes : Sizes) (words : Words) (views : Views) (states : States) (i : ℕ) : Type 0 where
  -- it applies the loaded announcements
  pub next : SameState sizes.processes (drafted_state (present words states) (views i)) (next_by sizes (views i) (present words states))
  -- of which the pending ones are present
  pub pending : (o : ℕ) → o < sizes.processes
      → is_pending (slice_index (views i).loaded.announcements o) ((present words states).reply o) ≡ true
      → PendsNow words states o (views i) (views o)
  -- and its heads are blocks
  pub heads : (k : ℕ) → slice_index (views i).draft.heads k < blocks sizes

-- the reply that a view is about to load is that of the present state, which has applied its transfer
pub record ReplyIsPresent (sizes : Sizes) (words : Words) (states : States) (i : ℕ) (v : TransferView) : Type 0 where
  pub reply : value_of (reply_word sizes words v) ≡ (present words states).reply i
  pub applied : (present words states).applied i ≡ v.age

-- of each process
pub record ProcessHolds (sizes : Sizes) (words : Words) (states : States) (o : ℕ) (v : TransferView) : Type 0 where
  -- its view has its number, and all its transfers are applied but the last one that may still pend
  pub number : v.number ≡ o
  pub counts : AppliedCount words states o v
  -- its loaded overlay has at most one head for each process, and lies in the slots
  pub overlay : has_record v.next ≡ true → overlay_length v.loaded ≤ sizes.processes
  pub within : has_record v.next ≡ true → loaded_base v.loaded + overlay_length v.loaded ≤ sizes.batches
  -- so does the covered slot of its next step
  pub covers : CoversWithin v
  pub loads_slot : (second : Bool) (offset : ℕ) → v.next ≡ Try second (LoadCoveredSlot offset)
      → loaded_base v.loaded + offset < sizes.batches
  pub exchanges_slot : (second : Bool) (offset : ℕ) → v.next ≡ Try second (ExchangeSlot offset)
      → loaded_base v.loaded + offset < sizes.batches
