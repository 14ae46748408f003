-- how the states of the stack follow one another
use Rattle.std.specs.Prelude.{◌≡◌, ℕ, ◌+◌, ◌<◌, ◌≤◌, true}
use Rattle.word_layout.specs.Sizes.{Sizes, blocks}
use Rattle.word_layout.specs.Packing.{tag_of, value_of}
use Rattle.transfer_machine.specs.States.{StackState, next_of}
use Rattle.transfer_machine.specs.Tries.{is_pending}
use Rattle.transfer_invariant.specs.Memory.{Words, States, state_tag}
use Rattle.transfer_invariant.specs.OpeningState.{opening_state}
use Rattle.draft_invariant.specs.NextState.{SameState}

-- a state follows another: it is that one with the pending ones of some announcements applied, in the order of the processes
pub record Follows (sizes : Sizes) (s t : StackState) : Type 0 where
  pub announcements : ℕ → ℕ
  pub next : SameState sizes.processes t (next_of sizes.processes announcements s)
  -- a pending one is of the next transfer of its process, which so is applied only once
  pub fresh : (o : ℕ) → o < sizes.processes → is_pending (announcements o) (s.reply o) ≡ true → tag_of (announcements o) ≡ s.applied o + 1
  -- what it gives is a block
  pub heads : (o : ℕ) → value_of (announcements o) ≤ blocks sizes

-- The states follow one another: state 1 is that of the opening, each later one up to the present one follows the one before
pub record StatesFollow (sizes : Sizes) (words : Words) (states : States) : Type 0 where
  pub opened : states 1 ≡ opening_state sizes
  pub some : 1 ≤ state_tag words
  pub each : (m : ℕ) → 1 ≤ m → m < state_tag words → Follows sizes (states m) (states (m + 1))
