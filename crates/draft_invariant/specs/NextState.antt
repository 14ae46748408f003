-- when two states are the same as far as so many processes are concerned
use Rattle.std.specs.Prelude.{◌≡◌, ℕ, ◌<◌}
use Rattle.transfer_machine.specs.States.{StackState}

-- two states with the same content, and the same replies and applied transfers of these processes; past the height and the processes
-- nothing is said
pub record SameState (processes : ℕ) (s t : StackState) : Type 0 where
  pub base : s.base ≡ t.base
  pub height : s.height ≡ t.height
  pub content : (place : ℕ) → place < t.height → s.content place ≡ t.content place
  pub reply : (o : ℕ) → o < processes → s.reply o ≡ t.reply o
  pub applied : (o : ℕ) → o < processes → s.applied o ≡ t.applied o
