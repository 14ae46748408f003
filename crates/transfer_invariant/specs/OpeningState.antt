-- the state that is there at the opening
use Rattle.word_layout.specs.Sizes.{Sizes}
use Rattle.transfer_machine.specs.Opening.{opening_base, opening_slot}
use Rattle.transfer_machine.specs.States.{StackState}

-- its content is that of the slots; its overlay is empty, and no transfer is applied
unfoldable pub opening_state : Sizes → StackState
opening_state sizes = record {
  base = opening_base sizes;
  height = opening_base sizes;
  content = opening_slot sizes;
  reply = λ i. 0;
  applied = λ i. 0;
}
