-- a seat that makes the steps of its process's transfer
use Rattle.std.specs.Prelude.{◌≡◌, ℕ, true, Option, None, Some, List}
use mathlib.Core.Option.{some}
use lib.ListN.{get_elem?}
use Rattle.word_layout.specs.Names.{word_at}
use Rattle.word_layout.specs.declared.name.WordName.{WordName}
use Rattle.word_layout.specs.declared.announced.Wish.{Wish}
use Rattle.transfer_machine.specs.States.{StackState}
use Rattle.transfer_machine.specs.declared.transfer.TransferView.{TransferView}
use Rattle.pool_machine.specs.declared.call.Call.{Call}
use Rattle.interleaving_core.specs.Invariant as machine
use Rattle.interleaving_core.specs.TransferLaws.{moves_transfer}
use Rattle.pool_table.specs.declared.about.About.{About}
use Rattle.pool_table.specs.declared.about.About.TheVariants.{Alone, InCall}
use Rattle.pool_table.specs.Views.{SeatView}
use Rattle.pool_table.specs.Rule.{Holds, views_of}
use Rattle.pool_table.specs.Turns.{turning}

-- what a step is about: the call that is given, or else a transfer alone, with this wish
abbrev pub about_of : Option Call → Wish → About
about_of None wish = Alone wish
about_of (Some call) wish = InCall call

-- the transfer of a seat's process, once what the step is about is begun
abbrev pub transfer_about : About → SeatView → TransferView
transfer_about about v = (turning about v.mind.view).transfer

-- that transfer is this one, and the process's next step is one of it
pub record Agrees (about : About) (v : SeatView) (t : TransferView) : Type 0 where
  pub same : transfer_about about v ≡ t
  pub moves : moves_transfer (turning about v.mind.view) ≡ true

-- a fact of the words by their names and of the states so far, wherever the rule holds with this seat's view
abbrev pub WhereverSeated : SeatView → ((WordName → ℕ) → (ℕ → StackState) → Type 0) → Type 0
WhereverSeated v Fact =
    (words : List ℕ) (views : List SeatView) (place : ℕ) (h : Holds words views) → get_elem? views place ≡ some v
    → (ghosts : machine.Ghosts) → machine.Holds v.sizes (word_at v.sizes words) (views_of h.minds) h.history ghosts
    → Fact (word_at v.sizes words) ghosts.states
