-- the store of the own announcement
use Rattle.std.specs.Prelude.{◌≡◌, ℕ, ◌+◌, true}
use Rattle.word_layout.specs.Packing.{announced_word}
use Rattle.word_layout.specs.declared.announced.Wish.{Wish}
use Rattle.transfer_machine.specs.declared.stage.NextStep.TheVariants.{Announce}
use Rattle.transfer_machine.specs.declared.transfer.TransferView.{TransferView}
use Rattle.interleaving_core.specs.TransferLaws.{moves_transfer}
use Rattle.pool_table.specs.declared.about.About.{About}
use Rattle.pool_table.specs.Steps.{Stepped}
use Rattle.pool_table.specs.Turns.{turning}
use Rattle.pool_table.specs.Views.{SeatView}
use Rattle.pool_table.specs.Transfers.{transfer_about}

-- a transfer of this process is begun with this wish and is still to be announced, as the one of this number
pub record IsToAnnounce (t : TransferView) (process number : ℕ) (wish : Wish) : Type 0 where
  pub next : t.next ≡ Announce
  pub own : t.number ≡ process
  pub counted : t.age + 1 ≡ number
  pub wished : t.wish ≡ wish

-- so is that of a seat's process, and it is what the process does next
pub record Announces (about : About) (v : SeatView) (process number : ℕ) (wish : Wish) : Type 0 where
  pub moves : moves_transfer (turning about v.mind.view) ≡ true
  pub begun : IsToAnnounce (transfer_about about v) process number wish

-- the word that announces it
abbrev pub announcement : ℕ → Wish → ℕ
announcement number wish = announced_word (record { number = number; wish = wish })

-- the seat made the machine's step, which left that word, and the age of its process is that number
pub record HasAnnounced (about : About) (v : SeatView) (number : ℕ) (wish : Wish) (x : SeatView) : Type 0 where
  pub stepped : Stepped about v (announcement number wish) x
  pub aged : x.mind.view.transfer.age ≡ number
