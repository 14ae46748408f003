-- the load of an announcement
use Rattle.std.specs.Prelude.{◌≡◌, ℕ, Bool, true}
use Rattle.word_layout.specs.declared.name.WordName.TheVariants.{Announcement}
use Rattle.transfer_machine.specs.Loads.{loaded_tag, loaded_reply}
use Rattle.transfer_machine.specs.Tries.{is_pending}
use Rattle.transfer_machine.specs.declared.stage.NextStep.TheVariants.{Try}
use Rattle.transfer_machine.specs.declared.stage.TryStep.TheVariants.{LoadAnnouncement}
use Rattle.transfer_invariant.specs.Memory.{state_tag}
use Rattle.interleaving_core.specs.TransferLaws.{moves_transfer}
use Rattle.pool_table.specs.declared.about.About.{About}
use Rattle.pool_table.specs.Turns.{turning}
use Rattle.pool_table.specs.Views.{SeatView}
use Rattle.pool_table.specs.Transfers.{transfer_about, WhereverSeated}

-- the transfer of a seat's process is to load the announcement of this process, and it is what the seat's process does next
pub record LoadsAnnouncement (about : About) (v : SeatView) (process : ℕ) : Type 0 where
  pub moves : moves_transfer (turning about v.mind.view) ≡ true
  pub second : Bool
  pub next : (transfer_about about v).next ≡ Try second (LoadAnnouncement process)

-- where this word is pending against the reply that the seat's process loaded, it is the announcement of this process, wherever the rule
-- holds with its view and the state is still the loaded one
abbrev pub IsPresentWhile : SeatView → ℕ → ℕ → Type 0
IsPresentWhile v process word = is_pending word (loaded_reply v.sizes.processes v.mind.view.transfer.loaded process) ≡ true
    → WhereverSeated v (λ words states. state_tag words ≡ loaded_tag v.mind.view.transfer.loaded → words (Announcement process) ≡ word)
