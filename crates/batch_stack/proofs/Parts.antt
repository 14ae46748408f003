-- the next step of a transfer's part, as the crates below say it
use Rattle.std.proofs.Common.{◌≡◌, ℕ, ◌+◌, ◌<◌, sym, ap, ◌∙◌, subst}
use Rattle.word_layout.specs.Sizes.{Sizes}
use Rattle.word_layout.specs.Packing.{tag_limit, FitsWish}
use Rattle.word_layout.specs.declared.name.WordName.TheVariants.{Announcement}
use Rattle.transfer_machine.specs.Loads.{loaded_tag, loaded_record}
use Rattle.transfer_machine.specs.Machine.{CanAct, CanActAt, CanActInTry, action_at, action_of, try_action}
use Rattle.transfer_machine.specs.Tries.{drafted_value}
use Rattle.transfer_machine.specs.declared.action.Action.TheVariants.{Store}
use Rattle.transfer_machine.specs.declared.stage.NextStep.TheVariants.{Announce}
use Rattle.transfer_machine.specs.declared.stage.TryStep.{TryStep}
use Rattle.transfer_machine.specs.declared.stage.TryStep.TheVariants.{LoadRecordWord, LoadAnnouncement, StoreRecordWord}
use Rattle.transfer_machine.specs.declared.transfer.TransferView.{TransferView}
use Rattle.pool_table.specs.declared.about.About.{About}
use Rattle.pool_table.specs.Views.{SeatView}
use Rattle.pool_table.specs.Transfers.{Agrees}
use Rattle.announce.specs.Heard.{LoadsAnnouncement}
use Rattle.announce.specs.Stored.{announcement}
use Rattle.versioned_records.specs.Loads.{IsToLoad, LoadsWord}
use Rattle.versioned_records.specs.Stores.{IsToStore, StoresWord}
use Rattle.batch_stack.specs.Running.{IsInTry}

-- what is announced fits a word
pub record AnnouncesFit (t : TransferView) : Type 0 where
  pub young : t.age + 1 < tag_limit
  pub wish : FitsWish t.wish

-- an announcement that may be made fits its word
pub announces_fit : (sizes : Sizes) (t : TransferView) → CanAct sizes t → t.next ≡ Announce → AnnouncesFit t
announces_fit sizes t can e =
    let (low, young, fits) = subst (CanActAt sizes t) e can in
    record { young = young; wish = fits }

-- it is the next action of a transfer that begins
pub announces_next : (sizes : Sizes) (t : TransferView) → t.next ≡ Announce
    → Store (Announcement t.number) (announcement (t.age + 1) t.wish) ≡ action_of sizes t
announces_next sizes t e = sym (ap (action_at sizes t) e)

-- a step of a try
pub fits_in_try : (sizes : Sizes) (t : TransferView) (step : TryStep) → CanAct sizes t → IsInTry t step → CanActInTry sizes t step
fits_in_try sizes t step can (second, e) = subst (CanActAt sizes t) e can

-- the action of a step of a try is the next action
pub acts_in_try : (sizes : Sizes) (t : TransferView) (step : TryStep) → IsInTry t step → try_action sizes t step ≡ action_of sizes t
acts_in_try sizes t step (second, e) = sym (ap (action_at sizes t) e)

-- a record word is loaded
pub part_loads : (a : About) (v : SeatView) (t : TransferView) (tag row index : ℕ) → Agrees a v t → IsInTry t (LoadRecordWord index)
    → tag ≡ loaded_tag t.loaded → row ≡ loaded_record t.loaded → LoadsWord a v tag row index
part_loads a v t tag row index agrees (second, e) tagged placed = record {
  moves = agrees.moves;
  loads = subst (λ u. IsToLoad u tag row index) (sym agrees.same)
      (record { second = second; next = e; same_tag = sym tagged; same_row = sym placed });
}

-- an announcement is
pub part_hears : (a : About) (v : SeatView) (t : TransferView) (process : ℕ) → Agrees a v t → IsInTry t (LoadAnnouncement process)
    → LoadsAnnouncement a v process
part_hears a v t process agrees (second, e) =
    record { moves = agrees.moves; second = second; next = ap (λ (u : TransferView). u.next) agrees.same ∙ e }

-- a record word is stored
pub part_stores : (sizes : Sizes) (a : About) (v : SeatView) (t : TransferView) (tag row index value : ℕ) → Agrees a v t
    → IsInTry t (StoreRecordWord index) → tag ≡ loaded_tag t.loaded + 1 → row ≡ t.next_record
    → value ≡ drafted_value sizes.processes t.draft index → StoresWord sizes a v tag row index value
part_stores sizes a v t tag row index value agrees (second, e) tagged placed drafted = record {
  moves = agrees.moves;
  stores = subst (λ u. IsToStore sizes u tag row index value) (sym agrees.same)
      (record { second = second; next = e; same_tag = sym tagged; same_row = sym placed; same_value = sym drafted });
}
