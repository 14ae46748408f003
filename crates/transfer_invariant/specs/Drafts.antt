-- of the part draft of a try: how much the draft has grown
use Rattle.std.specs.Prelude.{◌≡◌, ℕ, ◌<◌, ◌≤◌, false, slice_index}
use Rattle.word_layout.specs.Packing.{is_odd_reply}
use Rattle.transfer_machine.specs.Loads.{loaded_reply}
use Rattle.transfer_machine.specs.Stages.{in_try_else}
use Rattle.transfer_machine.specs.Tries.{is_pending, is_odd_transfer}
use Rattle.transfer_machine.specs.declared.try_draft.TryDraft.{TryDraft}
use Rattle.transfer_machine.specs.declared.transfer.TransferView.{TransferView}
use Rattle.transfer_machine.specs.declared.stage.NextStep.{NextStep}
use Rattle.transfer_machine.specs.declared.stage.TryStep.{TryStep}
use Rattle.transfer_machine.specs.declared.stage.TryStep.TheVariants.{LoadState, LoadRecordWord, LoadCoveredSlot, ExchangeSlot}
use Rattle.transfer_machine.specs.declared.stage.TryStep.TheVariants.{LoadAnnouncement, LoadPoppedSlot, StoreRecordWord, ExchangeState}
use Rattle.transfer_invariant.specs.Progress.{drafted_announcements}

-- before that step of a try, once the record is loaded, a draft adds at most one head for each announcement that was met
abbrev pub OverlayFitsInTry : ℕ → TryDraft → TryStep → Type 0
OverlayFitsInTry processes draft LoadState = Unit {0}
OverlayFitsInTry processes draft (LoadRecordWord index) = Unit {0}
OverlayFitsInTry processes draft (LoadCoveredSlot offset) = draft.overlay ≤ 0
OverlayFitsInTry processes draft (ExchangeSlot offset) = draft.overlay ≤ 0
OverlayFitsInTry processes draft (LoadAnnouncement process) = draft.overlay ≤ process
OverlayFitsInTry processes draft (LoadPoppedSlot process) = draft.overlay ≤ process
OverlayFitsInTry processes draft (StoreRecordWord index) = draft.overlay ≤ processes
OverlayFitsInTry processes draft ExchangeState = draft.overlay ≤ processes

-- the same before any step
abbrev pub OverlayFitsAt : ℕ → TryDraft → NextStep → Type 0
OverlayFitsAt processes draft next = in_try_else (OverlayFitsInTry processes draft) (Unit {0}) next

-- Draft of a try, of one view: its overlay has at most one head for each announcement that was met
abbrev pub OverlayFits : ℕ → TransferView → Type 0
OverlayFits processes v = OverlayFitsAt processes v.draft v.next

-- Draft of a try, of one view: of the announcements met, a pending one got a reply of its parity, any other one kept the loaded reply
pub record RepliesDrafted (processes : ℕ) (v : TransferView) : Type 0 where
  pub kept : (o : ℕ) → o < drafted_announcements processes v.next
      → is_pending (slice_index v.loaded.announcements o) (loaded_reply processes v.loaded o) ≡ false
      → slice_index v.draft.replies o ≡ loaded_reply processes v.loaded o
  pub parity : (o : ℕ) → o < drafted_announcements processes v.next
      → is_odd_reply (slice_index v.draft.replies o) ≡ is_odd_transfer (slice_index v.loaded.announcements o)
