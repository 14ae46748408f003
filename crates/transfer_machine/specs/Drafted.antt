-- The draft of a try as a function of the words that it loaded. It doesn't depend on how far the try is.
use Rattle.std.specs.Prelude.{◌≡◌, ℕ, zero, suc, ◌<◌, length, slice_index}
use Rattle.word_layout.specs.Sizes.{Sizes}
use Rattle.transfer_machine.specs.Loads.{popped_head}
use Rattle.transfer_machine.specs.Tries.{begun_draft, after_announcement}
use Rattle.transfer_machine.specs.Opening.{nothing_drafted}
use Rattle.transfer_machine.specs.Machine.{met_of, CanAct, CanMeet}
use Rattle.transfer_machine.specs.Stages.{in_try_else}
use Rattle.transfer_machine.specs.declared.loaded.Loaded.{Loaded}
use Rattle.transfer_machine.specs.declared.try_draft.TryDraft.{TryDraft}
use Rattle.transfer_machine.specs.declared.transfer.TransferView.{TransferView}
use Rattle.transfer_machine.specs.declared.stage.NextStep.{NextStep}
use Rattle.transfer_machine.specs.declared.stage.TryStep.{TryStep}
use Rattle.transfer_machine.specs.declared.stage.TryStep.TheVariants.{LoadState, LoadRecordWord, LoadCoveredSlot, ExchangeSlot}
use Rattle.transfer_machine.specs.declared.stage.TryStep.TheVariants.{LoadAnnouncement, LoadPoppedSlot, StoreRecordWord, ExchangeState}

-- the draft once the loaded announcements of the first so many processes are applied, in the order of their numbers
unfoldable pub drafted : ℕ → Loaded → ℕ → TryDraft
drafted processes loaded zero = begun_draft loaded nothing_drafted
drafted processes loaded (suc process) =
    let announcement = slice_index loaded.announcements process in
    after_announcement processes loaded process announcement (popped_head loaded process) (drafted processes loaded process)

-- two drafts after so many announcements say the same: past the overlay and the met replies nothing is said
pub record SameDraft (heard : ℕ) (kept draft : TryDraft) : Type 0 where
  pub base : kept.base ≡ draft.base
  pub overlay : kept.overlay ≡ draft.overlay
  pub heads : (k : ℕ) → k < draft.overlay → slice_index kept.heads k ≡ slice_index draft.heads k
  pub replies : (i : ℕ) → i < heard → slice_index kept.replies i ≡ slice_index draft.replies i

-- the arrays of a view have their room
pub record HasRoom (v : TransferView) : Type 0 where
  pub record_words : length v.loaded.record_words ≡ 66
  pub announcements : length v.loaded.announcements ≡ 32
  pub popped : length v.loaded.popped ≡ 32
  pub heads : length v.draft.heads ≡ 32
  pub replies : length v.draft.replies ≡ 32

-- in a try the draft that a view keeps is that of the words that it loaded: after so many announcements as it met
abbrev pub DraftsLoadedInTry : Sizes → TransferView → TryStep → Type 0
DraftsLoadedInTry sizes v LoadState = Unit {0}
DraftsLoadedInTry sizes v (LoadRecordWord index) = Unit {0}
DraftsLoadedInTry sizes v (LoadCoveredSlot offset) = SameDraft 0 v.draft (drafted sizes.processes v.loaded 0)
DraftsLoadedInTry sizes v (ExchangeSlot offset) = SameDraft 0 v.draft (drafted sizes.processes v.loaded 0)
DraftsLoadedInTry sizes v (LoadAnnouncement process) = SameDraft process v.draft (drafted sizes.processes v.loaded process)
DraftsLoadedInTry sizes v (LoadPoppedSlot process) = SameDraft process v.draft (drafted sizes.processes v.loaded process)
DraftsLoadedInTry sizes v (StoreRecordWord index) = SameDraft sizes.processes v.draft (drafted sizes.processes v.loaded sizes.processes)
DraftsLoadedInTry sizes v ExchangeState = SameDraft sizes.processes v.draft (drafted sizes.processes v.loaded sizes.processes)

-- the draft that a view keeps at a step is that of the words that it loaded
abbrev pub DraftsLoadedAt : Sizes → TransferView → NextStep → Type 0
DraftsLoadedAt sizes v next = in_try_else (DraftsLoadedInTry sizes v) (Unit {0}) next

-- the same at the view's next step
abbrev pub DraftsLoaded : Sizes → TransferView → Type 0
DraftsLoaded sizes v = DraftsLoadedAt sizes v v.next

-- whatever word its next step meets, a view goes on keeping the draft of the words that it loaded
abbrev pub StepsKeepDraft : Type 0
StepsKeepDraft =
    (sizes : Sizes) (v : TransferView) (word : ℕ) → HasRoom v → CanAct sizes v → CanMeet sizes v word → DraftsLoaded sizes v
    → DraftsLoaded sizes (met_of sizes v word)
