-- the opening meets the invariant, and steps keep it
use Rattle.std.specs.Prelude.{◌≡◌, ℕ, Bool, ◌+◌, ◌<◌, ◌≤◌, ◌*◌, slice_index, List, length}
use Rattle.word_layout.specs.Sizes.{Sizes, blocks}
use Rattle.word_layout.specs.Names.{InRange, table_words, word_at, record_words}
use Rattle.word_layout.specs.Packing.{value_limit, tag_limit, most_age}
use Rattle.word_layout.specs.declared.announced.Wish.{Wish}
use Rattle.word_layout.specs.declared.announced.Wish.TheVariants.{Take, Give}
use Rattle.word_layout.specs.declared.name.WordName.TheVariants.{State}
use Rattle.transfer_machine.specs.Tries.{drafted_value}
use Rattle.transfer_machine.specs.Words.{name_of, acted}
use Rattle.transfer_machine.specs.Loads.{loaded_tag}
use Rattle.transfer_machine.specs.NextStates.{IsLoaded}
use Rattle.transfer_machine.specs.declared.action.Action.{Action}
use Rattle.transfer_machine.specs.declared.transfer.TransferView.{TransferView}
use Rattle.transfer_machine.specs.declared.try_draft.TryDraft.{TryDraft}
use Rattle.transfer_machine.specs.declared.stage.NextStep.TheVariants.{Try}
use Rattle.transfer_machine.specs.declared.stage.TryStep.TheVariants.{StoreRecordWord, ExchangeState}
use Rattle.transfer_invariant.specs.Memory.{Words, Views, States, Acted, state_tag}
use Rattle.transfer_invariant.specs.PartLaws.{OpeningMeets, StepsKeep, BeginningsKeep}
use Rattle.transfer_invariant.specs.Progress.{loaded_words}
use Rattle.transfer_invariant.specs.Invariant.{Invariant}

-- the words and views of the opening meet the invariant, with the state of the opening
abbrev pub OpeningMeetsInvariant : Type 0
OpeningMeetsInvariant = OpeningMeets Invariant

-- a wish is to take a batch, or to give one whose head is a block
abbrev pub WishIsBlock : Sizes → Wish → Type 0
WishIsBlock sizes Take = Unit {0}
WishIsBlock sizes (Give head) = head < blocks sizes

-- a draft has room: all places are slots, the heads are blocks
pub record DraftFits (sizes : Sizes) (draft : TryDraft) : Type 0 where
  pub within : draft.base + draft.overlay ≤ sizes.batches
  pub heads : (k : ℕ) → k < draft.overlay → slice_index draft.heads k < blocks sizes

-- what a view writes fits: a record word its value, and a state that is installed its place
pub record WritesFit (sizes : Sizes) (words : Words) (v : TransferView) : Type 0 where
  pub store : (second : Bool) (index : ℕ) → v.next ≡ Try second (StoreRecordWord index)
      → drafted_value sizes.processes v.draft index < value_limit
  pub install : (second : Bool) → v.next ≡ Try second ExchangeState → words State ≡ v.loaded.state → DraftFits sizes v.draft

-- the step of a process leads from words and views that meet the invariant to such ones; where it installs a state there is one more
abbrev pub StepsKeepInvariant : Type 0
StepsKeepInvariant = StepsKeep (λ sizes words states. WritesFit sizes words) Invariant

-- a process at rest that begins a transfer keeps it
abbrev pub BeginningsKeepInvariant : Type 0
BeginningsKeepInvariant = BeginningsKeep Invariant

-- an action on the words of a table acts on the words by their names
abbrev pub TableActsByNames : Type 0
TableActsByNames =
    (sizes : Sizes) (table : List ℕ) (action : Action) → length table ≡ table_words sizes → InRange sizes (name_of action)
    → Acted sizes action (word_at sizes table) (word_at sizes (acted sizes table action))

-- as long as all ages are within their limit, the number above the state's is a tag
abbrev pub TagsAreFew : Type 0
TagsAreFew =
    (sizes : Sizes) (words : Words) (views : Views) (states : States) → 1 ≤ sizes.processes → Invariant sizes words views states
    → ((i : ℕ) → i < sizes.processes → (views i).age ≤ most_age sizes) → state_tag words + 1 < tag_limit

-- a view that has loaded a whole record has loaded the state of its number
abbrev pub WholeRecordsAreStates : Type 0
WholeRecordsAreStates =
    (sizes : Sizes) (words : Words) (views : Views) (states : States) (i : ℕ) → i < sizes.processes
    → Invariant sizes words views states → loaded_words (record_words sizes) (views i).next ≡ record_words sizes
    → IsLoaded sizes.processes (views i).loaded (states (loaded_tag (views i).loaded))
