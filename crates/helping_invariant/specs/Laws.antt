-- the opening meets the parts of helping, steps keep them, and what follows for transfers
use Rattle.std.specs.Prelude.{◌≡◌, ℕ, ◌+◌, ◌<◌, ◌≤◌, Bool, true, false}
use Rattle.word_layout.specs.Sizes.{Sizes, IsShape}
use Rattle.word_layout.specs.Packing.{value_of, announced_word, FitsWish}
use Rattle.word_layout.specs.declared.name.WordName.TheVariants.{State, RecordWord}
use Rattle.transfer_machine.specs.Loads.{loaded_record}
use Rattle.transfer_machine.specs.Machine.{action_of, met_of}
use Rattle.transfer_machine.specs.Tries.{is_pending}
use Rattle.transfer_machine.specs.Words.{name_of}
use Rattle.transfer_machine.specs.declared.transfer.TransferView.{TransferView}
use Rattle.transfer_machine.specs.declared.stage.NextStep.TheVariants.{Announce, Try, LoadReply}
use Rattle.transfer_machine.specs.declared.stage.TryStep.TheVariants.{ExchangeState}
use Rattle.transfer_invariant.specs.Memory.{Words, Views, States, Acted, Moved, state_tag}
use Rattle.transfer_invariant.specs.PartLaws.{OpeningMeets, BeginningsKeep}
use Rattle.transfer_invariant.specs.Installing.{states_after}
use Rattle.transfer_invariant.specs.Drafts.{RepliesDrafted}
use Rattle.transfer_invariant.specs.Progress.{has_announced, has_tried}
use Rattle.transfer_invariant.specs.Invariant.{Invariant}
use Rattle.transfer_invariant.specs.Laws.{WritesFit}
use Rattle.helping_invariant.specs.Parts.{heard}
use Rattle.helping_invariant.specs.Holds.{HelpingHolds}

-- the words and views of the opening meet the parts of helping, with the state of the opening
abbrev pub OpeningMeetsHelping : Type 0
OpeningMeetsHelping = OpeningMeets HelpingHolds

-- the step of a process keeps them, where what it writes fits, its draft has its replies, and the wish that it announces fits
abbrev pub StepsKeepHelping : Type 0
StepsKeepHelping =
    (sizes : Sizes) (words new : Words) (views after : Views) (states : States) (i : ℕ) → IsShape sizes → i < sizes.processes
    → Invariant sizes words views states
    → HelpingHolds sizes words views states
    → WritesFit sizes words (views i)
    → RepliesDrafted sizes.processes (views i)
    → ((views i).next ≡ Announce → FitsWish (views i).wish)
    → Acted sizes (action_of sizes (views i)) words new
    → Moved i (met_of sizes (views i) (words (name_of (action_of sizes (views i))))) views after
    → HelpingHolds sizes new after (states_after words (views i) states)

-- a process at rest that begins a transfer keeps them
abbrev pub BeginningsKeepHelping : Type 0
BeginningsKeepHelping = BeginningsKeep HelpingHolds

-- a transfer is pending, what a view heard of it is its whole announcement, and the present state is the last that hasn't applied it
pub record PendsNow (words : Words) (states : States) (o : ℕ) (w v : TransferView) : Type 0 where
  pub announced : has_announced v.next ≡ true
  pub word : heard w o ≡ announced_word (record { number = v.age; wish = v.wish })
  pub next : (states (state_tag words)).applied o + 1 ≡ v.age

-- whoever installs a state applies present announcements only
abbrev pub InstallsPresent : Type 0
InstallsPresent =
    (sizes : Sizes) (words : Words) (views : Views) (states : States) (i o : ℕ) (second : Bool) → i < sizes.processes → o < sizes.processes
    → HelpingHolds sizes words views states
    → (views i).next ≡ Try second ExchangeState → words State ≡ (views i).loaded.state
    → is_pending (heard (views i) o) ((states (state_tag words)).reply o) ≡ true
    → PendsNow words states o (views i) (views o)

-- the word that the last step of a transfer loads
abbrev pub reply_word : Sizes → Words → TransferView → ℕ
reply_word sizes words v = words (RecordWord (loaded_record v.loaded) (sizes.processes + 2 + v.number))

-- the reply that a transfer loads in the end is that of the present state, which has applied it
abbrev pub TransfersAreAnswered : Type 0
TransfersAreAnswered =
    (sizes : Sizes) (words : Words) (views : Views) (states : States) (i : ℕ) → i < sizes.processes
    → Invariant sizes words views states
    → HelpingHolds sizes words views states
    → (views i).next ≡ LoadReply
    → (value_of (reply_word sizes words (views i)) ≡ (states (state_tag words)).reply i)
    × ((states (state_tag words)).applied i ≡ (views i).age)

-- after its two tries the transfer of a process is applied
abbrev pub TwoTriesApply : Type 0
TwoTriesApply =
    (sizes : Sizes) (words : Words) (views : Views) (states : States) (i : ℕ) → i < sizes.processes
    → HelpingHolds sizes words views states
    → has_tried (views i).next ≡ true
    → (states (state_tag words)).applied i ≡ (views i).age

-- all transfers of a process up to its age are applied, but the last one may still pend
pub record AppliedCount (words : Words) (states : States) (o : ℕ) (v : TransferView) : Type 0 where
  pub idle : has_announced v.next ≡ false → (states (state_tag words)).applied o ≡ v.age
  pub most : (states (state_tag words)).applied o ≤ v.age
  pub least : v.age ≤ (states (state_tag words)).applied o + 1

-- at any time
abbrev pub AllButOneApplied : Type 0
AllButOneApplied =
    (sizes : Sizes) (words : Words) (views : Views) (states : States) (o : ℕ) → o < sizes.processes
    → HelpingHolds sizes words views states
    → AppliedCount words states o (views o)
