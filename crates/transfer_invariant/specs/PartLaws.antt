-- the laws that each part of the invariant meets: the opening meets it, and what the processes do keeps it
use Rattle.std.specs.Prelude.{◌≡◌, ℕ, ◌<◌}
use Rattle.word_layout.specs.Sizes.{Sizes, IsShape}
use Rattle.word_layout.specs.Names.{InRange}
use Rattle.word_layout.specs.declared.announced.Wish.{Wish}
use Rattle.word_layout.specs.declared.name.WordName.{WordName}
use Rattle.transfer_machine.specs.Machine.{action_of, met_of, begun}
use Rattle.transfer_machine.specs.Opening.{opening_word, opening_transfer}
use Rattle.transfer_machine.specs.Words.{name_of}
use Rattle.transfer_machine.specs.declared.transfer.TransferView.{TransferView}
use Rattle.transfer_machine.specs.declared.stage.NextStep.TheVariants.{Rest}
use Rattle.transfer_invariant.specs.Memory.{Words, Views, States, Acted, Moved}
use Rattle.transfer_invariant.specs.OpeningState.{opening_state}
use Rattle.transfer_invariant.specs.Installing.{states_after}

-- a part of the invariant: what it says of the words and views, with these states
abbrev pub Part : Type 1
Part = Sizes → Words → Views → States → Type 0

-- what a step of a view is supplied with by other parts
abbrev pub Premise : Type 1
Premise = Sizes → Words → States → TransferView → Type 0

-- the words and views of the opening meet a part, with the state of the opening
abbrev pub OpeningMeets : Part → Type 0
OpeningMeets Holds =
    (sizes : Sizes) (words : Words) (views : Views) → IsShape sizes
    → ((name : WordName) → InRange sizes name → words name ≡ opening_word sizes name)
    → ((i : ℕ) → i < sizes.processes → views i ≡ opening_transfer i)
    → Holds sizes words views (λ m. opening_state sizes)

-- the step of a process that is supplied so leads from words and views that meet a part to such ones; where it installs a state there is
-- one more
abbrev pub StepsKeep : Premise → Part → Type 0
StepsKeep Supplied Holds =
    (sizes : Sizes) (words new : Words) (views after : Views) (states : States) (i : ℕ) → IsShape sizes → i < sizes.processes
    → Holds sizes words views states
    → Supplied sizes words states (views i)
    → Acted sizes (action_of sizes (views i)) words new
    → Moved i (met_of sizes (views i) (words (name_of (action_of sizes (views i))))) views after
    → Holds sizes new after (states_after words (views i) states)

-- a process at rest that begins a transfer keeps a part, with the same states
abbrev pub BeginningsKeep : Part → Type 0
BeginningsKeep Holds =
    (sizes : Sizes) (words : Words) (views after : Views) (states : States) (i : ℕ) (wish : Wish) → i < sizes.processes
    → Holds sizes words views states
    → (views i).next ≡ Rest
    → Moved i (begun wish (views i)) views after
    → Holds sizes words after states
