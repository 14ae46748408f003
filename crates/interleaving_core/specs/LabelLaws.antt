-- laws of labels: the kind and the index of a next step fit what it does to which word, and a phase fits the next step
use Rattle.std.specs.Prelude.{◌≡◌, ◌≢◌, ℕ, ◌+◌, ◌-◌, ◌<◌, ◌⊎◌, Bool, true, false, Option, None, Some, slice_set}
use Rattle.word_layout.specs.Sizes.{Sizes}
use Rattle.word_layout.specs.declared.name.WordName.{WordName}
use Rattle.word_layout.specs.declared.name.WordName.TheVariants.{State, Announcement, RecordWord, Slot, Next, Data}
use Rattle.pool_model.specs.declared.entry.Entry.{Entry}
use Rattle.pool_model.specs.declared.entry.Entry.TheVariants.{Got, Back, Dry}
use Rattle.transfer_machine.specs.Loads.{loaded_record, loaded_base}
use Rattle.transfer_machine.specs.Machine.{action_of, met_of}
use Rattle.transfer_machine.specs.Stages.{is_rest}
use Rattle.pool_machine.specs.Phases.{phase_of, waiting_of}
use Rattle.transfer_machine.specs.Stages.{index_of, stage_of}
use Rattle.transfer_machine.specs.declared.action.Action.{Action}
use Rattle.transfer_machine.specs.declared.action.Action.TheVariants.{Load, Store, Exchange}
use Rattle.pool_machine.specs.declared.call.CallStage.TheVariants as call
use Rattle.transfer_machine.specs.declared.kind.Kind.{Kind}
use Rattle.transfer_machine.specs.declared.kind.Kind.TheVariants.{K1, K2, K3, K4, K5, K6, K7, K8, K9, K10}
use Rattle.transfer_machine.specs.declared.kind.Kind.TheVariants.{K11, K12, K13, K14, K15, K16, K17, K18, K19}
use Rattle.pool_machine.specs.declared.phase.Phase.{Phase}
use Rattle.pool_machine.specs.declared.phase.Phase.TheVariants as phase
use Rattle.transfer_machine.specs.declared.stage.Stage.{Stage}
use Rattle.transfer_machine.specs.declared.transfer.TransferView.{TransferView}
use Rattle.pool_machine.specs.declared.view.ProcessView.{ProcessView}
use Rattle.pool_machine.specs.declared.event.Happened.{Happened}
use Rattle.pool_machine.specs.declared.event.Happened.TheVariants.{Step, Ended, Loaded, Stored, Ignored}
use Rattle.pool_machine.specs.OwnSteps.{own_action, own_answer}
use Rattle.pool_machine.specs.declared.answer.OwnAnswer.TheVariants.{Recorded}
use Rattle.pool_machine.specs.declared.call.Call.TheVariants.{Free, Read, Write}
use Rattle.interleaving_core.specs.CallLaws.{EveryRun}
use Rattle.interleaving_core.specs.Moves.{view_at}
use Rattle.interleaving_core.specs.TransferLaws.{moves_transfer}
use Rattle.interleaving_core.specs.Steps.{is_busy, next_action, next_answer, next_kind}

-- an action loads, stores or exchanges the word of this name
abbrev pub Loads : WordName → Action → Type 0
Loads name action = action ≡ Load name

-- the action stores to a word of this name
abbrev pub Stores : WordName → Action → Type 0
Stores name action = (word : ℕ) × (action ≡ Store name word)

-- the action exchanges a word of this name
abbrev pub Exchanges : WordName → Action → Type 0
Exchanges name action = (old : ℕ) × ((new : ℕ) × (action ≡ Exchange name old new))

-- an action loads the slot of the batch that the take of this process gets: its word is noted at the place of that process
abbrev pub LoadsForTake : Sizes → TransferView → ℕ → Action → Type 0
LoadsForTake sizes v process action =
    Loads (Slot (v.draft.base - 1)) action
    × ((word : ℕ) → (met_of sizes v word).loaded.popped ≡ slice_set v.loaded.popped process word)

-- a step of a transfer of this kind and index does this, and to this word, of a process with this part in the transfers; where its kind
-- says all, the index is 0
abbrev pub KindFits : Sizes → TransferView → Kind → ℕ → Action → Type 0
KindFits sizes v K1 index action = (index ≡ 0) × Stores (Announcement v.number) action
KindFits sizes v K2 index action = (index ≡ 0) × Loads State action
KindFits sizes v K3 index action = Loads (RecordWord (loaded_record v.loaded) index) action
KindFits sizes v K4 index action = Loads (Slot (loaded_base v.loaded + index)) action
KindFits sizes v K5 index action = Exchanges (Slot (loaded_base v.loaded + index)) action
KindFits sizes v K6 index action = Loads (Announcement index) action
KindFits sizes v K7 index action = LoadsForTake sizes v index action
KindFits sizes v K8 index action = Stores (RecordWord v.next_record index) action
KindFits sizes v K9 index action = (index ≡ 0) × Exchanges State action
KindFits sizes v K10 index action = (index ≡ 0) × Loads State action
KindFits sizes v K11 index action = (index ≡ 0) × Loads (RecordWord (loaded_record v.loaded) (sizes.processes + 2 + v.number)) action
KindFits sizes v K12 index action = ⊥
KindFits sizes v K13 index action = ⊥
KindFits sizes v K14 index action = ⊥
KindFits sizes v K15 index action = ⊥
KindFits sizes v K16 index action = ⊥
KindFits sizes v K17 index action = ⊥
KindFits sizes v K18 index action = ⊥
KindFits sizes v K19 index action = (index ≡ 0) × Loads State action

-- so does the next step of every transfer, with its kind and its index
abbrev pub TransferKindsFit : Type 0
TransferKindsFit = (sizes : Sizes) (v : TransferView) → KindFits sizes v (stage_of v).kind (stage_of v).index (action_of sizes v)

-- the own step of a call of this kind is on the next word of the block that the call is answered with or gives back, or on the data word
-- that it names; a process in no call loads the state
abbrev pub OwnKindFits : ProcessView → Kind → Action → Type 0
OwnKindFits v K12 action =
    (block : ℕ) × ((word : ℕ) → own_answer v word ≡ Recorded (Got v.transfer.number block)) × Loads (Next block) action
OwnKindFits v K13 action = (block : ℕ) × (v.calls.call ≡ Some (Free block)) × Stores (Next block) action
OwnKindFits v K14 action = ((word : ℕ) → own_answer v word ≡ Recorded (Dry v.transfer.number)) × Loads State action
OwnKindFits v K15 action = (block : ℕ) × ((place : ℕ) × (v.calls.call ≡ Some (Read block place)) × Loads (Data block place) action)
OwnKindFits v K16 action =
    (block : ℕ) × ((place : ℕ) × ((value : ℕ) × (v.calls.call ≡ Some (Write block place value))
    × (action ≡ Store (Data block place) value)))
OwnKindFits v K19 action = (v.calls.call ≡ None) × Loads State action
OwnKindFits v kind action = ⊥

-- so does the next step of every process that has one: of its transfer, or the own one of its call
abbrev pub NextKindsFit : Type 0
NextKindsFit = (sizes : Sizes) (v : ProcessView) → is_busy v ≡ true
    → (moves_transfer v ≡ true → KindFits sizes v.transfer (next_kind v) (index_of v.transfer.next) (next_action sizes v))
    × (moves_transfer v ≡ false → OwnKindFits v (next_kind v) (next_action sizes v))

-- a step of this kind belongs to that turn of its transfer: 0 announces, 1 and 2 are the tries, 3 is the end
abbrev pub TurnFits : Kind → ℕ → Type 0
TurnFits K1 turn = turn ≡ 0
TurnFits K10 turn = turn ≡ 3
TurnFits K11 turn = turn ≡ 3
TurnFits K19 turn = turn ≡ 0
TurnFits kind turn = (turn ≡ 1) ⊎ (turn ≡ 2)

-- so does the next step of every transfer
abbrev pub TurnsFit : Type 0
TurnsFit = (v : TransferView) → TurnFits (stage_of v).kind (stage_of v).turn

-- a call that ends with an entry has made an own step of this kind
abbrev pub ending_kind : Entry → Kind
ending_kind (Got by block) = K12
ending_kind (Back by block) = K13
ending_kind (Dry by) = K14

-- an answer names the kind of the step that was made; a read loaded a data word, and a write stored one
abbrev pub AnswerFits : ProcessView → Happened → Type 0
AnswerFits v (Step kind) = kind ≡ next_kind v
AnswerFits v (Ended kind entry) = (kind ≡ next_kind v) × (kind ≡ ending_kind entry)
AnswerFits v (Loaded word) = v.calls.call ≢ None → next_kind v ≡ K15
AnswerFits v Stored = next_kind v ≡ K16
AnswerFits v Ignored = ⊥

-- so does that of every process that has a next step, whatever word it meets
abbrev pub AnswersFit : Type 0
AnswersFit = (v : ProcessView) (word : ℕ) → is_busy v ≡ true → AnswerFits v (next_answer v word)

-- a phase says what the next step of a process is: none, that of its transfer at its stage, or the own step of its call
abbrev pub PhaseFits : Sizes → ProcessView → Phase → Type 0
PhaseFits sizes v phase.Between = is_busy v ≡ false
PhaseFits sizes v (phase.Moving stage) = (stage ≡ stage_of v.transfer) × (is_busy v ≡ true)
    × (next_action sizes v ≡ action_of sizes v.transfer)
PhaseFits sizes v phase.Own = (v.calls.stage ≡ call.Own) × (is_busy v ≡ true) × (next_action sizes v ≡ own_action v)

-- so does that of every process of a run
abbrev pub PhasesFit : Type 0
PhasesFit = EveryRun (λ sizes history s. (i : ℕ) → i < sizes.processes → PhaseFits sizes (view_at s i) (phase_of (view_at s i)))

-- whether a transfer moves in a phase
abbrev pub is_moving : Phase → Bool
is_moving phase.Between = false
is_moving (phase.Moving stage) = true
is_moving phase.Own = false

-- a transfer waits at its stage where one is begun and doesn't move
abbrev pub WaitingFits : ProcessView → Option Stage → Type 0
WaitingFits v None = (is_rest v.transfer.next ≡ true) ⊎ (is_moving (phase_of v) ≡ true)
WaitingFits v (Some stage) = (stage ≡ stage_of v.transfer) × (is_rest v.transfer.next ≡ false) × (is_moving (phase_of v) ≡ false)

-- the number of what is pending fits the plan
abbrev pub WaitingsFit : Type 0
WaitingsFit = (v : ProcessView) → WaitingFits v (waiting_of v)
