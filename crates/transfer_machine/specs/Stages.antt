-- the next step of a transfer, as a turn, a kind and a number
use Rattle.std.specs.Prelude.{ℕ, Bool, true, false, if◌then◌else◌}
use Rattle.transfer_machine.specs.declared.kind.Kind.{Kind}
use Rattle.transfer_machine.specs.declared.kind.Kind.TheVariants.{K1, K2, K3, K4, K5, K6, K7, K8, K9, K10, K11, K19}
use Rattle.transfer_machine.specs.declared.stage.Stage.{Stage}
use Rattle.transfer_machine.specs.declared.transfer.TransferView.{TransferView}
use Rattle.transfer_machine.specs.declared.stage.NextStep.{NextStep}
use Rattle.transfer_machine.specs.declared.stage.NextStep.TheVariants.{Rest, Announce, Try, LoadFinalState, LoadReply}
use Rattle.transfer_machine.specs.declared.stage.TryStep.{TryStep}
use Rattle.transfer_machine.specs.declared.stage.TryStep.TheVariants.{LoadState, LoadRecordWord, LoadCoveredSlot, ExchangeSlot}
use Rattle.transfer_machine.specs.declared.stage.TryStep.TheVariants.{LoadAnnouncement, LoadPoppedSlot, StoreRecordWord, ExchangeState}

-- of a step of a try what its place in the try gives, of any other step the other
abbrev pub in_try_else {ℓ} : {A : Type ℓ} → (TryStep → A) → A → NextStep → A
in_try_else of_try other Rest = other
in_try_else of_try other Announce = other
in_try_else of_try other (Try second step) = of_try step
in_try_else of_try other LoadFinalState = other
in_try_else of_try other LoadReply = other

-- no transfer is begun
abbrev pub is_rest : NextStep → Bool
is_rest Rest = true
is_rest Announce = false
is_rest (Try second step) = false
is_rest LoadFinalState = false
is_rest LoadReply = false

-- 0 for the announcement and at rest, 1 and 2 in the two tries, 3 at the end
abbrev pub turn_of : NextStep → ℕ
turn_of Rest = 0
turn_of Announce = 0
turn_of (Try second step) = if second then 2 else 1
turn_of LoadFinalState = 3
turn_of LoadReply = 3

-- the kind of a step of a try
abbrev pub try_kind : TryStep → Kind
try_kind LoadState = K2
try_kind (LoadRecordWord index) = K3
try_kind (LoadCoveredSlot offset) = K4
try_kind (ExchangeSlot offset) = K5
try_kind (LoadAnnouncement process) = K6
try_kind (LoadPoppedSlot process) = K7
try_kind (StoreRecordWord index) = K8
try_kind ExchangeState = K9

-- the kind of a step
abbrev pub kind_of : NextStep → Kind
kind_of Rest = K19
kind_of Announce = K1
kind_of (Try second step) = try_kind step
kind_of LoadFinalState = K10
kind_of LoadReply = K11

-- the record word, the place in the overlay or the process that a step of a try is about
abbrev pub try_index : TryStep → ℕ
try_index LoadState = 0
try_index (LoadRecordWord index) = index
try_index (LoadCoveredSlot offset) = offset
try_index (ExchangeSlot offset) = offset
try_index (LoadAnnouncement process) = process
try_index (LoadPoppedSlot process) = process
try_index (StoreRecordWord index) = index
try_index ExchangeState = 0

-- the same of any step
abbrev pub index_of : NextStep → ℕ
index_of next = in_try_else try_index 0 next

-- where a view's transfer stands
abbrev pub stage_of : TransferView → Stage
stage_of v = record { turn = turn_of v.next; kind = kind_of v.next; index = index_of v.next }
