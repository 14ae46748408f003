-- the present state after a step: it stays, or the drafted one is installed
use Rattle.std.proofs.Common.{◌≡◌, ℕ, ◌+◌, ◌-◌, ◌<◌, ◌==◌, Bool, true, false, refl, sym, ap, ◌∙◌, arith}
use Rattle.std.specs.Prelude.{if◌then◌else◌}
use Rattle.std.proofs.lemmas.Bool.Decides.{nat_tests}
use Rattle.word_layout.specs.Sizes.{Sizes}
use Rattle.word_layout.specs.Packing.{value_limit, tag_of}
use Rattle.word_layout.specs.declared.name.WordName.TheVariants.{State, Announcement, RecordWord, Slot}
use Rattle.transfer_machine.specs.Loads.{loaded_tag, loaded_record, loaded_base}
use Rattle.transfer_machine.specs.Machine.{try_action, action_at, own_announcement, stored_word, next_state}
use Rattle.transfer_machine.specs.declared.action.Action.TheVariants.{Load, Store, Exchange}
use Rattle.transfer_machine.specs.States.{StackState}
use Rattle.transfer_machine.specs.declared.transfer.TransferView.{TransferView}
use Rattle.transfer_machine.specs.declared.stage.NextStep.{NextStep}
use Rattle.transfer_machine.specs.declared.stage.NextStep.TheVariants.{Rest, Announce, Try, LoadFinalState, LoadReply}
use Rattle.transfer_machine.specs.declared.stage.TryStep.{TryStep}
use Rattle.transfer_machine.specs.declared.stage.TryStep.TheVariants.{LoadState, LoadRecordWord, LoadCoveredSlot, ExchangeSlot}
use Rattle.transfer_machine.specs.declared.stage.TryStep.TheVariants.{LoadAnnouncement, LoadPoppedSlot, StoreRecordWord, ExchangeState}
use Rattle.transfer_invariant.specs.Memory.{Words, States, Acted, state_tag}
use Rattle.transfer_invariant.specs.Installing.{drafted_state, states_with_drafted, states_after_try_step, states_after_at}
use Rattle.transfer_invariant.proofs.Acts.{leaves_records, announces, exchanges_slot, exchanges_state, keeps_state}
use Rattle.transfer_invariant.proofs.Writes.{with_state_here}

-- a stored record word isn't the state
record_stored : (sizes : Sizes) (row index word : ℕ) (m n : Words) → Acted sizes (Store (RecordWord row index) word) m n
    → state_tag n ≡ state_tag m
unfolding state_tag
record_stored sizes row index word m n a = ap tag_of (a.elsewhere State tt (λ e. cc))

same_words : (a b : ℕ) → (a == b) ≡ true → a ≡ b
same_words a b h = grind (arith, nat_tests)

-- where the present state is the one that a view loaded, its next record is a row, and the state that it drafted has a property
abbrev DraftedHas : (StackState → Type 0) → Words → TransferView → States → Type 0
DraftedHas P m v states = m State ≡ v.loaded.state → (v.next_record < value_limit) × P (drafted_state (states (state_tag m)) v)

-- the state is exchanged, or not
exchange_holds_after : (P : StackState → Type 0) (sizes : Sizes) (m n : Words) (v : TransferView) (states : States) (t : Bool)
    → P (states (state_tag m))
    → DraftedHas P m v states
    → (m State == v.loaded.state) ≡ t
    → Acted sizes (Exchange State v.loaded.state (next_state v)) m n
    → P ((if t then states_with_drafted m v states else states) (state_tag n))
unfolding state_tag
exchange_holds_after P sizes m n v states true holds installs test a =
    let same : m State ≡ v.loaded.state = same_words (m State) v.loaded.state test in
    let drafted = installs same in
    let now : loaded_tag v.loaded ≡ state_tag m = sym (ap tag_of same) in
    let exchanged = exchanges_state sizes v.loaded.state (loaded_tag v.loaded + 1) v.next_record m n drafted.0 test a in
    let tag : state_tag n ≡ state_tag m + 1 = exchanged.state ∙ ap (λ k. k + 1) now in
    let here = with_state_here (state_tag m + 1) (drafted_state (states (state_tag m)) v) states in
    rw (tag, here) drafted.1
exchange_holds_after P sizes m n v states false holds installs test a =
    rw (keeps_state sizes v.loaded.state (next_state v) m n test a).state holds

-- what holds of the present state and of a state that the step installs holds of the present state after a step of a try
try_holds_after : (P : StackState → Type 0) (sizes : Sizes) (m n : Words) (v : TransferView) (states : States) (step : TryStep)
    → P (states (state_tag m))
    → (step ≡ ExchangeState → DraftedHas P m v states)
    → Acted sizes (try_action sizes v step) m n
    → P (states_after_try_step m v states step (state_tag n))
try_holds_after P sizes m n v states LoadState holds installs a = rw (leaves_records sizes (Load State) m n a refl).state holds
try_holds_after P sizes m n v states (LoadRecordWord index) holds installs a =
    rw (leaves_records sizes (Load (RecordWord (loaded_record v.loaded) index)) m n a refl).state holds
try_holds_after P sizes m n v states (LoadCoveredSlot offset) holds installs a =
    rw (leaves_records sizes (Load (Slot (loaded_base v.loaded + offset))) m n a refl).state holds
try_holds_after P sizes m n v states (ExchangeSlot offset) holds installs a = rw (exchanges_slot sizes _ _ _ m n a).state holds
try_holds_after P sizes m n v states (LoadAnnouncement process) holds installs a =
    rw (leaves_records sizes (Load (Announcement process)) m n a refl).state holds
try_holds_after P sizes m n v states (LoadPoppedSlot process) holds installs a =
    rw (leaves_records sizes (Load (Slot (v.draft.base - 1))) m n a refl).state holds
try_holds_after P sizes m n v states (StoreRecordWord index) holds installs a =
    rw (record_stored sizes v.next_record index (stored_word sizes v index) m n a) holds
try_holds_after P sizes m n v states ExchangeState holds installs a =
    exchange_holds_after P sizes m n v states (m State == v.loaded.state) holds (installs refl) refl a

-- the same of any step of a transfer
pub holds_after : (P : StackState → Type 0) (sizes : Sizes) (m n : Words) (v : TransferView) (states : States) (stage : NextStep)
    → P (states (state_tag m))
    → ((second : Bool) → stage ≡ Try second ExchangeState → DraftedHas P m v states)
    → Acted sizes (action_at sizes v stage) m n
    → P (states_after_at m v states stage (state_tag n))
holds_after P sizes m n v states Rest holds installs a = rw (leaves_records sizes (Load State) m n a refl).state holds
holds_after P sizes m n v states Announce holds installs a = rw (announces sizes v.number (own_announcement v) m n a).state holds
holds_after P sizes m n v states (Try second step) holds installs a =
    try_holds_after P sizes m n v states step holds (λ is. installs second (ap (λ s. Try second s) is)) a
holds_after P sizes m n v states LoadFinalState holds installs a = rw (leaves_records sizes (Load State) m n a refl).state holds
holds_after P sizes m n v states LoadReply holds installs a =
    rw (leaves_records sizes (Load (RecordWord (loaded_record v.loaded) (sizes.processes + 2 + v.number))) m n a refl).state holds
