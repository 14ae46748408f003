-- what the actions of the views change
use Rattle.std.proofs.Common.{◌≡◌, ◌≢◌, ℕ, ◌<◌, ◌==◌, true, false, refl, sym, ◌∙◌, ap, inl, inr}
use Rattle.std.specs.Prelude.{◌⊎◌}
use Rattle.std.proofs.lemmas.Bool.{cases_eq, false≢true}
use Rattle.word_layout.specs.Sizes.{Sizes}
use Rattle.word_layout.specs.Names.{InRange}
use Rattle.word_layout.specs.Packing.{tag_of, value_of, tagged, value_limit}
use Rattle.word_layout.specs.declared.name.WordName.{WordName}
use Rattle.word_layout.specs.declared.name.WordName.TheVariants.{State, Announcement, RecordWord, Slot, Next, Data}
use Rattle.word_layout.proofs.Packed.{tag_of-tagged, value_of-tagged}
use Rattle.transfer_machine.specs.Machine.{try_action, action_at, action_of}
use Rattle.transfer_machine.specs.Words.{name_of, left_by}
use Rattle.transfer_machine.specs.declared.action.Action.{Action}
use Rattle.transfer_machine.specs.declared.action.Action.TheVariants.{Store, Exchange}
use Rattle.transfer_machine.specs.declared.transfer.TransferView.{TransferView}
use Rattle.transfer_machine.specs.declared.stage.NextStep.{NextStep}
use Rattle.transfer_machine.specs.declared.stage.NextStep.TheVariants.{Rest, Announce, Try, LoadFinalState, LoadReply}
use Rattle.transfer_machine.specs.declared.stage.TryStep.{TryStep}
use Rattle.transfer_machine.specs.declared.stage.TryStep.TheVariants.{LoadState, LoadRecordWord, LoadCoveredSlot, ExchangeSlot}
use Rattle.transfer_machine.specs.declared.stage.TryStep.TheVariants.{LoadAnnouncement, LoadPoppedSlot, StoreRecordWord, ExchangeState}
use Rattle.transfer_invariant.specs.Memory.{Words, Acted, is_stack_word, state_tag, current_record, word_tag, word_value}
use Rattle.transfer_invariant.proofs.Changes.{RecordsStay, WordStored, StateInstalled}

-- a name is the state or it isn't
is_or_not_state : (x : WordName) → (State ≡ x) ⊎ (State ≢ x)
is_or_not_state State = inl refl
is_or_not_state (Announcement process) = inr (λ e. cc)
is_or_not_state (RecordWord row index) = inr (λ e. cc)
is_or_not_state (Slot slot) = inr (λ e. cc)
is_or_not_state (Next block) = inr (λ e. cc)
is_or_not_state (Data block index) = inr (λ e. cc)

-- a name is that record word or it isn't
is_or_not_word : (r k : ℕ) (x : WordName) → (RecordWord r k ≡ x) ⊎ (RecordWord r k ≢ x)
is_or_not_word r k State = inr (λ e. cc)
is_or_not_word r k (Announcement process) = inr (λ e. cc)
is_or_not_word r k (RecordWord row index) = elim (cases_eq r row) [
  | inl er ↦ elim (cases_eq k index) [ inl ek ↦ inl cc | inr ne ↦ inr (λ e. ne cc) ]
  | inr ne ↦ inr (λ e. ne cc)
]
is_or_not_word r k (Slot slot) = inr (λ e. cc)
is_or_not_word r k (Next block) = inr (λ e. cc)
is_or_not_word r k (Data block index) = inr (λ e. cc)

-- an action that leaves the word that it meets leaves all words
left_word : (sizes : Sizes) (action : Action) (m n : Words) (q : WordName) → Acted sizes action m n
    → left_by action (m (name_of action)) ≡ m (name_of action) → InRange sizes q → (q ≡ name_of action) ⊎ (q ≢ name_of action) → n q ≡ m q
left_word sizes action m n q a left h (inl e) = rw e (a.here ∙ left)
left_word sizes action m n q a left h (inr ne) = a.elsewhere q h ne

-- such an action leaves the state and all record words
pub leaves_records : (sizes : Sizes) (action : Action) (m n : Words) → Acted sizes action m n
    → left_by action (m (name_of action)) ≡ m (name_of action) → RecordsStay sizes m n
unfolding state_tag current_record word_tag word_value
leaves_records sizes action m n a left = record {
  state = ap tag_of (left_word sizes action m n State a left tt (is_or_not_state (name_of action)));
  current = ap value_of (left_word sizes action m n State a left tt (is_or_not_state (name_of action)));
  tags = λ r k lr lk. ap tag_of (left_word sizes action m n (RecordWord r k) a left (lr, lk) (is_or_not_word r k (name_of action)));
  values = λ r k lr lk. ap value_of (left_word sizes action m n (RecordWord r k) a left (lr, lk) (is_or_not_word r k (name_of action)));
}

-- so does one on another word, for the state and the records
pub misses_records : (sizes : Sizes) (action : Action) (m n : Words) → Acted sizes action m n → State ≢ name_of action
    → ((r k : ℕ) → RecordWord r k ≢ name_of action) → RecordsStay sizes m n
unfolding state_tag current_record word_tag word_value
misses_records sizes action m n a no_state no_word =
    let state : n State ≡ m State = a.elsewhere State tt no_state in
    record {
      state = ap tag_of state;
      current = ap value_of state;
      tags = λ r k lr lk. ap tag_of (a.elsewhere (RecordWord r k) (lr, lk) (no_word r k));
      values = λ r k lr lk. ap value_of (a.elsewhere (RecordWord r k) (lr, lk) (no_word r k));
    }

-- the store of an announcement leaves the state and all records
pub announces : (sizes : Sizes) (process word : ℕ) (m n : Words) → Acted sizes (Store (Announcement process) word) m n
    → RecordsStay sizes m n
announces sizes process word m n a = misses_records sizes (Store (Announcement process) word) m n a (λ e. cc) (λ r k e. cc)

-- the exchange of a slot, whether it succeeds or not, leaves the state and all records
pub exchanges_slot : (sizes : Sizes) (slot old new : ℕ) (m n : Words) → Acted sizes (Exchange (Slot slot) old new) m n
    → RecordsStay sizes m n
exchanges_slot sizes slot old new m n a = misses_records sizes (Exchange (Slot slot) old new) m n a (λ e. cc) (λ r k e. cc)

-- a record word is stored
pub stores_word : (sizes : Sizes) (row index tag value : ℕ) (m n : Words) → value < value_limit
    → Acted sizes (Store (RecordWord row index) (tagged tag value)) m n → WordStored sizes m n row index tag value
unfolding state_tag current_record word_tag word_value
stores_word sizes row index tag value m n fits a =
    let state : n State ≡ m State = a.elsewhere State tt (λ e. cc) in
    record {
      state = ap tag_of state;
      current = ap value_of state;
      tag_here = ap tag_of a.here ∙ tag_of-tagged tag value fits;
      value_here = ap value_of a.here ∙ value_of-tagged tag value fits;
      row_tags = λ r k lr lk ne. ap tag_of (a.elsewhere (RecordWord r k) (lr, lk) (λ e. ne cc));
      row_values = λ r k lr lk ne. ap value_of (a.elsewhere (RecordWord r k) (lr, lk) (λ e. ne cc));
      index_tags = λ r k lr lk ne. ap tag_of (a.elsewhere (RecordWord r k) (lr, lk) (λ e. ne cc));
      index_values = λ r k lr lk ne. ap value_of (a.elsewhere (RecordWord r k) (lr, lk) (λ e. ne cc));
    }

-- the state is exchanged, or not
pub exchanges_state : (sizes : Sizes) (old tag row : ℕ) (m n : Words) → row < value_limit → (m State == old) ≡ true
    → Acted sizes (Exchange State old (tagged tag row)) m n → StateInstalled sizes m n tag row
unfolding state_tag current_record word_tag word_value
exchanges_state sizes old tag row m n fits same a =
    let state : n State ≡ tagged tag row = rw same at a.here in
    record {
      state = ap tag_of state ∙ tag_of-tagged tag row fits;
      current = ap value_of state ∙ value_of-tagged tag row fits;
      tags = λ r k lr lk. ap tag_of (a.elsewhere (RecordWord r k) (lr, lk) (λ e. cc));
      values = λ r k lr lk. ap value_of (a.elsewhere (RecordWord r k) (lr, lk) (λ e. cc));
    }

-- where the state isn't the one that an exchange expects, the state and all records stay
pub keeps_state : (sizes : Sizes) (old new : ℕ) (m n : Words) → (m State == old) ≡ false → Acted sizes (Exchange State old new) m n
    → RecordsStay sizes m n
keeps_state sizes old new m n differs a = leaves_records sizes (Exchange State old new) m n a (rw differs refl)

-- a step of a transfer is on a word of the shared stack
try_on_stack_word : (sizes : Sizes) (v : TransferView) (s : TryStep) → is_stack_word (name_of (try_action sizes v s)) ≡ true
try_on_stack_word sizes v LoadState = refl
try_on_stack_word sizes v (LoadRecordWord index) = refl
try_on_stack_word sizes v (LoadCoveredSlot offset) = refl
try_on_stack_word sizes v (ExchangeSlot offset) = refl
try_on_stack_word sizes v (LoadAnnouncement process) = refl
try_on_stack_word sizes v (LoadPoppedSlot process) = refl
try_on_stack_word sizes v (StoreRecordWord index) = refl
try_on_stack_word sizes v ExchangeState = refl

on_stack_word : (sizes : Sizes) (v : TransferView) (s : NextStep) → is_stack_word (name_of (action_at sizes v s)) ≡ true
on_stack_word sizes v Rest = refl
on_stack_word sizes v Announce = refl
on_stack_word sizes v (Try second step) = try_on_stack_word sizes v step
on_stack_word sizes v LoadFinalState = refl
on_stack_word sizes v LoadReply = refl

-- so it leaves all other words
pub leaves_other_words : (sizes : Sizes) (v : TransferView) (m n : Words) (name : WordName) → Acted sizes (action_of sizes v) m n
    → is_stack_word name ≡ false → InRange sizes name → n name ≡ m name
leaves_other_words sizes v m n name a other low =
    a.elsewhere name low (λ e. false≢true (sym other ∙ ap is_stack_word e ∙ on_stack_word sizes v v.next))
