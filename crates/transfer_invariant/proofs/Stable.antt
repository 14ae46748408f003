-- what the changes of the words leave of the facts, and of those of other views
use Rattle.std.proofs.Common.{◌≡◌, ◌≢◌, ℕ, Bool, ◌+◌, ◌*◌, ◌/◌, ◌<◌, ◌≤◌, sym, ◌∙◌, ap, inl, inr, arith}
use Rattle.std.proofs.lemmas.Bool.{cases_eq}
use Rattle.word_layout.specs.Sizes.{Sizes}
use Rattle.word_layout.specs.Names.{record_words}
use Rattle.transfer_machine.specs.Loads.{loaded_tag}
use Rattle.transfer_machine.specs.Tries.{drafted_value}
use Rattle.transfer_machine.specs.declared.transfer.TransferView.{TransferView}
use Rattle.transfer_machine.specs.declared.stage.NextStep.{NextStep}
use Rattle.transfer_machine.specs.declared.stage.NextStep.TheVariants.{Try}
use Rattle.transfer_machine.specs.declared.stage.TryStep.TheVariants.{ExchangeState}
use Rattle.transfer_invariant.specs.Memory.{Words, States, state_tag, current_record, word_tag, word_value, state_value}
use Rattle.transfer_invariant.specs.Progress.{record_index, stored_words}
use Rattle.transfer_invariant.specs.Records.{CurrentRecord, StatesFit, TagsBelow, OwnRecord, LoadedState, OwnerWentOn}
use Rattle.transfer_invariant.proofs.Changes.{RecordsStay, WordStored, StateInstalled}

-- the words of the next record that are stored are in range
pub stored_low : (sizes : Sizes) (s : NextStep) (k : ℕ) → record_index s < record_words sizes → k < stored_words (record_words sizes) s
    → k < record_words sizes
stored_low sizes s k h lt = grind arith

-- the next record of a process is one of the records
pub next_low : (p i row : ℕ) → i < p → row / 2 ≡ i → row < 2 * p + 1
next_low p i row lt e = omega arith

-- neither the state nor a record word changes
pub stay_current : (sizes : Sizes) (m n : Words) (states : States) → CurrentRecord sizes m states → RecordsStay sizes m n
    → CurrentRecord sizes n states
stay_current sizes m n states h s = grind arith

-- where the number of the state stays, every state so far still fits
pub stay_states : (sizes : Sizes) (m n : Words) (states : States) → StatesFit sizes m states → state_tag n ≡ state_tag m
    → StatesFit sizes n states
stay_states sizes m n states h e t le = h t (omega (arith, e))

-- no record word gets a tag above that of the state to come
pub stay_tags : (sizes : Sizes) (m n : Words) → TagsBelow sizes m → RecordsStay sizes m n → TagsBelow sizes n
stay_tags sizes m n h s row index lr lk = grind (arith, h row index lr lk)

-- the own record of a process stays with the state and with its words
own_stays : (sizes : Sizes) (m n : Words) (i : ℕ) (v : TransferView) → OwnRecord sizes m i v → state_tag n ≡ state_tag m
    → current_record n ≡ current_record m → ((k : ℕ) → k < record_words sizes → word_tag n v.next_record k ≡ word_tag m v.next_record k)
    → ((k : ℕ) → k < record_words sizes → word_value n v.next_record k ≡ word_value m v.next_record k) → OwnRecord sizes n i v
own_stays sizes m n i v h state current tags values = record {
  index = h.index;
  next = h.next;
  installed = rw state h.installed;
  tried = h.tried;
  apart = rw current h.apart;
  stored_tags = λ k lt. tags k (stored_low sizes v.next k h.index lt) ∙ h.stored_tags k lt;
  stored_values = λ k lt. values k (stored_low sizes v.next k h.index lt) ∙ h.stored_values k lt;
}

-- the own record of every process stays
pub stay_own : (sizes : Sizes) (m n : Words) (i : ℕ) (v : TransferView) → i < sizes.processes → OwnRecord sizes m i v
    → RecordsStay sizes m n → OwnRecord sizes n i v
stay_own sizes m n i v li h s =
    let row = next_low sizes.processes i v.next_record li h.next in
    own_stays sizes m n i v h s.state s.current (λ k lk. s.tags v.next_record k row lk) (λ k lk. s.values v.next_record k row lk)

-- so does what a view loaded
pub stay_loaded : (sizes : Sizes) (m n : Words) (states : States) (v : TransferView) → LoadedState sizes m states v → RecordsStay sizes m n
    → LoadedState sizes n states v
stay_loaded sizes m n states v h s = grind arith

-- a record word is stored by the process i
pub store_current : (sizes : Sizes) (m n : Words) (states : States) (i index tag value : ℕ) (v : TransferView) → OwnRecord sizes m i v
    → CurrentRecord sizes m states → WordStored sizes m n v.next_record index tag value → CurrentRecord sizes n states
store_current sizes m n states i index tag value v own h s = grind arith

-- a record word with a tag at most one above the state's keeps all tags below that of the state to come
pub store_tags : (sizes : Sizes) (m n : Words) (row index tag value : ℕ) → TagsBelow sizes m → tag ≤ state_tag m + 1
    → WordStored sizes m n row index tag value → TagsBelow sizes n
store_tags sizes m n row index tag value h le s r k lr lk = elim (cases_eq r row) [
  | inl er ↦ elim (cases_eq k index) [
    | inl ek ↦ rw (er, ek, s.tag_here, s.state) le
    | inr ne ↦ rw (s.index_tags r k lr lk ne, s.state) (h r k lr lk)
  ]
  | inr ne ↦ rw (s.row_tags r k lr lk ne, s.state) (h r k lr lk)
]

-- the next records of two processes differ
pub next_apart : (sizes : Sizes) (m : Words) (i o : ℕ) (v w : TransferView) → OwnRecord sizes m i v → OwnRecord sizes m o w → o ≢ i
    → w.next_record ≢ v.next_record
next_apart sizes m i o v w hv hw ne = λ e. ne (sym hw.next ∙ ap (λ r. r / 2) e ∙ hv.next)

-- a store into the next record of a process leaves that of every other process
pub store_own : (sizes : Sizes) (m n : Words) (i o index tag value : ℕ) (v w : TransferView) → o < sizes.processes → OwnRecord sizes m i v
    → OwnRecord sizes m o w → o ≢ i → WordStored sizes m n v.next_record index tag value → OwnRecord sizes n o w
store_own sizes m n i o index tag value v w lo hv h ne s =
    let row = next_low sizes.processes o w.next_record lo h.next in
    let apart = next_apart sizes m i o v w hv h ne in
    own_stays sizes m n o w h s.state s.current (λ k lk. s.row_tags w.next_record k row lk apart)
    (λ k lk. s.row_values w.next_record k row lk apart)

-- the record that a view loaded is rewritten only with tags above the loaded one
pub store_loaded : (sizes : Sizes) (m n : Words) (states : States) (index tag value : ℕ) (v w : TransferView) → LoadedState sizes m states w
    → OwnerWentOn w v → v.installed < tag → index < record_words sizes → WordStored sizes m n v.next_record index tag value
    → LoadedState sizes n states w
store_loaded sizes m n states index tag value v w h owner low lk s = grind arith

-- a state is installed: the new one is that of the words that its process stored
pub install_current : (sizes : Sizes) (m n : Words) (states later : States) (i : ℕ) (second : Bool) (v : TransferView) → i < sizes.processes
    → OwnRecord sizes m i v → v.next ≡ Try second ExchangeState → loaded_tag v.loaded ≡ state_tag m
    → StateInstalled sizes m n (loaded_tag v.loaded + 1) v.next_record
    → ((k : ℕ) → k < record_words sizes
    → state_value sizes.processes (later (loaded_tag v.loaded + 1)) k ≡ drafted_value sizes.processes v.draft k)
    → CurrentRecord sizes n later
install_current sizes m n states later i second v li own e now s drafted =
    let low = next_low sizes.processes i v.next_record li own.next in
    record {
      row = rw s.current low;
      tags = λ k lt. rw (s.current, s.state) (s.tags v.next_record k low lt ∙ own.stored_tags k (rw e lt));
      values = λ k lt. rw (s.current, s.state) (s.values v.next_record k low lt ∙ own.stored_values k (rw e lt) ∙ sym (drafted k lt));
    }

-- an installed state, whose number is one higher, keeps all tags below that of the state to come
pub install_tags : (sizes : Sizes) (m n : Words) (row : ℕ) → TagsBelow sizes m → StateInstalled sizes m n (state_tag m + 1) row
    → TagsBelow sizes n
install_tags sizes m n row h s r k lr lk = let le = h r k lr lk in rw (s.tags r k lr lk, s.state) (omega arith)

-- a process that installs its next record leaves those of the others
pub install_own : (sizes : Sizes) (m n : Words) (i o : ℕ) (v w : TransferView) → o < sizes.processes → OwnRecord sizes m i v
    → OwnRecord sizes m o w → o ≢ i → StateInstalled sizes m n (state_tag m + 1) v.next_record → OwnRecord sizes n o w
install_own sizes m n i o v w lo hv h ne s =
    let low = next_low sizes.processes o w.next_record lo h.next in
    record {
      index = h.index;
      next = h.next;
      tried = h.tried;
      apart = λ e. next_apart sizes m i o v w hv h ne (sym e ∙ s.current);
      installed = let le = h.installed in rw s.state (omega arith);
      stored_tags = λ k lt. s.tags w.next_record k low (stored_low sizes w.next k h.index lt) ∙ h.stored_tags k lt;
      stored_values = λ k lt. s.values w.next_record k low (stored_low sizes w.next k h.index lt) ∙ h.stored_values k lt;
    }

-- what a view loaded stays as it is when a later state is installed
pub install_loaded : (sizes : Sizes) (m n : Words) (states later : States) (row : ℕ) (w : TransferView) → LoadedState sizes m states w
    → StateInstalled sizes m n (state_tag m + 1) row → ((t : ℕ) → t ≤ state_tag m → later t ≡ states t) → LoadedState sizes n later w
install_loaded sizes m n states later row w h s same = grind arith
