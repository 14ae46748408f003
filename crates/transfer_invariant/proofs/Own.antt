-- what the moving view keeps of the facts
use Rattle.std.proofs.Common.{◌≡◌, ◌≢◌, ℕ, ◌+◌, ◌/◌, ◌<◌, ◌≤◌, Bool, true, refl, sym, ◌∙◌, inl, inr}
use Rattle.std.proofs.Common.{arith, length, get_or, set, get_or-set_same, get_or-set_other}
use Rattle.std.proofs.lemmas.Bool.{cases_eq}
use Rattle.std.proofs.lemmas.Bool.Decides.{nat_tests}
use Rattle.word_layout.specs.Sizes.{Sizes}
use Rattle.word_layout.specs.Names.{records, record_words}
use Rattle.word_layout.specs.Packing.{tag_of, value_of}
use Rattle.transfer_machine.specs.Loads.{loaded_tag, loaded_record, record_value}
use Rattle.transfer_machine.specs.Tries.{drafted_value}
use Rattle.transfer_machine.specs.Machine.{other_record, after_stored, installed}
use Rattle.transfer_machine.specs.declared.transfer.TransferView.{TransferView}
use Rattle.transfer_machine.specs.declared.stage.NextStep.{NextStep}
use Rattle.transfer_machine.specs.declared.stage.NextStep.TheVariants.{Try}
use Rattle.transfer_machine.specs.declared.stage.TryStep.TheVariants.{LoadRecordWord, StoreRecordWord}
use Rattle.transfer_invariant.specs.Memory.{Words, States, state_tag, current_record, word_tag, word_value, state_value}
use Rattle.transfer_invariant.specs.Progress.{in_try, has_loaded, record_index, record_index_in_try}
use Rattle.transfer_invariant.specs.Progress.{loaded_words, loaded_in_try, stored_words, stored_in_try}
use Rattle.transfer_invariant.specs.Records.{CurrentRecord, OwnRecord, LoadedState, OwnerWentOn}
use Rattle.transfer_invariant.proofs.Changes.{WordStored, StateInstalled}
use Rattle.transfer_invariant.proofs.Stable.{next_low}

-- a view goes on with the state that it loaded, or leaves it
pub record KeepsLoaded (v x : TransferView) : Type 0 where
  pub next_record : x.next_record ≡ v.next_record
  pub installed : x.installed ≡ v.installed
  pub state : x.loaded.state ≡ v.loaded.state
  pub has : has_loaded x.next ≡ true → has_loaded v.next ≡ true
  pub tries : in_try x.next ≡ true → in_try v.next ≡ true

-- its next step is about a word in range, and no word of its next record is stored
pub record StoresNone (sizes : Sizes) (s : NextStep) : Type 0 where
  pub index : record_index s < record_words sizes
  pub stored : stored_words (record_words sizes) s ≡ 0

-- a view that stored no word of its next record, and goes on from another, keeps the part own record
pub keeps_own : (sizes : Sizes) (n : Words) (i : ℕ) (v x : TransferView) → OwnRecord sizes n i v → KeepsLoaded v x → StoresNone sizes x.next
    → OwnRecord sizes n i x
keeps_own sizes n i v x h g none = record {
  index = none.index;
  next = rw g.next_record h.next;
  apart = rw g.next_record h.apart;
  installed = rw g.installed h.installed;
  tried = λ e. rw (g.installed, g.state) (h.tried (g.tries e));
  stored_tags = λ k lt. absurd (omega (arith, none.stored));
  stored_values = λ k lt. absurd (omega (arith, none.stored));
}

-- one that goes on keeps the part loaded state, as far as it has loaded that state's words
pub keeps_loaded : (sizes : Sizes) (n : Words) (states : States) (v x : TransferView) → LoadedState sizes n states v → KeepsLoaded v x
    → length x.loaded.record_words ≡ 66
    → ((k : ℕ) → k < loaded_words (record_words sizes) x.next
    → record_value x.loaded k ≡ state_value sizes.processes (states (loaded_tag v.loaded)) k)
    → LoadedState sizes n states x
keeps_loaded sizes n states v x h g room loads = record {
  room = room;
  past = λ e. rw g.state (h.past (g.has e));
  row = λ e. rw g.state (h.row (g.has e));
  same = λ e now. rw g.state (h.same (g.has e) (rw g.state at now));
  tags = λ e k lt. rw g.state (h.tags (g.has e) k lt);
  values = λ e k lt t. rw g.state (h.values (g.has e) k lt (rw g.state at t));
  loaded = λ k lt. rw g.state (loads k lt);
}

-- it stays so of a view that goes on, that the owner of the record that it loaded installed a later state
pub keeps_from : (v x w : TransferView) → OwnerWentOn v w → KeepsLoaded v x → OwnerWentOn x w
keeps_from v x w h g = λ e r. rw g.state (h (g.has e) (rw g.state at r))

-- and of the owner that goes on
pub keeps_to : (v x w : TransferView) → OwnerWentOn w v → KeepsLoaded v x → OwnerWentOn w x
keeps_to v x w h g = λ e r. rw g.installed (h e (rw g.next_record at r))

-- a word of the record is loaded whose tag isn't higher
pub word_loaded : (sizes : Sizes) (n : Words) (states : States) (second : Bool) (index word : ℕ) (v : TransferView) → sizes.processes ≤ 32
    → LoadedState sizes n states v → v.next ≡ Try second (LoadRecordWord index) → index < record_words sizes
    → tag_of word ≡ word_tag n (loaded_record v.loaded) index → value_of word ≡ word_value n (loaded_record v.loaded) index
    → tag_of word ≤ loaded_tag v.loaded → (k : ℕ) → k < index + 1
    → value_of (get_or (set v.loaded.record_words index word) k 0) ≡ state_value sizes.processes (states (loaded_tag v.loaded)) k
word_loaded sizes n states second index word v few h e low et ev le k lt =
    let has : has_loaded v.next ≡ true = rw e refl in
    elim (cases_eq k index) [
      | inl at ↦ let ge = h.tags has index low in
          let here = get_or-set_same v.loaded.record_words index word 0 (omega (arith, h.room)) in
          rw (at, here) (ev ∙ h.values has index low (omega (arith, et)))
      | inr apart ↦ rw (get_or-set_other v.loaded.record_words index k word 0 apart) (h.loaded k (rw e (omega arith)))
    ]

-- the state is loaded, at the beginning of a try or in the end
pub state_own : (sizes : Sizes) (n : Words) (i : ℕ) (v x : TransferView) → OwnRecord sizes n i v → x.next_record ≡ v.next_record
    → x.installed ≡ v.installed → record_index x.next ≡ 0 → stored_words (record_words sizes) x.next ≡ 0 → loaded_tag x.loaded ≡ state_tag n
    → OwnRecord sizes n i x
state_own sizes n i v x h en ei ex es et = record {
  index = rw ex (omega arith);
  next = rw en h.next;
  apart = rw en h.apart;
  installed = rw ei h.installed;
  tried = λ e. rw (ei, et) h.installed;
  stored_tags = λ k lt. absurd (omega (arith, es));
  stored_values = λ k lt. absurd (omega (arith, es));
}

-- a view that has just loaded the state, and no word of its record yet, loaded the present one
pub state_loaded : (sizes : Sizes) (n : Words) (states : States) (x : TransferView) → CurrentRecord sizes n states
    → length x.loaded.record_words ≡ 66 → loaded_words (record_words sizes) x.next ≡ 0 → loaded_tag x.loaded ≡ state_tag n
    → loaded_record x.loaded ≡ current_record n → LoadedState sizes n states x
state_loaded sizes n states x c room none et er = record {
  room = room;
  past = λ e. omega (arith, et);
  row = λ e. rw er c.row;
  same = λ e now. er;
  tags = λ e k lt. rw (er, et) (let t = c.tags k lt in omega arith);
  values = λ e k lt t. rw (er, et) (c.values k lt);
  loaded = λ k lt. absurd (omega (arith, none));
}

-- no process's next record is the loaded one
pub state_from : (sizes : Sizes) (n : Words) (i : ℕ) (x w : TransferView) → OwnRecord sizes n i w
    → loaded_record x.loaded ≡ current_record n → OwnerWentOn x w
state_from sizes n i x w h er = λ e r. absurd (h.apart (sym er ∙ sym r))

-- a word of the next record is stored
pub stores_next : (sizes : Sizes) (index : ℕ) → index < record_words sizes
    → record_index_in_try (after_stored sizes index) < record_words sizes
stores_next sizes index low = grind (arith, nat_tests)

-- after the store of a record word one word more is stored
pub stores_count : (sizes : Sizes) (index : ℕ) → stored_in_try (record_words sizes) (after_stored sizes index) ≡ index + 1
stores_count sizes index = grind (arith, nat_tests)

-- while it stores, a try has loaded all words of the loaded state's record
pub stores_loaded : (sizes : Sizes) (index : ℕ) → loaded_in_try (record_words sizes) (after_stored sizes index) ≡ record_words sizes
stores_loaded sizes index = grind (arith, nat_tests)

-- its words with one more
pub one_more_tag : (sizes : Sizes) (m n : Words) (row index tag value : ℕ) → row < records sizes → index < record_words sizes
    → WordStored sizes m n row index tag value → ((k : ℕ) → k < index → word_tag m row k ≡ tag) → (k : ℕ) → k < index + 1
    → word_tag n row k ≡ tag
one_more_tag sizes m n row index tag value lr low s h k lt = elim (cases_eq k index) [
  | inl at ↦ rw at s.tag_here
  | inr ne ↦ s.index_tags row k lr (omega arith) ne ∙ h k (omega arith)
]

-- once a record word is stored, one word more of the record has its drafted value
pub one_more_value : (sizes : Sizes) (m n : Words) (row index tag : ℕ) (drafted : ℕ → ℕ) → row < records sizes → index < record_words sizes
    → WordStored sizes m n row index tag (drafted index) → ((k : ℕ) → k < index → word_value m row k ≡ drafted k) → (k : ℕ) → k < index + 1
    → word_value n row k ≡ drafted k
one_more_value sizes m n row index tag drafted lr low s h k lt = elim (cases_eq k index) [
  | inl at ↦ rw at s.value_here
  | inr ne ↦ s.index_values row k lr (omega arith) ne ∙ h k (omega arith)
]

-- a process that stores a word of its next record, with the next tag and the drafted value, keeps its own record
pub store_own_view : (sizes : Sizes) (m n : Words) (i : ℕ) (second : Bool) (index : ℕ) (v : TransferView) → i < sizes.processes
    → OwnRecord sizes m i v → v.next ≡ Try second (StoreRecordWord index) → index < record_words sizes
    → WordStored sizes m n v.next_record index (loaded_tag v.loaded + 1) (drafted_value sizes.processes v.draft index)
    → OwnRecord sizes n i (record v { next = Try second (after_stored sizes index) })
store_own_view sizes m n i second index v li h e low s =
    let row = next_low sizes.processes i v.next_record li h.next in
    let tag = loaded_tag v.loaded + 1 in
    let drafted = drafted_value sizes.processes v.draft in
    let count = stores_count sizes index in
    record {
      index = stores_next sizes index low;
      next = h.next;
      apart = rw s.current h.apart;
      installed = rw s.state h.installed;
      tried = λ t. h.tried (rw e refl);
      stored_tags = λ k lt.
          one_more_tag sizes m n v.next_record index tag (drafted index) row low s (λ j lj. h.stored_tags j (rw e lj)) k (rw count at lt);
      stored_values = λ k lt.
          one_more_value sizes m n v.next_record index tag drafted row low s (λ j lj. h.stored_values j (rw e lj)) k (rw count at lt);
    }

-- the state is installed: the process goes over to its other record
pub other_own : (row : ℕ) → other_record row / 2 ≡ row / 2
other_own row = grind (arith, nat_tests)

-- a process's two records differ
pub other_apart : (row : ℕ) → row ≢ other_record row
other_apart row = λ e. grind (arith, nat_tests)

-- a process that installs its next record keeps the part own record, its other record now the next
pub install_own_view : (sizes : Sizes) (m n : Words) (i : ℕ) (v : TransferView) → OwnRecord sizes m i v
    → StateInstalled sizes m n (loaded_tag v.loaded + 1) v.next_record → OwnRecord sizes n i (installed v)
install_own_view sizes m n i v h s = record {
  index = omega arith;
  next = other_own v.next_record ∙ h.next;
  apart = λ e. other_apart v.next_record (sym s.current ∙ e);
  installed = rw s.state (omega arith);
  tried = λ e. absurd (grind arith);
  stored_tags = λ k lt. absurd (omega arith);
  stored_values = λ k lt. absurd (omega arith);
}

-- whoever loaded one of its records loaded an earlier state
pub install_to : (sizes : Sizes) (m : Words) (states : States) (v w : TransferView) → LoadedState sizes m states w
    → loaded_tag v.loaded ≡ state_tag m → OwnerWentOn w (installed v)
install_to sizes m states v w h now = λ e r. (let le = h.past e in omega (arith, now))
