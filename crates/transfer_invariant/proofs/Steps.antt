-- steps that change neither the state nor a record
use Rattle.std.proofs.Common.{◌≡◌, ◌≢◌, ℕ, ◌<◌, ◌≤◌, Bool, true, refl, ap, arith, length}
use Rattle.std.proofs.lemmas.Bool.Decides.{nat_tests}
use Rattle.word_layout.specs.Sizes.{Sizes}
use Rattle.word_layout.specs.Names.{record_words}
use Rattle.word_layout.specs.Packing.{tag_of, value_of}
use Rattle.word_layout.specs.declared.name.WordName.TheVariants.{State}
use Rattle.transfer_machine.specs.Loads.{loaded_tag, record_value}
use Rattle.transfer_machine.specs.Machine.{try_ended, after_try, after_slot, after_record, after_heard}
use Rattle.transfer_machine.specs.declared.loaded.Loaded.{Loaded}
use Rattle.transfer_machine.specs.declared.transfer.TransferView.{TransferView}
use Rattle.transfer_machine.specs.declared.stage.NextStep.{NextStep}
use Rattle.transfer_machine.specs.declared.stage.NextStep.TheVariants.{Try}
use Rattle.transfer_invariant.specs.Memory.{Words, Views, States, Moved, state_tag, current_record, state_value}
use Rattle.transfer_invariant.specs.Progress.{in_try, has_loaded, record_index, loaded_words, loaded_in_try, stored_words}
use Rattle.transfer_invariant.specs.Records.{CurrentRecord, StatesFit, TagsBelow, OwnRecord, LoadedState, OwnerWentOn}
use Rattle.transfer_invariant.specs.Invariant.{RecordsHold}
use Rattle.transfer_invariant.proofs.Changes.{RecordsStay}
use Rattle.transfer_invariant.proofs.MovedViews.{all_after, all_pairs_after}
use Rattle.transfer_invariant.proofs.Stable.{stay_current, stay_states, stay_tags, stay_own, stay_loaded}
use Rattle.transfer_invariant.proofs.Own.{KeepsLoaded, StoresNone, keeps_own, keeps_loaded, keeps_from}
use Rattle.transfer_invariant.proofs.Own.{keeps_to, state_own, state_loaded, state_from}

-- what a step of process i owes
pub record Owed (sizes : Sizes) (n : Words) (views : Views) (states : States) (i : ℕ) (x : TransferView) : Type 0 where
  pub current : CurrentRecord sizes n states
  pub states_fit : StatesFit sizes n states
  pub tags_below : TagsBelow sizes n
  pub own : OwnRecord sizes n i x
  pub loaded : LoadedState sizes n states x
  pub others_own : (o : ℕ) → o < sizes.processes → o ≢ i → OwnRecord sizes n o (views o)
  pub others_loaded : (o : ℕ) → o < sizes.processes → o ≢ i → LoadedState sizes n states (views o)
  pub from : (o : ℕ) → o < sizes.processes → o ≢ i → OwnerWentOn x (views o)
  pub into : (o : ℕ) → o < sizes.processes → o ≢ i → OwnerWentOn (views o) x
  pub self : OwnerWentOn x x
  pub rest : (a o : ℕ) → a < sizes.processes → o < sizes.processes → a ≢ i → o ≢ i → OwnerWentOn (views a) (views o)

-- the parts on the records hold after a step of process i, where it and all others meet what the step owes
pub assemble : (sizes : Sizes) (n : Words) (views after : Views) (states : States) (i : ℕ) (x : TransferView) → Moved i x views after
    → Owed sizes n views states i x → RecordsHold sizes n after states
assemble sizes n views after states i x moved owed = record {
  current = owed.current;
  states_fit = owed.states_fit;
  tags_below = owed.tags_below;
  own = all_after (OwnRecord sizes n) sizes.processes views after i x moved owed.own owed.others_own;
  loaded = all_after (λ o. LoadedState sizes n states) sizes.processes views after i x moved owed.loaded owed.others_loaded;
  owners = all_pairs_after (λ a o. OwnerWentOn) sizes.processes views after i x moved owed.self owed.from owed.into owed.rest;
}

-- words that stay as they were
pub stay : (sizes : Sizes) (m n : Words) (views : Views) (states : States) → RecordsHold sizes m views states → RecordsStay sizes m n
    → RecordsHold sizes n views states
stay sizes m n views states inv s = record {
  current = stay_current sizes m n states inv.current s;
  states_fit = stay_states sizes m n states inv.states_fit s.state;
  tags_below = stay_tags sizes m n inv.tags_below s;
  own = λ o lo. stay_own sizes m n o (views o) lo (inv.own o lo) s;
  loaded = λ o lo. stay_loaded sizes m n states (views o) (inv.loaded o lo) s;
  owners = inv.owners;
}

-- a view that goes on
pub moves_on : (sizes : Sizes) (m : Words) (views after : Views) (states : States) (i : ℕ) (x : TransferView) → i < sizes.processes
    → RecordsHold sizes m views states → KeepsLoaded (views i) x → StoresNone sizes x.next → length x.loaded.record_words ≡ 66
    → ((k : ℕ) → k < loaded_words (record_words sizes) x.next
    → record_value x.loaded k ≡ state_value sizes.processes (states (loaded_tag (views i).loaded)) k)
    → Moved i x views after → RecordsHold sizes m after states
moves_on sizes m views after states i x li inv g none room loads moved = assemble sizes m views after states i x moved (record {
  current = inv.current;
  states_fit = inv.states_fit;
  tags_below = inv.tags_below;
  own = keeps_own sizes m i (views i) x (inv.own i li) g none;
  loaded = keeps_loaded sizes m states (views i) x (inv.loaded i li) g room loads;
  others_own = λ o lo ne. inv.own o lo;
  others_loaded = λ o lo ne. inv.loaded o lo;
  from = λ o lo ne. keeps_from (views i) x (views o) (inv.owners i o li lo) g;
  into = λ o lo ne. keeps_to (views i) x (views o) (inv.owners o i lo li) g;
  self = keeps_to (views i) x x (keeps_from (views i) x (views i) (inv.owners i i li li) g) g;
  rest = λ a o la lo na no. inv.owners a o la lo;
})

-- and loads no word of the record
pub moves_on_same : (sizes : Sizes) (m : Words) (views after : Views) (states : States) (i : ℕ) (x : TransferView) → i < sizes.processes
    → RecordsHold sizes m views states → KeepsLoaded (views i) x → StoresNone sizes x.next
    → x.loaded.record_words ≡ (views i).loaded.record_words
    → loaded_words (record_words sizes) x.next ≤ loaded_words (record_words sizes) (views i).next → Moved i x views after
    → RecordsHold sizes m after states
moves_on_same sizes m views after states i x li inv g none same le moved =
    moves_on sizes m views after states i x li inv g none (rw same (inv.loaded i li).room)
    (λ k lt. rw same ((inv.loaded i li).loaded k (omega arith))) moved

-- a view that loads the state
pub loads_state : (sizes : Sizes) (m : Words) (views after : Views) (states : States) (i : ℕ) (x : TransferView) → i < sizes.processes
    → RecordsHold sizes m views states → x.next_record ≡ (views i).next_record → x.installed ≡ (views i).installed → record_index x.next ≡ 0
    → stored_words (record_words sizes) x.next ≡ 0 → loaded_words (record_words sizes) x.next ≡ 0
    → x.loaded.record_words ≡ (views i).loaded.record_words → x.loaded.state ≡ m State → Moved i x views after
    → RecordsHold sizes m after states
unfolding state_tag current_record
loads_state sizes m views after states i x li inv en ei ex es el er et moved =
    let own = state_own sizes m i (views i) x (inv.own i li) en ei ex es (ap tag_of et) in
    assemble sizes m views after states i x moved (record {
      current = inv.current;
      states_fit = inv.states_fit;
      tags_below = inv.tags_below;
      own = own;
      loaded = state_loaded sizes m states x inv.current (rw er (inv.loaded i li).room) el (ap tag_of et) (ap value_of et);
      others_own = λ o lo ne. inv.own o lo;
      others_loaded = λ o lo ne. inv.loaded o lo;
      from = λ o lo ne. state_from sizes m o x (views o) (inv.own o lo) (ap value_of et);
      into = λ o lo ne. λ h r. rw ei (inv.owners o i lo li h (rw en at r));
      self = state_from sizes m i x x own (ap value_of et);
      rest = λ a o la lo na no. inv.owners a o la lo;
    })

-- a step in a try
pub try_has : (s : NextStep) → in_try s ≡ true → has_loaded s ≡ true
try_has s e = grind arith

-- a view that changes neither its records nor the loaded state within a try goes on with that state
pub within : (v x : TransferView) → in_try v.next ≡ true → x.next_record ≡ v.next_record → x.installed ≡ v.installed
    → x.loaded.state ≡ v.loaded.state → KeepsLoaded v x
within v x e en ei es = record { next_record = en; installed = ei; state = es; has = λ h. try_has v.next e; tries = λ h. e }

-- what follows a try has stored no word of the next record
pub ended_none : (sizes : Sizes) (second : Bool) → StoresNone sizes (after_try second)
ended_none sizes second = grind arith

-- nor has it loaded a word of a record
pub ended_loads : (words : ℕ) (second : Bool) → loaded_words words (after_try second) ≡ 0
ended_loads words second = grind arith

-- the end of a try that installs nothing keeps the parts on the records
pub try_ends : (sizes : Sizes) (m : Words) (views after : Views) (states : States) (i : ℕ) (second : Bool) → i < sizes.processes
    → RecordsHold sizes m views states → in_try (views i).next ≡ true → Moved i (try_ended second (views i)) views after
    → RecordsHold sizes m after states
try_ends sizes m views after states i second li inv e moved =
    let x = try_ended second (views i) in
    moves_on_same sizes m views after states i x li inv (within (views i) x e refl refl refl) (ended_none sizes second) refl
    (rw (ended_loads (record_words sizes) second) (omega arith)) moved

-- what follows a covered slot, and an announcement
pub slot_none : (sizes : Sizes) (second : Bool) (loaded : Loaded) (offset : ℕ) → StoresNone sizes (Try second (after_slot loaded offset))
slot_none sizes second loaded offset = grind (arith, nat_tests)

-- a step after a covered slot has loaded no more words than a record has
pub slot_loads : (words : ℕ) (loaded : Loaded) (offset : ℕ) → loaded_in_try words (after_slot loaded offset) ≤ words
slot_loads words loaded offset = grind (arith, nat_tests)

-- a step after an announcement has stored no word of the next record
pub heard_none : (sizes : Sizes) (second : Bool) (process : ℕ) → StoresNone sizes (Try second (after_heard sizes process))
heard_none sizes second process = grind (arith, nat_tests)

-- nor has it loaded more words than a record has
pub heard_loads : (words : ℕ) (sizes : Sizes) (process : ℕ) → loaded_in_try words (after_heard sizes process) ≤ words
heard_loads words sizes process = grind (arith, nat_tests)

-- a step after a whole record has stored no word of the next record
pub record_none : (sizes : Sizes) (second : Bool) (loaded : Loaded) → StoresNone sizes (Try second (after_record loaded))
record_none sizes second loaded = grind (arith, nat_tests)

-- nor has it loaded more words than a record has
pub record_loads : (words : ℕ) (loaded : Loaded) → loaded_in_try words (after_record loaded) ≤ words
record_loads words loaded = grind (arith, nat_tests)
