-- the steps that only load, and what follows them
use Rattle.std.proofs.Common.{◌≡◌, ◌≢◌, ℕ, ◌+◌, ◌<◌, ◌≤◌, ◌==◌, Bool, true, false, refl, sym, ◌∙◌, ap, arith, set, length, length-set}
use Rattle.std.specs.Prelude.{if◌then◌else◌, nat_lt}
use Rattle.std.proofs.lemmas.Bool.{ltb-true}
use Rattle.std.proofs.lemmas.Bool.Decides.{nat_tests}
use Rattle.word_layout.specs.Sizes.{Sizes}
use Rattle.word_layout.specs.Names.{record_words}
use Rattle.word_layout.specs.Packing.{tag_of, value_of}
use Rattle.word_layout.specs.declared.name.WordName.{WordName}
use Rattle.word_layout.specs.declared.name.WordName.TheVariants.{State, Announcement}
use Rattle.word_layout.proofs.Packed.{tagged-parts}
use Rattle.transfer_machine.specs.Loads.{loaded_tag, loaded_record}
use Rattle.transfer_machine.specs.Tries.{begun_draft}
use Rattle.transfer_machine.specs.Machine.{try_ended, after_slot, after_record, after_heard, after_stored, record_word_loaded}
use Rattle.transfer_machine.specs.declared.loaded.Loaded.{Loaded}
use Rattle.transfer_machine.specs.declared.try_draft.TryDraft.{TryDraft}
use Rattle.transfer_machine.specs.declared.transfer.TransferView.{TransferView}
use Rattle.transfer_machine.specs.declared.action.Action.TheVariants.{Load}
use Rattle.transfer_machine.specs.declared.stage.NextStep.TheVariants.{Try}
use Rattle.transfer_machine.specs.declared.stage.TryStep.{TryStep}
use Rattle.transfer_machine.specs.declared.stage.TryStep.TheVariants.{LoadRecordWord, ExchangeSlot, LoadAnnouncement, LoadPoppedSlot}
use Rattle.transfer_invariant.specs.Memory.{Words, Views, States, Acted, Moved, state_tag, current_record, word_tag}
use Rattle.transfer_invariant.specs.Progress.{in_try, has_loaded_state, has_loaded, heard_in_try, in_first_try, in_second_try}
use Rattle.transfer_invariant.specs.Records.{CurrentRecord, LoadedState}
use Rattle.transfer_invariant.specs.Invariant.{RecordsHold}
use Rattle.transfer_invariant.proofs.Acts.{leaves_records}
use Rattle.transfer_invariant.proofs.Counts.{record_follows, heard_follows}
use Rattle.helping_invariant.specs.Holds.{HelpingHolds}
use Rattle.helping_invariant.proofs.Own.{StaysInTry}
use Rattle.helping_invariant.proofs.Stored.{loads_leave}
use Rattle.helping_invariant.proofs.Moves.{stay, LoadedPast}
use Rattle.helping_invariant.proofs.Turns.{view_same, view_hears, view_ends_try}

-- all views loaded at most the present state
pub past : (sizes : Sizes) (m : Words) (views : Views) (states : States) → RecordsHold sizes m views states → LoadedPast sizes m views
past sizes m views states inv o lo = (inv.loaded o lo).past

-- a load leaves all words
pub loads : (sizes : Sizes) (name : WordName) (m n : Words) (after : Views) (states : States) → Acted sizes (Load name) m n
    → HelpingHolds sizes m after states → HelpingHolds sizes n after states
loads sizes name m n after states a h =
    stay sizes m n after states h (leaves_records sizes (Load name) m n a refl) (loads_leave sizes name m n a)

-- two steps of a try that have loaded the state are in the same try
same_first : (second : Bool) (step now : TryStep) → has_loaded_state step ≡ true → in_first_try (Try second now) ≡ true
    → in_first_try (Try second step) ≡ true
same_first second step now has trying = grind arith

same_second : (second : Bool) (step now : TryStep) → has_loaded_state step ≡ true → in_second_try (Try second now) ≡ true
    → in_second_try (Try second step) ≡ true
same_second second step now has trying = grind arith

-- a view goes on to another step of its try
pub going : (second : Bool) (step now : TryStep) (v x : TransferView) → v.next ≡ Try second step → has_loaded_state step ≡ true
    → x.next ≡ Try second now → has_loaded_state now ≡ true → x.number ≡ v.number → x.age ≡ v.age → x.wish ≡ v.wish
    → x.first_loaded ≡ v.first_loaded → x.loaded.state ≡ v.loaded.state
    → length x.loaded.announcements ≡ length v.loaded.announcements → StaysInTry v x
going second step now v x e has en now_has number age wish first state room = record {
  was = rw e has;
  trying = rw en now_has;
  first = λ k. rw e (same_first second step now has (rw en at k));
  second = λ k. rw e (same_second second step now has (rw en at k));
  number = number;
  age = age;
  wish = wish;
  first_loaded = first;
  loaded = ap tag_of state;
  room = room;
}

-- a record word with a higher tag shows that the state has moved on
moved_on : (sizes : Sizes) (m : Words) (states : States) (v : TransferView) (index : ℕ) → CurrentRecord sizes m states
    → LoadedState sizes m states v → has_loaded v.next ≡ true → index < record_words sizes
    → loaded_tag v.loaded < word_tag m (loaded_record v.loaded) index → loaded_tag v.loaded < state_tag m
moved_on sizes m states v index c l has low higher = grind arith

-- and so does an exchange of the state that fails
same_parts : (a b : ℕ) → tag_of a ≡ tag_of b → value_of a ≡ value_of b → a ≡ b
same_parts a b e f = sym (tagged-parts a) ∙ (rw (e, f) (tagged-parts b))

-- where the state isn't the loaded one at the exchange, a later state was installed meanwhile
pub exchange_failed : (sizes : Sizes) (m : Words) (states : States) (v : TransferView) → LoadedState sizes m states v
    → has_loaded v.next ≡ true → m State ≢ v.loaded.state → loaded_tag v.loaded < state_tag m
unfolding state_tag current_record
exchange_failed sizes m states v l has ne = later (loaded_tag v.loaded) (state_tag m) (l.past has)
    (λ now. ne (same_parts (m State) v.loaded.state (sym now) (sym (l.same has now))))
  where
    later : (a b : ℕ) → a ≤ b → a ≢ b → a < b
    later a b le ne = omega arith

-- what follows in a try has heard no more
record_deaf : (processes : ℕ) (loaded : Loaded) → heard_in_try processes (after_record loaded) ≡ 0
record_deaf processes loaded = grind (arith, nat_tests)

-- after a covered slot is loaded, a try has heard no announcement yet
pub slot_deaf : (processes : ℕ) (t : Bool) (loaded : Loaded) (offset : ℕ)
    → heard_in_try processes (if t then ExchangeSlot offset else after_slot loaded offset) ≡ 0
slot_deaf processes t loaded offset = grind (arith, nat_tests)

-- after an announcement a try has heard at most that one and those of the processes before
pub heard_more : (sizes : Sizes) (process : ℕ) → heard_in_try sizes.processes (after_heard sizes process) ≤ process + 1
heard_more sizes process = grind (arith, nat_tests)

-- while it stores its record, a try has heard at most the announcements of all processes
pub stored_heard : (sizes : Sizes) (processes index : ℕ) → heard_in_try processes (after_stored sizes index) ≤ processes
stored_heard sizes processes index = grind (arith, nat_tests)

-- a record word is loaded
word_goes_on : (sizes : Sizes) (m : Words) (views after : Views) (states : States) (i : ℕ) (second : Bool) (index : ℕ) (loaded : Loaded)
    → i < sizes.processes → HelpingHolds sizes m views states → LoadedPast sizes m views
    → (views i).next ≡ Try second (LoadRecordWord index) → loaded.state ≡ (views i).loaded.state
    → loaded.announcements ≡ (views i).loaded.announcements → (t : Bool)
    → Moved i (if t then record (views i) {
      loaded = loaded;
      next = Try second (after_record loaded);
      draft = begun_draft loaded (views i).draft;
    } else record (views i) { loaded = loaded; next = Try second (LoadRecordWord (index + 1)) }) views after
    → HelpingHolds sizes m after states
word_goes_on sizes m views after states i second index loaded li h past e es ea true moved =
    let v = views i in
    let next = after_record loaded in
    let x = record v { loaded = loaded; next = Try second next; draft = begun_draft loaded v.draft } in
    let follows = record_follows loaded in
    let stays = going second (LoadRecordWord index) next v x e refl refl follows refl refl refl refl es (ap length ea) in
    view_same sizes m views after states i x li h past moved stays (rw (record_deaf sizes.processes loaded) (omega arith)) ea
word_goes_on sizes m views after states i second index loaded li h past e es ea false moved =
    let v = views i in
    let next = LoadRecordWord (index + 1) in
    let x = record v { loaded = loaded; next = Try second next } in
    let stays = going second (LoadRecordWord index) next v x e refl refl refl refl refl refl refl es (ap length ea) in
    view_same sizes m views after states i x li h past moved stays (omega arith) ea

-- the load of a record word, of the loaded state or, which ends the try, of a later one, keeps the parts of helping
pub word_step : (sizes : Sizes) (m : Words) (views after : Views) (states : States) (i : ℕ) (second : Bool) (index word : ℕ)
    → i < sizes.processes → RecordsHold sizes m views states → HelpingHolds sizes m views states
    → (in_try (views i).next ≡ true → (views i).installed ≤ (views i).first_loaded)
    → (views i).next ≡ Try second (LoadRecordWord index) → tag_of word ≡ word_tag m (loaded_record (views i).loaded) index
    → (t : Bool) → nat_lt (loaded_tag (views i).loaded) (tag_of word) ≡ t
    → Moved i (if t then try_ended second (views i) else record_word_loaded sizes second index (record (views i).loaded {
      record_words = set (views i).loaded.record_words index word;
    }) (views i)) views after
    → HelpingHolds sizes m after states
word_step sizes m views after states i second index word li inv h none e et true test moved =
    let v = views i in
    let low : index < record_words sizes = rw e at (inv.own i li).index in
    let above = ltb-true (loaded_tag v.loaded) (tag_of word) test in
    let later = moved_on sizes m states v index inv.current (inv.loaded i li) (rw e refl) low (rw et at above) in
    view_ends_try sizes m views after states i second (LoadRecordWord index) li h (past sizes m views states inv) e refl
    (none (rw e refl)) later moved
word_step sizes m views after states i second index word li inv h none e et false test moved =
    let loaded = record (views i).loaded { record_words = set (views i).loaded.record_words index word } in
    let last = index + 1 == record_words sizes in
    word_goes_on sizes m views after states i second index loaded li h (past sizes m views states inv) e refl refl last moved

-- an announcement is loaded
pub announcement_step : (sizes : Sizes) (m : Words) (views after : Views) (states : States) (i : ℕ) (second : Bool) (process : ℕ)
    (draft : TryDraft) → sizes.processes ≤ 32 → i < sizes.processes → HelpingHolds sizes m views states → LoadedPast sizes m views
    → (views i).next ≡ Try second (LoadAnnouncement process) → (t : Bool)
    → Moved i (if t then record (views i) {
      loaded = record (views i).loaded { announcements = set (views i).loaded.announcements process (m (Announcement process)) };
      next = Try second (LoadPoppedSlot process);
    } else record (views i) {
      loaded = record (views i).loaded { announcements = set (views i).loaded.announcements process (m (Announcement process)) };
      next = Try second (after_heard sizes process);
      draft = draft;
    }) views after
    → HelpingHolds sizes m after states
announcement_step sizes m views after states i second process draft few li h past e true moved =
    let v = views i in
    let heard = set v.loaded.announcements process (m (Announcement process)) in
    let next = LoadPoppedSlot process in
    let x = record v { loaded = record v.loaded { announcements = heard }; next = Try second next } in
    let room = length-set v.loaded.announcements process (m (Announcement process)) in
    let stays = going second (LoadAnnouncement process) next v x e refl refl refl refl refl refl refl refl room in
    view_hears sizes m views after states i process second x few li h past moved stays e refl (omega arith)
announcement_step sizes m views after states i second process draft few li h past e false moved =
    let v = views i in
    let heard = set v.loaded.announcements process (m (Announcement process)) in
    let next = after_heard sizes process in
    let x = record v { loaded = record v.loaded { announcements = heard }; next = Try second next; draft = draft } in
    let room = length-set v.loaded.announcements process (m (Announcement process)) in
    let stays = going second (LoadAnnouncement process) next v x e refl refl (heard_follows sizes process) refl refl refl refl refl room in
    view_hears sizes m views after states i process second x few li h past moved stays e refl (heard_more sizes process)
