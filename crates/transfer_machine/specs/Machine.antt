-- The machine of a transfer: what a view does next to which word, and what it becomes once that step met a word.
use Rattle.std.specs.Prelude.{ℕ, ◌+◌, ◌-◌, ◌%◌, ◌<◌, ◌≤◌, ◌==◌, nat_lt, Bool, true, false, if◌then◌else◌, slice_index, slice_set}
use Rattle.word_layout.specs.Sizes.{Sizes}
use Rattle.word_layout.specs.Names.{records, record_words}
use Rattle.word_layout.specs.Packing.{value_limit, tag_limit, tag_of, value_of, tagged, announced_word, reply_of, FitsWish}
use Rattle.word_layout.specs.declared.name.WordName.TheVariants.{State, Announcement, RecordWord, Slot}
use Rattle.word_layout.specs.declared.announced.Wish.{Wish}
use Rattle.transfer_machine.specs.Loads.{loaded_tag, loaded_record, loaded_base, overlay_length, overlay_head}
use Rattle.transfer_machine.specs.Tries.{begun_draft, pops_slot, after_announcement, drafted_value, CanApply}
use Rattle.transfer_machine.specs.declared.action.Action.{Action}
use Rattle.transfer_machine.specs.declared.action.Action.TheVariants.{Load, Store, Exchange}
use Rattle.transfer_machine.specs.declared.loaded.Loaded.{Loaded}
use Rattle.transfer_machine.specs.declared.transfer.TransferView.{TransferView}
use Rattle.transfer_machine.specs.declared.stage.NextStep.{NextStep}
use Rattle.transfer_machine.specs.declared.stage.NextStep.TheVariants.{Rest, Announce, Try, LoadFinalState, LoadReply}
use Rattle.transfer_machine.specs.declared.stage.TryStep.{TryStep}
use Rattle.transfer_machine.specs.declared.stage.TryStep.TheVariants.{LoadState, LoadRecordWord, LoadCoveredSlot, ExchangeSlot}
use Rattle.transfer_machine.specs.declared.stage.TryStep.TheVariants.{LoadAnnouncement, LoadPoppedSlot, StoreRecordWord, ExchangeState}

-- the word that a view stores to announce its wish: the number is the age after it
abbrev pub own_announcement : TransferView → ℕ
own_announcement v = announced_word (record { number = v.age + 1; wish = v.wish })

-- the word that it stores at a place of its next record: its tag is one above the loaded one
abbrev pub stored_word : Sizes → TransferView → ℕ → ℕ
stored_word sizes v index = tagged (loaded_tag v.loaded + 1) (drafted_value sizes.processes v.draft index)

-- the state that it wants to install
abbrev pub next_state : TransferView → ℕ
next_state v = tagged (loaded_tag v.loaded + 1) v.next_record

-- the word that a covered slot is to have: its tag is the loaded one, its value the overlay's head
abbrev pub covering_word : TransferView → ℕ → ℕ
covering_word v offset = tagged (loaded_tag v.loaded) (overlay_head v.loaded offset)

-- what a view does at that step of a try, and to which word
abbrev pub try_action : Sizes → TransferView → TryStep → Action
try_action sizes v LoadState = Load State
try_action sizes v (LoadRecordWord index) = Load (RecordWord (loaded_record v.loaded) index)
try_action sizes v (LoadCoveredSlot offset) = Load (Slot (loaded_base v.loaded + offset))
try_action sizes v (ExchangeSlot offset) =
    Exchange (Slot (loaded_base v.loaded + offset)) (slice_index v.loaded.slots offset) (covering_word v offset)
try_action sizes v (LoadAnnouncement process) = Load (Announcement process)
try_action sizes v (LoadPoppedSlot process) = Load (Slot (v.draft.base - 1))
try_action sizes v (StoreRecordWord index) = Store (RecordWord v.next_record index) (stored_word sizes v index)
try_action sizes v ExchangeState = Exchange State v.loaded.state (next_state v)

-- what a view does at that step, and to which word
abbrev pub action_at : Sizes → TransferView → NextStep → Action
action_at sizes v Rest = Load State
action_at sizes v Announce = Store (Announcement v.number) (own_announcement v)
action_at sizes v (Try second step) = try_action sizes v step
action_at sizes v LoadFinalState = Load State
action_at sizes v LoadReply = Load (RecordWord (loaded_record v.loaded) (sizes.processes + 2 + v.number))

-- what a view does next, and to which word
abbrev pub action_of : Sizes → TransferView → Action
action_of sizes v = action_at sizes v v.next

-- the other of a process's two records
abbrev pub other_record : ℕ → ℕ
other_record row = if row % 2 == 0 then row + 1 else row - 1

-- what follows a try that installed nothing: the second follows the first, and the end the second
abbrev pub after_try : Bool → NextStep
after_try second = if second then LoadFinalState else Try true LoadState

-- a try has ended and installed nothing
abbrev pub try_ended : Bool → TransferView → TransferView
try_ended second v = record v { next = after_try second }

-- what follows a covered slot: the next one, or the announcements
abbrev pub after_slot : Loaded → ℕ → TryStep
after_slot loaded offset = if offset + 1 == overlay_length loaded then LoadAnnouncement 0 else LoadCoveredSlot (offset + 1)

-- what follows a whole record: the covered slots, if any
abbrev pub after_record : Loaded → TryStep
after_record loaded = if overlay_length loaded == 0 then LoadAnnouncement 0 else LoadCoveredSlot 0

-- what follows an announcement: the next process's, or the stores of the next record
abbrev pub after_heard : Sizes → ℕ → TryStep
after_heard sizes process = if process + 1 == sizes.processes then StoreRecordWord 0 else LoadAnnouncement (process + 1)

-- what follows a stored record word
abbrev pub after_stored : Sizes → ℕ → TryStep
after_stored sizes index = if index + 1 == record_words sizes then ExchangeState else StoreRecordWord (index + 1)

-- a record word is loaded; the draft begins with the last one
abbrev pub record_word_loaded : Sizes → Bool → ℕ → Loaded → TransferView → TransferView
record_word_loaded sizes second index loaded v =
    if index + 1 == record_words sizes
    then record v { loaded = loaded; next = Try second (after_record loaded); draft = begun_draft loaded v.draft }
    else record v { loaded = loaded; next = Try second (LoadRecordWord (index + 1)) }

-- an announcement is loaded: it is applied at once unless its batch is still to be loaded
abbrev pub announcement_loaded : Sizes → Bool → ℕ → ℕ → TransferView → TransferView
announcement_loaded sizes second process word v =
    let loaded = record v.loaded { announcements = slice_set v.loaded.announcements process word } in
    if pops_slot sizes.processes v.loaded process word v.draft
    then record v { loaded = loaded; next = Try second (LoadPoppedSlot process) }
    else record v {
      loaded = loaded;
      next = Try second (after_heard sizes process);
      draft = after_announcement sizes.processes v.loaded process word 0 v.draft;
    }

-- the slot of a taken batch is loaded: its announcement is applied
abbrev pub popped_loaded : Sizes → Bool → ℕ → ℕ → TransferView → TransferView
popped_loaded sizes second process word v = record v {
  loaded = record v.loaded { popped = slice_set v.loaded.popped process word };
  next = Try second (after_heard sizes process);
  draft = after_announcement sizes.processes v.loaded process (slice_index v.loaded.announcements process) (value_of word) v.draft;
}

-- the exchange of the state put the next record there
abbrev pub installed : TransferView → TransferView
installed v = record v { next = LoadFinalState; installed = loaded_tag v.loaded + 1; next_record = other_record v.next_record }

-- the state is loaded at the beginning of a try; the first try notes its number
abbrev pub state_loaded : Bool → ℕ → TransferView → TransferView
state_loaded second word v = record v {
  next = Try second (LoadRecordWord 0);
  loaded = record v.loaded { state = word };
  first_loaded = if second then v.first_loaded else tag_of word;
}

-- a covered slot is loaded: one with an older tag is exchanged next
abbrev pub slot_loaded : Bool → ℕ → ℕ → TransferView → TransferView
slot_loaded second offset word v = record v {
  loaded = record v.loaded { slots = slice_set v.loaded.slots offset word };
  next = Try second (if nat_lt (tag_of word) (loaded_tag v.loaded) then ExchangeSlot offset else after_slot v.loaded offset);
}

-- the view after that step of a try met this word; a record word of a later state ends the try
abbrev pub met_in_try : Sizes → TransferView → ℕ → Bool → TryStep → TransferView
met_in_try sizes v word second LoadState = state_loaded second word v
met_in_try sizes v word second (LoadRecordWord index) =
    if nat_lt (loaded_tag v.loaded) (tag_of word)
    then try_ended second v
    else record_word_loaded sizes second index (record v.loaded { record_words = slice_set v.loaded.record_words index word }) v
met_in_try sizes v word second (LoadCoveredSlot offset) = slot_loaded second offset word v
met_in_try sizes v word second (ExchangeSlot offset) = record v { next = Try second (after_slot v.loaded offset) }
met_in_try sizes v word second (LoadAnnouncement process) = announcement_loaded sizes second process word v
met_in_try sizes v word second (LoadPoppedSlot process) = popped_loaded sizes second process word v
met_in_try sizes v word second (StoreRecordWord index) = record v { next = Try second (after_stored sizes index) }
met_in_try sizes v word second ExchangeState = if word == v.loaded.state then installed v else try_ended second v

-- the view after its step at that stage met this word
abbrev pub met_at : Sizes → TransferView → ℕ → NextStep → TransferView
met_at sizes v word Rest = v
met_at sizes v word Announce = record v { next = Try false LoadState; age = v.age + 1 }
met_at sizes v word (Try second step) = met_in_try sizes v word second step
met_at sizes v word LoadFinalState = record v { next = LoadReply; loaded = record v.loaded { state = word } }
met_at sizes v word LoadReply = record v { next = Rest; first_loaded = 0; answer = reply_of (value_of word) }

-- the view after its next step met this word
abbrev pub met_of : Sizes → TransferView → ℕ → TransferView
met_of sizes v word = met_at sizes v word v.next

-- a transfer with this wish is begun
abbrev pub begun : Wish → TransferView → TransferView
begun wish v = record v { next = Announce; wish = wish }

-- the drafted word can be stored there: its place is in range, and it fits a word
abbrev pub CanStore : Sizes → TransferView → ℕ → Type 0
CanStore sizes v index =
    (v.next_record < records sizes)
    × (index < record_words sizes)
    × (v.draft.overlay ≤ 32)
    × (loaded_tag v.loaded + 1 < tag_limit)
    × (drafted_value sizes.processes v.draft index < value_limit)

-- the numbers that a step of a try names are in their ranges, and what it writes fits a word
abbrev pub CanActInTry : Sizes → TransferView → TryStep → Type 0
CanActInTry sizes v LoadState = Unit {0}
CanActInTry sizes v (LoadRecordWord index) = (loaded_record v.loaded < records sizes) × (index < record_words sizes)
CanActInTry sizes v (LoadCoveredSlot offset) = (offset < 32) × (loaded_base v.loaded + offset < sizes.batches)
CanActInTry sizes v (ExchangeSlot offset) = (offset < 32) × (loaded_base v.loaded + offset < sizes.batches)
CanActInTry sizes v (LoadAnnouncement process) = process < sizes.processes
CanActInTry sizes v (LoadPoppedSlot process) = (process < sizes.processes) × (1 ≤ v.draft.base) × (v.draft.base ≤ sizes.batches)
CanActInTry sizes v (StoreRecordWord index) = CanStore sizes v index
CanActInTry sizes v ExchangeState = (v.next_record < records sizes) × (loaded_tag v.loaded + 1 < tag_limit)

-- the numbers that a step names are in their ranges, and what it writes fits a word
abbrev pub CanActAt : Sizes → TransferView → NextStep → Type 0
CanActAt sizes v Rest = Unit {0}
CanActAt sizes v Announce = (v.number < sizes.processes) × (v.age + 1 < tag_limit) × FitsWish v.wish
CanActAt sizes v (Try second step) = CanActInTry sizes v step
CanActAt sizes v LoadFinalState = Unit {0}
CanActAt sizes v LoadReply = (loaded_record v.loaded < records sizes) × (v.number < sizes.processes)

-- the same of the next step
abbrev pub CanAct : Sizes → TransferView → Type 0
CanAct sizes v = CanActAt sizes v v.next

-- what a step of a try makes of the view stays in range where it meets this word
abbrev pub CanMeetInTry : Sizes → TransferView → ℕ → TryStep → Type 0
CanMeetInTry sizes v word LoadState = Unit {0}
CanMeetInTry sizes v word (LoadRecordWord index) = Unit {0}
CanMeetInTry sizes v word (LoadCoveredSlot offset) = Unit {0}
CanMeetInTry sizes v word (ExchangeSlot offset) = Unit {0}
CanMeetInTry sizes v word (LoadAnnouncement process) = CanApply sizes.processes v.loaded process word 0 v.draft
CanMeetInTry sizes v word (LoadPoppedSlot process) =
    CanApply sizes.processes v.loaded process (slice_index v.loaded.announcements process) (value_of word) v.draft
CanMeetInTry sizes v word (StoreRecordWord index) = Unit {0}
CanMeetInTry sizes v word ExchangeState = Unit {0}

-- what a step makes of the view stays in range where it meets this word
abbrev pub CanMeetAt : Sizes → TransferView → ℕ → NextStep → Type 0
CanMeetAt sizes v word Rest = Unit {0}
CanMeetAt sizes v word Announce = Unit {0}
CanMeetAt sizes v word (Try second step) = CanMeetInTry sizes v word step
CanMeetAt sizes v word LoadFinalState = Unit {0}
CanMeetAt sizes v word LoadReply = Unit {0}

-- the same of the next step
abbrev pub CanMeet : Sizes → TransferView → ℕ → Type 0
CanMeet sizes v word = CanMeetAt sizes v word v.next
