-- how far a view is in its transfer
use Rattle.std.specs.Prelude.{ℕ, ◌+◌, Bool, true, false, not, ◌&&◌, ◌||◌}
use Rattle.transfer_machine.specs.Stages.{in_try_else}
use Rattle.transfer_machine.specs.declared.stage.NextStep.{NextStep}
use Rattle.transfer_machine.specs.declared.stage.NextStep.TheVariants.{Rest, Announce, Try, LoadFinalState, LoadReply}
use Rattle.transfer_machine.specs.declared.stage.TryStep.{TryStep}
use Rattle.transfer_machine.specs.declared.stage.TryStep.TheVariants.{LoadState, LoadRecordWord, LoadCoveredSlot, ExchangeSlot}
use Rattle.transfer_machine.specs.declared.stage.TryStep.TheVariants.{LoadAnnouncement, LoadPoppedSlot, StoreRecordWord, ExchangeState}

-- a try at this step has loaded the state
abbrev pub has_loaded_state : TryStep → Bool
has_loaded_state LoadState = false
has_loaded_state (LoadRecordWord index) = true
has_loaded_state (LoadCoveredSlot offset) = true
has_loaded_state (ExchangeSlot offset) = true
has_loaded_state (LoadAnnouncement process) = true
has_loaded_state (LoadPoppedSlot process) = true
has_loaded_state (StoreRecordWord index) = true
has_loaded_state ExchangeState = true

-- in a try that has loaded the state
abbrev pub in_try : NextStep → Bool
in_try next = in_try_else has_loaded_state false next

-- in the first try, which has loaded the state
abbrev pub in_first_try : NextStep → Bool
in_first_try Rest = false
in_first_try Announce = false
in_first_try (Try second step) = not second && has_loaded_state step
in_first_try LoadFinalState = false
in_first_try LoadReply = false

-- in the second try, which has loaded the state
abbrev pub in_second_try : NextStep → Bool
in_second_try Rest = false
in_second_try Announce = false
in_second_try (Try second step) = second && has_loaded_state step
in_second_try LoadFinalState = false
in_second_try LoadReply = false

-- in a try, or in an end, that has loaded the state
abbrev pub has_loaded : NextStep → Bool
has_loaded Rest = false
has_loaded Announce = false
has_loaded (Try second step) = has_loaded_state step
has_loaded LoadFinalState = false
has_loaded LoadReply = true

-- in a transfer that is announced and hasn't ended
abbrev pub has_announced : NextStep → Bool
has_announced Rest = false
has_announced Announce = false
has_announced (Try second step) = true
has_announced LoadFinalState = true
has_announced LoadReply = true

-- in a transfer that is begun and not announced yet
abbrev pub has_only_begun : NextStep → Bool
has_only_begun Rest = false
has_only_begun Announce = true
has_only_begun (Try second step) = false
has_only_begun LoadFinalState = false
has_only_begun LoadReply = false

-- in a transfer that is begun and hasn't ended
abbrev pub is_moving : NextStep → Bool
is_moving Rest = false
is_moving Announce = true
is_moving (Try second step) = true
is_moving LoadFinalState = true
is_moving LoadReply = true

-- at a step between the announcement and the reply: the transfer goes on after it
abbrev pub goes_on : NextStep → Bool
goes_on Rest = false
goes_on Announce = false
goes_on (Try second step) = true
goes_on LoadFinalState = true
goes_on LoadReply = false

-- in an announced transfer whose first try has loaded the state
abbrev pub has_begun_try : NextStep → Bool
has_begun_try Rest = false
has_begun_try Announce = false
has_begun_try (Try second step) = second || has_loaded_state step
has_begun_try LoadFinalState = true
has_begun_try LoadReply = true

-- both tries are over
abbrev pub has_tried : NextStep → Bool
has_tried Rest = false
has_tried Announce = false
has_tried (Try second step) = false
has_tried LoadFinalState = true
has_tried LoadReply = true

-- the step is the last of its transfer
abbrev pub is_reply : NextStep → Bool
is_reply Rest = false
is_reply Announce = false
is_reply (Try second step) = false
is_reply LoadFinalState = false
is_reply LoadReply = true

-- the word of a record that a step of a try is about
abbrev pub record_index_in_try : TryStep → ℕ
record_index_in_try LoadState = 0
record_index_in_try (LoadRecordWord index) = index
record_index_in_try (LoadCoveredSlot offset) = 0
record_index_in_try (ExchangeSlot offset) = 0
record_index_in_try (LoadAnnouncement process) = 0
record_index_in_try (LoadPoppedSlot process) = 0
record_index_in_try (StoreRecordWord index) = index
record_index_in_try ExchangeState = 0

-- the word of a record that the next step is about
abbrev pub record_index : NextStep → ℕ
record_index next = in_try_else record_index_in_try 0 next

-- how many words of the loaded state's record a try has loaded, of so many
abbrev pub loaded_in_try : ℕ → TryStep → ℕ
loaded_in_try words LoadState = 0
loaded_in_try words (LoadRecordWord index) = index
loaded_in_try words (LoadCoveredSlot offset) = words
loaded_in_try words (ExchangeSlot offset) = words
loaded_in_try words (LoadAnnouncement process) = words
loaded_in_try words (LoadPoppedSlot process) = words
loaded_in_try words (StoreRecordWord index) = words
loaded_in_try words ExchangeState = words

-- how many words of the loaded state's record are loaded, of so many
abbrev pub loaded_words : ℕ → NextStep → ℕ
loaded_words words next = in_try_else (loaded_in_try words) 0 next

-- a try at this step has loaded the whole record
abbrev pub has_record_in_try : TryStep → Bool
has_record_in_try LoadState = false
has_record_in_try (LoadRecordWord index) = false
has_record_in_try (LoadCoveredSlot offset) = true
has_record_in_try (ExchangeSlot offset) = true
has_record_in_try (LoadAnnouncement process) = true
has_record_in_try (LoadPoppedSlot process) = true
has_record_in_try (StoreRecordWord index) = true
has_record_in_try ExchangeState = true

-- in a try that has loaded the whole record
abbrev pub has_record : NextStep → Bool
has_record next = in_try_else has_record_in_try false next

-- at a slot that the loaded overlay covers, in a try
abbrev pub covered_in_try : TryStep → Bool
covered_in_try LoadState = false
covered_in_try (LoadRecordWord index) = false
covered_in_try (LoadCoveredSlot offset) = true
covered_in_try (ExchangeSlot offset) = true
covered_in_try (LoadAnnouncement process) = false
covered_in_try (LoadPoppedSlot process) = false
covered_in_try (StoreRecordWord index) = false
covered_in_try ExchangeState = false

-- at a slot that the loaded overlay covers
abbrev pub at_covered_slot : NextStep → Bool
at_covered_slot next = in_try_else covered_in_try false next

-- before the exchange of such a slot, in a try
abbrev pub slot_exchange_in_try : TryStep → Bool
slot_exchange_in_try LoadState = false
slot_exchange_in_try (LoadRecordWord index) = false
slot_exchange_in_try (LoadCoveredSlot offset) = false
slot_exchange_in_try (ExchangeSlot offset) = true
slot_exchange_in_try (LoadAnnouncement process) = false
slot_exchange_in_try (LoadPoppedSlot process) = false
slot_exchange_in_try (StoreRecordWord index) = false
slot_exchange_in_try ExchangeState = false

-- before the exchange of such a slot
abbrev pub at_slot_exchange : NextStep → Bool
at_slot_exchange next = in_try_else slot_exchange_in_try false next

-- how many covered slots, of so many, a try is done with before that step of it
abbrev pub passed_in_try : ℕ → TryStep → ℕ
passed_in_try covered LoadState = 0
passed_in_try covered (LoadRecordWord index) = 0
passed_in_try covered (LoadCoveredSlot offset) = offset
passed_in_try covered (ExchangeSlot offset) = offset
passed_in_try covered (LoadAnnouncement process) = covered
passed_in_try covered (LoadPoppedSlot process) = covered
passed_in_try covered (StoreRecordWord index) = covered
passed_in_try covered ExchangeState = covered

-- how many covered slots, of so many, a view is done with before that step
abbrev pub passed_before : ℕ → NextStep → ℕ
passed_before covered next = in_try_else (passed_in_try covered) 0 next

-- how many announcements a try has loaded, of so many processes
abbrev pub heard_in_try : ℕ → TryStep → ℕ
heard_in_try processes LoadState = 0
heard_in_try processes (LoadRecordWord index) = 0
heard_in_try processes (LoadCoveredSlot offset) = 0
heard_in_try processes (ExchangeSlot offset) = 0
heard_in_try processes (LoadAnnouncement process) = process
heard_in_try processes (LoadPoppedSlot process) = process + 1
heard_in_try processes (StoreRecordWord index) = processes
heard_in_try processes ExchangeState = processes

-- how many announcements are loaded, of so many processes
abbrev pub heard_announcements : ℕ → NextStep → ℕ
heard_announcements processes next = in_try_else (heard_in_try processes) 0 next

-- how many of them the draft of a try has met
abbrev pub drafted_in_try : ℕ → TryStep → ℕ
drafted_in_try processes LoadState = 0
drafted_in_try processes (LoadRecordWord index) = 0
drafted_in_try processes (LoadCoveredSlot offset) = 0
drafted_in_try processes (ExchangeSlot offset) = 0
drafted_in_try processes (LoadAnnouncement process) = process
drafted_in_try processes (LoadPoppedSlot process) = process
drafted_in_try processes (StoreRecordWord index) = processes
drafted_in_try processes ExchangeState = processes

-- how many of them the draft has met
abbrev pub drafted_announcements : ℕ → NextStep → ℕ
drafted_announcements processes next = in_try_else (drafted_in_try processes) 0 next

-- the process whose announcement that step of a try is about
abbrev pub heard_process_in_try : TryStep → ℕ
heard_process_in_try LoadState = 0
heard_process_in_try (LoadRecordWord index) = 0
heard_process_in_try (LoadCoveredSlot offset) = 0
heard_process_in_try (ExchangeSlot offset) = 0
heard_process_in_try (LoadAnnouncement process) = process
heard_process_in_try (LoadPoppedSlot process) = process
heard_process_in_try (StoreRecordWord index) = 0
heard_process_in_try ExchangeState = 0

-- the process whose announcement the next step is about
abbrev pub heard_process : NextStep → ℕ
heard_process next = in_try_else heard_process_in_try 0 next

-- that step of a try loads the slot of a taken batch
abbrev pub popped_in_try : TryStep → Bool
popped_in_try LoadState = false
popped_in_try (LoadRecordWord index) = false
popped_in_try (LoadCoveredSlot offset) = false
popped_in_try (ExchangeSlot offset) = false
popped_in_try (LoadAnnouncement process) = false
popped_in_try (LoadPoppedSlot process) = true
popped_in_try (StoreRecordWord index) = false
popped_in_try ExchangeState = false

-- the next step loads the slot of a taken batch
abbrev pub loads_popped : NextStep → Bool
loads_popped next = in_try_else popped_in_try false next

-- how many words of the next record a try has stored, of so many
abbrev pub stored_in_try : ℕ → TryStep → ℕ
stored_in_try words LoadState = 0
stored_in_try words (LoadRecordWord index) = 0
stored_in_try words (LoadCoveredSlot offset) = 0
stored_in_try words (ExchangeSlot offset) = 0
stored_in_try words (LoadAnnouncement process) = 0
stored_in_try words (LoadPoppedSlot process) = 0
stored_in_try words (StoreRecordWord index) = index
stored_in_try words ExchangeState = words

-- how many words of the next record are stored, of so many
abbrev pub stored_words : ℕ → NextStep → ℕ
stored_words words next = in_try_else (stored_in_try words) 0 next
