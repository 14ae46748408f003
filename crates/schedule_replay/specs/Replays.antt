-- What the machine answers to a schedule.
use Rattle.std.specs.Prelude.{◌≡◌, ℕ, ◌+◌, ◌*◌, ◌<◌, ◌≤◌, List, [], ◌∷◌, ◌++◌, length, map, flat_map, replicate, slice_index, sum}
use Rattle.std.specs.Prelude.{Option, None, Some}
use Rattle.std.specs.Option.{option_to_list}
use Rattle.std.specs.List.{range_with_len}
use Rattle.word_layout.specs.Sizes.{Sizes, IsShape, blocks, limits_of}
use Rattle.word_layout.specs.Faults.{IsFirstFault}
use Rattle.word_layout.specs.Names.{word_at}
use Rattle.word_layout.specs.Packing.{tag_of}
use Rattle.word_layout.specs.declared.name.WordName.TheVariants.{State}
use Rattle.pool_model.specs.declared.entry.Entry.{Entry}
use Rattle.pool_model.specs.History.{held}
use Rattle.pool_model.specs.Legal.{IsLegal}
use Rattle.transfer_machine.specs.Opening.{AreOpening}
use Rattle.transfer_machine.specs.Words.{stack}
use Rattle.pool_machine.specs.declared.event.Happened.{Happened}
use Rattle.pool_machine.specs.declared.event.Happened.TheVariants.{Step, Ended, Loaded, Stored, Ignored}
use Rattle.interleaving_core.specs.Kept.{kept}
use Rattle.interleaving_core.specs.Moves.{CoreState, view_at}
use Rattle.interleaving_core.specs.Runs.{IsRun, Turn, Events, after_turn, turn_answer, entries_of, opened}
use Rattle.interleaving_core.specs.TransferLaws.{after_turns}
use Rattle.schedule_replay.specs.Reading.{most_events}
use Rattle.schedule_replay.specs.declared.fault.ReplayFault.{ReplayFault}
use Rattle.schedule_replay.specs.declared.fault.ReplayFault.TheVariants.{Shape, NoMemory}
use Rattle.schedule_replay.specs.declared.notes.Note.{Note}
use Rattle.schedule_replay.specs.declared.replaying.Replayed.{Replayed}
use Rattle.schedule_replay.specs.declared.schedule.Repeat.{Repeat}
use Rattle.schedule_replay.specs.declared.schedule.Schedule.{Schedule}

-- the turn that a line's event is
abbrev pub turn_of : Repeat → Turn
turn_of repeat = Events repeat.event.by repeat.event.call

-- the line of each event, one after the other
abbrev pub each_event : List Repeat → List Repeat
each_event lines = flat_map (λ repeat. replicate repeat.count repeat) lines

-- the note of an answer to an event of a line: none where it is a step of a transfer
abbrev pub note_of : Repeat → Happened → Option Note
note_of repeat (Step kind) = None
note_of repeat (Ended kind entry) = Some (record { line = repeat.line; by = repeat.event.by; what = Ended kind entry })
note_of repeat (Loaded word) = Some (record { line = repeat.line; by = repeat.event.by; what = Loaded word })
note_of repeat Stored = Some (record { line = repeat.line; by = repeat.event.by; what = Stored })
note_of repeat Ignored = Some (record { line = repeat.line; by = repeat.event.by; what = Ignored })

-- the notes of events, made one after the other from that state on
unfoldable pub notes_made : List Repeat → CoreState → List Note
notes_made [] s = []
notes_made (repeat ∷ more) s =
    option_to_list (note_of repeat (turn_answer (turn_of repeat) s)) ++ notes_made more (after_turn (turn_of repeat) s)

-- events led from one state to another, and added their notes
pub record Makes (events : List Repeat) (before after : CoreState) (old new : List Note) : Type 0 where
  pub state : after ≡ after_turns (map turn_of events) before
  pub notes : new ≡ old ++ notes_made events before

-- a state of a pool, where so many events more leave each process young
pub record HasTurns (count : ℕ) (s : CoreState) : Type 0 where
  pub shape : IsShape s.sizes
  pub views : length s.views ≡ s.sizes.processes
  pub young : (i : ℕ) → i < s.sizes.processes → (view_at s i).transfer.age + count ≤ most_events

-- the entries among notes, in their order
abbrev pub entries_in : List Note → List Entry
entries_in notes = flat_map (λ note. entries_of note.what) notes

-- the number of the present state
abbrev pub state_number : CoreState → ℕ
state_number s = tag_of (word_at s.sizes s.words State)

-- a pool has the four numbers of a shape, which are within their limits
pub record IsAsked (shape : List ℕ) (sizes : Sizes) : Type 0 where
  pub is : IsShape sizes
  pub processes : sizes.processes ≡ slice_index shape 0
  pub batches : sizes.batches ≡ slice_index shape 1
  pub words : sizes.words ≡ slice_index shape 2
  pub quantum : sizes.quantum ≡ slice_index shape 3

-- what was noted and what stood at the end are those of the machine's run over the schedule's events, from the opening on; the entries
-- among the notes are its legal history, and what is held, kept and in the stack are all blocks
pub record IsReplay (schedule : Schedule) (replayed : Replayed) : Type 0 where
  pub sizes : Sizes
  pub asked : IsAsked schedule.shape sizes
  pub words : List ℕ
  pub opening : AreOpening sizes words
  pub end : CoreState
  pub made : Makes (each_event schedule.lines) (opened sizes words) end [] replayed.notes.items
  pub run : IsRun sizes (map turn_of (each_event schedule.lines)) (entries_in replayed.notes.items) end
  pub tag : replayed.tag ≡ state_number end
  pub stack : replayed.stack.items ≡ stack sizes end.words
  pub kept : replayed.kept.items ≡ map (kept end) (range_with_len 0 sizes.processes)
  pub legal : IsLegal (limits_of sizes) (entries_in replayed.notes.items)
  pub counted : sum replayed.kept.items + length (held (entries_in replayed.notes.items)) + sizes.length * length replayed.stack.items
      ≡ blocks sizes

-- when a replay has which fault: its shape's exactly where that is refused, and want of memory
abbrev pub FaultOf : Schedule → ReplayFault → Type 0
FaultOf schedule (Shape fault) =
    IsFirstFault (slice_index schedule.shape 0) (slice_index schedule.shape 1) (slice_index schedule.shape 2)
    (slice_index schedule.shape 3) fault
FaultOf schedule NoMemory = Unit {0}
