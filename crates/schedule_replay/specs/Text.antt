-- The text of a replay.
use Rattle.std.specs.Prelude.{ℕ, ◌+◌, List, [], ◌∷◌, ◌++◌, flat_map, codes, decimal}
use Rattle.pool_model.specs.declared.entry.Entry.{Entry}
use Rattle.pool_model.specs.declared.entry.Entry.TheVariants.{Got, Back, Dry}
use Rattle.pool_machine.specs.declared.event.Happened.{Happened}
use Rattle.pool_machine.specs.declared.event.Happened.TheVariants.{Step, Ended, Loaded, Stored, Ignored}
use Rattle.schedule_replay.specs.declared.notes.Note.{Note}
use Rattle.schedule_replay.specs.declared.replaying.Replayed.{Replayed}

-- an entry; whose it is stands before it
abbrev pub entry_text : Entry → List ℕ
entry_text (Got by block) = codes "got " ++ decimal block
entry_text (Back by block) = codes "back " ++ decimal block
entry_text (Dry by) = codes "dry"

-- what happened in an event; a mere step has no note
abbrev pub happened_text : Happened → List ℕ
happened_text (Step kind) = codes "step"
happened_text (Ended kind entry) = entry_text entry
happened_text (Loaded word) = codes "loaded " ++ decimal word
happened_text Stored = codes "stored"
happened_text Ignored = codes "ignored"

-- the line of a note
abbrev pub note_line : Note → List ℕ
note_line note = decimal note.line ++ codes ": " ++ decimal note.by ++ codes " " ++ happened_text note.what ++ codes "\n"

-- the line of the state's number
abbrev pub tag_line : ℕ → List ℕ
tag_line tag = codes "tag " ++ decimal tag ++ codes "\n"

-- a head in the line of the stack
abbrev pub head_text : ℕ → List ℕ
head_text head = codes " " ++ decimal head

-- the line of the stack
abbrev pub stack_line : List ℕ → List ℕ
stack_line heads = codes "stack" ++ flat_map head_text heads ++ codes "\n"

-- the line of what a process keeps
abbrev pub kept_line : ℕ → ℕ → List ℕ
kept_line process blocks = codes "kept " ++ decimal process ++ codes " " ++ decimal blocks ++ codes "\n"

-- the lines of what processes keep, the first of which has this number
abbrev pub kept_lines : ℕ → List ℕ → List ℕ
kept_lines process [] = []
kept_lines process (blocks ∷ others) = kept_line process blocks ++ kept_lines (process + 1) others

-- the notes, the state's number, the stack, and what each process keeps
abbrev pub replay_text : Replayed → List ℕ
replay_text replayed =
    flat_map note_line replayed.notes.items
    ++ tag_line replayed.tag
    ++ stack_line replayed.stack.items
    ++ kept_lines 0 replayed.kept.items
