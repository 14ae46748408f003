use Rattle.std.proofs.Common.{take, Ok}
use Rattle.std.specs.Prelude.{flat_map}
use Rattle.pool_io.specs.declared.files.Failed.{Failed}
use Rattle.text_pages.specs.Pages.{Adds}
use Rattle.schedule_replay.specs.Text.{note_line}
use Rattle.schedule_replay.proofs.text.add_notes.Given as goal

-- the lines so far are added
abbrev pub invariant-loop-note : goal.invariant-loop-note
invariant-loop-note g l =
    Adds {T = Unit {0}} {E = Failed} g.K.Sink (flat_map note_line (take l.note-index l.notes)) l.initial.out l.out l.initial.page l.page
    (Ok tt)
