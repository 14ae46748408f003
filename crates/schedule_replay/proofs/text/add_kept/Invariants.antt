use Rattle.std.proofs.Common.{take, Ok}
use Rattle.pool_io.specs.declared.files.Failed.{Failed}
use Rattle.text_pages.specs.Pages.{Adds}
use Rattle.schedule_replay.specs.Text.{kept_lines}
use Rattle.schedule_replay.proofs.text.add_kept.Given as goal

-- the lines so far are added
abbrev pub invariant-loop-process : goal.invariant-loop-process
invariant-loop-process g l =
    Adds {T = Unit {0}} {E = Failed} g.K.Sink (kept_lines 0 (take l.process l.kept)) l.initial.out l.out l.initial.page l.page (Ok tt)
