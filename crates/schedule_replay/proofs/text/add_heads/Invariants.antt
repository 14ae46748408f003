use Rattle.std.proofs.Common.{take, Ok}
use Rattle.std.specs.Prelude.{flat_map}
use Rattle.pool_io.specs.declared.files.Failed.{Failed}
use Rattle.text_pages.specs.Pages.{Adds}
use Rattle.schedule_replay.specs.Text.{head_text}
use Rattle.schedule_replay.proofs.text.add_heads.Given as goal

-- the heads so far are added
abbrev pub invariant-loop-head : goal.invariant-loop-head
invariant-loop-head g l =
    Adds {T = Unit {0}} {E = Failed} g.K.Sink (flat_map head_text (take l.head-index l.stack)) l.initial.out l.out l.initial.page l.page
    (Ok tt)
