use Rattle.std.proofs.Common.{take}
use Rattle.pool_io.specs.declared.files.Failed.{Failed}
use Rattle.store_script.specs.Text.{replies_text}
use Rattle.store_script.proofs.Pages.{IsPaged}
use Rattle.store_script.proofs.text.write_replies.Given as goal

-- the replies so far are written, but for those on the page
abbrev pub invariant-loop-answer : goal.invariant-loop-answer
invariant-loop-answer g l =
    IsPaged Failed g.K.Sink l.initial.out l.out l.page.bytes (replies_text l.file (take l.answer-index l.answers))
