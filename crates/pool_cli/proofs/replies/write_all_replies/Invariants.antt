use Rattle.std.proofs.Common.{Ok, take}
use Rattle.pool_io.specs.declared.files.Failed.{Failed}
use Rattle.pool_io.specs.Writes.{Writes}
use Rattle.pool_cli.specs.Replies.{replies_from}
use Rattle.pool_cli.proofs.replies.write_all_replies.Given as goal

abbrev pub invariant-loop-index : goal.invariant-loop-index
invariant-loop-index g l = Writes {T = Unit {0}} {E = Failed} g.K.Sink (replies_from 1 (take l.index l.lists)) l.initial.out l.out (Ok tt)
