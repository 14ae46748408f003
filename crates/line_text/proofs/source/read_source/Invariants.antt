use Rattle.std.proofs.Common.{◌≡◌, ◌+◌, ◌-◌, ◌≤◌, [], vec_len}
use Rattle.line_text.specs.Taken.{IsTaken, Took}
use Rattle.line_text.proofs.source.read_source.Given as goal

-- so many bytes were taken, which the keeper has
abbrev pub invariant-loop-taken : goal.invariant-loop-taken
invariant-loop-taken g l =
    let files = g.F.Files in
    record {
      taken : IsTaken (files.left l.fn.files l.fn.source) (files.left l.files l.source) (g.K.PieceKeeper.has l.keeper) l.taken;
      reads : Took (files.reads l.fn.files) (files.reads l.files) l.taken [];
      within : l.taken ≤ l.limit + 1;
      room : vec_len l.buffer ≡ 65536;
      names : files.told l.files ≡ files.told l.fn.files;
      opens : files.opens l.files ≡ files.opens l.fn.files;
      no_fault : files.faults l.files ≡ files.faults l.fn.files;
      reliable : files.reliable l.fn.files → files.reliable l.files;
    }

abbrev pub decreases-loop-taken : goal.decreases-loop-taken
decreases-loop-taken g l = l.limit + 1 - l.taken
