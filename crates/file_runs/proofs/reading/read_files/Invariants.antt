use Rattle.std.proofs.Common.{◌≡◌, ◌+◌, ◌≤◌, map, All}
use Rattle.std.specs.Prelude.{string_bytes}
use Rattle.file_runs.specs.Reading.{ReadsFirst}
use Rattle.file_runs.proofs.reading.read_files.Given as goal

abbrev pub invariant-loop-index : goal.invariant-loop-index
invariant-loop-index g l = record {
  reads : ReadsFirst (g.L.Language.bad l.language) (g.L.Language.says l.language) (g.F.Files.told l.initial.files)
      (map string_bytes l.names) l.index l.taken l.said.items;
  usable : All (g.L.Language.usable l.language) l.said.items;
  names : g.F.Files.told l.files ≡ g.F.Files.told l.initial.files;
  opens : g.F.Files.opens l.files ≡ g.F.Files.opens l.initial.files + l.index;
  reliable : g.F.Files.reliable l.initial.files → g.F.Files.reliable l.files;
  never_falls : g.F.Files.faults l.initial.files ≤ g.F.Files.faults l.files;
}
