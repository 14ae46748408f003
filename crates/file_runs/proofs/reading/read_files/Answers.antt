use Rattle.std.proofs.Common.{◌≡◌, ◌+◌, ◌∷◌, [], ◌++◌, refl, ap, ◌∙◌, arith, Err}
use Rattle.std.proofs.lemmas.List.Elements.{All-push}
use Rattle.line_text.specs.declared.fault.TextFault.TheVariants.{NoMemory}
use Rattle.file_runs.proofs.FilesRead.{name_at, reads_next, stops_next}
use Rattle.file_runs.proofs.reading.read_files.Goals as goal

pub returns-in-Err-clause-stopped : goal.returns-in-Err-clause-stopped
returns-in-Err-clause-stopped g c =
    record {
      file = c.loop-index.index + 1;
      fault = c.in-Err.fault;
      is = c.ending_at.ensures;
      opened = omega (arith, c.in-Err.ensures.opens, c.loop-index.invariant.opens);
      stops = stops_next (g.L.Language.bad c.args.language.now) (g.L.Language.says c.args.language.now) g.F.Files _
          c.loop-index.files _ _ c.loop-index.index c.loop-index.taken c.loop-index.said.items
          _ c.in-Err.fault
          (name_at c.args.names.now c.loop-index.index _ c.loop-index-test.true c.index-names-index.is) c.loop-index.invariant.reads
          (λ bytes has. c.in-Err.ensures.answer bytes (ap (λ (told : _). told c.as_str.result.now) c.loop-index.invariant.names
          ∙ ap (g.F.Files.told c.args.files.now) c.as_str.ensures.value ∙ has))
          c.loop-index.invariant.reliable c.loop-index.invariant.never_falls (λ e. c.in-Err.ensures.failed (ap Err e));
    }

pub returns-in_default-clause-stopped : goal.returns-in_default-clause-stopped
returns-in_default-clause-stopped g c = record {
  file = c.loop-index.index + 1;
  fault = NoMemory;
  is = refl;
  opened = omega (arith, c.read_file.ensures.opens, c.loop-index.invariant.opens);
  stops = tt;
}

pub loop-index-preserved : goal.loop-index-preserved
loop-index-preserved g c =
    let pushed : c.push.new.self.items ≡ c.loop-index.said.items ++ c.in-Ok.file.said ∷ [] = c.in-Ok-push.ensures.items in
    record {
      reads = rw pushed (reads_next (g.L.Language.bad c.args.language.now) (g.L.Language.says c.args.language.now)
          (g.F.Files.reliable c.loop-index.files) _ _ c.loop-index.index c.loop-index.taken
          c.loop-index.said.items _ c.in-Ok.file
          (name_at c.args.names.now c.loop-index.index _ c.loop-index-test.true c.index-names-index.is) c.loop-index.invariant.reads
          (λ bytes has. c.in-Ok.ensures.answer bytes (ap (λ (told : _). told c.as_str.result.now) c.loop-index.invariant.names
          ∙ ap (g.F.Files.told c.args.files.now) c.as_str.ensures.value ∙ has))
          c.in-Ok.ensures.within);
      usable = rw pushed
          (All-push (g.L.Language.usable c.args.language.now) c.loop-index.said.items c.in-Ok.file.said
          c.loop-index.invariant.usable c.in-Ok.ensures.usable);
      names = c.read_file.ensures.names ∙ c.loop-index.invariant.names;
      opens = omega (arith, c.read_file.ensures.opens, c.loop-index.invariant.opens);
      reliable = λ sure. c.read_file.ensures.reliable (c.loop-index.invariant.reliable sure);
      never_falls = omega (arith, c.read_file.ensures.never_falls, c.loop-index.invariant.never_falls);
    }
