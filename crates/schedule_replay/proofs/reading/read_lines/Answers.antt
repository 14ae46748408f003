use Rattle.std.proofs.Common.{◌≡◌, Err, refl, arith}
use Rattle.std.proofs.lemmas.Grind.{common_steps}
use Rattle.schedule_replay.specs.Reading.{begun}
use Rattle.schedule_replay.specs.ScheduleWriter.{has_read}
use Rattle.schedule_replay.proofs.Readings.{has_read_line, has_read_all, stops_at_line, stops_at_last, finished, finished_few}
use Rattle.schedule_replay.proofs.reading.read_lines.Goals as goal

pub returns-in_err-read-clause-answer : goal.returns-in_err-read-clause-answer
returns-in_err-read-clause-answer c =
    let parts = c.in-Some.ensures in
    let same : c.from_residual.result ≡ Err c.in_err-read.field-0.0 = grind (arith, common_steps) in
    rw same
    (stops_at_line _ _ _ _ begun c.loop-line.invariant.read c.in-Some.line.now c.in-Some.after.now _ parts.line parts.parts
    c.in_err-read.ensures.fault)

pub loop-line-preserved : goal.loop-line-preserved
loop-line-preserved c =
    let parts = c.in-Some.ensures in
    let read = c.in_ok-read.ensures in
    record {
      read = has_read_line _ _ _ _ _ c.loop-line.invariant.read c.in-Some.line.now c.in-Some.after.now parts.line parts.parts read.adds.good
          read.adds.read;
      few_lines = grind (arith, common_steps, parts.parts);
      few_events = read.few;
    }

pub returns-in_err-read-2-clause-answer : goal.returns-in_err-read-2-clause-answer
returns-in_err-read-2-clause-answer c =
    let same : c.from_residual-in_err-read-2.result ≡ Err c.in_err-read-2.field-0.0 = grind (arith, common_steps) in
    rw same
    (stops_at_last _ _ _ _ begun c.loop-line.invariant.read _ c.in_default.ensures.none c.in_err-read-2.ensures.fault)

pub returns-clause-answer : goal.returns-clause-answer
returns-clause-answer c =
    let read = c.in_ok-read-2.ensures in
    let all = has_read_all _ _ _ _ _ c.loop-line.invariant.read c.in_default.ensures.none read.adds.good read.adds.read in
    let done = c.finish.ensures in
    finished _ (has_read c.read-2.new.self) _ c.finish.result all refl done.shape done.lines done.bytes
    done.fault

pub returns-clause-few : goal.returns-clause-few
returns-clause-few c =
    let read = c.in_ok-read-2.ensures in
    let all = has_read_all _ _ _ _ _ c.loop-line.invariant.read c.in_default.ensures.none read.adds.good read.adds.read in
    finished_few _ (has_read c.read-2.new.self) c.finish.result all read.few c.finish.ensures.lines
