use Rattle.std.proofs.Common.{◌≡◌, Err, arith}
use Rattle.std.proofs.lemmas.Grind.{common_steps}
use Rattle.store_script.proofs.Readings.{has_read_line, has_read_all, stops_at_line, stops_at_last, is_reading}
use Rattle.store_script.proofs.reading.read_lines.Goals as goal

pub returns-in_err-read : goal.returns-in_err-read
returns-in_err-read c =
    let parts = c.in-Some.ensures in
    let same : c.from_residual.result ≡ Err c.in_err-read.field-0.0 = grind (arith, common_steps) in
    rw same
    (stops_at_line _ _ _ _ c.loop-line.writer c.loop-line.invariant.read c.in-Some.line.now c.in-Some.after.now _ parts.line parts.parts
    c.in_err-read.ensures.fault)

pub loop-line-preserved : goal.loop-line-preserved
loop-line-preserved c =
    let parts = c.in-Some.ensures in
    let read = c.in_ok-read.ensures in
    record {
      read = has_read_line _ _ _ _ _ c.loop-line.invariant.read c.in-Some.line.now c.in-Some.after.now parts.line parts.parts read.good
          read.read;
      few_lines = grind (arith, common_steps, parts.parts);
      few_keys = grind (arith, common_steps, parts.parts, read.one_more);
    }

pub returns-in_err-read-2 : goal.returns-in_err-read-2
returns-in_err-read-2 c =
    let same : c.from_residual-in_err-read-2.result ≡ Err c.in_err-read-2.field-0.0 = grind (arith, common_steps) in
    rw same
    (stops_at_last _ _ _ _ c.loop-line.writer c.loop-line.invariant.read _ c.in_default.ensures.none c.in_err-read-2.ensures.fault)

pub returns : goal.returns
returns c =
    let read = c.in_ok-read-2.ensures in
    let done = c.finish.ensures in
    is_reading _ c.read-2.new.self _ (has_read_all _ _ _ _ _ c.loop-line.invariant.read c.in_default.ensures.none read.good read.read)
    done.commands done.slots done.bytes
