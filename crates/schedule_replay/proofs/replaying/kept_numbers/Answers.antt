use Rattle.std.proofs.Common.{arith}
use Rattle.std.proofs.lemmas.Grind.{common_steps}
use Rattle.std.proofs.lemmas.List.FromFn.{map-range_with_len_more}
use Rattle.interleaving_core.specs.Kept.{kept}
use Rattle.schedule_replay.proofs.replaying.kept_numbers.Goals as goal

pub loop-process-preserved : goal.loop-process-preserved
loop-process-preserved c =
    let more = map-range_with_len_more (kept c.args.run.now) 0 c.loop-process.process c.loop-process.process (omega arith) in
    grind (arith, common_steps, more)
