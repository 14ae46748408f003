use Rattle.std.proofs.Common.{◌≡◌}
use Rattle.std.specs.Prelude.{replicate}
use Rattle.store_script.specs.declared.answered.Answered.TheVariants.{Absent}
use Rattle.store_player.proofs.player.blank_answers.Given as goal

abbrev pub invariant-loop-place : goal.invariant-loop-place
invariant-loop-place l = l.answers.items ≡ replicate l._place Absent
