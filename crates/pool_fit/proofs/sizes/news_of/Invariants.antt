use Rattle.std.proofs.Common.{◌≡◌, ◌*◌, ◌^◌, ◌≤◌, take}
use Rattle.std.specs.Prelude.{sum_by}
use Rattle.mtrace_reader.specs.declared.steps.Script.{Script}
use Rattle.pool_fit.proofs.sizes.news_of.Given as goal

-- the sum over the scripts so far
abbrev pub invariant-loop-script : goal.invariant-loop-script
invariant-loop-script l = record {
  sum : l.sum ≡ sum_by (λ (script : Script). script.news) (take l.script-index l.scripts);
  few : l.sum ≤ 2 ^ 64 * l.script-index;
}
