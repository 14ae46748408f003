use Rattle.std.proofs.Common.{◌++◌, ◌∷◌, [], sym, ap, ◌∙◌, refl, arith}
use Rattle.std.proofs.lemmas.List.Elements.{All-append}
use Rattle.std.proofs.lemmas.List.FromFn.{map-range_with_len_more}
use Rattle.pool_runs.specs.Drills.{drill_script, drill_scripts}
use Rattle.pool_runs.specs.Playable.{IsPlayable}
use Rattle.pool_runs.proofs.Playable.{all_of_one}
use Rattle.pool_runs.proofs.drill.drill_scripts.Goals as goal

pub loop-process-init : goal.loop-process-init
loop-process-init c = rw c.in_ok-scripts.ensures.items (refl, λ k d low. absurd (omega (arith, low)))

pub loop-process-preserved : goal.loop-process-preserved
loop-process-preserved c =
    let script = c.in_ok-process_script.field-0 in
    let process = c.loop-process.process in
    let before = c.loop-process.invariant in
    rw c.in_ok-push.ensures.items (
      ap (λ scripts. scripts ++ script ∷ []) before.0
          ∙ ap (λ one. drill_scripts c.args.seed c.args.calls process ++ one ∷ []) c.in_ok-process_script.ensures.script
          ∙ sym (map-range_with_len_more (drill_script c.args.seed c.args.calls) 0 process process (omega arith)),
      All-append IsPlayable c.loop-process.scripts.items (script ∷ []) before.1 (all_of_one script c.in_ok-process_script.ensures.playable),
    )
