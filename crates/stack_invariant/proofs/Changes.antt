-- which steps change the content
use Rattle.transfer_invariant.specs.Installing.{drafted_state, states_after}
use Rattle.transfer_invariant.proofs.Keeps.{row_fits}
use Rattle.stack_invariant.specs.Gives.{present}
use Rattle.stack_invariant.specs.Laws.{StepsMoveContent}
use Rattle.stack_invariant.proofs.Keeps.{steps_keep_stack}
use Rattle.stack_invariant.proofs.Content.{words_show, same_content, shows_same}
use Rattle.stack_invariant.proofs.Exchanging.{present_stays, present_installed}
use Rattle.stack_invariant.proofs.Follows.{installed_next}

-- what a step makes of the content
pub steps_move_content : StepsMoveContent
steps_move_content sizes words new views after states i shape li h s acted moved =
    let v = views i in
    let kept = steps_keep_stack sizes words new views after states i shape li h s acted moved in
    let old_shown = words_show sizes words views states h in
    let new_shown = words_show sizes new after (states_after words v states) kept in
    let row = row_fits sizes words i v shape.few_processes li (h.transfers.records.own i li) in
    record {
      stays = λ not. same_content sizes.processes words new (present words states) old_shown
          (rw (present_stays sizes v words new states acted not) at new_shown);
      becomes = λ second e same. shows_same sizes.processes new (drafted_state (present words states) v) _
          (rw (present_installed sizes v words new states second row acted e same) at new_shown)
          (installed_next sizes words views states i second shape li h e same).next;
    }
