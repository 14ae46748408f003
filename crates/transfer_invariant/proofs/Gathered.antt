-- the invariant from its parts: at the opening, at the beginning of a transfer, and at a step
use Rattle.std.proofs.Common.{refl, ap, arith}
use Rattle.transfer_machine.specs.Machine.{action_of, begun}
use Rattle.transfer_machine.specs.Words.{name_of}
use Rattle.transfer_invariant.specs.Laws.{OpeningMeetsInvariant, BeginningsKeepInvariant, StepsKeepInvariant}
use Rattle.transfer_invariant.proofs.Counts.{opened_tags_hold, tags_kept, idle_tags}
use Rattle.transfer_invariant.proofs.Keeps.{step_kept}
use Rattle.transfer_invariant.proofs.Opened.{opened_tag, opened_invariant}
use Rattle.transfer_invariant.proofs.Overlays.{overlays_kept, overlays_move}
use Rattle.transfer_invariant.proofs.Own.{StoresNone}
use Rattle.transfer_invariant.proofs.Stages.{leaves}

-- the opening meets the invariant
pub opening_meets_invariant : OpeningMeetsInvariant
opening_meets_invariant sizes words views shape opened seats = record {
  records = opened_invariant sizes words shape opened views seats;
  drafts = λ i li. rw (seats i li) tt;
  tags = opened_tags_hold sizes words views (opened_tag sizes words shape opened) (λ i li. ap (λ v. v.next) (seats i li));
}

-- a process at rest that begins a transfer keeps the invariant
pub beginnings_keep_invariant : BeginningsKeepInvariant
beginnings_keep_invariant sizes words views after states i wish li inv rest moved =
    let x = begun wish (views i) in
    let none : StoresNone sizes x.next = record { index = omega arith; stored = refl } in
    record {
      records = leaves sizes words views after states i x li inv.records refl refl none refl refl refl refl moved;
      drafts = overlays_move sizes views after i x inv.drafts moved tt;
      tags = idle_tags sizes words words views after i x li inv.tags moved refl refl refl;
    }

-- a step of a process whose writes fit keeps the invariant
pub steps_keep_invariant : StepsKeepInvariant
steps_keep_invariant sizes words new views after states i shape li inv fits acted moved =
    let v = views i in
    let few = shape.few_processes in
    record {
      records = step_kept sizes words new views after states i v.next few li inv.records (inv.drafts i li) fits refl acted moved;
      drafts = overlays_kept sizes views after i (words (name_of (action_of sizes v))) li inv.drafts moved;
      tags = tags_kept sizes words new views after states i v.next few li inv.records inv.tags fits refl acted moved;
    }
