-- the opening meets the invariant, and beginnings and steps keep it
use Rattle.std.proofs.Common.{ℕ, ◌<◌, refl}
use Rattle.word_layout.specs.Sizes.{Sizes}
use Rattle.word_layout.specs.declared.announced.Wish.{Wish}
use Rattle.transfer_machine.specs.Machine.{action_of, met_of, begun}
use Rattle.transfer_machine.specs.Words.{name_of}
use Rattle.transfer_invariant.specs.Memory.{Words, Views, States, Moved, state_tag}
use Rattle.transfer_invariant.specs.OpeningState.{opening_state}
use Rattle.transfer_invariant.proofs.Gathered.{opening_meets_invariant, beginnings_keep_invariant, steps_keep_invariant}
use Rattle.transfer_invariant.proofs.Opened.{opened_tag}
use Rattle.slot_invariant.specs.Slots.{SlotsInvariant}
use Rattle.slot_invariant.proofs.Keeps.{slots_kept}
use Rattle.slot_invariant.proofs.Opened.{opened_slots}
use Rattle.slot_invariant.proofs.Own.{nothing_known}
use Rattle.slot_invariant.proofs.Steps.{slots_move}
use Rattle.helping_invariant.proofs.Keeps.{steps_keep_helping, beginnings_keep_helping}
use Rattle.helping_invariant.proofs.OpenedHelping.{opening_meets_helping}
use Rattle.draft_invariant.proofs.Keeps.{opening_holds, steps_keep, beginnings_keep, moved_each}
use Rattle.stack_invariant.specs.Laws.{OpeningMeetsStack, BeginningsKeepStack, StepsKeepStack}
use Rattle.stack_invariant.specs.Loads.{LoadsFit}
use Rattle.stack_invariant.proofs.Premises.{draft_premises, stack_writes, draft_below, fits_wish}
use Rattle.stack_invariant.proofs.Following.{opened_follow, follow_kept}
use Rattle.stack_invariant.proofs.Answered.{opened_answers, begun_answers, answers_kept}
use Rattle.stack_invariant.proofs.Loaded.{loads_opened, loads_begun, loads_met}

-- the opening
pub opening_meets : OpeningMeetsStack
opening_meets sizes words views shape opened seats = record {
  transfers = opening_meets_invariant sizes words views shape opened seats;
  slots = opened_slots sizes words shape opened views seats;
  helping = opening_meets_helping sizes words views shape opened seats;
  drafts = opening_holds sizes words views (λ m. opening_state sizes) shape opened seats;
  follow = opened_follow sizes words (opened_tag sizes words shape opened);
  loads = λ i li. rw (seats i li) (loads_opened sizes i shape);
  answers = λ i li. rw (seats i li) (opened_answers sizes i);
}

-- beginnings
begun_slots : (sizes : Sizes) (words : Words) (views after : Views) (states : States) (i : ℕ) (wish : Wish) → i < sizes.processes
    → SlotsInvariant sizes words views states → Moved i (begun wish (views i)) views after → SlotsInvariant sizes words after states
begun_slots sizes words views after states i wish li slots moved =
    let x = begun wish (views i) in
    slots_move sizes words views after states i x slots.hold (nothing_known words x (slots.known i li).room refl) slots.known moved

-- a process at rest that begins a transfer keeps the invariant, with the same states
pub beginnings_keep_stack : BeginningsKeepStack
beginnings_keep_stack sizes words views after states i wish li h rest moved = record {
  transfers = beginnings_keep_invariant sizes words views after states i wish li h.transfers rest moved;
  slots = begun_slots sizes words views after states i wish li h.slots moved;
  helping = beginnings_keep_helping sizes words views after states i wish li h.helping rest moved;
  drafts = beginnings_keep sizes words views after states i wish li h.drafts moved;
  follow = h.follow;
  loads = moved_each (LoadsFit sizes) sizes.processes views after i (begun wish (views i)) h.loads moved
      (loads_begun sizes wish (views i) (h.loads i li));
  answers = begun_answers (states (state_tag words)) sizes.processes i wish views after li (rw rest refl) moved h.answers;
}

-- steps
pub steps_keep_stack : StepsKeepStack
steps_keep_stack sizes words new views after states i shape li h s acted moved =
    let t = h.transfers in
    let fits = stack_writes sizes words views states i shape li h s in
    let below = draft_below sizes words views states i li h in
    let replies = (h.drafts.each i li).replies in
    let wish = fits_wish sizes words states (views i) shape s in
    let premises = draft_premises sizes words views states i li h s in
    record {
      transfers = steps_keep_invariant sizes words new views after states i shape li t fits acted moved;
      slots = slots_kept sizes words new views after states i (views i).next shape.few_processes li t.records h.slots fits below refl
          acted moved;
      helping = steps_keep_helping sizes words new views after states i shape li t h.helping fits replies wish acted moved;
      drafts = steps_keep sizes words new views after states i shape li t h.drafts premises acted moved;
      follow = follow_kept sizes words new views states i shape li h acted;
      loads =
          moved_each (LoadsFit sizes) sizes.processes views after i (met_of sizes (views i) (words (name_of (action_of sizes (views i)))))
          h.loads moved (loads_met sizes words views states i shape li h s);
      answers = answers_kept sizes words new views after states i shape li h acted moved;
    }
