-- what the invariant gives for steps and processes
use Rattle.std.proofs.Common.{◌≡◌, ℕ, ◌+◌, ◌<◌, Bool, refl, arith}
use Rattle.word_layout.specs.Sizes.{Sizes}
use Rattle.transfer_machine.specs.Loads.{loaded_base}
use Rattle.transfer_machine.specs.declared.transfer.TransferView.{TransferView}
use Rattle.transfer_machine.specs.declared.stage.NextStep.TheVariants.{Try}
use Rattle.transfer_machine.specs.declared.stage.TryStep.TheVariants.{LoadCoveredSlot, ExchangeSlot}
use Rattle.transfer_invariant.specs.Memory.{Words, States}
use Rattle.transfer_invariant.proofs.Installs.{few_tags}
use Rattle.slot_invariant.proofs.Covers.{Covers}
use Rattle.slot_invariant.proofs.Steps.{view_covers}
use Rattle.helping_invariant.proofs.Consequences.{applied_count, applied_after_two_tries, installs_present, answered}
use Rattle.draft_invariant.specs.Laws.{CoversWithin}
use Rattle.draft_invariant.proofs.Gives as gives
use Rattle.stack_invariant.specs.Laws.{StackStepsCanBeMade, InstalledIsNext, RepliesAreAnswers, EachProcessHolds, TriesApply}
use Rattle.stack_invariant.proofs.Premises.{draft_premises, covers_within}

-- every view can make its next step
pub can_be_made : StackStepsCanBeMade
can_be_made sizes words views states i shape li h s ages =
    let premises = draft_premises sizes words views states i li h s in
    let covers = covers_within words (views i) (h.slots.known i li) in
    let few = few_tags sizes words views shape.a_process h.transfers.tags ages in
    gives.steps_can_be_made sizes words views states i shape li h.transfers h.drafts premises covers few

-- a state that is installed, and a reply that is loaded
pub installed_next : InstalledIsNext
installed_next sizes words views states i second shape li h e same = record {
  next = gives.drafted_is_next sizes words views states i second shape li h.transfers h.drafts e same;
  pending = λ o lo pends. installs_present sizes words views states i o second li lo h.helping e same pends;
  heads = λ k. gives.drafted_heads_are_blocks sizes words views states i k li h.drafts;
}

-- the reply that a transfer loads in the end is that of the present state
pub replies_answer : RepliesAreAnswers
replies_answer sizes words views states i li h e =
    let both = answered sizes words views states i li h.transfers h.helping e in
    record { reply = both.0; applied = both.1 }

-- a transfer is applied once both its tries are over
pub tries_apply : TriesApply
tries_apply sizes words views states i li h e = applied_after_two_tries sizes words views states i li h.helping e

-- each process
load_low : (sizes : Sizes) (words : Words) (states : States) (v : TransferView) (second : Bool) (offset : ℕ) → Covers sizes words states v
    → CoversWithin v → v.next ≡ Try second (LoadCoveredSlot offset) → loaded_base v.loaded + offset < sizes.batches
load_low sizes words states v second offset c w e = omega (arith, w.load second offset e, c.within (rw e refl))

exchange_low : (sizes : Sizes) (words : Words) (states : States) (v : TransferView) (second : Bool) (offset : ℕ)
    → Covers sizes words states v → CoversWithin v → v.next ≡ Try second (ExchangeSlot offset)
    → loaded_base v.loaded + offset < sizes.batches
exchange_low sizes words states v second offset c w e = omega (arith, w.exchange second offset e, c.within (rw e refl))

-- what the invariant says of each process holds of it
pub each_process : EachProcessHolds
each_process sizes words views states o lo h =
    let v = views o in
    let c = view_covers sizes words views states o h.transfers.records lo in
    let w = covers_within words v (h.slots.known o lo) in
    record {
      number = (h.helping.announced o lo).number;
      counts = applied_count sizes words views states o lo h.helping;
      overlay = c.few;
      within = c.within;
      covers = w;
      loads_slot = λ second offset e. load_low sizes words states v second offset c w e;
      exchanges_slot = λ second offset e. exchange_low sizes words states v second offset c w e;
    }
