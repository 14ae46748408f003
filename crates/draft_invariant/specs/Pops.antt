-- the base that a try drafts, and the slots that it loads for takes
use Rattle.std.specs.Prelude.{◌≡◌, ℕ, ◌+◌, ◌-◌, ◌<◌, ◌≤◌, true, slice_index}
use Rattle.transfer_machine.specs.Loads.{loaded_tag, loaded_base, overlay_length, popped_head}
use Rattle.transfer_machine.specs.Tries.{pops_slot}
use Rattle.transfer_machine.specs.Drafted.{drafted}
use Rattle.transfer_machine.specs.declared.transfer.TransferView.{TransferView}
use Rattle.transfer_invariant.specs.Memory.{Words, States, state_tag}
use Rattle.transfer_invariant.specs.Progress.{has_record, drafted_announcements, heard_process, loads_popped}

-- Draft of a try, of one view: the drafted base is at most the height of the loaded state
abbrev pub DraftFitsLoaded : TransferView → Type 0
DraftFitsLoaded v = has_record v.next ≡ true → v.draft.base ≤ loaded_base v.loaded + overlay_length v.loaded

-- Draft of a try, of one view: it loads a slot only for an announcement that takes its batch from there, and while the loaded state is
-- the present one, what it loaded so is the state's content
pub record PopsHold (processes : ℕ) (words : Words) (states : States) (v : TransferView) : Type 0 where
  pub popping : loads_popped v.next ≡ true
      → pops_slot processes v.loaded (heard_process v.next) (slice_index v.loaded.announcements (heard_process v.next)) v.draft ≡ true
  pub popped : has_record v.next ≡ true → loaded_tag v.loaded ≡ state_tag words → (j : ℕ) → j < drafted_announcements processes v.next
      → pops_slot processes v.loaded j (slice_index v.loaded.announcements j) (drafted processes v.loaded j) ≡ true
      → popped_head v.loaded j ≡ (states (state_tag words)).content ((drafted processes v.loaded j).base - 1)
