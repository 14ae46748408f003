-- a loaded overlay is the overlay of a state
use Rattle.std.proofs.Common.{◌≡◌, ℕ, ◌-◌, ◌<◌, ◌≤◌, arith, ◌∙◌}
use Rattle.word_layout.specs.Sizes.{Sizes}
use Rattle.word_layout.specs.Names.{record_words}
use Rattle.transfer_machine.specs.States.{StackState}
use Rattle.transfer_machine.specs.Loads.{loaded_tag, overlay_length}
use Rattle.transfer_machine.specs.declared.transfer.TransferView.{TransferView}
use Rattle.transfer_invariant.specs.Memory.{Words, States}
use Rattle.transfer_invariant.specs.Progress.{loaded_words}
use Rattle.transfer_invariant.specs.Records.{StateFits, StatesFit, LoadedState}
use Rattle.transfer_invariant.proofs.Loaded.{record_whole, record_has, value_length}
use Rattle.pool_invariant.specs.StepCount.{OverlayIsFew}

overlay_few : (sizes : Sizes) (s : StackState) → StateFits sizes s → s.height - s.base ≤ sizes.processes
overlay_few sizes s fits = let most = fits.overlay in omega arith

few_of : (n height base processes : ℕ) → n ≡ height - base → height - base ≤ processes → n ≤ processes
few_of n height base processes e le = omega arith

-- a loaded overlay has at most one head for each process
pub overlay_is_few : (sizes : Sizes) (words : Words) (states : States) (v : TransferView) → StatesFit sizes words states
    → LoadedState sizes words states v
    → OverlayIsFew sizes v
overlay_is_few sizes words states v fit h e =
    let s = states (loaded_tag v.loaded) in
    let second : 1 < loaded_words (record_words sizes) v.next = rw (record_whole (record_words sizes) v.next e) (omega arith) in
    few_of (overlay_length v.loaded) s.height s.base sizes.processes (h.loaded 1 second ∙ value_length sizes.processes s)
    (overlay_few sizes s (fit (loaded_tag v.loaded) (h.past (record_has v.next e))))
