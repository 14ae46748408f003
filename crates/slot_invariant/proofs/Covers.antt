-- which slots the overlay covers that a view loaded
use Rattle.std.proofs.Common.{◌≡◌, ℕ, ◌+◌, ◌<◌, ◌≤◌, true, sym, arith}
use Rattle.word_layout.specs.Sizes.{Sizes}
use Rattle.transfer_machine.specs.Loads.{loaded_tag, loaded_base, overlay_length, overlay_head}
use Rattle.transfer_machine.specs.declared.transfer.TransferView.{TransferView}
use Rattle.transfer_invariant.specs.Memory.{Words, States, state_tag}
use Rattle.transfer_invariant.specs.Progress.{has_record}
use Rattle.transfer_invariant.specs.Records.{StatesFit, LoadedState}
use Rattle.transfer_invariant.proofs.Loaded.{loaded_is, record_has}

-- those of the loaded state, which are slots, and at most one a process
pub record Covers (sizes : Sizes) (words : Words) (states : States) (v : TransferView) : Type 0 where
  pub past : has_record v.next ≡ true → loaded_tag v.loaded ≤ state_tag words
  pub base : has_record v.next ≡ true → (states (loaded_tag v.loaded)).base ≡ loaded_base v.loaded
  pub height : has_record v.next ≡ true → (states (loaded_tag v.loaded)).height ≡ loaded_base v.loaded + overlay_length v.loaded
  pub heads : has_record v.next ≡ true → (x : ℕ) → x < overlay_length v.loaded
      → overlay_head v.loaded x ≡ (states (loaded_tag v.loaded)).content (loaded_base v.loaded + x)
  pub few : has_record v.next ≡ true → overlay_length v.loaded ≤ sizes.processes
  pub within : has_record v.next ≡ true → loaded_base v.loaded + overlay_length v.loaded ≤ sizes.batches

few_covered : (base length from height most : ℕ) → base ≡ from → base + length ≡ height → height ≤ from + most → length ≤ most
few_covered base length from height most eb eh le = omega arith

-- the overlay in a view's whole record is that of the state it loaded, at most one place a process, and all of them slots
pub covers : (sizes : Sizes) (words : Words) (states : States) (v : TransferView) → StatesFit sizes words states
    → LoadedState sizes words states v
    → Covers sizes words states v
covers sizes words states v fits h = record {
  past = λ has. h.past (record_has v.next has);
  base = λ has. sym (loaded_is sizes words states v fits h has).base;
  height = λ has. sym (loaded_is sizes words states v fits h has).height;
  heads = λ has x lt. let k = loaded_is sizes words states v fits h has in rw k.base (k.overlay x lt);
  few =
      λ has. let k = loaded_is sizes words states v fits h has in
      let f = fits (loaded_tag v.loaded) (h.past (record_has v.next has)) in
      few_covered (loaded_base v.loaded) (overlay_length v.loaded) _ _ sizes.processes k.base k.height f.overlay;
  within =
      λ has. let k = loaded_is sizes words states v fits h has in
      let f = fits (loaded_tag v.loaded) (h.past (record_has v.next has)) in rw k.height f.within;
}
