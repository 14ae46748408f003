-- the part of the invariant that counts the states
use Rattle.std.specs.Prelude.{◌≡◌, ℕ, ◌+◌, ◌-◌, ◌<◌, ◌≤◌, Bool, true, nat_le, not, ◌&&◌, ◌||◌, if◌then◌else◌}
use Rattle.process_sums.specs.Sums.{total}
use Rattle.word_layout.specs.Sizes.{Sizes}
use Rattle.transfer_machine.specs.Loads.{loaded_tag}
use Rattle.transfer_machine.specs.declared.transfer.TransferView.{TransferView}
use Rattle.transfer_machine.specs.declared.stage.NextStep.TheVariants.{Try}
use Rattle.transfer_machine.specs.declared.stage.TryStep.TheVariants.{LoadState}
use Rattle.transfer_invariant.specs.Memory.{Words, Views, state_tag}
use Rattle.transfer_invariant.specs.Progress.{in_try, has_announced, has_begun_try}

-- whether a view's pending transfer is announced and installed nothing so far: no state yet after the one that its first try loaded
abbrev pub has_installed_nothing : TransferView → Bool
has_installed_nothing v = has_announced v.next && (not (has_begun_try v.next) || nat_le v.installed v.first_loaded)

-- at most so many states the transfers of a view have installed: its age, less one where the pending transfer installed nothing so far
unfoldable pub installs : TransferView → ℕ
installs v = v.age - (if has_installed_nothing v then 1 else 0)

-- Tags, of one view: until a try ends by installing a state, the last installed state is at most the one that the first try loaded
pub record InstallOrder (words : Words) (v : TransferView) : Type 0 where
  -- an announced transfer counts in the age
  pub counted : has_announced v.next ≡ true → 1 ≤ v.age
  -- where the second try begins, and in a try
  pub load_none : v.next ≡ Try true LoadState → v.installed ≤ v.first_loaded
  pub try_none : in_try v.next ≡ true → v.installed ≤ v.first_loaded
  -- the state that the first try loaded is at most the present one, and the one that the try loaded
  pub past : has_begun_try v.next ≡ true → v.first_loaded ≤ state_tag words
  pub before : in_try v.next ≡ true → v.first_loaded ≤ loaded_tag v.loaded

-- Tags: there is the opening state, and at most one more for each transfer that installed one
pub record TagsHold (sizes : Sizes) (words : Words) (views : Views) : Type 0 where
  pub count : state_tag words ≤ 1 + total sizes.processes (λ i. installs (views i))
  pub order : (i : ℕ) → i < sizes.processes → InstallOrder words (views i)
