-- the invariant: its parts, gathered
use Rattle.std.specs.Prelude.{ℕ, ◌<◌}
use Rattle.word_layout.specs.Sizes.{Sizes}
use Rattle.transfer_invariant.specs.Memory.{Words, Views, States}
use Rattle.transfer_invariant.specs.Records.{CurrentRecord, StatesFit, TagsBelow, OwnRecord, LoadedState, OwnerWentOn}
use Rattle.transfer_invariant.specs.Tags.{TagsHold}
use Rattle.transfer_invariant.specs.Drafts.{OverlayFits}

-- the parts current record, own record and loaded state hold of the words and of all views, with these states
pub record RecordsHold (sizes : Sizes) (words : Words) (views : Views) (states : States) : Type 0 where
  pub current : CurrentRecord sizes words states
  pub states_fit : StatesFit sizes words states
  pub tags_below : TagsBelow sizes words
  pub own : (i : ℕ) → i < sizes.processes → OwnRecord sizes words i (views i)
  pub loaded : (i : ℕ) → i < sizes.processes → LoadedState sizes words states (views i)
  pub owners : (i owner : ℕ) → i < sizes.processes → owner < sizes.processes → OwnerWentOn (views i) (views owner)

-- the words and all views meet all parts, with these states
pub record Invariant (sizes : Sizes) (words : Words) (views : Views) (states : States) : Type 0 where
  pub records : RecordsHold sizes words views states
  pub drafts : (i : ℕ) → i < sizes.processes → OverlayFits sizes.processes (views i)
  pub tags : TagsHold sizes words views
