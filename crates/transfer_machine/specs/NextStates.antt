-- The draft of a try is the next state: what the loaded announcements make of the loaded state.
use Rattle.std.specs.Prelude.{◌≡◌, ℕ, ◌+◌, ◌-◌, ◌<◌, ◌≤◌, true, slice_index}
use Rattle.transfer_machine.specs.Loads.{loaded_base, overlay_length, overlay_head, loaded_reply, popped_head}
use Rattle.transfer_machine.specs.Tries.{pops_slot}
use Rattle.transfer_machine.specs.Drafted.{drafted}
use Rattle.transfer_machine.specs.States.{StackState, next_of}
use Rattle.transfer_machine.specs.declared.loaded.Loaded.{Loaded}
use Rattle.transfer_machine.specs.declared.try_draft.TryDraft.{TryDraft}

-- the loaded record is that of a state
pub record IsLoaded (processes : ℕ) (loaded : Loaded) (s : StackState) : Type 0 where
  pub base : loaded_base loaded ≡ s.base
  pub height : loaded_base loaded + overlay_length loaded ≡ s.height
  pub overlay : (x : ℕ) → x < overlay_length loaded → overlay_head loaded x ≡ s.content (s.base + x)
  pub replies : (i : ℕ) → i < processes → loaded_reply processes loaded i ≡ s.reply i

-- each slot that was loaded for a taken batch holds the state's content
abbrev pub PopsContent : ℕ → Loaded → StackState → Type 0
PopsContent processes loaded s =
    (i : ℕ) → i < processes → pops_slot processes loaded i (slice_index loaded.announcements i) (drafted processes loaded i) ≡ true
    → popped_head loaded i ≡ s.content ((drafted processes loaded i).base - 1)

-- a draft has the content of the state t: that of s below the working base, and the working overlay from there on
pub record HasContent (draft : TryDraft) (s t : StackState) : Type 0 where
  pub base : t.base ≡ draft.base
  pub height : t.height ≡ draft.base + draft.overlay
  pub within : draft.base ≤ s.height
  pub below : (x : ℕ) → x < draft.base → t.content x ≡ s.content x
  pub above : (x : ℕ) → x < draft.overlay → t.content (draft.base + x) ≡ slice_index draft.heads x

-- it has the replies of t for the processes whose announcements were met; the other replies of t are those of s
pub record HasReplies (heard : ℕ) (draft : TryDraft) (s t : StackState) : Type 0 where
  pub met : (i : ℕ) → i < heard → t.reply i ≡ slice_index draft.replies i
  pub others : (i : ℕ) → heard ≤ i → t.reply i ≡ s.reply i

-- the state that the loaded announcements of the first so many processes make of one
abbrev pub state_after : Loaded → ℕ → StackState → StackState
state_after loaded heard s = next_of heard (λ i. slice_index loaded.announcements i) s

-- the draft of the loaded words has the content and the replies of the next state
abbrev pub DraftsAreNextStates : Type 0
DraftsAreNextStates =
    (processes : ℕ) (loaded : Loaded) (s : StackState) (heard : ℕ)
    → processes ≤ 32
    → heard ≤ processes
    → IsLoaded processes loaded s
    → PopsContent processes loaded s
    → HasContent (drafted processes loaded heard) s (state_after loaded heard s)
    × HasReplies heard (drafted processes loaded heard) s (state_after loaded heard s)
