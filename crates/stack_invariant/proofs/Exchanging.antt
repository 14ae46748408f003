-- exchanges of the state: any other step leaves the states, one that hits installs the drafted one
use Rattle.std.proofs.Common.{◌≡◌, ℕ, ◌+◌, ◌<◌, ◌==◌, ◌⊎◌, Bool, true, false, refl, sym, ◌∙◌, ap, inl, inr, arith}
use Rattle.std.proofs.lemmas.Bool.{cases_eq, eqb-true, false_from_ne_true}
use Rattle.std.proofs.lemmas.Bool.Decides.{nat_tests}
use Rattle.word_layout.specs.Sizes.{Sizes}
use Rattle.word_layout.specs.Packing.{tag_of, value_limit}
use Rattle.word_layout.specs.declared.name.WordName.TheVariants.{State}
use Rattle.transfer_machine.specs.Loads.{loaded_tag}
use Rattle.transfer_machine.specs.Machine.{action_at, action_of, try_action}
use Rattle.transfer_machine.specs.declared.transfer.TransferView.{TransferView}
use Rattle.transfer_machine.specs.declared.stage.NextStep.{NextStep}
use Rattle.transfer_machine.specs.declared.stage.NextStep.TheVariants.{Rest, Announce, Try, LoadFinalState, LoadReply}
use Rattle.transfer_machine.specs.declared.stage.TryStep.{TryStep}
use Rattle.transfer_machine.specs.declared.stage.TryStep.TheVariants.{LoadState, LoadRecordWord, LoadCoveredSlot, ExchangeSlot}
use Rattle.transfer_machine.specs.declared.stage.TryStep.TheVariants.{LoadAnnouncement, LoadPoppedSlot, StoreRecordWord, ExchangeState}
use Rattle.transfer_invariant.specs.Memory.{Words, States, Acted, state_tag}
use Rattle.transfer_invariant.specs.Installing.{drafted_state, states_with_drafted, states_after_try_step, states_after_at, states_after}
use Rattle.transfer_invariant.proofs.Acts.{exchanges_state}
use Rattle.transfer_invariant.proofs.Writes.{with_state_here}
use Rattle.stack_invariant.specs.Gives.{present}
use Rattle.stack_invariant.specs.Laws.{HitsNot}

-- the test of an exchange says whether it hits
hits : (old word : ℕ) → word ≡ old → (word == old) ≡ true
hits old word e = grind (arith, nat_tests)

hits_not : (old word : ℕ) → (word ≡ old → ⊥) → (word == old) ≡ false
hits_not old word ne = false_from_ne_true (word == old) (λ same. ne (eqb-true word old same))

-- a step that is no such exchange leaves the state
state_stays_in_try : (sizes : Sizes) (v : TransferView) (m n : Words) (second : Bool) (step : TryStep)
    → Acted sizes (try_action sizes v step) m n → HitsNot v m (Try second step) → n State ≡ m State
state_stays_in_try sizes v m n second LoadState a not = a.here
state_stays_in_try sizes v m n second (LoadRecordWord index) a not = a.elsewhere State tt (λ e. cc)
state_stays_in_try sizes v m n second (LoadCoveredSlot offset) a not = a.elsewhere State tt (λ e. cc)
state_stays_in_try sizes v m n second (ExchangeSlot offset) a not = a.elsewhere State tt (λ e. cc)
state_stays_in_try sizes v m n second (LoadAnnouncement process) a not = a.elsewhere State tt (λ e. cc)
state_stays_in_try sizes v m n second (LoadPoppedSlot process) a not = a.elsewhere State tt (λ e. cc)
state_stays_in_try sizes v m n second (StoreRecordWord index) a not = a.elsewhere State tt (λ e. cc)
state_stays_in_try sizes v m n second ExchangeState a not = a.here ∙ rw (hits_not v.loaded.state (m State) (not second refl)) refl

-- a step that installs nothing leaves the word of the state
pub state_stays : (sizes : Sizes) (v : TransferView) (m n : Words) (s : NextStep) → Acted sizes (action_at sizes v s) m n → HitsNot v m s
    → n State ≡ m State
state_stays sizes v m n Rest a not = a.here
state_stays sizes v m n Announce a not = a.elsewhere State tt (λ e. cc)
state_stays sizes v m n (Try second step) a not = state_stays_in_try sizes v m n second step a not
state_stays sizes v m n LoadFinalState a not = a.here
state_stays sizes v m n LoadReply a not = a.elsewhere State tt (λ e. cc)

-- and the states
states_stay_in_try : (v : TransferView) (m : Words) (states : States) (second : Bool) (step : TryStep) → HitsNot v m (Try second step)
    → states_after_try_step m v states step ≡ states
states_stay_in_try v m states second LoadState not = refl
states_stay_in_try v m states second (LoadRecordWord index) not = refl
states_stay_in_try v m states second (LoadCoveredSlot offset) not = refl
states_stay_in_try v m states second (ExchangeSlot offset) not = refl
states_stay_in_try v m states second (LoadAnnouncement process) not = refl
states_stay_in_try v m states second (LoadPoppedSlot process) not = refl
states_stay_in_try v m states second (StoreRecordWord index) not = refl
states_stay_in_try v m states second ExchangeState not = rw (hits_not v.loaded.state (m State) (not second refl)) refl

-- and the states so far
pub states_stay : (v : TransferView) (m : Words) (states : States) (s : NextStep) → HitsNot v m s → states_after_at m v states s ≡ states
states_stay v m states Rest not = refl
states_stay v m states Announce not = refl
states_stay v m states (Try second step) not = states_stay_in_try v m states second step not
states_stay v m states LoadFinalState not = refl
states_stay v m states LoadReply not = refl

-- so the present state stays
pub present_stays : (sizes : Sizes) (v : TransferView) (m n : Words) (states : States) → Acted sizes (action_of sizes v) m n
    → HitsNot v m v.next → present n (states_after m v states) ≡ present m states
unfolding state_tag
present_stays sizes v m n states a not = rw (states_stay v m states v.next not, state_stays sizes v m n v.next a not) refl

-- an exchange of the state that hits installs the drafted one
pub hit_states : (v : TransferView) (m : Words) (states : States) (second : Bool) → v.next ≡ Try second ExchangeState
    → m State ≡ v.loaded.state → states_after m v states ≡ states_with_drafted m v states
hit_states v m states second e same = rw e (rw (hits v.loaded.state (m State) same) refl)

-- an exchange that hits makes the state's number one higher
pub hit_tag : (sizes : Sizes) (v : TransferView) (m n : Words) (second : Bool) → v.next_record < value_limit
    → Acted sizes (action_of sizes v) m n → v.next ≡ Try second ExchangeState → m State ≡ v.loaded.state → state_tag n ≡ state_tag m + 1
unfolding state_tag
hit_tag sizes v m n second row a e same =
    let test = hits v.loaded.state (m State) same in
    let there = exchanges_state sizes v.loaded.state (loaded_tag v.loaded + 1) v.next_record m n row test (rw e at a) in
    there.state ∙ ap (λ x. tag_of x + 1) (sym same)

-- after it the present state is the drafted one
pub present_installed : (sizes : Sizes) (v : TransferView) (m n : Words) (states : States) (second : Bool) → v.next_record < value_limit
    → Acted sizes (action_of sizes v) m n → v.next ≡ Try second ExchangeState → m State ≡ v.loaded.state
    → present n (states_after m v states) ≡ drafted_state (present m states) v
present_installed sizes v m n states second row a e same = rw (hit_states v m states second e same, hit_tag sizes v m n second row a e same)
    (with_state_here (state_tag m + 1) (drafted_state (present m states) v) states)

-- a step is an exchange of the state that hits, or none
pub record Hits (v : TransferView) (m : Words) (s : NextStep) : Type 0 where
  pub second : Bool
  pub here : s ≡ Try second ExchangeState
  pub same : m State ≡ v.loaded.state

hitting_in_try : (v : TransferView) (m : Words) (second : Bool) (step : TryStep)
    → Hits v m (Try second step) ⊎ HitsNot v m (Try second step)
hitting_in_try v m second LoadState = inr (λ other e same. cc)
hitting_in_try v m second (LoadRecordWord index) = inr (λ other e same. cc)
hitting_in_try v m second (LoadCoveredSlot offset) = inr (λ other e same. cc)
hitting_in_try v m second (ExchangeSlot offset) = inr (λ other e same. cc)
hitting_in_try v m second (LoadAnnouncement process) = inr (λ other e same. cc)
hitting_in_try v m second (LoadPoppedSlot process) = inr (λ other e same. cc)
hitting_in_try v m second (StoreRecordWord index) = inr (λ other e same. cc)
hitting_in_try v m second ExchangeState = elim (cases_eq (m State) v.loaded.state) [
  | inl same ↦ inl (record { second = second; here = refl; same = same })
  | inr ne ↦ inr (λ other e same. ne same)
]

-- a step either exchanges the loaded state, which is still the present one, or it installs nothing
pub hitting : (v : TransferView) (m : Words) (s : NextStep) → Hits v m s ⊎ HitsNot v m s
hitting v m Rest = inr (λ other e same. cc)
hitting v m Announce = inr (λ other e same. cc)
hitting v m (Try second step) = hitting_in_try v m second step
hitting v m LoadFinalState = inr (λ other e same. cc)
hitting v m LoadReply = inr (λ other e same. cc)
