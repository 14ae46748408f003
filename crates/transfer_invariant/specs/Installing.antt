-- the states after a step: there is one more where the step installed the one that its view drafted
use Rattle.std.specs.Prelude.{ℕ, ◌+◌, ◌-◌, ◌==◌, nat_lt, if◌then◌else◌, slice_index}
use Rattle.word_layout.specs.declared.name.WordName.TheVariants.{State}
use Rattle.transfer_machine.specs.Tries.{is_pending}
use Rattle.transfer_machine.specs.States.{StackState}
use Rattle.transfer_machine.specs.declared.transfer.TransferView.{TransferView}
use Rattle.transfer_machine.specs.declared.stage.NextStep.{NextStep}
use Rattle.transfer_machine.specs.declared.stage.NextStep.TheVariants.{Rest, Announce, Try, LoadFinalState, LoadReply}
use Rattle.transfer_machine.specs.declared.stage.TryStep.{TryStep}
use Rattle.transfer_machine.specs.declared.stage.TryStep.TheVariants.{LoadState, LoadRecordWord, LoadCoveredSlot, ExchangeSlot}
use Rattle.transfer_machine.specs.declared.stage.TryStep.TheVariants.{LoadAnnouncement, LoadPoppedSlot, StoreRecordWord, ExchangeState}
use Rattle.transfer_invariant.specs.Memory.{Words, States, state_tag}

-- the state that a view drafted as the one after this: the content below the working base stays, the working overlay comes on top of it
unfoldable pub drafted_state : StackState → TransferView → StackState
drafted_state s v = record {
  base = v.draft.base;
  height = v.draft.base + v.draft.overlay;
  content = λ place. if nat_lt place v.draft.base then s.content place else slice_index v.draft.heads (place - v.draft.base);
  reply = λ o. slice_index v.draft.replies o;
  applied = λ o. if is_pending (slice_index v.loaded.announcements o) (s.reply o) then s.applied o + 1 else s.applied o;
}

-- the states with one of this number
unfoldable pub with_state : ℕ → StackState → States → States
with_state number new states m = if m == number then new else states m

-- the states with the one that a view drafted on top of the present one
abbrev pub states_with_drafted : Words → TransferView → States → States
states_with_drafted words v states = with_state (state_tag words + 1) (drafted_state (states (state_tag words)) v) states

-- the states once the view has made that step of a try on these words: the exchange of the state installs the drafted one
abbrev pub states_after_try_step : Words → TransferView → States → TryStep → States
states_after_try_step words v states LoadState = states
states_after_try_step words v states (LoadRecordWord index) = states
states_after_try_step words v states (LoadCoveredSlot offset) = states
states_after_try_step words v states (ExchangeSlot offset) = states
states_after_try_step words v states (LoadAnnouncement process) = states
states_after_try_step words v states (LoadPoppedSlot process) = states
states_after_try_step words v states (StoreRecordWord index) = states
states_after_try_step words v states ExchangeState = if words State == v.loaded.state then states_with_drafted words v states else states

-- the states once the view has made that step on these words
abbrev pub states_after_at : Words → TransferView → States → NextStep → States
states_after_at words v states Rest = states
states_after_at words v states Announce = states
states_after_at words v states (Try second step) = states_after_try_step words v states step
states_after_at words v states LoadFinalState = states
states_after_at words v states LoadReply = states

-- the states once the view has made its next step
abbrev pub states_after : Words → TransferView → States → States
states_after words v states = states_after_at words v states v.next
