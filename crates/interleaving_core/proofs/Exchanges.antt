-- whether a step is an exchange of the state
use Rattle.std.proofs.Common.{◌≢◌, ◌⊎◌, Bool, refl, inl, inr}
use Rattle.transfer_machine.specs.declared.stage.NextStep.{NextStep}
use Rattle.transfer_machine.specs.declared.stage.NextStep.TheVariants.{Rest, Announce, Try, LoadFinalState, LoadReply}
use Rattle.transfer_machine.specs.declared.stage.TryStep.{TryStep}
use Rattle.transfer_machine.specs.declared.stage.TryStep.TheVariants.{LoadState, LoadRecordWord, LoadCoveredSlot, ExchangeSlot}
use Rattle.transfer_machine.specs.declared.stage.TryStep.TheVariants.{LoadAnnouncement, LoadPoppedSlot, StoreRecordWord, ExchangeState}
use Rattle.interleaving_core.specs.TransferLaws.{IsExchange}

-- of a try
exchanging_in_try : (second : Bool) (step : TryStep)
    → IsExchange (Try second step) ⊎ ((other : Bool) → Try second step ≢ Try other ExchangeState)
exchanging_in_try second LoadState = inr (λ other e. cc)
exchanging_in_try second (LoadRecordWord index) = inr (λ other e. cc)
exchanging_in_try second (LoadCoveredSlot offset) = inr (λ other e. cc)
exchanging_in_try second (ExchangeSlot offset) = inr (λ other e. cc)
exchanging_in_try second (LoadAnnouncement process) = inr (λ other e. cc)
exchanging_in_try second (LoadPoppedSlot process) = inr (λ other e. cc)
exchanging_in_try second (StoreRecordWord index) = inr (λ other e. cc)
exchanging_in_try second ExchangeState = inl (second, refl)

-- of any step
pub exchanging : (next : NextStep) → IsExchange next ⊎ ((second : Bool) → next ≢ Try second ExchangeState)
exchanging Rest = inr (λ second e. cc)
exchanging Announce = inr (λ second e. cc)
exchanging (Try second step) = exchanging_in_try second step
exchanging LoadFinalState = inr (λ second e. cc)
exchanging LoadReply = inr (λ second e. cc)
