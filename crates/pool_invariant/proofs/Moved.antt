-- where a step leads: it stays in the transfer up to its last step, and names one of the places
use Rattle.std.proofs.Common.{◌≡◌, ℕ, ◌+◌, ◌≤◌, ◌==◌, Bool, true, false, refl, arith}
use Rattle.std.specs.Prelude.{if◌then◌else◌, nat_lt}
use Rattle.std.proofs.lemmas.Bool.Decides.{nat_tests}
use Rattle.word_layout.specs.Sizes.{Sizes}
use Rattle.word_layout.specs.Names.{record_words}
use Rattle.word_layout.specs.Packing.{tag_of}
use Rattle.transfer_machine.specs.Loads.{loaded_tag}
use Rattle.transfer_machine.specs.Tries.{pops_slot}
use Rattle.transfer_machine.specs.Machine.{met_at, met_in_try, try_ended, installed}
use Rattle.transfer_machine.specs.declared.transfer.TransferView.{TransferView}
use Rattle.transfer_machine.specs.declared.stage.NextStep.{NextStep}
use Rattle.transfer_machine.specs.declared.stage.NextStep.TheVariants.{Rest, Announce, Try, LoadFinalState, LoadReply}
use Rattle.transfer_machine.specs.declared.stage.TryStep.{TryStep}
use Rattle.transfer_machine.specs.declared.stage.TryStep.TheVariants.{LoadState, LoadRecordWord, LoadCoveredSlot, ExchangeSlot}
use Rattle.transfer_machine.specs.declared.stage.TryStep.TheVariants.{LoadAnnouncement, LoadPoppedSlot, StoreRecordWord, ExchangeState}
use Rattle.transfer_invariant.specs.Progress.{has_only_begun, is_moving, goes_on}
use Rattle.pool_invariant.specs.Stages.{IndexFitsInTry, IndexFitsAt, IndexFits}

-- the view after a step that goes on is in the same transfer
pub record StaysIn (v x : TransferView) : Type 0 where
  pub moving : is_moving x.next ≡ true
  pub announced : has_only_begun x.next ≡ false
  pub wish : x.wish ≡ v.wish
  pub age : x.age ≡ v.age

either_stays : (t : Bool) (v a b : TransferView) → StaysIn v a → StaysIn v b → StaysIn v (if t then a else b)
either_stays true v a b h k = h
either_stays false v a b h k = k

ended_stays : (v : TransferView) (second : Bool) → StaysIn v (try_ended second v)
ended_stays v second = grind (arith, nat_tests)

step_stays_in_try : (sizes : Sizes) (v : TransferView) (word : ℕ) (second : Bool) (s : TryStep)
    → StaysIn v (met_in_try sizes v word second s)
step_stays_in_try sizes v word second LoadState = record { moving = refl; announced = refl; wish = refl; age = refl }
step_stays_in_try sizes v word second (LoadRecordWord index) =
    either_stays (nat_lt (loaded_tag v.loaded) (tag_of word)) v (try_ended second v) _ (ended_stays v second)
    (either_stays (index + 1 == record_words sizes) v _ _ (record { moving = refl; announced = refl; wish = refl; age = refl })
    (record { moving = refl; announced = refl; wish = refl; age = refl }))
step_stays_in_try sizes v word second (LoadCoveredSlot offset) = record { moving = refl; announced = refl; wish = refl; age = refl }
step_stays_in_try sizes v word second (ExchangeSlot offset) = record { moving = refl; announced = refl; wish = refl; age = refl }
step_stays_in_try sizes v word second (LoadAnnouncement process) =
    either_stays (pops_slot sizes.processes v.loaded process word v.draft) v _ _
    (record { moving = refl; announced = refl; wish = refl; age = refl })
    (record { moving = refl; announced = refl; wish = refl; age = refl })
step_stays_in_try sizes v word second (LoadPoppedSlot process) = record { moving = refl; announced = refl; wish = refl; age = refl }
step_stays_in_try sizes v word second (StoreRecordWord index) = record { moving = refl; announced = refl; wish = refl; age = refl }
step_stays_in_try sizes v word second ExchangeState =
    either_stays (word == v.loaded.state) v (installed v) (try_ended second v)
    (record { moving = refl; announced = refl; wish = refl; age = refl }) (ended_stays v second)

-- a step between the announcement and the reply keeps the process in its transfer
pub step_stays : (sizes : Sizes) (v : TransferView) (word : ℕ) (s : NextStep) → goes_on s ≡ true → StaysIn v (met_at sizes v word s)
step_stays sizes v word Rest e = grind arith
step_stays sizes v word Announce e = grind arith
step_stays sizes v word (Try second step) e = step_stays_in_try sizes v word second step
step_stays sizes v word LoadFinalState e = record { moving = refl; announced = refl; wish = refl; age = refl }
step_stays sizes v word LoadReply e = grind arith

-- the places that the steps name stay in range
step_indexed_in_try : (sizes : Sizes) (v : TransferView) (word : ℕ) (second : Bool) (s : TryStep) → 1 ≤ sizes.processes
    → IndexFitsInTry sizes v.loaded s
    → IndexFits sizes (met_in_try sizes v word second s)
step_indexed_in_try sizes v word second LoadState some h = omega arith
step_indexed_in_try sizes v word second (LoadRecordWord index) some h = grind (arith, nat_tests)
step_indexed_in_try sizes v word second (LoadCoveredSlot offset) some h = grind (arith, nat_tests)
step_indexed_in_try sizes v word second (ExchangeSlot offset) some h = grind (arith, nat_tests)
step_indexed_in_try sizes v word second (LoadAnnouncement process) some h = grind (arith, nat_tests)
step_indexed_in_try sizes v word second (LoadPoppedSlot process) some h = grind (arith, nat_tests)
step_indexed_in_try sizes v word second (StoreRecordWord index) some h = grind (arith, nat_tests)
step_indexed_in_try sizes v word second ExchangeState some h = grind (arith, nat_tests)

-- after any step the record word, slot or process that the next one names is one of them
pub step_indexed : (sizes : Sizes) (v : TransferView) (word : ℕ) (s : NextStep) → v.next ≡ s → 1 ≤ sizes.processes
    → IndexFitsAt sizes v.loaded s
    → IndexFits sizes (met_at sizes v word s)
step_indexed sizes v word Rest e some h = rw e tt
step_indexed sizes v word Announce e some h = tt
step_indexed sizes v word (Try second step) e some h = step_indexed_in_try sizes v word second step some h
step_indexed sizes v word LoadFinalState e some h = tt
step_indexed sizes v word LoadReply e some h = tt
