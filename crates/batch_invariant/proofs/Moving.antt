-- what is in transit, by the stage of a transfer and by the state
use Rattle.std.proofs.Common.{◌≡◌, ◌≢◌, ℕ, ◌==◌, true, false, refl, [], arith}
use Rattle.std.proofs.lemmas.Bool.Decides.{nat_tests}
use Rattle.word_layout.specs.Packing.{reply_of}
use Rattle.transfer_machine.specs.States.{StackState}
use Rattle.transfer_machine.specs.declared.transfer.TransferView.{TransferView}
use Rattle.transfer_machine.specs.declared.stage.NextStep.{NextStep}
use Rattle.transfer_machine.specs.declared.stage.NextStep.TheVariants.{Rest, Announce}
use Rattle.transfer_invariant.specs.Progress.{has_announced, has_only_begun}
use Rattle.batch_invariant.specs.Places.{given, taken, moving}

-- in transit: at rest nothing, before the transfer is applied a given batch, then a taken one
pub moving_at_rest : (s : StackState) (i : ℕ) (v : TransferView) → v.next ≡ Rest → moving s i v ≡ []
unfolding moving
moving_at_rest s i v e = rw e refl

-- in transit: of a begun transfer the batch that it gives
pub moving_begun : (s : StackState) (i : ℕ) (v : TransferView) → v.next ≡ Announce → moving s i v ≡ given v.wish
unfolding moving
moving_begun s i v e = rw e refl

announced_begun : (next : NextStep) → has_announced next ≡ true → has_only_begun next ≡ false
announced_begun next h = grind arith

-- while it isn't applied still that batch
pub moving_pending : (s : StackState) (i : ℕ) (v : TransferView) → has_announced v.next ≡ true → s.applied i ≢ v.age
    → moving s i v ≡ given v.wish
unfolding moving
moving_pending s i v h ne = let test : (s.applied i == v.age) ≡ false = grind (arith, nat_tests) in
    rw (announced_begun v.next h, h, test) refl

-- and once it is applied the batch that it took
pub moving_applied : (s : StackState) (i : ℕ) (v : TransferView) → has_announced v.next ≡ true → s.applied i ≡ v.age
    → moving s i v ≡ taken v.wish (reply_of (s.reply i))
unfolding moving
moving_applied s i v h e = let test : (s.applied i == v.age) ≡ true = grind (arith, nat_tests) in
    rw (announced_begun v.next h, h, test) refl

-- it depends only on what the state says of the process, and on the wish, the age and whether it is announced
pub moving_same_state : (s t : StackState) (i : ℕ) (v : TransferView) → t.reply i ≡ s.reply i → t.applied i ≡ s.applied i
    → moving t i v ≡ moving s i v
unfolding moving
moving_same_state s t i v er ea = rw (er, ea) refl

-- a view becomes one that is still in its announced transfer: both are, with the same wish and age
pub record SameAnnouncement (v x : TransferView) : Type 0 where
  pub was : has_announced v.next ≡ true
  pub announced : has_announced x.next ≡ true
  pub wish : x.wish ≡ v.wish
  pub age : x.age ≡ v.age

-- such a view has the same batches in transit
pub moving_same_view : (s : StackState) (i : ℕ) (v x : TransferView) → SameAnnouncement v x → moving s i x ≡ moving s i v
unfolding moving
moving_same_view s i v x g = rw (announced_begun x.next g.announced, g.announced, announced_begun v.next g.was, g.was, g.wish, g.age) refl
