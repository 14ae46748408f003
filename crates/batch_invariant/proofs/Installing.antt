-- pending announcements are applied one after the other, and so are those of the state that a view installs
use Rattle.std.proofs.Common.{◌≡◌, ℕ, zero, suc, ◌+◌, ◌<◌, ◌≤◌, Bool, true, false, refl, sym, ap, subst, ◌∙◌, arith}
use Rattle.std.specs.Prelude.{if◌then◌else◌, slice_index}
use Rattle.process_sums.specs.Sums.{total}
use Rattle.process_sums.proofs.Sums.{total_same}
use Rattle.word_layout.specs.Sizes.{Sizes}
use Rattle.word_layout.specs.Packing.{announced_word, wish_code, FitsWish}
use Rattle.word_layout.specs.declared.announced.Wish.{Wish}
use Rattle.word_layout.proofs.Packed.{value_of-tagged, wish_code_lt, wish_of-wish_code}
use Rattle.transfer_machine.specs.States.{StackState, with_transfer, try_begun, next_of}
use Rattle.transfer_machine.specs.Tries.{is_pending, is_odd_transfer, announced_wish}
use Rattle.transfer_machine.specs.declared.transfer.TransferView.{TransferView}
use Rattle.transfer_invariant.specs.Progress.{has_announced}
use Rattle.transfer_invariant.specs.Installing.{drafted_state}
use Rattle.batch_invariant.specs.Places.{moving}
use Rattle.batch_invariant.specs.Batches.{ProcessViews, weight}
use Rattle.batch_invariant.specs.Transit.{transit_weight, HeadsFit, Carried}
use Rattle.batch_invariant.specs.Premises.{PendingIsPresent, SameStack, InstallsNext}
use Rattle.batch_invariant.proofs.Moving.{moving_same_state}
use Rattle.batch_invariant.proofs.Transit.{pending_fits, carried_fits, carried_on}
use Rattle.batch_invariant.proofs.Applied.{with_granted, granted_carried, same_matches, put_elsewhere}

-- the wish of the present announcement is read back
pub wish_read : (number : ℕ) (wish : Wish) → FitsWish wish
    → announced_wish (announced_word (record { number = number; wish = wish })) ≡ wish
wish_read number wish fits = rw (value_of-tagged number (wish_code wish) (wish_code_lt wish fits)) (wish_of-wish_code wish)

-- one announcement is met
transfer_carried : (sizes : Sizes) (s : StackState) (views : ProcessViews) (k word : ℕ) → k < sizes.processes → HeadsFit sizes s views
    → has_announced (views k).transfer.next ≡ true
    → word ≡ announced_word (record { number = (views k).transfer.age; wish = (views k).transfer.wish })
    → s.applied k + 1 ≡ (views k).transfer.age
    → Carried sizes s (with_transfer k word s) views
transfer_carried sizes s views k word lk fits announced present next =
    let fit = pending_fits sizes s views k lk fits announced (λ e. omega arith) in
    let wish = ap announced_wish present ∙ wish_read (views k).transfer.age (views k).transfer.wish fit in
    subst (λ (w : Wish). Carried sizes s (with_granted k (is_odd_transfer word) w s) views) (sym wish)
    (granted_carried sizes s views k (is_odd_transfer word) fits lk announced next)

announcement_carried : (sizes : Sizes) (s : StackState) (views : ProcessViews) (k word : ℕ) (t : Bool) → k < sizes.processes
    → HeadsFit sizes s views
    → PendingIsPresent s word k (views k).transfer → is_pending word (s.reply k) ≡ t
    → Carried sizes s (if t then with_transfer k word s else s) views
announcement_carried sizes s views k word true lk fits present e =
    transfer_carried sizes s views k word lk fits (present.announced e) (present.word e) (present.next e)
announcement_carried sizes s views k word false lk fits present e = record { same_weight = λ f. refl; matches = λ o lo h. h }

-- those who weren't met yet have their replies and applied transfers
either_state : (t : Bool) (x y : StackState) (o reply applied : ℕ) → (x.reply o ≡ reply) × (x.applied o ≡ applied)
    → (y.reply o ≡ reply) × (y.applied o ≡ applied)
    → ((if t then x else y).reply o ≡ reply) × ((if t then x else y).applied o ≡ applied)
either_state true x y o reply applied hx hy = hx
either_state false x y o reply applied hx hy = hy

-- a process that wasn't met yet keeps its reply and its count of applied transfers
pub unmet_stay : (announcements : ℕ → ℕ) (s : StackState) (k o : ℕ) → k ≤ o
    → ((next_of k announcements s).reply o ≡ s.reply o) × ((next_of k announcements s).applied o ≡ s.applied o)
unfolding next_of
unmet_stay announcements s zero o le = (refl, refl)
unmet_stay announcements s (suc k) o le =
    let before = unmet_stay announcements s k o (omega arith) in
    let met = next_of k announcements s in
    let transferred : StackState = with_transfer k (announcements k) met in
    either_state (is_pending (announcements k) (met.reply k)) transferred met o (s.reply o) (s.applied o)
    (put_elsewhere k _ met.reply o (λ e. omega arith) ∙ before.0, put_elsewhere k _ met.applied o (λ e. omega arith) ∙ before.1) before

present_stays : (s t : StackState) (word o : ℕ) (v : TransferView) → t.reply o ≡ s.reply o → t.applied o ≡ s.applied o
    → PendingIsPresent s word o v → PendingIsPresent t word o v
present_stays s t word o v er ea h =
    record { announced = λ e. h.announced (rw er at e); word = λ e. h.word (rw er at e); next = λ e. rw ea (h.next (rw er at e)) }

-- two states that say the same
pub same_carried : (sizes : Sizes) (s t : StackState) (views : ProcessViews) → SameStack sizes.processes s t → Carried sizes s t views
unfolding transit_weight
same_carried sizes s t views same = record {
  same_weight = λ f.
      let height = ap (λ n. total n (λ k. f (t.content k))) same.height in
      let content = total_same s.height (λ k. f (s.content k)) (λ k. f (t.content k)) (λ k lt. ap f (same.content k lt)) in
      let processes = total_same sizes.processes (λ o. weight f (moving s o (views o).transfer))
      (λ o. weight f (moving t o (views o).transfer)) (λ o lo.
      ap (weight f) (moving_same_state s t o (views o).transfer (same.reply o lo) (same.applied o lo))) in
      omega (arith, height, content, processes);
  matches = λ o lo h. same_matches s t o (views o).transfer (same.reply o lo) (same.applied o lo) h;
}

-- one announcement after the other
pub next_carried : (sizes : Sizes) (s : StackState) (views : ProcessViews) (announcements : ℕ → ℕ) (k : ℕ) → k ≤ sizes.processes
    → HeadsFit sizes s views
    → ((o : ℕ) → o < sizes.processes → PendingIsPresent s (announcements o) o (views o).transfer)
    → Carried sizes s (next_of k announcements s) views
unfolding next_of
next_carried sizes s views announcements zero le fits present =
    same_carried sizes s (try_begun s) views (record {
      height = refl;
      content = λ place lt. refl;
      reply = λ o lo. refl;
      applied = λ o lo. refl;
    })
next_carried sizes s views announcements (suc k) le fits present =
    let met = next_of k announcements s in
    let unmet = unmet_stay announcements s k k (omega arith) in
    let before = next_carried sizes s views announcements k (omega arith) fits present in
    carried_on sizes s met (next_of (suc k) announcements s) views before
    (announcement_carried sizes met views k (announcements k) (is_pending (announcements k) (met.reply k)) (omega arith)
    (carried_fits sizes s met views before fits) (present_stays s met (announcements k) k (views k).transfer unmet.0 unmet.1
    (present k (omega arith))) refl)

-- so does the state that a view installs
pub drafted_carried : (sizes : Sizes) (s : StackState) (views : ProcessViews) (v : TransferView) → HeadsFit sizes s views
    → InstallsNext sizes s views v
    → Carried sizes s (drafted_state s v) views
drafted_carried sizes s views v fits installs =
    let announcements = λ (o : ℕ). slice_index v.loaded.announcements o in
    let next = next_of sizes.processes announcements s in
    carried_on sizes s next (drafted_state s v) views (next_carried sizes s views announcements sizes.processes
    (omega arith) fits installs.present)
    (same_carried sizes next (drafted_state s v) views installs.drafted)
