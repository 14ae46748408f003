-- the opening meets the parts of helping
use Rattle.std.proofs.Common.{◌≡◌, ℕ, refl, arith}
use Rattle.std.proofs.lemmas.Bool.{false≢true}
use Rattle.std.proofs.lemmas.List.{length-replicate}
use Rattle.word_layout.specs.Sizes.{Sizes}
use Rattle.word_layout.specs.Packing.{tag_of, is_odd_reply}
use Rattle.word_layout.specs.declared.name.WordName.TheVariants.{Announcement}
use Rattle.transfer_machine.specs.Opening.{opening_transfer}
use Rattle.transfer_invariant.specs.Memory.{Words}
use Rattle.transfer_invariant.specs.OpeningState.{opening_state}
use Rattle.helping_invariant.specs.Parts.{AppliedRises, AnnouncementHolds}
use Rattle.helping_invariant.specs.Laws.{OpeningMeetsHelping}
use Rattle.helping_invariant.proofs.Own.{tries_idle, settled_idle}
use Rattle.helping_invariant.proofs.Between.{hears_none}

-- no transfer is applied, and no reply is odd
opened_counts : (sizes : Sizes) (words : Words) → AppliedRises sizes words (λ m. opening_state sizes)
unfolding opening_state is_odd_reply
opened_counts sizes words = record { rises = λ o a b lo le lb. omega arith; parities = λ o m lo le. refl }

-- no announcement was made
opened_announced : (sizes : Sizes) (words : Words) (i : ℕ) → words (Announcement i) ≡ 0
    → AnnouncementHolds words (λ m. opening_state sizes) i (opening_transfer i)
unfolding opening_state tag_of
opened_announced sizes words i e = record {
  number = refl;
  room = length-replicate {A = ℕ} 32 0;
  tag = rw e refl;
  word = λ k. absurd (false≢true k);
  most = omega arith;
  least = omega arith;
  idle = λ k. refl;
}

-- the opening meets the parts of helping
pub opening_meets_helping : OpeningMeetsHelping
opening_meets_helping sizes words views shape opened seats = record {
  counts = opened_counts sizes words;
  announced = λ i li. rw (seats i li) (opened_announced sizes words i (opened (Announcement i) li));
  tries = λ i li. tries_idle words (λ m. opening_state sizes) i (views i) (rw (seats i li) refl);
  settled = λ i li. settled_idle sizes words (λ m. opening_state sizes) i (views i) (rw (seats i li) refl);
  hears = λ a o la lo. hears_none sizes.processes words (λ m. opening_state sizes) o (views a) (views o) (rw (seats a la) refl);
}
