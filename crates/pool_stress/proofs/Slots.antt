-- slots with blocks that a pass holds
use Rattle.std.proofs.Common.{◌≡◌, ◌≢◌, ℕ, zero, suc, ◌<◌, ◌==◌, not, filter, Option, None, Some, List, ◌∷◌, [], length, set, get_or}
use Rattle.std.proofs.Common.{replicate, sym, ap, ◌∙◌, subst, inl, inr, arith}
use Rattle.std.specs.Prelude.{slice_get, Contains}
use Rattle.std.proofs.Math.ListN.{length-set}
use Rattle.std.proofs.lemmas.List.{get_or-set_same}
use Rattle.std.proofs.lemmas.Option.{none-some, same_Some, slice_get_within, slice_get-get_or}
use Rattle.pool_model.specs.declared.entry.Entry.TheVariants as entry
use Rattle.pool_model.proofs.Members.{contains_head, contains_tail, without_contains}
use Rattle.block_pool.specs.Passing.{Passed}
use Rattle.block_pool.specs.Calls.{Entered}
use Rattle.block_pool.proofs.Ordered.{item_of_set}
use Rattle.pool_stress.specs.Slots.{SlotsFit}

-- what was read at a place stands there
pub read_at : (slots : List (Option ℕ)) (place : ℕ) (default read found : Option ℕ) → place < length slots
    → read ≡ get_or slots place default
    → read ≡ found → slice_get slots place ≡ Some found
read_at slots place default read found within was is =
    let same : get_or slots place default ≡ found = sym was ∙ is in
    slice_get-get_or slots place default within ∙ ap (λ (item : Option ℕ). Some item) same

-- a slot that was filled with a block that wasn't held
pub filled_fit : (held : List ℕ) (slots : List (Option ℕ)) (place block : ℕ) → ¬ Contains held block → SlotsFit held slots
    → SlotsFit (block ∷ held) (set slots place (Some block))
filled_fit held slots place block free fit =
    let found = λ (k b : ℕ) (at : slice_get (set slots place (Some block)) k ≡ Some (Some b)).
    item_of_set slots place k (Some block) (Some b) at in
    let other = λ (k b : ℕ) (was : slice_get slots k ≡ Some (Some b)) (is : Some block ≡ Some b).
    free (subst (Contains held) (sym (same_Some block b is)) (fit.filled k b was)) in
    record {
      filled = λ k b at. elim (found k b at) [
        | inl new ↦ subst (Contains (block ∷ held)) (same_Some block b new.1) (contains_head block held)
        | inr was ↦ contains_tail b block held (fit.filled k b was)
      ];
      apart = λ k j b at too. elim (found k b at) [
        | inl new ↦ elim (found j b too) [ inl also ↦ new.0 ∙ sym also.0 | inr was ↦ absurd (other j b was new.1) ]
        | inr was ↦ elim (found j b too) [ inl new ↦ absurd (other k b was new.1) | inr also ↦ fit.apart k j b was also ]
      ];
    }

-- what stands in slots of which one was emptied stands in another
left_there : (slots : List (Option ℕ)) (place k block : ℕ) → place < length slots
    → slice_get (set slots place None) k ≡ Some (Some block) → (slice_get slots k ≡ Some (Some block)) × (k ≢ place)
left_there slots place k block within at =
    let bare = set slots place None in
    let here : slice_get bare place ≡ Some None =
    slice_get-get_or bare place None (omega (arith, length-set slots place None))
    ∙ ap (λ (item : Option ℕ). Some item) (get_or-set_same slots place None None within) in (
      elim (item_of_set slots place k None (Some block) at) [
        | inl new ↦ absurd (none-some block new.1)
        | inr was ↦ was
      ],
      λ is. none-some block
          (same_Some None (Some block) (sym here ∙ subst (λ (n : ℕ). slice_get bare n ≡ Some (Some block)) is at)),
    )

-- a slot that was emptied
pub emptied_fit : (held : List ℕ) (slots : List (Option ℕ)) (place : ℕ) → place < length slots → SlotsFit held slots
    → SlotsFit held (set slots place None)
emptied_fit held slots place within fit = record {
  filled = λ k b at. fit.filled k b (left_there slots place k b within at).0;
  apart = λ k j b at too. fit.apart k j b (left_there slots place k b within at).0 (left_there slots place j b within too).0;
}

-- a slot whose block was freed
pub freed_fit : (held : List ℕ) (slots : List (Option ℕ)) (place block : ℕ) → place < length slots
    → slice_get slots place ≡ Some (Some block)
    → SlotsFit held slots → SlotsFit (filter (λ other. not (other == block)) held) (set slots place None)
freed_fit held slots place block within has fit = record {
  filled = λ k b at.
      let was = left_there slots place k b within at in
      without_contains block b held (fit.filled k b was.0)
      (λ is. was.1 (fit.apart k place block (subst (λ (n : ℕ). slice_get slots k ≡ Some (Some n)) is was.0) has));
  apart = λ k j b at too. fit.apart k j b (left_there slots place k b within at).0 (left_there slots place j b within too).0;
}

-- a call that freed the block of a slot
pub slot_freed : (by : ℕ) (old new : Passed) (slots : List (Option ℕ)) (place block : ℕ) (default read left : Option ℕ)
    → place < length slots → read ≡ get_or slots place default → read ≡ Some block → left ≡ None → SlotsFit old.held slots
    → Entered (entry.Back by block) old new → SlotsFit new.held (set slots place left)
slot_freed by old new slots place block default read left within was is bare fit entered =
    rw bare (subst (λ (held : List ℕ). SlotsFit held (set slots place None)) (sym entered.held)
    (freed_fit old.held slots place block within (read_at slots place default read (Some block) within was is) fit))

-- a call that got a block into it
pub slot_got : (by : ℕ) (old new : Passed) (slots : List (Option ℕ)) (place block : ℕ) (left : Option ℕ) → place < length slots
    → left ≡ None → SlotsFit old.held slots → ¬ Contains old.held block → Entered (entry.Got by block) old new
    → SlotsFit new.held (set (set slots place left) place (Some block))
slot_got by old new slots place block left within bare fit free entered =
    rw bare (subst (λ (held : List ℕ). SlotsFit held (set (set slots place None) place (Some block))) (sym entered.held)
    (filled_fit old.held (set slots place None) place block free (emptied_fit old.held slots place within fit)))
