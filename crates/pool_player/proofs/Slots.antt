-- Which blocks the slots have, after one was written.
use Rattle.std.proofs.Common.{◌≡◌, ◌≢◌, ℕ, ◌<◌, ◌⊎◌, ◌==◌, not, filter, Option, Some, None, List, ◌∷◌, length, get_or, set}
use Rattle.std.proofs.Common.{replicate, sym, ap, ◌∙◌, subst, ⊎_elim, inl, inr}
use Rattle.std.specs.List.{Contains}
use Rattle.std.proofs.lemmas.List.{get_or-set_same, get_or-set_other}
use Rattle.std.proofs.lemmas.Option.{none-some, same_Some, slice_get-get_or}
use Rattle.pool_model.proofs.Members.{contains_head, contains_tail, contains_cons_cases, contains_without, without_contains}
use Rattle.trace_player.specs.Playing.{block_in}
use Rattle.trace_player.proofs.Filling.{after_set, block_in-replicate}
use Rattle.pool_player.specs.Playing.{InSlots, LeavesInSlots}

-- what was read at a slot is what it has
pub block_at : (slots : List (Option ℕ)) (slot : ℕ) (default read found : Option ℕ) → slot < length slots
    → read ≡ get_or slots slot default → read ≡ found → block_in slots slot ≡ found
block_at slots slot default read found within was is =
    let one = slice_get-get_or slots slot None within in
    let other = slice_get-get_or slots slot default within in
    some_option (block_in slots slot) (get_or slots slot default) (sym one ∙ other) ∙ sym was ∙ is
  where
    some_option : (x y : Option ℕ) → ◌≡◌ {A = Option (Option ℕ)} (Some x) (Some y) → x ≡ y
    some_option x y e = cc

-- no block is in empty slots
none_in : (n block : ℕ) → InSlots (replicate n None) block → ⊥
none_in n block has = none-some block (sym (block_in-replicate n has.0) ∙ has.1)

-- empty slots have no block that was held before
pub leaves_none : (before : List ℕ) (n : ℕ) → LeavesInSlots before (replicate n None) before
leaves_none before n = record {
  held = λ block. (
    λ mine. inl mine,
    λ either. ⊎_elim
        (λ (mine : Contains before block). mine)
        (λ (has : InSlots (replicate n None) block). absurd (none_in n block has))
        either,
  );
  new = λ block has. absurd (none_in n block has);
}

-- a slot that had no block is given one: the slots have it besides
in_slots_got : (slots : List (Option ℕ)) (slot block other : ℕ) → slot < length slots → InSlots (set slots slot (Some block)) other
    → (other ≡ block) ⊎ InSlots slots other
in_slots_got slots slot block other within has =
    ⊎_elim
    (λ (q : (has.0 ≡ slot) × (Some block ≡ Some other)). inl (sym (same_Some block other q.1)))
    (λ (q : (has.0 ≢ slot) × (block_in slots has.0 ≡ Some other)). inr (has.0, q.1))
    (after_set slots slot has.0 (Some block) (Some other) within has.1)

in_slots_given : (slots : List (Option ℕ)) (slot block : ℕ) → slot < length slots → InSlots (set slots slot (Some block)) block
in_slots_given slots slot block within = (slot, get_or-set_same slots slot (Some block) None within)

in_slots_still : (slots : List (Option ℕ)) (slot : ℕ) (new : Option ℕ) (other : ℕ) (has : InSlots slots other) → has.0 ≢ slot
    → InSlots (set slots slot new) other
in_slots_still slots slot new other has differs = (has.0, get_or-set_other slots slot has.0 new None differs ∙ has.1)

-- a slot with a block isn't one without
not_empty : (slots : List (Option ℕ)) (slot other : ℕ) (has : InSlots slots other) → block_in slots slot ≡ None → has.0 ≢ slot
not_empty slots slot other has free same = none-some other (sym free ∙ ap (block_in slots) (sym same) ∙ has.1)

-- an empty slot is given a block that wasn't held
pub leaves_got : (before held : List ℕ) (slots : List (Option ℕ)) (slot block : ℕ) → slot < length slots → block_in slots slot ≡ None
    → ¬ Contains held block → LeavesInSlots before slots held → LeavesInSlots before (set slots slot (Some block)) (block ∷ held)
leaves_got before held slots slot block within free out left = record {
  held = λ other. (
    λ mine. ⊎_elim
        (λ (e : block ≡ other). inr (subst (InSlots (set slots slot (Some block))) e (in_slots_given slots slot block within)))
        (λ (was : Contains held other). ⊎_elim
        (λ (mine : Contains before other). inl mine)
        (λ (has : InSlots slots other). inr (in_slots_still slots slot (Some block) other has (not_empty slots slot other has free)))
        ((left.held other).0 was))
        (contains_cons_cases other block held mine),
    λ either. ⊎_elim
        (λ (mine : Contains before other). contains_tail other block held ((left.held other).1 (inl mine)))
        (λ (has : InSlots (set slots slot (Some block)) other). ⊎_elim
        (λ (e : other ≡ block). subst (λ (b : ℕ). Contains (block ∷ held) b) (sym e) (contains_head block held))
        (λ (was : InSlots slots other). contains_tail other block held ((left.held other).1 (inr was)))
        (in_slots_got slots slot block other within has))
        either,
  );
  new = λ other has mine. ⊎_elim
      (λ (e : other ≡ block). out ((left.held block).1 (inl (subst (Contains before) e mine))))
      (λ (was : InSlots slots other). left.new other was mine)
      (in_slots_got slots slot block other within has);
}

-- a slot is emptied: the slots have all but its block
in_slots_left : (slots : List (Option ℕ)) (slot other : ℕ) → slot < length slots → InSlots (set slots slot None) other
    → (has : InSlots slots other) × (has.0 ≢ slot)
in_slots_left slots slot other within has =
    ⊎_elim
    (λ (q : (has.0 ≡ slot) × (None ≡ Some other)). absurd (none-some other q.1))
    (λ (q : (has.0 ≢ slot) × (block_in slots has.0 ≡ Some other)). ((has.0, q.1), q.0))
    (after_set slots slot has.0 None (Some other) within has.1)

-- a slot gives its block back, which no other slot has
pub leaves_back : (before held : List ℕ) (slots : List (Option ℕ)) (slot block : ℕ) → slot < length slots → block_in slots slot ≡ Some block
    → ((a b c : ℕ) → block_in slots a ≡ Some c → block_in slots b ≡ Some c → a ≡ b)
    → LeavesInSlots before slots held → LeavesInSlots before (set slots slot None) (filter (λ other. not (other == block)) held)
leaves_back before held slots slot block within has apart left = record {
  held = λ other. (
    λ mine.
        let was = contains_without block other held mine in
        ⊎_elim
        (λ (mine : Contains before other). inl mine)
        (λ (had : InSlots slots other). inr (in_slots_still slots slot None other had (λ same.
        was.1 (same_Some other block (sym had.1 ∙ ap (block_in slots) same ∙ has)))))
        ((left.held other).0 was.0),
    λ either. ⊎_elim
        (λ (mine : Contains before other). without_contains block other held ((left.held other).1 (inl mine)) (λ same.
        left.new block (slot, has) (subst (Contains before) same mine)))
        (λ (had : InSlots (set slots slot None) other).
        let was = in_slots_left slots slot other within had in
        without_contains block other held ((left.held other).1 (inr was.0)) (λ same.
        was.1 (apart was.0.0 slot block (was.0.1 ∙ ap Some same) has)))
        either,
  );
  new = λ other had mine. left.new other (in_slots_left slots slot other within had).0 mine;
}

-- an empty slot is emptied
pub leaves_passed : (before held : List ℕ) (slots : List (Option ℕ)) (slot : ℕ) → slot < length slots → block_in slots slot ≡ None
    → LeavesInSlots before slots held → LeavesInSlots before (set slots slot None) held
leaves_passed before held slots slot within free left = record {
  held = λ other. (
    λ mine. ⊎_elim
        (λ (mine : Contains before other). inl mine)
        (λ (had : InSlots slots other). inr (in_slots_still slots slot None other had (not_empty slots slot other had free)))
        ((left.held other).0 mine),
    λ either. ⊎_elim
        (λ (mine : Contains before other). (left.held other).1 (inl mine))
        (λ (had : InSlots (set slots slot None) other). (left.held other).1 (inr (in_slots_left slots slot other within had).0))
        either,
  );
  new = λ other had mine. left.new other (in_slots_left slots slot other within had).0 mine;
}
