-- What the slots of a script hold, one step on.
use Rattle.std.proofs.Common.{◌≡◌, ◌≢◌, ℕ, ◌+◌, ◌<◌, ◌≤◌, ◌⊎◌, zero, suc, Bool, true, false, cond, Option, Some, None, is_some, List, []}
use Rattle.std.proofs.Common.{◌∷◌, ◌++◌, length, set, replicate, refl, sym, ap, ◌∙◌, subst, ⊎_elim, inl, inr, arith, length-append}
use Rattle.std.specs.List.{Contains, count_by}
use Rattle.std.proofs.lemmas.Bool.{cases_eq}
use Rattle.std.proofs.lemmas.List.{get_or-set_same, get_or-set_other, get_or_push}
use Rattle.std.proofs.lemmas.List.Elements.{All-contains, Contains-push_cases, Contains-append_left, Contains-push}
use Rattle.std.proofs.lemmas.List.Sums.{sum_by-set}
use Rattle.std.proofs.lemmas.Option.{none-some, same_Some}
use Rattle.mtrace_reader.specs.declared.steps.Step.{Step}
use Rattle.mtrace_reader.specs.declared.steps.Step.TheVariants.{Place, Leave}
use Rattle.trace_player.proofs.Agreeing.{Below, Keeps, keeps_all, keeps_more}
use Rattle.trace_player.specs.Tally.{is_refused}
use Rattle.trace_player.specs.Playing.{block_in, slot_of, IsFilled, NamesSlots, HoldsBlocks}

-- no slot of an empty list has a block
pub block_in-replicate : (n slot : ℕ) → block_in (replicate n None) slot ≡ None
block_in-replicate zero slot = refl
block_in-replicate (suc n) zero = refl
block_in-replicate (suc n) (suc slot) = block_in-replicate n slot

-- a slot that was filled keeps its block at a step that does not leave it
pub filled_on : (refused later : List Bool) (blocks after : List ℕ) (done : List Step) (step : Step) (Held New : ℕ → Type 0)
    (slot block : ℕ)
    → Keeps refused later blocks after (length refused) → length refused ≤ length later → step ≢ Leave slot → (Held block → New block)
    → IsFilled refused blocks done Held slot block → IsFilled later after (done ++ step ∷ []) New slot block
filled_on refused later blocks after done step Held New slot block keeps longer_than stays still filled = record {
  placed = omega (arith, filled.placed);
  given = keeps.refusals slot filled.placed ∙ filled.given;
  block_of = keeps.given slot filled.placed ∙ filled.block_of;
  not_left = λ left. ⊎_elim filled.not_left stays (Contains-push_cases done step (Leave slot) left);
  held = still filled.held;
}

-- the slot that was just given a block is filled with it
pub filled_now : (refused : List Bool) (blocks : List ℕ) (done : List Step) (Held : ℕ → Type 0) (slot block : ℕ)
    → slot ≡ length refused → length blocks ≡ length refused → Below (length refused) done → Held block
    → IsFilled (refused ++ false ∷ []) (blocks ++ block ∷ []) (done ++ Place slot ∷ []) Held slot block
filled_now refused blocks done Held slot block next same below holds = record {
  placed = omega (arith, length-append refused (false ∷ []));
  given = get_or_push refused false false slot (sym next);
  block_of = get_or_push blocks block 0 slot (same ∙ sym next);
  not_left = λ left. ⊎_elim
      (λ (c : Contains done (Leave slot)). absurd (omega (
        arith,
        All-contains (λ step. slot_of step < length refused) done (Leave slot) below c,
      )))
      (λ (e : Place slot ≡ Leave slot). absurd cc)
      (Contains-push_cases done (Place slot) (Leave slot) left);
  held = holds;
}

-- what a slot has after another, or it itself, was written
pub after_set : (slots : List (Option ℕ)) (slot other : ℕ) (new found : Option ℕ) → slot < length slots
    → block_in (set slots slot new) other ≡ found
    → ((other ≡ slot) × (new ≡ found)) ⊎ ((other ≢ slot) × (block_in slots other ≡ found))
after_set slots slot other new found within e =
    ⊎_elim
    (λ (p : other ≡ slot). inl (p, sym (get_or-set_same slots slot new None within) ∙ ap (block_in (set slots slot new)) (sym p) ∙ e))
    (λ (p : other ≢ slot). inr (p, sym (get_or-set_other slots slot other new None p) ∙ e))
    (cases_eq other slot)

-- a slot that still has a block after one was emptied is another one
kept_block : (slots : List (Option ℕ)) (slot other block : ℕ) → slot < length slots → block_in (set slots slot None) other ≡ Some block
    → (other ≢ slot) × (block_in slots other ≡ Some block)
kept_block slots slot other block within e =
    ⊎_elim (λ (q : (other ≡ slot) × (None ≡ Some block)). absurd (none-some block q.1)) (λ q. q)
    (after_set slots slot other None (Some block) within e)

-- how many slots have a block, after one was written
pub count_by-set : (slots : List (Option ℕ)) (slot : ℕ) (new : Option ℕ) → slot < length slots
    → count_by is_some (set slots slot new) + cond (is_some (block_in slots slot)) 1 0 ≡ count_by is_some slots + cond (is_some new) 1 0
count_by-set slots slot new within = sum_by-set (λ o. cond (is_some o) 1 0) slots slot new None within

-- before the first step no slot has a block
pub holds_none : (Held : ℕ → Type 0) (n : ℕ) → HoldsBlocks [] [] [] Held (replicate n None)
holds_none Held n = record {
  filled = λ slot block e. absurd (none-some block (sym (block_in-replicate n slot) ∙ e));
  empty = λ slot below e. absurd (omega arith);
  apart = λ a b block ea eb. absurd (none-some block (sym (block_in-replicate n a) ∙ ea));
}

-- a slot that has no number yet has no block
pub next_is_empty : (refused : List Bool) (blocks : List ℕ) (done : List Step) (Held : ℕ → Type 0) (slots : List (Option ℕ)) (slot : ℕ)
    → HoldsBlocks refused blocks done Held slots → slot ≡ length refused → block_in slots slot ≡ None
next_is_empty refused blocks done Held slots slot holds next = cases (block_in slots slot) refl
  where
    cases : (o : Option ℕ) → block_in slots slot ≡ o → o ≡ None
    cases None e = refl
    cases (Some block) e = absurd (omega (arith, next, (holds.filled slot block e).placed))

-- a slot without a block was refused or left, also one step on
empty_on : (refused later : List Bool) (blocks after : List ℕ) (done : List Step) (step : Step) (slot : ℕ)
    → Keeps refused later blocks after (length refused)
    → slot < length refused
    → (is_refused refused slot ≡ true) ⊎ Contains done (Leave slot)
    → (is_refused later slot ≡ true) ⊎ Contains (done ++ step ∷ []) (Leave slot)
empty_on refused later blocks after done step slot keeps below was =
    ⊎_elim
    (λ (r : is_refused refused slot ≡ true). inl (keeps.refusals slot below ∙ r))
    (λ (left : Contains done (Leave slot)). inr (Contains-append_left done (step ∷ []) (Leave slot) left))
    was

-- no slot has a block that was just given, and wasn't held
apart_got : (refused : List Bool) (blocks : List ℕ) (done : List Step) (Held : ℕ → Type 0) (slots : List (Option ℕ)) (slot block : ℕ)
    → slot < length slots → ¬ Held block → HoldsBlocks refused blocks done Held slots
    → (a b other : ℕ) → block_in (set slots slot (Some block)) a ≡ Some other → block_in (set slots slot (Some block)) b ≡ Some other
    → a ≡ b
apart_got refused blocks done Held slots slot block within free holds a b other ea eb =
    ⊎_elim
    (λ (q : (a ≡ slot) × (Some block ≡ Some other)). ⊎_elim
    (λ (r : (b ≡ slot) × (Some block ≡ Some other)). q.0 ∙ sym r.0)
    (λ (r : (b ≢ slot) × (block_in slots b ≡ Some other)). absurd (not_new b r.1 (same_Some block other q.1)))
    (after_set slots slot b (Some block) (Some other) within eb))
    (λ (q : (a ≢ slot) × (block_in slots a ≡ Some other)). ⊎_elim
    (λ (r : (b ≡ slot) × (Some block ≡ Some other)). absurd (not_new a q.1 (same_Some block other r.1)))
    (λ (r : (b ≢ slot) × (block_in slots b ≡ Some other)). holds.apart a b other q.1 r.1)
    (after_set slots slot b (Some block) (Some other) within eb))
    (after_set slots slot a (Some block) (Some other) within ea)
  where
    not_new : (c : ℕ) → block_in slots c ≡ Some other → block ≡ other → ⊥
    not_new c e same = free (subst Held (sym same) (holds.filled c other e).held)

-- a block that wasn't held is, and those that were still are
pub holds_got : (refused : List Bool) (blocks : List ℕ) (done : List Step) (Held New : ℕ → Type 0) (slots : List (Option ℕ))
    (slot block : ℕ)
    → NamesSlots refused blocks done → slot ≡ length refused → slot < length slots → ¬ Held block → New block
    → ((other : ℕ) → Held other → New other)
    → HoldsBlocks refused blocks done Held slots
    → HoldsBlocks (refused ++ false ∷ []) (blocks ++ block ∷ []) (done ++ Place slot ∷ []) New (set slots slot (Some block))
holds_got refused blocks done Held New slots slot block names next within free now still holds =
    let more = done ++ Place slot ∷ [] in
    let keeps = keeps_more refused blocks false block names.block_each in
    let size : length (refused ++ false ∷ []) ≡ length refused + 1 = omega (arith, length-append refused (false ∷ [])) in
    let new_block = filled_now refused blocks done New slot block next names.block_each names.below now in
    record {
      filled = λ other c e. ⊎_elim
          (λ (q : (other ≡ slot) × (Some block ≡ Some c)).
          subst (λ (s : ℕ). IsFilled (refused ++ false ∷ []) (blocks ++ block ∷ []) more New s c) (sym q.0)
          (subst (λ (b : ℕ). IsFilled (refused ++ false ∷ []) (blocks ++ block ∷ []) more New slot b) (same_Some block c q.1) new_block))
          (λ (q : (other ≢ slot) × (block_in slots other ≡ Some c)).
          filled_on refused (refused ++ false ∷ []) blocks (blocks ++ block ∷ []) done (Place slot) Held New other c keeps (omega arith)
          (λ e. absurd cc)
          (still c) (holds.filled other c q.1))
          (after_set slots slot other (Some block) (Some c) within e);
      empty = λ other low e. ⊎_elim
          (λ (q : (other ≡ slot) × (Some block ≡ None)). absurd (none-some block (sym q.1)))
          (λ (q : (other ≢ slot) × (block_in slots other ≡ None)).
          let before : other < length refused = omega (arith, q.0) in
          empty_on refused (refused ++ false ∷ []) blocks (blocks ++ block ∷ []) done (Place slot) other keeps before
          (holds.empty other before q.1))
          (after_set slots slot other (Some block) None within e);
      apart = apart_got refused blocks done Held slots slot block within free holds;
    }

-- a Place was refused, and the blocks that were held still are
pub holds_dry : (refused : List Bool) (blocks : List ℕ) (done : List Step) (Held New : ℕ → Type 0) (slots : List (Option ℕ)) (slot : ℕ)
    → NamesSlots refused blocks done → slot ≡ length refused → ((other : ℕ) → Held other → New other)
    → HoldsBlocks refused blocks done Held slots
    → HoldsBlocks (refused ++ true ∷ []) (blocks ++ 0 ∷ []) (done ++ Place slot ∷ []) New slots
holds_dry refused blocks done Held New slots slot names next still holds =
    let keeps = keeps_more refused blocks true 0 names.block_each in
    let size : length (refused ++ true ∷ []) ≡ length refused + 1 = omega (arith, length-append refused (true ∷ [])) in
    record {
      filled = λ other c e.
          filled_on refused (refused ++ true ∷ []) blocks (blocks ++ 0 ∷ []) done (Place slot) Held New other c keeps (omega arith)
          (λ e. absurd cc)
          (still c) (holds.filled other c e);
      empty = λ other low e. ⊎_elim
          (λ (same : other ≡ slot). inl (get_or_push refused true false other (sym (same ∙ next))))
          (λ (differs : other ≢ slot).
          let before : other < length refused = omega arith in
          empty_on refused (refused ++ true ∷ []) blocks (blocks ++ 0 ∷ []) done (Place slot) other keeps before
          (holds.empty other before e))
          (cases_eq other slot);
      apart = holds.apart;
    }

-- once a slot is left, each slot without a block was refused or left
left_empty : (refused : List Bool) (blocks : List ℕ) (done : List Step) (Held : ℕ → Type 0) (slots : List (Option ℕ)) (slot : ℕ)
    → slot < length slots → (is_refused refused slot ≡ true) ⊎ Contains (done ++ Leave slot ∷ []) (Leave slot)
    → HoldsBlocks refused blocks done Held slots
    → (other : ℕ) → other < length refused → block_in (set slots slot None) other ≡ None
    → (is_refused refused other ≡ true) ⊎ Contains (done ++ Leave slot ∷ []) (Leave other)
left_empty refused blocks done Held slots slot within own holds other low e =
    ⊎_elim
    (λ (q : (other ≡ slot) × (None ≡ None)). rw q.0 own)
    (λ (q : (other ≢ slot) × (block_in slots other ≡ None)).
    empty_on refused refused blocks blocks done (Leave slot) other (keeps_all refused blocks (length refused)) low
    (holds.empty other low q.1))
    (after_set slots slot other None None within e)

-- a slot gave its block back, and the others that were held still are
pub holds_back : (refused : List Bool) (blocks : List ℕ) (done : List Step) (Held New : ℕ → Type 0) (slots : List (Option ℕ))
    (slot block : ℕ)
    → slot < length slots → block_in slots slot ≡ Some block → ((other : ℕ) → ¬ (other ≡ block) → Held other → New other)
    → HoldsBlocks refused blocks done Held slots
    → HoldsBlocks refused blocks (done ++ Leave slot ∷ []) New (set slots slot None)
holds_back refused blocks done Held New slots slot block within has still holds =
    let keeps = keeps_all refused blocks (length refused) in
    record {
      filled = λ other c e.
          let q = kept_block slots slot other c within e in
          let differs : ¬ (c ≡ block) = λ same. q.0 (holds.apart other slot block (q.1 ∙ ap Some same) has) in
          filled_on refused refused blocks blocks done (Leave slot) Held New other c keeps (omega arith) (λ e. q.0 (sym (cc e)))
          (still c differs) (holds.filled other c q.1);
      empty = left_empty refused blocks done Held slots slot within (inr (Contains-push done (Leave slot))) holds;
      apart = λ a b c ea eb. holds.apart a b c (kept_block slots slot a c within ea).1 (kept_block slots slot b c within eb).1;
    }

-- a slot that was refused is left
pub holds_passed : (refused : List Bool) (blocks : List ℕ) (done : List Step) (Held : ℕ → Type 0) (slots : List (Option ℕ)) (slot : ℕ)
    → slot < length slots → is_refused refused slot ≡ true → HoldsBlocks refused blocks done Held slots
    → HoldsBlocks refused blocks (done ++ Leave slot ∷ []) Held (set slots slot None)
holds_passed refused blocks done Held slots slot within dry holds =
    let keeps = keeps_all refused blocks (length refused) in
    record {
      filled = λ other c e.
          let q = kept_block slots slot other c within e in
          filled_on refused refused blocks blocks done (Leave slot) Held Held other c keeps (omega arith) (λ e. q.0 (sym (cc e)))
          (λ held. held) (holds.filled other c q.1);
      empty = left_empty refused blocks done Held slots slot within (inl dry) holds;
      apart = λ a b c ea eb. holds.apart a b c (kept_block slots slot a c within ea).1 (kept_block slots slot b c within eb).1;
    }
