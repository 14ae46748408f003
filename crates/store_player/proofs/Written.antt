-- What the slots have, after one was written.
use Rattle.std.proofs.Common.{◌≡◌, ◌≢◌, ℕ, ◌<◌, ◌⊎◌, cond, eqb, Option, Some, None, option_map, List, ◌++◌, length, set}
use Rattle.std.proofs.Common.{sym, ap, ◌∙◌, subst, ⊎_elim, inl, inr}
use Rattle.std.proofs.lemmas.Bool.{cases_eq, ne_eqb, eq-eqb}
use Rattle.std.proofs.lemmas.List.{get_or-set_same, get_or-set_other}
use Rattle.std.proofs.lemmas.Option.{same_Some}
use Rattle.store_script.specs.declared.quad.Quad.{Quad}
use Rattle.store_script.specs.Replies.{Kept, Walk, kept}
use Rattle.store_script.specs.Script.{place_of}
use Rattle.store_script.proofs.Places.{one_key}
use Rattle.block_pool.specs.Passing.{Passed}
use Rattle.object_store.specs.Objects.{HoldsWords, ObjectView}
use Rattle.store_player.specs.Playing.{AreApart, AreHeld, BlockIs, HasPresent, NumbersAre, object_in, quad_words}

-- ---- a slot is written

module _ (slots : List (Option (ObjectView Quad))) (slot : ℕ) (given : Option (ObjectView Quad)) (within : slot < length slots) where
  pub given_there : object_in (set slots slot given) slot ≡ given
  given_there = get_or-set_same slots slot given None within

  pub kept_there : (other : ℕ) → other ≢ slot → object_in (set slots slot given) other ≡ object_in slots other
  kept_there other differs = get_or-set_other slots slot other given None differs

  -- what a slot has then: what was given, or what it had
  pub after_writing : (other : ℕ) (object : ObjectView Quad) → object_in (set slots slot given) other ≡ Some object
      → ((other ≡ slot) × (given ≡ Some object)) ⊎ ((other ≢ slot) × (object_in slots other ≡ Some object))
  after_writing other object e = ⊎_elim
      (λ (same : other ≡ slot). inl (same, sym given_there ∙ ap (object_in (set slots slot given)) (sym same) ∙ e))
      (λ (differs : other ≢ slot). inr (differs, sym (kept_there other differs) ∙ e))
      (cases_eq other slot)

  -- the slot of a key has what is kept for it, and other keys keep what they kept
  pub present_written : (keys : List ℕ) (key : ℕ) (found : Option Kept) (walk later : Walk) → place_of key keys ≡ Some slot
      → ((q : ℕ) → kept later q ≡ cond (eqb q key) found (kept walk q))
      → NumbersAre found given → HasPresent keys walk slots → HasPresent keys later (set slots slot given)
  present_written keys key found walk later placed updated same present q place is = ⊎_elim
      (λ (e : q ≡ key).
      let at : place ≡ slot = same_Some place slot (sym is ∙ ap (λ k. place_of k keys) e ∙ placed) in
      ap (λ p. option_map (λ object. object.value) (object_in (set slots slot given) p)) at
      ∙ ap (option_map (λ object. object.value)) given_there ∙ same
      ∙ sym (ap (option_map (λ before. before.value)) (updated q ∙ ap (λ b. cond b found (kept walk q)) (eq-eqb q key e))))
      (λ (ne : q ≢ key).
      let apart : place ≢ slot = λ e. ne (one_key q key slot keys (is ∙ ap Some e) placed) in
      ap (option_map (λ object. object.value)) (kept_there place apart) ∙ present q place is
      ∙ sym (ap (option_map (λ before. before.value)) (updated q ∙ ap (λ b. cond b found (kept walk q)) (ne_eqb q key ne))))
      (cases_eq q key)

  -- so have the blocks of the puts
  pub blocks_written : (keys : List ℕ) (key : ℕ) (found : Option Kept) (walk later : Walk) (blocks more : List ℕ)
      → place_of key keys ≡ Some slot → ((q : ℕ) → kept later q ≡ cond (eqb q key) found (kept walk q))
      → BlockIs (blocks ++ more) found given
      → ((q place : ℕ) → place_of q keys ≡ Some place → BlockIs (blocks ++ more) (kept walk q) (object_in slots place))
      → (q place : ℕ) → place_of q keys ≡ Some place → BlockIs (blocks ++ more) (kept later q) (object_in (set slots slot given) place)
  blocks_written keys key found walk later blocks more placed updated here there q place is = ⊎_elim
      (λ (e : q ≡ key).
      let at : place ≡ slot = same_Some place slot (sym is ∙ ap (λ k. place_of k keys) e ∙ placed) in
      two (sym (updated q ∙ ap (λ b. cond b found (kept walk q)) (eq-eqb q key e)))
      (sym (ap (object_in (set slots slot given)) at ∙ given_there)) here)
      (λ (ne : q ≢ key).
      let apart : place ≢ slot = λ e. ne (one_key q key slot keys (is ∙ ap Some e) placed) in
      two (sym (updated q ∙ ap (λ b. cond b found (kept walk q)) (ne_eqb q key ne))) (sym (kept_there place apart)) (there q place is))
      (cases_eq q key)
    where
      two : {a b : Option Kept} {x y : Option (ObjectView Quad)} → a ≡ b → x ≡ y → BlockIs (blocks ++ more) a x
          → BlockIs (blocks ++ more) b y
      two {b = b} {x = x} e f h = subst (BlockIs (blocks ++ more) b) f (subst (λ a. BlockIs (blocks ++ more) a x) e h)

  -- the pass holds what was given, and what it held besides
  pub held_written : (old new : Passed)
      → ((object : ObjectView Quad) → given ≡ Some object → HoldsWords 4 (quad_words object.value) object.block new)
      → ((other : ℕ) (object : ObjectView Quad) → other ≢ slot → object_in slots other ≡ Some object
      → HoldsWords 4 (quad_words object.value) object.block new)
      → AreHeld (set slots slot given) new
  held_written old new here there other object is = ⊎_elim
      (λ (p : (other ≡ slot) × (given ≡ Some object)). here object p.1)
      (λ (p : (other ≢ slot) × (object_in slots other ≡ Some object)). there other object p.0 p.1)
      (after_writing other object is)

  -- blocks stay apart where that of what was given is none of another slot
  pub apart_written : ((one other : ObjectView Quad) (place : ℕ) → given ≡ Some one → place ≢ slot → object_in slots place ≡ Some other
      → one.block ≡ other.block → ⊥)
      → AreApart slots → AreApart (set slots slot given)
  apart_written new apart a b one other isa isb same = ⊎_elim
      (λ (p : (a ≡ slot) × (given ≡ Some one)). ⊎_elim
      (λ (q : (b ≡ slot) × (given ≡ Some other)). p.0 ∙ sym q.0)
      (λ (q : (b ≢ slot) × (object_in slots b ≡ Some other)). absurd (new one other b p.1 q.0 q.1 same))
      (after_writing b other isb))
      (λ (p : (a ≢ slot) × (object_in slots a ≡ Some one)). ⊎_elim
      (λ (q : (b ≡ slot) × (given ≡ Some other)). absurd (new other one a q.1 p.0 p.1 (sym same)))
      (λ (q : (b ≢ slot) × (object_in slots b ≡ Some other)). apart a b one other p.1 q.1 same)
      (after_writing b other isb))
      (after_writing a one isa)
