-- The places of keys among keys.
use Rattle.std.proofs.Common.{◌≡◌, ℕ, ◌+◌, true, false, cond, eqb, List, [], ◌∷◌, ◌++◌, length, None, Some, option_map, refl, sym, ◌∙◌}
use Rattle.std.proofs.Common.{arith}
use Rattle.std.proofs.lemmas.Bool.Decides.{nat_tests}
use Rattle.std.proofs.Common.{◌<◌, suc, get_or, ap}
use Rattle.std.proofs.lemmas.Bool.{eqb-true}
use Rattle.line_text.proofs.Choices.{some_is}
use Rattle.std.specs.Ordering.{nat_cmp}
use Rattle.std.specs.BTreeMap.{get, btree_map_len}
use Rattle.std.proofs.lemmas.List.{length-append}
use Rattle.store_script.specs.Script.{place_of, with_key}
use Rattle.store_script.specs.Slots.{NamesNext}
use Rattle.store_script.specs.declared.slots.SlotTable.{SlotTable}

-- a key that isn't among some isn't the first of them, nor among the others
not_first : (key first : ℕ) (others : List ℕ) → place_of key (first ∷ others) ≡ None
    → (eqb first key ≡ false) × (place_of key others ≡ None)
not_first key first others h =
    elim (eqb first key)
    as (λ b. cond b (Some 0) (option_map (λ place. place + 1) (place_of key others)) ≡ None → (b ≡ false) × (place_of key others ≡ None)) [
      | true ↦ λ e. absurd (cc)
      | false ↦ elim (place_of key others) as (λ o. option_map (λ place. place + 1) o ≡ None → (false ≡ false) × (o ≡ None)) [
        | None ↦ λ e. (refl, refl)
        | Some place ↦ λ e. absurd (cc)
      ]
    ]
    h

-- behind some keys a new key has the next place, and the others keep theirs
pub place_of-push : (key q : ℕ) (keys : List ℕ) → place_of key keys ≡ None
    → place_of q (keys ++ key ∷ []) ≡ cond (eqb key q) (Some (length keys)) (place_of q keys)
place_of-push key q [] fresh = refl
place_of-push key q (first ∷ others) fresh =
    let apart = not_first key first others fresh in
    let rest = place_of-push key q others apart.1 in
    grind (arith, nat_tests, apart.0, rest)

first_is : (key place first : ℕ) (others : List ℕ) → first ≡ key → Some 0 ≡ Some place
    → (place < length (first ∷ others)) × (get_or (first ∷ others) place 0 ≡ key)
first_is key place first others same is =
    let zero_is : 0 ≡ place = cc in
    (omega arith, ap (λ n. get_or (first ∷ others) n 0) (sym zero_is) ∙ same)

later_is : (key place before first : ℕ) (others : List ℕ) → (before < length others) × (get_or others before 0 ≡ key)
    → Some (before + 1) ≡ Some place
    → (place < length (first ∷ others)) × (get_or (first ∷ others) place 0 ≡ key)
later_is key place before first others at is =
    let next : suc before ≡ place = omega (arith, some_is (before + 1) place is) in
    (omega (arith, at.0), ap (λ n. get_or (first ∷ others) n 0) (sym next) ∙ at.1)

-- a key with a place is the one that stands there
place_is : (key place : ℕ) (keys : List ℕ) → place_of key keys ≡ Some place → (place < length keys) × (get_or keys place 0 ≡ key)
place_is key place [] is = cc
place_is key place (first ∷ others) is =
    elim (eqb first key) as (λ b. eqb first key ≡ b → cond b (Some 0) (option_map (λ n. n + 1) (place_of key others)) ≡ Some place
    → (place < length (first ∷ others)) × (get_or (first ∷ others) place 0 ≡ key)) [
      | true ↦ λ same e. first_is key place first others (eqb-true first key same) e
      | false ↦ λ _.
          elim (place_of key others) as (λ o. place_of key others ≡ o → option_map (λ n. n + 1) o ≡ Some place
          → (place < length (first ∷ others)) × (get_or (first ∷ others) place 0 ≡ key)) [
            | None ↦ λ _ e. cc
            | Some before ↦ λ at e. later_is key place before first others (place_is key before others at) e
          ]
          refl
    ]
    refl
    is

-- two keys with one place are the same
pub one_key : (one other place : ℕ) (keys : List ℕ) → place_of one keys ≡ Some place → place_of other keys ≡ Some place → one ≡ other
one_key one other place keys here there = sym (place_is one place keys here).1 ∙ (place_is other place keys there).1

-- a place is below their number
pub place_below : (key place : ℕ) (keys : List ℕ) → place_of key keys ≡ Some place → place < length keys
place_below key place keys is = (place_is key place keys is).0

-- a new key goes behind the others
with_new_key : (key : ℕ) (keys : List ℕ) → place_of key keys ≡ None → with_key keys key ≡ keys ++ key ∷ []
with_new_key key keys fresh = rw fresh refl

-- a new key gets the next slot
pub named_next : (before after : SlotTable) (key slot : ℕ)
    → ((q : ℕ) → get nat_cmp after.slots q ≡ cond (eqb key q) (Some slot) (get nat_cmp before.slots q))
    → get nat_cmp before.slots key ≡ None → slot ≡ btree_map_len before.slots
    → btree_map_len after.slots ≡ btree_map_len before.slots + 1 → NamesNext before after key slot
named_next before after key slot updated new_key next longer keys names =
    let fresh : place_of key keys ≡ None = sym (names.each key) ∙ new_key in
    let grown = with_new_key key keys fresh in
    let is_next : slot ≡ length keys = next ∙ names.count in
    rw grown (
      record {
        each = λ q. updated q ∙ grind (arith, is_next, names.each q, place_of-push key q keys fresh);
        count = omega (arith, longer, names.count, length-append keys (key ∷ []));
      },
      place_of-push key key keys fresh ∙ grind (arith, nat_tests, is_next),
    )
