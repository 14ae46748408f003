-- A plain store that goes along with a walk.
use Rattle.std.proofs.Common.{◌≡◌, ℕ, Bool, true, false, cond, not, eqb, [], ◌∷◌, ◌++◌, Option, Some, None, option_map, refl, ap, sym}
use Rattle.std.proofs.Common.{◌∙◌, arith}
use Rattle.std.specs.Map.{lookup}
use Rattle.std.specs.Ordering.{nat_cmp}
use Rattle.std.specs.BTreeMap.{get}
use Rattle.std.proofs.lemmas.Bool.Decides.{nat_tests}
use Rattle.std.proofs.lemmas.Map.Entries.{lookup-filter-keys}
use Rattle.line_text.proofs.Choices.{same_key, cond_not}
use Rattle.store_script.specs.declared.quad.Quad.{Quad}
use Rattle.store_script.specs.declared.answered.Answered.TheVariants.{Done}
use Rattle.store_script.specs.declared.replies.PlainStore.{PlainStore}
use Rattle.store_script.specs.Replies.{Kept, Walk, kept, present_but, after_set, after_del, changed}
use Rattle.store_script.specs.PlainStore.{IsAfter}

-- without a key each other one keeps what it kept, and it keeps nothing
pub kept-present_but : (walk : Walk) (key q : ℕ) → lookup (eqb q) (present_but walk key) ≡ cond (eqb key q) None (kept walk q)
kept-present_but walk key q =
    lookup-filter-keys (eqb q) (λ k. not (eqb k key)) (not (eqb key q)) (same_key key q) walk.present
    ∙ cond_not (eqb key q) (kept walk q) None

-- the numbers of a choice
value_of_choice : (b : Bool) (x : Option Quad) (y z : Option Kept) → x ≡ option_map (λ k. k.value) y → (v : Option Quad)
    → v ≡ option_map (λ k. k.value) z → cond b x v ≡ option_map (λ k. k.value) (cond b y z)
value_of_choice true x y z is v same = is
value_of_choice false x y z is v same = same

-- what is kept where there are numbers
kept_some : (o : Option Kept) (value : Quad) → Some value ≡ option_map (λ k. k.value) o → (k : Kept) × (o ≡ Some k) × (k.value ≡ value)
kept_some None value is = cc
kept_some (Some k) value is = (k, refl, cc)

-- the test of two numbers is the same either way round
pub eqb-sym : (x y : ℕ) → eqb x y ≡ eqb y x
eqb-sym x y = grind (arith, nat_tests)

module _ (before after : PlainStore) (walk : Walk) (key : ℕ) (value : Quad) (at : IsAfter before walk)
    (there : get nat_cmp before.present key ≡ Some value)
    (same_puts : after.puts ≡ before.puts) (answered : after.answers.items ≡ before.answers.items ++ Done ∷ []) where
  here : (k : Kept) × (kept walk key ≡ Some k) × (k.value ≡ value)
  here = kept_some (kept walk key) value (sym there ∙ at.values key)

  -- a key goes
  pub follows_del : ((q : ℕ) → get nat_cmp after.present q ≡ cond (eqb key q) None (get nat_cmp before.present q))
      → IsAfter after (after_del walk key (kept walk key))
  follows_del updated =
      rw here.1
      (record {
        values = λ q.
            updated q ∙ value_of_choice (eqb key q) None None (kept walk q) refl (get nat_cmp before.present q) (at.values q)
            ∙ ap (option_map (λ k. k.value)) (sym (kept-present_but walk key q));
        puts = same_puts ∙ at.puts;
        answers = answered ∙ ap (λ all. all ++ Done ∷ []) at.answers;
      })

  -- a key gets other numbers
  pub follows_set : (index number : ℕ)
      → ((q : ℕ) → get nat_cmp after.present q ≡ cond (eqb key q) (Some (changed value index number)) (get nat_cmp before.present q))
      → IsAfter after (after_set walk key index number (kept walk key))
  follows_set index number updated =
      let k = here.0 in
      let next : Kept = record k { value = changed k.value index number } in
      let same_value : (q : ℕ) (b : Bool) → eqb key q ≡ b → cond b (Some (changed value index number)) (get nat_cmp before.present q)
      ≡ option_map (λ k. k.value) (cond (eqb q key) (Some next) (lookup (eqb q) (present_but walk key))) = λ q b is.
      rw (eqb-sym q key, is, kept-present_but walk key q, is)
      (elim b as (λ b. cond b (Some (changed value index number)) (get nat_cmp before.present q) ≡ option_map (λ k. k.value)
      (cond b (Some next) (cond b None (kept walk q)))) [
        | true ↦ ap (λ v. Some (changed v index number)) (sym here.2)
        | false ↦ at.values q
      ])
      in
      rw here.1
      (record {
        values = λ q. updated q ∙ same_value q (eqb key q) refl;
        puts = same_puts ∙ at.puts;
        answers = answered ∙ ap (λ all. all ++ Done ∷ []) at.answers;
      })
