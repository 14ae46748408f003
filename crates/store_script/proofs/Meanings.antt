-- The relation of a line to its meaning is the meaning as it is computed.
use Rattle.std.proofs.Common.{◌≡◌, ℕ, ◌<◌, cond, ◌&&◌, inl, inr, List, [], ◌∷◌, Option, None, Some, codes, refl, ap, subst, Decides}
use Rattle.std.specs.Prelude.{nat_lt}
use Rattle.std.specs.Str.{bytes_eq}
use Rattle.std.proofs.lemmas.Bool.Decides.{Decides-and, Decides-ltb}
use Rattle.std.proofs.lemmas.Slice.Eq.{bytes_eq-Decides}
use Rattle.line_text.specs.Words.{words}
use Rattle.line_text.specs.Meanings.{meaning_said}
use Rattle.line_text.proofs.Choices.{chosen, some_is}
use Rattle.store_script.specs.Number.{number_of}
use Rattle.store_script.specs.declared.quad.Quad.{Quad}
use Rattle.line_text.specs.declared.meaning.Meaning.{Meaning}
use Rattle.line_text.specs.declared.meaning.Meaning.TheVariants.{Skipped, Says, Bad}
use Rattle.store_script.specs.declared.line.Request.{Request}
use Rattle.store_script.specs.declared.line.Request.TheVariants.{Put, Get, Set, Del}
use Rattle.store_script.specs.Line.{AreNumbers, Spells, Means, with_number, numbers_of, said_of_one, said_of_three, said_of_five, said_of}
use Rattle.store_script.specs.Line.{said, meaning_of_words, meaning_of}

-- numbers that words spell are computed
numbers_complete : (ws : List (List ℕ)) (ns : List ℕ) → AreNumbers ws ns → numbers_of ws ≡ Some ns
numbers_complete [] [] are = refl
numbers_complete [] (n ∷ ns) are = absurd are
numbers_complete (w ∷ ws) [] are = absurd are
numbers_complete (w ∷ ws) (n ∷ ns) are = rw (are.0, numbers_complete ws ns are.1) refl

-- numbers that are computed are spelled
numbers_sound : (ws : List (List ℕ)) (ns : List ℕ) → numbers_of ws ≡ Some ns → AreNumbers ws ns
numbers_sound [] ns is = subst (AreNumbers []) (some_is [] ns is) tt
numbers_sound (w ∷ ws) ns is =
    elim (number_of w) as (λ o. number_of w ≡ o → with_number o (numbers_of ws) ≡ Some ns → AreNumbers (w ∷ ws) ns) [
      | None ↦ λ _ e. absurd (cc)
      | Some n ↦ λ first.
          elim (numbers_of ws) as (λ o. numbers_of ws ≡ o → with_number (Some n) o ≡ Some ns → AreNumbers (w ∷ ws) ns) [
            | None ↦ λ _ e. absurd (cc)
            | Some others ↦ λ rest e. subst (AreNumbers (w ∷ ws)) (some_is (n ∷ others) ns e) (first, numbers_sound ws others rest)
          ]
          refl
    ]
    refl
    is

-- what a name and numbers say
abbrev SaysOf : List ℕ → List ℕ → Request → Type 0
SaysOf name numbers (Put key value) = (name ≡ codes "put") × (numbers ≡ key ∷ value.a ∷ value.b ∷ value.c ∷ value.d ∷ [])
SaysOf name numbers (Get key) = (name ≡ codes "get") × (numbers ≡ key ∷ [])
SaysOf name numbers (Set key index value) = (name ≡ codes "set") × (numbers ≡ key ∷ index ∷ value ∷ []) × (index < 4)
SaysOf name numbers (Del key) = (name ≡ codes "del") × (numbers ≡ key ∷ [])

one_sound : (name : List ℕ) (key : ℕ) (request : Request) → said_of_one name key ≡ Some request → SaysOf name (key ∷ []) request
one_sound name key request is =
    elim (chosen (bytes_eq name (codes "get")) (Some (Get key)) (cond (bytes_eq name (codes "del")) (Some (Del key)) None) (Some request)
    is) as (λ _. SaysOf name (key ∷ []) request) [
      | inl get ↦ subst (SaysOf name (key ∷ [])) (some_is (Get key) request get.1) ((bytes_eq-Decides name (codes "get")).0 get.0, refl)
      | inr other ↦
          elim (chosen (bytes_eq name (codes "del")) (Some (Del key)) None (Some request) other.1)
          as (λ _. SaysOf name (key ∷ []) request) [
            | inl del ↦ subst (SaysOf name (key ∷ [])) (some_is (Del key) request del.1)
                ((bytes_eq-Decides name (codes "del")).0 del.0, refl)
            | inr neither ↦ absurd (cc (neither.1))
          ]
    ]

Decides-set : (name : List ℕ) (index : ℕ) → Decides (bytes_eq name (codes "set") && nat_lt index 4) ((name ≡ codes "set") × (index < 4))
Decides-set name index =
    Decides-and (bytes_eq name (codes "set")) (nat_lt index 4) (bytes_eq-Decides name (codes "set")) (Decides-ltb index 4)

three_sound : (name : List ℕ) (key index value : ℕ) (request : Request) → said_of_three name key index value ≡ Some request
    → SaysOf name (key ∷ index ∷ value ∷ []) request
three_sound name key index value request is =
    elim (chosen (bytes_eq name (codes "set") && nat_lt index 4) (Some (Set key index value)) None (Some request) is)
    as (λ _. SaysOf name (key ∷ index ∷ value ∷ []) request) [
      | inl set ↦
          let both = (Decides-set name index).0 set.0 in
          subst (SaysOf name (key ∷ index ∷ value ∷ [])) (some_is (Set key index value) request set.1) (both.0, refl, both.1)
      | inr other ↦ absurd (cc (other.1))
    ]

five_sound : (name : List ℕ) (key : ℕ) (value : Quad) (request : Request) → said_of_five name key value ≡ Some request
    → SaysOf name (key ∷ value.a ∷ value.b ∷ value.c ∷ value.d ∷ []) request
five_sound name key value request is =
    elim (chosen (bytes_eq name (codes "put")) (Some (Put key value)) None (Some request) is)
    as (λ _. SaysOf name (key ∷ value.a ∷ value.b ∷ value.c ∷ value.d ∷ []) request) [
      | inl put ↦
          subst (SaysOf name (key ∷ value.a ∷ value.b ∷ value.c ∷ value.d ∷ [])) (some_is (Put key value) request put.1)
          ((bytes_eq-Decides name (codes "put")).0 put.0, refl)
      | inr other ↦ absurd (cc (other.1))
    ]

said_of_sound : (name numbers : List ℕ) (request : Request) → said_of name numbers ≡ Some request → SaysOf name numbers request
said_of_sound name [] request is = cc
said_of_sound name (key ∷ []) request is = one_sound name key request is
said_of_sound name (key ∷ x ∷ []) request is = cc
said_of_sound name (key ∷ index ∷ value ∷ []) request is = three_sound name key index value request is
said_of_sound name (key ∷ x ∷ y ∷ z ∷ []) request is = cc
said_of_sound name (key ∷ a ∷ b ∷ c ∷ d ∷ []) request is = five_sound name key (record { a = a; b = b; c = c; d = d }) request is
said_of_sound name (key ∷ a ∷ b ∷ c ∷ d ∷ e ∷ more) request is = cc

-- a name and numbers that words spell
spelled : (name : List ℕ) (ws : List (List ℕ)) (ns : List ℕ) (request : Request) → AreNumbers ws ns → SaysOf name ns request
    → Spells (name ∷ ws) request
spelled name ws ns (Put key value) are says = (says.0, subst (AreNumbers ws) says.1 are)
spelled name ws ns (Get key) are says = (says.0, subst (AreNumbers ws) says.1 are)
spelled name ws ns (Set key index value) are says = (says.0, subst (AreNumbers ws) says.1 are, says.2)
spelled name ws ns (Del key) are says = (says.0, subst (AreNumbers ws) says.1 are)

said_sound : (name : List ℕ) (ws : List (List ℕ)) (request : Request) → said name (numbers_of ws) ≡ Some request
    → Spells (name ∷ ws) request
said_sound name ws request is =
    elim (numbers_of ws) as (λ o. numbers_of ws ≡ o → said name o ≡ Some request → Spells (name ∷ ws) request) [
      | None ↦ λ _ e. absurd (cc)
      | Some ns ↦ λ are e. spelled name ws ns request (numbers_sound ws ns are) (said_of_sound name ns request e)
    ]
    refl
    is

-- what is spelled is computed
said_complete : (name : List ℕ) (ws : List (List ℕ)) (request : Request) → Spells (name ∷ ws) request
    → said name (numbers_of ws) ≡ Some request
said_complete name ws (Put key value) spells = rw (numbers_complete ws _ spells.1, spells.0) refl
said_complete name ws (Get key) spells = rw (numbers_complete ws _ spells.1, spells.0) refl
said_complete name ws (Set key index value) spells =
    rw (numbers_complete ws _ spells.1, (Decides-set name index).1 (spells.0, spells.2)) refl
said_complete name ws (Del key) spells = rw (numbers_complete ws _ spells.1, spells.0) refl

-- the meaning of words
abbrev WordsMean : List (List ℕ) → Meaning Request → Type 0
WordsMean ws Skipped = ws ≡ []
WordsMean ws (Says request) = Spells ws request
WordsMean ws Bad = ¬ (ws ≡ []) × ((request : Request) → ¬ (Spells ws request))

-- the meaning that is computed is one that the words have
said_is_meant : (name : List ℕ) (ws : List (List ℕ)) (o : Option Request) → said name (numbers_of ws) ≡ o
    → WordsMean (name ∷ ws) (meaning_said o)
said_is_meant name ws None is = (λ e. cc, λ request spells. let says = said_complete name ws request spells in cc)
said_is_meant name ws (Some request) is = said_sound name ws request is

computed_is_meant : (ws : List (List ℕ)) → WordsMean ws (meaning_of_words ws)
computed_is_meant [] = refl
computed_is_meant (name ∷ ws) = said_is_meant name ws (said name (numbers_of ws)) refl

-- and no other
unsaid : (name : List ℕ) (ws : List (List ℕ)) (o : Option Request) → said name (numbers_of ws) ≡ o
    → ((request : Request) → ¬ (Spells (name ∷ ws) request)) → meaning_said o ≡ Bad
unsaid name ws None is no_request = refl
unsaid name ws (Some request) is no_request = absurd (no_request request (said_sound name ws request is))

meant_is_computed : (ws : List (List ℕ)) (meaning : Meaning Request) → WordsMean ws meaning → meaning_of_words ws ≡ meaning
meant_is_computed [] Skipped means = refl
meant_is_computed [] (Says request) means = absurd means
meant_is_computed [] Bad means = absurd (means.0 refl)
meant_is_computed (name ∷ ws) Skipped means = cc
meant_is_computed (name ∷ ws) (Says request) means = ap meaning_said (said_complete name ws request means)
meant_is_computed (name ∷ ws) Bad means = unsaid name ws (said name (numbers_of ws)) refl means.1

means_by_words : (line : List ℕ) (meaning : Meaning Request) → WordsMean (words line) meaning → Means line meaning
means_by_words line Skipped means = means
means_by_words line (Says request) means = means
means_by_words line Bad means = means

words_by_means : (line : List ℕ) (meaning : Meaning Request) → Means line meaning → WordsMean (words line) meaning
words_by_means line Skipped means = means
words_by_means line (Says request) means = means
words_by_means line Bad means = means

-- a line means exactly what is computed as its meaning
pub each_line_means_one_thing : (line : List ℕ) (meaning : Meaning Request)
    → (Means line meaning → meaning_of line ≡ meaning) × (meaning_of line ≡ meaning → Means line meaning)
each_line_means_one_thing line meaning = (
  λ means. meant_is_computed (words line) meaning (words_by_means line meaning means),
  λ is. means_by_words line meaning (subst (WordsMean (words line)) is (computed_is_meant (words line))),
)
