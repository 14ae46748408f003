-- The relation of a line to its meaning is the meaning as it is computed.
use Rattle.std.proofs.Common.{◌≡◌, ◌≢◌, ℕ, Bool, true, false, cond, ◌||◌, ◌⊎◌, inl, inr, List, [], ◌∷◌, ◌++◌, reverse, Option, None, Some}
use Rattle.std.proofs.Common.{option_map, codes, refl, sym, ap, ◌∙◌, subst, Decides, arith}
use Rattle.std.specs.Str.{bytes_eq}
use Rattle.std.proofs.lemmas.Bool.{false≢true}
use Rattle.std.proofs.lemmas.Bool.Decides.{Decides-eqb, Decides-or}
use Rattle.std.proofs.lemmas.List.{reverse-append, reverse-reverse}
use Rattle.std.proofs.lemmas.Slice.Eq.{bytes_eq-Decides}
use Rattle.line_text.specs.declared.meaning.Meaning.{Meaning}
use Rattle.line_text.specs.declared.meaning.Meaning.TheVariants.{Skipped, Says, Bad}
use Rattle.line_text.specs.Meanings.{meaning_said}
use Rattle.line_text.specs.Words.{words}
use Rattle.line_text.proofs.Choices.{chosen, some_is}
use Rattle.mtrace_reader.specs.declared.trace.Operation.{Operation}
use Rattle.mtrace_reader.specs.declared.trace.Operation.TheVariants.{New, Release, Failed}
use Rattle.mtrace_reader.specs.Words.{NoneOrBeginsWith, none_or_begins_with}
use Rattle.mtrace_reader.specs.Value.{address_of, size_of}
use Rattle.mtrace_reader.specs.Line.{at_sign, equals_sign, IsSkipped, Spells, IsOperation, Means, said_by_sign, said_before}
use Rattle.mtrace_reader.specs.Line.{said_by_release, said_by, meaning_of}

-- the test of the first word
pub begins-true : (byte : ℕ) (ws : List (List ℕ)) → none_or_begins_with byte ws ≡ true → NoneOrBeginsWith byte ws
begins-true byte [] h = tt
begins-true byte ([] ∷ others) h = cc
begins-true byte ((first ∷ bytes) ∷ others) h = (Decides-eqb first byte).0 h

-- words that are none, or begin with the byte, pass the test
pub true-begins : (byte : ℕ) (ws : List (List ℕ)) → NoneOrBeginsWith byte ws → none_or_begins_with byte ws ≡ true
true-begins byte [] h = refl
true-begins byte ([] ∷ others) h = absurd h
true-begins byte ((first ∷ bytes) ∷ others) h = (Decides-eqb first byte).1 h

-- what isn't true is false
pub false_from_not : (b : Bool) → (b ≡ true → ⊥) → b ≡ false
false_from_not b h = elim b as (λ v. (v ≡ true → ⊥) → v ≡ false) [ true ↦ λ e. absurd (e refl) | false ↦ λ _. refl ] h

-- which of two words a word is
Decides-either : (word a b : List ℕ) → Decides (bytes_eq word a || bytes_eq word b) ((word ≡ a) ⊎ (word ≡ b))
Decides-either word a b =
    Decides-or (bytes_eq word a) (bytes_eq word b) (bytes_eq-Decides word a) (bytes_eq-Decides word b)

-- what words read backwards are
reverse-pair : (x y : List ℕ) (before : List (List ℕ)) → reverse (y ∷ x ∷ before) ≡ reverse before ++ x ∷ y ∷ []
reverse-pair x y before = reverse-append (y ∷ x ∷ []) before

reverse-triple : (x y z : List ℕ) (before : List (List ℕ)) → reverse (z ∷ y ∷ x ∷ before) ≡ reverse before ++ x ∷ y ∷ z ∷ []
reverse-triple x y z before = reverse-append (z ∷ y ∷ x ∷ []) before

-- A release that is computed is spelled so.
release_spells : (sign address : List ℕ) (operation : Operation) → (sign ≡ codes "-") ⊎ (sign ≡ codes "<")
    → option_map Release (address_of address) ≡ Some operation → Spells (sign ∷ address ∷ []) operation
release_spells sign address operation is_sign said =
    elim (address_of address)
    as (λ o. address_of address ≡ o → option_map Release o ≡ Some operation → Spells (sign ∷ address ∷ []) operation) [
      | None ↦ λ _ e. cc
      | Some place ↦ λ is e. subst (Spells (sign ∷ address ∷ [])) (some_is (Release place) operation e) (is_sign, is)
    ]
    refl
    said

-- what is computed as a release is spelled as one
pub release_sound : (sign address : List ℕ) (before : List (List ℕ)) (operation : Operation) → (sign ≡ codes "-") ⊎ (sign ≡ codes "<")
    → said_by_release before address ≡ Some operation → IsOperation (reverse (address ∷ sign ∷ before)) operation
release_sound sign address before operation is_sign said =
    elim (chosen (none_or_begins_with at_sign (reverse before)) (option_map Release (address_of address)) None (Some operation) said)
    as (λ _. IsOperation (reverse (address ∷ sign ∷ before)) operation) [
      | inl begun ↦ record {
        caller = reverse before;
        form = sign ∷ address ∷ [];
        whole = reverse-pair sign address before;
        begins = begins-true at_sign (reverse before) begun.0;
        spells = release_spells sign address operation is_sign begun.1;
      }
      | inr other ↦ absurd (cc (other.1))
    ]

-- What a sign says of an address and a size is spelled so.
abbrev SpellsSized : List ℕ → Option ℕ → Option ℕ → Operation → Type 0
SpellsSized sign address size (New place bytes) = ((sign ≡ codes "+") ⊎ (sign ≡ codes ">")) × (address ≡ Some place) × (size ≡ Some bytes)
SpellsSized sign address size (Release place) = ⊥
SpellsSized sign address size Failed = (sign ≡ codes "!") × ((place : ℕ) × (address ≡ Some place)) × ((bytes : ℕ) × (size ≡ Some bytes))

sign_sound : (sign : List ℕ) (address size : Option ℕ) (operation : Operation) → said_by_sign sign address size ≡ Some operation
    → SpellsSized sign address size operation
sign_sound sign None size operation said = cc
sign_sound sign (Some place) None operation said = cc
sign_sound sign (Some place) (Some bytes) operation said =
    elim (chosen (bytes_eq sign (codes "+") || bytes_eq sign (codes ">")) (Some (New place bytes))
    (cond (bytes_eq sign (codes "!")) (Some Failed) None) (Some operation) said)
    as (λ _. SpellsSized sign (Some place) (Some bytes) operation) [
      | inl new ↦
          subst (SpellsSized sign (Some place) (Some bytes)) (some_is (New place bytes) operation new.1)
          ((Decides-either sign (codes "+") (codes ">")).0 new.0, refl, refl)
      | inr other ↦
          elim (chosen (bytes_eq sign (codes "!")) (Some Failed) None (Some operation) other.1)
          as (λ _. SpellsSized sign (Some place) (Some bytes) operation) [
            | inl failed ↦
                subst (SpellsSized sign (Some place) (Some bytes)) (some_is Failed operation failed.1)
                ((bytes_eq-Decides sign (codes "!")).0 failed.0, (place, refl), (bytes, refl))
            | inr none ↦ absurd (cc (none.1))
          ]
    ]

sized_spells : (sign address size : List ℕ) (operation : Operation) → SpellsSized sign (address_of address) (size_of size) operation
    → Spells (sign ∷ address ∷ size ∷ []) operation
sized_spells sign address size (New place bytes) h = h
sized_spells sign address size (Release place) h = absurd h
sized_spells sign address size Failed h = h

-- what is computed of a sign, an address and a size is spelled so
pub sized_sound : (sign address size : List ℕ) (before : List (List ℕ)) (operation : Operation)
    → said_before (sign ∷ before) address size ≡ Some operation → IsOperation (reverse (size ∷ address ∷ sign ∷ before)) operation
sized_sound sign address size before operation said =
    elim (chosen (none_or_begins_with at_sign (reverse before)) (said_by_sign sign (address_of address) (size_of size)) None
    (Some operation) said) as (λ _. IsOperation (reverse (size ∷ address ∷ sign ∷ before)) operation) [
      | inl begun ↦ record {
        caller = reverse before;
        form = sign ∷ address ∷ size ∷ [];
        whole = reverse-triple sign address size before;
        begins = begins-true at_sign (reverse before) begun.0;
        spells = sized_spells sign address size operation (sign_sound sign (address_of address) (size_of size) operation begun.1);
      }
      | inr other ↦ absurd (cc (other.1))
    ]

said_before_sound : (size address : List ℕ) (before : List (List ℕ)) (operation : Operation)
    → said_before before address size ≡ Some operation → IsOperation (reverse (size ∷ address ∷ before)) operation
said_before_sound size address [] operation said = cc
said_before_sound size address (sign ∷ before) operation said = sized_sound sign address size before operation said

-- an address is no sign of a release
address_is_no_sign : (address : List ℕ) (place : ℕ) → address_of address ≡ Some place
    → (bytes_eq address (codes "-") || bytes_eq address (codes "<")) ≡ false
address_is_no_sign address place is =
    false_from_not _ (λ e.
    elim ((Decides-either address (codes "-") (codes "<")).0 e) as (λ _. ⊥) [
      | inl same ↦ let none : address_of (codes "-") ≡ Some place = ap address_of (sym same) ∙ is in cc
      | inr same ↦ let none : address_of (codes "<") ≡ Some place = ap address_of (sym same) ∙ is in cc
    ])

-- What is computed is spelled so.
pub said_sound : (backwards : List (List ℕ)) (operation : Operation) → said_by backwards ≡ Some operation
    → IsOperation (reverse backwards) operation
said_sound [] operation said = cc
said_sound (only ∷ []) operation said = cc
said_sound (last ∷ second ∷ before) operation said =
    elim (chosen (bytes_eq second (codes "-") || bytes_eq second (codes "<")) (said_by_release before last) (said_before before second last)
    (Some operation) said) as (λ _. IsOperation (reverse (last ∷ second ∷ before)) operation) [
      | inl release ↦ release_sound second last before operation ((Decides-either second (codes "-") (codes "<")).0 release.0) release.1
      | inr sized ↦ said_before_sound last second before operation sized.1
    ]

-- What is spelled so is computed.
pub spelled_complete : (caller form : List (List ℕ)) (operation : Operation) → NoneOrBeginsWith at_sign caller → Spells form operation
    → said_by (reverse (caller ++ form)) ≡ Some operation
spelled_complete caller (sign ∷ address ∷ []) (Release place) begins spells =
    rw (reverse-append caller (sign ∷ address ∷ []))
    (rw ((Decides-either sign (codes "-") (codes "<")).1 spells.0, reverse-reverse caller, true-begins at_sign caller begins, spells.1)
    refl)
spelled_complete caller (sign ∷ address ∷ size ∷ []) (New place bytes) begins spells =
    rw (reverse-append caller (sign ∷ address ∷ size ∷ []))
    (rw (
      address_is_no_sign address place spells.1,
      reverse-reverse caller,
      true-begins at_sign caller begins,
      spells.1,
      spells.2,
      (Decides-either sign (codes "+") (codes ">")).1 spells.0,
    ) refl)
spelled_complete caller (sign ∷ address ∷ size ∷ []) Failed begins spells =
    rw (reverse-append caller (sign ∷ address ∷ size ∷ []))
    (rw (
      address_is_no_sign address spells.1.0 spells.1.1,
      reverse-reverse caller,
      true-begins at_sign caller begins,
      spells.1.1,
      spells.2.1,
      spells.0,
    ) refl)
spelled_complete caller form operation begins spells = absurd spells

-- words that say an operation are computed as it
pub operation_complete : (ws : List (List ℕ)) (operation : Operation) → IsOperation ws operation → said_by (reverse ws) ≡ Some operation
operation_complete ws operation is =
    ap (λ xs. said_by (reverse xs)) is.whole ∙ spelled_complete is.caller is.form operation is.begins is.spells

-- a word that is one byte other than = isn't skipped
sign_not_skipped : (sign : List ℕ) (byte : ℕ) (others : List (List ℕ)) → sign ≡ byte ∷ [] → byte ≢ equals_sign → IsSkipped (sign ∷ others)
    → ⊥
sign_not_skipped sign byte others is other skipped =
    other (subst (λ word. IsSkipped (word ∷ others)) is skipped)

-- the words that say an operation begin with its sign, so they aren't skipped
spelled_not_skipped : (form : List (List ℕ)) (operation : Operation) → Spells form operation → IsSkipped form → ⊥
spelled_not_skipped (sign ∷ address ∷ []) (Release place) spells skipped =
    elim spells.0 as (λ _. ⊥) [
      | inl is ↦ sign_not_skipped sign 45 (address ∷ []) is (λ e. omega arith) skipped
      | inr is ↦ sign_not_skipped sign 60 (address ∷ []) is (λ e. omega arith) skipped
    ]
spelled_not_skipped (sign ∷ address ∷ size ∷ []) (New place bytes) spells skipped =
    elim spells.0 as (λ _. ⊥) [
      | inl is ↦ sign_not_skipped sign 43 (address ∷ size ∷ []) is (λ e. omega arith) skipped
      | inr is ↦ sign_not_skipped sign 62 (address ∷ size ∷ []) is (λ e. omega arith) skipped
    ]
spelled_not_skipped (sign ∷ address ∷ size ∷ []) Failed spells skipped =
    sign_not_skipped sign 33 (address ∷ size ∷ []) spells.0 (λ e. omega arith) skipped
spelled_not_skipped form operation spells skipped = absurd spells

-- nor are they behind a caller's text
begun_not_skipped : (caller form : List (List ℕ)) (operation : Operation) → NoneOrBeginsWith at_sign caller → Spells form operation
    → IsSkipped (caller ++ form) → ⊥
begun_not_skipped [] form operation begins spells skipped = spelled_not_skipped form operation spells skipped
begun_not_skipped ([] ∷ others) form operation begins spells skipped = absurd begins
begun_not_skipped ((first ∷ bytes) ∷ others) form operation begins spells skipped = omega arith

-- words that say an operation are not those of a skipped line
pub operation_not_skipped : (ws : List (List ℕ)) (operation : Operation) → IsOperation ws operation → IsSkipped ws → ⊥
operation_not_skipped ws operation is skipped =
    begun_not_skipped is.caller is.form operation is.begins is.spells (subst IsSkipped is.whole skipped)

-- The meaning that is computed is one that the line has.
computed_is_meant : (line : List ℕ) (skipped : Bool) (said : Option Operation) → none_or_begins_with equals_sign (words line) ≡ skipped
    → said_by (reverse (words line)) ≡ said → Means line (cond skipped Skipped (meaning_said said))
computed_is_meant line true said is_skipped is_said = begins-true equals_sign (words line) is_skipped
computed_is_meant line false (Some operation) is_skipped is_said =
    subst (λ ws. IsOperation ws operation) (reverse-reverse (words line)) (said_sound (reverse (words line)) operation is_said)
computed_is_meant line false None is_skipped is_said = (
  λ skipped. false≢true (sym is_skipped ∙ true-begins equals_sign (words line) skipped),
  λ operation is.
      let said = operation_complete (words line) operation is in cc,
)

-- words that say no operation are bad
unsaid : (ws : List (List ℕ)) → ((operation : Operation) → ¬ (IsOperation ws operation)) → meaning_said (said_by (reverse ws)) ≡ Bad
unsaid ws none =
    elim (said_by (reverse ws)) as (λ said. said_by (reverse ws) ≡ said → meaning_said said ≡ Bad) [
      | None ↦ λ _. refl
      | Some operation ↦ λ is.
          absurd (none operation (subst (λ xs. IsOperation xs operation) (reverse-reverse ws) (said_sound (reverse ws) operation is)))
    ]
    refl

-- A line that has a meaning has the one that is computed.
pub meant_is_computed : (line : List ℕ) (meaning : Meaning Operation) → Means line meaning → meaning_of line ≡ meaning
meant_is_computed line Skipped means = rw (true-begins equals_sign (words line) means) refl
meant_is_computed line (Says operation) means =
    let other = false_from_not (none_or_begins_with equals_sign (words line))
    (λ e. operation_not_skipped (words line) operation means (begins-true equals_sign (words line) e)) in
    rw (other, operation_complete (words line) operation means) refl
meant_is_computed line Bad means =
    let other = false_from_not (none_or_begins_with equals_sign (words line)) (λ e. means.0 (begins-true equals_sign (words line) e)) in
    rw other (unsaid (words line) means.1)

-- a line means exactly what is computed as its meaning
pub each_line_means_one_thing : (line : List ℕ) (meaning : Meaning Operation)
    → (Means line meaning → meaning_of line ≡ meaning) × (meaning_of line ≡ meaning → Means line meaning)
each_line_means_one_thing line meaning =
    (meant_is_computed line meaning, λ e. subst (Means line) e (computed_is_meant line _ _ refl refl))
