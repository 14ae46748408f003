-- Loads, and exchanges for a number that isn't less, keep a word above all that was met.
use Rattle.std.proofs.Common.{◌≡◌, ◌≢◌, ℕ, ◌≤◌, ⊎_elim, List, length, le_refl, ap, ◌∙◌, subst, arith, length-set, get_or-set_same}
use Rattle.std.specs.Prelude.{slice_index, slice_set, Result, Ok, Err, MatchResult, OnOk, IfErr}
use Rattle.std.proofs.lemmas.Bool.Decides.{nat_tests}
use Rattle.atomic_table.proofs.Lists.{at_set}
use Rattle.word_rule.specs.Moves.{Keeps, Learned, unchanged, exchanged, written}
use Rattle.word_table.specs.Rising.{IsAboveAll}
use Rattle.word_table.specs.Seats.{met_by}

-- what every seat saw stays below a word that doesn't fall, and so does what this seat sees now
rises : (words views : List ℕ) (number : ℕ) (write : ℕ → ℕ) (seen : ℕ) → IsAboveAll words views
    → slice_index words 0 ≤ write (slice_index words 0)
    → seen ≤ write (slice_index words 0)
    → IsAboveAll (written words 0 write) (slice_set views number seen)
rises words views number write seen rule up below =
    let word : ℕ = slice_index words 0 in
    let now : slice_index (written words 0 write) 0 ≡ write word =
    get_or-set_same words 0 (write word) 0 (let one : length words ≡ 1 = rule.one in omega arith) in
    record {
      one = length-set words 0 (write word) ∙ rule.one;
      above = λ seat other_seen at. ⊎_elim
          (λ here. let same : seen ≡ other_seen = here.1 in omega (arith, now, up))
          (λ other. let met : other_seen ≤ word = rule.above seat other_seen other.1 in omega (arith, now, up))
          (at_set views number seat seen other_seen at);
    }

abbrev learn : List ℕ → List ℕ → ℕ → ℕ
learn words views seen = slice_index words 0

-- a load keeps the word above all that was seen
pub a_load_keeps : (number seen : ℕ) → Keeps IsAboveAll number seen 0 unchanged learn
a_load_keeps number seen words views rule seated small =
    rises words views number unchanged (slice_index words 0) rule (le_refl (slice_index words 0)) (le_refl (slice_index words 0))

abbrev learn_by : ℕ → ℕ → List ℕ → List ℕ → ℕ → ℕ
learn_by from to words views seen = exchanged from to (slice_index words 0)

not_less : (from to word : ℕ) → from ≤ to → word ≤ exchanged from to word
not_less from to word up = grind (arith, nat_tests)

-- an exchange for a number that isn't less keeps it so
pub a_rise_keeps : (number seen from to : ℕ) → from ≤ to → Keeps IsAboveAll number seen 0 (exchanged from to) (learn_by from to)
a_rise_keeps number seen from to up words views rule seated small =
    let word : ℕ = slice_index words 0 in
    rises words views number (exchanged from to) (exchanged from to word) rule (not_less from to word up) (le_refl (exchanged from to word))

-- after a load a seat has seen the word that it met
pub met_is_seen : (number : ℕ) (write : ℕ → ℕ) (before met after : ℕ) → Learned IsAboveAll learn number 0 write before met after
    → after ≡ met
met_is_seen number write before met after step = step.learned ∙ step.found

-- after an exchange it has seen what the word then was: the new number, or the one that it met
is_seen : (number from to before met after : ℕ) → Learned IsAboveAll (learn_by from to) number 0 (exchanged from to) before met after
    → after ≡ exchanged from to met
is_seen number from to before met after step = step.learned ∙ ap (exchanged from to) step.found

module _ (number from to before after : ℕ) where
  -- after an exchange that succeeded a seat has seen the new number
  pub rise_is_seen : (result : Result ℕ ℕ) → MatchResult result (λ word. word ≡ from) (λ word. word ≢ from)
      → Learned IsAboveAll (learn_by from to) number 0 (exchanged from to) before (met_by result) after → OnOk result (after ≡ to)
  rise_is_seen (Ok word) hit step = let seen = is_seen number from to before word after step in grind (arith, nat_tests)
  rise_is_seen (Err word) missed step = tt

  -- after one that failed it has seen the number that it met
  pub miss_is_seen : (result : Result ℕ ℕ) → MatchResult result (λ word. word ≡ from) (λ word. word ≢ from)
      → Learned IsAboveAll (learn_by from to) number 0 (exchanged from to) before (met_by result) after
      → IfErr result (λ word. after ≡ word)
  miss_is_seen (Ok word) hit step = tt
  miss_is_seen (Err word) missed step = let seen = is_seen number from to before word after step in grind (arith, nat_tests)

-- what it met is at least what it had seen
pub met_is_above : (learn : List ℕ → List ℕ → ℕ → ℕ) (number : ℕ) (write : ℕ → ℕ) (before met after : ℕ)
    → Learned IsAboveAll learn number 0 write before met after
    → before ≤ met
met_is_above learn number write before met after step =
    subst (λ (word : ℕ). before ≤ word) step.found (step.held.above number before step.seated)
