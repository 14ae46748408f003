-- Where files in memory find a name, and what a source has left after a read.
use Rattle.std.proofs.Common.{◌≡◌, ℕ, ◌+◌, ◌<◌, ◌≤◌, min, get_or, List, [], ◌++◌, length, take, drop, refl, sym, ap, ◌∙◌, subst, arith}
use Rattle.std.proofs.Common.{Some, None, Bool}
use Rattle.std.proofs.lemmas.Grind.{common_steps}
use Rattle.std.proofs.lemmas.List.{take-append-drop, take_at, drop-drop, drop_all}
use Rattle.std.proofs.lemmas.List.Folds.{find_at}
use Rattle.std.proofs.lemmas.Option.{slice_get_read, slice_get_past, gets}
use Rattle.std.specs.List.{position_or_len}
use Rattle.std.specs.Prelude.{Option, option_map, unwrap_or, slice_get, find, slice_range, position, is_some, IsNone}
use Rattle.pool_io.specs.Told.{HandsOut}
use Rattle.pool_io.proofs.Told.{slice_range-rest}

module _ {X Y : Type 0} (test : X → Bool) (told : X → Y) (xs : List X) where
  -- where a test passes first, there is what is found first
  slice_get-position : (i : ℕ) → Some i ≡ position test xs → slice_get xs i ≡ find test xs
  slice_get-position i is = grind (arith, common_steps, find_at test xs)

  -- what is told of it is told of what is found
  pub told_at_position : (i : ℕ) → Some i ≡ position test xs → option_map told (slice_get xs i) ≡ option_map told (find test xs)
  told_at_position i is = ap (option_map told) (slice_get-position i is)

  -- and something is told of it
  pub told_where_found : (i : ℕ) → Some i ≡ position test xs → IsNone (option_map told (find test xs)) → ⊥
  told_where_found i is none = grind (arith, common_steps, gets, find_at test xs)

  -- where the test passes nowhere, nothing is told
  pub not_told_elsewhere : None ≡ position test xs → IsNone (option_map told (find test xs))
  not_told_elsewhere is =
      let none : find test xs ≡ None = grind (arith, common_steps, find_at test xs, slice_get_past xs (position_or_len test xs)) in
      ap (λ o. is_some (option_map told o)) none

module _ {X : Type 0} (bytes : X → List ℕ) (file : Option X) (place : ℕ) where
  -- what a file has left from a place on
  abbrev left : ℕ → Option (List ℕ)
  left at = option_map (λ x. drop at (bytes x)) file

  -- it is the first so many bytes, and then what is left behind these
  pub HandsOut-drop : (count : ℕ) → HandsOut (left place) (left (place + count)) (take count (unwrap_or (left place) []))
  HandsOut-drop count =
      elim file as (λ o. HandsOut (option_map (λ x. drop place (bytes x)) o) (option_map (λ x. drop (place + count) (bytes x)) o)
      (take count (unwrap_or (option_map (λ x. drop place (bytes x)) o) []))) [
        | None ↦ refl
        | Some x ↦
            let rest = drop place (bytes x) in
            ap Some (sym (take-append-drop count rest) ∙ ap (λ later. take count rest ++ later) (drop-drop count place (bytes x)))
      ]

  -- the same where these stand first in a buffer
  pub HandsOut-copied : (count : ℕ) (rest piece behind : List ℕ) → rest ≡ unwrap_or (left place) []
      → piece ≡ take count rest → length piece ≡ count
      → HandsOut (left place) (left (place + count)) (take count (piece ++ behind))
  HandsOut-copied count rest piece behind rest_is piece_is long =
      let front : take count (piece ++ behind) ≡ take count (unwrap_or (left place) []) =
      take_at piece behind count long ∙ piece_is ∙ ap (take count) rest_is in
      subst (HandsOut (left place) (left (place + count))) (sym front) (HandsOut-drop count)

module _ {X : Type 0} (bytes : X → List ℕ) (files : List X) (file place : ℕ) where
  -- the bytes of a source behind the place up to which it was read
  abbrev rest : List ℕ
  rest = unwrap_or (option_map (λ x. drop place (bytes x)) (slice_get files file)) []

  -- of a file among these they are its own from there on
  pub rest_of_file : (x : X) → file < length files → x ≡ get_or files file x
      → rest ≡ slice_range (bytes x) (min place (length (bytes x))) (length (bytes x))
  rest_of_file x within is =
      let at = min place (length (bytes x)) in
      let found : slice_get files file ≡ Some x = slice_get_read files (length files) file x refl within is in
      let same : drop place (bytes x) ≡ drop at (bytes x) = grind (arith, drop_all place (bytes x), drop_all at (bytes x)) in
      ap (λ o. unwrap_or (option_map (λ y. drop place (bytes y)) o) []) found ∙ same ∙ sym (slice_range-rest (bytes x) at)

  -- and of no file there are none
  pub rest_of_nothing : length files ≤ file → rest ≡ []
  rest_of_nothing past = ap (λ o. unwrap_or (option_map (λ y. drop place (bytes y)) o) []) (slice_get_past files file past)
