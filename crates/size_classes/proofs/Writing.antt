-- words that write sizes, one by one
use Rattle.std.proofs.Common.{◌≡◌, refl, ℕ, suc, ◌+◌, ◌-◌, ◌<◌, ◌≤◌, List, [], ◌∷◌, ◌++◌}
use Rattle.std.proofs.Common.{length, map, drop, get_or, Option, None, Some, arith, ap, sym, ◌∙◌, subst, rules}
use Rattle.std.proofs.lemmas.List.{length_push, append_assoc, append-nil, drop_more}
use Rattle.size_classes.specs.Sets.{Write, size_of}

-- the words from the n-th on write what is still to come: with it the sizes so far are those of all words, and whatever sizes all words
-- write, there is such a rest
pub record Reads (all : List (List ℕ)) (rest : List (List ℕ)) (below : ℕ) (done : List ℕ) : Type 0 where
  pub few : length done ≤ 8
  pub sound : (later : List ℕ) → Write below (8 - length done) rest later → Write 0 8 all (done ++ later)
  pub complete : (sizes : List ℕ) → Write 0 8 all sizes → (later : List ℕ) × Write below (8 - length done) rest later

-- before the first word nothing is read
pub reads_none : (all : List (List ℕ)) → Reads all all 0 []
reads_none all = record { few = search rules; sound = λ later w. w; complete = λ sizes w. (sizes, w) }

-- one word more writes one size more
pub write_more : (below most size : ℕ) (word : List ℕ) (words : List (List ℕ)) (sizes : List ℕ)
    → size_of word ≡ Some size → below < size → 0 < most → Write size (most - 1) words sizes
    → Write below most (word ∷ words) (size ∷ sizes)
write_more below most size word words sizes is above room w = record {
  each = ap (λ o. o ∷ map size_of words) is ∙ ap (λ os. Some size ∷ os) w.each;
  rising = (above, w.rising);
  few = omega (arith, w.few, room);
}

-- and where a first word is written, it writes the first size
pub data First (below most : ℕ) (word : List ℕ) (words : List (List ℕ)) : Type 0 where
  first : (size : ℕ) (sizes : List ℕ) → size_of word ≡ Some size → below < size → 0 < most → Write size (most - 1) words sizes
      → First below most word words

head_of : {X : Type 0} {x y : X} {xs ys : List X} → x ∷ xs ≡ y ∷ ys → x ≡ y
head_of {X} {x} e = ap (λ l. get_or l 0 x) e

tail_of : {X : Type 0} {x y : X} {xs ys : List X} → x ∷ xs ≡ y ∷ ys → xs ≡ ys
tail_of e = ap (λ l. drop 1 l) e

-- the first word of words that write sizes writes the first size
pub write_first : (below most : ℕ) (word : List ℕ) (words : List (List ℕ)) (sizes : List ℕ)
    → Write below most (word ∷ words) sizes → First below most word words
write_first below most word words [] w = absurd (impossible w.each)
  where
    impossible : size_of word ∷ map size_of words ≡ [] → ⊥
    impossible e = omega (arith, ap length e)
write_first below most word words (size ∷ sizes) w = First.first size sizes (head_of w.each) w.rising.0 (omega (arith, w.few))
    (record { each = tail_of w.each; rising = w.rising.1; few = omega (arith, w.few) })

-- a number for each answer, by which they differ
abbrev kept : Option ℕ → ℕ
kept None = 0
kept (Some size) = suc size

-- two sizes of one word are one
pub same_size : (word : List ℕ) {size other : ℕ} → size_of word ≡ Some size → size_of word ≡ Some other → size ≡ other
same_size word a b = omega (arith, ap kept (sym a ∙ b))

room_less : (done : List ℕ) (size : ℕ) → 8 - length (done ++ size ∷ []) ≡ 8 - length done - 1
room_less done size = omega (arith, length_push done size)

-- a word more is read
pub reads_more : (all rest more : List (List ℕ)) (word : List ℕ) (below size : ℕ) (done : List ℕ) → Reads all rest below done
    → rest ≡ word ∷ more → size_of word ≡ Some size → below < size → length done < 8 → Reads all more size (done ++ size ∷ [])
reads_more all rest more word below size done r parts is above room = record {
  few = omega (arith, room, length_push done size);
  sound = λ later w.
      subst (Write 0 8 all) (sym (append_assoc done (size ∷ []) later))
      (r.sound (size ∷ later) (subst (λ ws. Write below (8 - length done) ws (size ∷ later)) (sym parts)
      (write_more below (8 - length done) size word more later is above (omega (arith, room))
      (subst (λ n. Write size n more later) (room_less done size) w))));
  complete = λ sizes w. let found = r.complete sizes w in
      later_of (write_first _ _ _ _ _ (subst (λ ws. Write below (8 - length done) ws found.0) parts found.1));
}
  where
    later_of : First below (8 - length done) word more → (later : List ℕ) × Write size (8 - length (done ++ size ∷ [])) more later
    later_of (First.first other later same up left w) = (
      later,
      subst (λ n. Write size n more later) (sym (room_less done size))
          (subst (λ s. Write s (8 - length done - 1) more later) (same_size word same is) w),
    )

-- where a word isn't written, nothing is
pub reads_none_of : (all rest more : List (List ℕ)) (word : List ℕ) (below : ℕ) (done : List ℕ) → Reads all rest below done
    → rest ≡ word ∷ more → (First below (8 - length done) word more → ⊥) → (sizes : List ℕ) → Write 0 8 all sizes → ⊥
reads_none_of all rest more word below done r parts not sizes w = let found = r.complete sizes w in
    not (write_first _ _ _ _ _ (subst (λ ws. Write below (8 - length done) ws found.0) parts found.1))

-- a word without a size
pub not_without_size : {below most : ℕ} {word : List ℕ} {more : List (List ℕ)} → size_of word ≡ None → First below most word more → ⊥
not_without_size none (First.first size later same up left w) = omega (arith, ap kept (sym none ∙ same))

-- a size that doesn't rise
pub not_without_rise : {below most size : ℕ} {word : List ℕ} {more : List (List ℕ)} → size_of word ≡ Some size → size ≤ below
    → First below most word more → ⊥
not_without_rise {below} {most} {size} {word} is low (First.first other later same up left w) =
    omega (arith, same_size word is same, low, up)

-- no room
pub not_without_room : {below most : ℕ} {word : List ℕ} {more : List (List ℕ)} → most ≡ 0 → First below most word more → ⊥
not_without_room full (First.first other later same up left w) = omega (arith, full, left)

-- after the last word all is read
pub reads_all : (all rest : List (List ℕ)) (below : ℕ) (done : List ℕ) → Reads all rest below done → rest ≡ [] → Write 0 8 all done
reads_all all rest below done r parts = subst (Write 0 8 all) (append-nil done)
    (r.sound [] (subst (λ ws. Write below (8 - length done) ws []) (sym parts) (record { each = refl; rising = tt; few = omega (arith) })))

-- the words from the n-th on begin with that one
pub parts_at : (all : List (List ℕ)) (n : ℕ) (word : List ℕ) → (n < length all) × (word ≡ get_or all n word)
    → drop n all ≡ word ∷ drop (n + 1) all
parts_at all n word h = drop_more all n word h.0 ∙ ap (λ w. w ∷ drop (n + 1) all) (sym h.1)
