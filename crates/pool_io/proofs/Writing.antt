-- Texts that are written one after the other.
use Rattle.std.proofs.Common.{◌≡◌, suc, ℕ, ◌+◌, ◌-◌, ◌≤◌, List, [], ◌∷◌, ◌++◌, length, take, refl, sym, ap, ◌∙◌, subst, arith}
use Rattle.std.proofs.Common.{length-append, Result, Ok, Err}
use Rattle.std.proofs.lemmas.List.{take-append-le}
use Rattle.std.specs.Prelude.{Option, IsOk}
use Rattle.pool_io.specs.declared.sink.Sink.{Ghosts as Sink}
use Rattle.pool_io.specs.Told.{GrowsBy, GrowsByPart}
use Rattle.pool_io.specs.Writes.{Writes}
use Rattle.pool_io.proofs.Told.{GrowsBy-nil, GrowsBy-append}

-- the first bytes of two texts, the whole first one among them
take-append_over : (first second : List ℕ) (count : ℕ) → take (length first + count) (first ++ second) ≡ first ++ take count second
take-append_over [] second count = ap (λ n. take n second) (let same : 0 + count ≡ count = omega arith in same)
take-append_over (x ∷ first) second count =
    let next : length (x ∷ first) + count ≡ suc (length first + count) = omega arith in
    ap (λ n. take n (x ∷ (first ++ second))) next ∙ ap (λ xs. x ∷ xs) (take-append_over first second count)

-- a whole text, and then a part of the next
GrowsByPart-append : (before between now : Option (List ℕ)) (first second : List ℕ) → GrowsBy before between first
    → GrowsByPart between now second → GrowsByPart before now (first ++ second)
GrowsByPart-append before between now first second whole part = record {
  count = length first + part.count;
  part = omega (arith, part.part, length-append first second);
  grown = subst (GrowsBy before now) (sym (take-append_over first second part.count))
      (GrowsBy-append before between now first (take part.count second) whole part.grown);
}

-- a part of a text is a part of a longer one
GrowsByPart-longer : (before now : Option (List ℕ)) (first second : List ℕ) → GrowsByPart before now first
    → GrowsByPart before now (first ++ second)
GrowsByPart-longer before now first second part = record {
  count = part.count;
  part = omega (arith, part.part, length-append first second);
  grown = subst (GrowsBy before now) (sym (take-append-le part.count first second (omega (arith, part.part)))) part.grown;
}

module _ {K E : Type 0} (sink : Sink K) where
  -- who writes nothing leaves the sink as it is
  pub writes_nothing : {T : Type 0} (at : K) (x : T) → Writes {E = E} sink [] at at (Ok x)
  writes_nothing at x = record {
    whole = GrowsBy-nil (sink.written at);
    part = tt;
    never_falls = omega arith;
    failed = tt;
    no_fault = refl;
    sure = λ room takes fits. (refl, let same : room ≡ room - 0 = omega arith in subst (sink.takes at) same takes);
  }

  module _ {T U : Type 0} (first second : List ℕ) (before between after : K) (x : T) where
    -- a sink that takes both takes the second after the first
    sure_both : (result : Result U E) → Writes {E = E} sink first before between (Ok x) → Writes sink second between after result
        → (room : ℕ) → sink.takes before room → length (first ++ second) ≤ room
        → IsOk result × sink.takes after (room - length (first ++ second))
    sure_both result one two room takes fits =
        let long = length-append first second in
        let next = one.sure room takes (omega arith) in
        let last = two.sure (room - length first) next.1 (omega arith) in
        let same : room - length first - length second ≡ room - length (first ++ second) = omega arith in
        (last.0, subst (sink.takes after) same last.1)

    -- a text, and then another: the answer is that of the second
    pub writes_both : (result : Result U E) → Writes {E = E} sink first before between (Ok x) → Writes sink second between after result
        → Writes sink (first ++ second) before after result
    writes_both (Ok y) one two = record {
      whole = GrowsBy-append _ _ _ first second one.whole two.whole;
      part = tt;
      never_falls = omega arith;
      failed = tt;
      no_fault = two.no_fault ∙ one.no_fault;
      sure = sure_both (Ok y) one two;
    }
    writes_both (Err e) one two = record {
      whole = tt;
      part = GrowsByPart-append _ _ _ first second one.whole two.part;
      never_falls = omega arith;
      failed = omega arith;
      no_fault = tt;
      sure = sure_both (Err e) one two;
    }

  -- a part of a text, and nothing of what was to follow
  pub writes_part : {T U : Type 0} (first second : List ℕ) (before after : K) (e e' : E)
      → Writes {T = T} sink first before after (Err e) → Writes {T = U} sink (first ++ second) before after (Err e')
  writes_part first second before after e e' one = record {
    whole = tt;
    part = GrowsByPart-longer _ _ first second one.part;
    never_falls = one.never_falls;
    failed = one.failed;
    no_fault = tt;
    sure = λ room takes fits. let no = (one.sure room takes (omega (arith, length-append first second))).0 in cc;
  }
