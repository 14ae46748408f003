-- Bytes that a sink took in several pieces.
use Rattle.std.proofs.Common.{◌≡◌, ℕ, ◌+◌, ◌-◌, List, [], ◌++◌, length, take, drop, refl, sym, ap, ◌∙◌, subst, arith, append_assoc}
use Rattle.std.proofs.Common.{append-nil, length-drop, Some, None}
use Rattle.std.proofs.Math.Seq.{take-add}
use Rattle.std.proofs.lemmas.List.{take_all}
use Rattle.std.specs.Prelude.{Option, option_map, slice_range}
use Rattle.pool_io.specs.Told.{GrowsBy}

-- no piece changes nothing
pub GrowsBy-nil : (written : Option (List ℕ)) → GrowsBy written written []
GrowsBy-nil None = refl
GrowsBy-nil (Some bytes) = ap Some (sym (append-nil bytes))

-- one piece after the other is one piece
pub GrowsBy-append : (before between now : Option (List ℕ)) (first second : List ℕ) → GrowsBy before between first
    → GrowsBy between now second → GrowsBy before now (first ++ second)
GrowsBy-append None between now first second p q = q ∙ ap (option_map (λ bytes. bytes ++ second)) p
GrowsBy-append (Some bytes) between now first second p q =
    q ∙ ap (option_map (λ bytes. bytes ++ second)) p ∙ ap Some (append_assoc bytes first second)

-- the bytes of a text behind the first so many
pub slice_range-rest : (text : List ℕ) (done : ℕ) → slice_range text done (length text) ≡ drop done text
slice_range-rest text done = take_all (length text - done) (drop done text) (omega (arith, length-drop done text))

-- and how many they are
pub length-rest : (text : List ℕ) (done : ℕ) → length (slice_range text done (length text)) ≡ length text - done
length-rest text done = ap length (slice_range-rest text done) ∙ length-drop done text

-- the first bytes of a text, and then the first of its others
pub GrowsBy-take : (before between now : Option (List ℕ)) (text : List ℕ) (done count : ℕ)
    → GrowsBy before between (take done text) → GrowsBy between now (take count (slice_range text done (length text)))
    → GrowsBy before now (take (done + count) text)
GrowsBy-take before between now text done count p q =
    let first : GrowsBy between now (take count (drop done text)) =
    subst (λ rest. GrowsBy between now (take count rest)) (slice_range-rest text done) q in
    subst (GrowsBy before now) (sym (take-add done count text)) (GrowsBy-append before between now _ _ p first)
