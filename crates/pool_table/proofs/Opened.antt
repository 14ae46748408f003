-- The opening words meet the rule with the first view.
use Rattle.std.proofs.Common.{◌≡◌, ℕ, zero, suc, refl, sym, subst, arith}
use Rattle.std.proofs.Common.{List, [], ◌∷◌}
use mathlib.Core.Option.{some, some-injective, some-ne-none}
use lib.ListN.{get_elem?}
use Rattle.word_rule.proofs.Among.{first_is_among}
use Rattle.word_layout.specs.Sizes.{Sizes, IsShape}
use Rattle.transfer_machine.specs.Opening.{AreOpening}
use Rattle.interleaving_core.proofs.Opens.{opening_holds}
use Rattle.pool_table.specs.Minds.{opening_mind}
use Rattle.pool_table.specs.Views.{SeatView, first_seat}
use Rattle.pool_table.specs.Rule.{views_of, MindsHold, Numbered, Holds}
use Rattle.pool_table.specs.Steps.{Among}
use Rattle.pool_table.proofs.Numbered.{counts_for}

module _ (sizes : Sizes) (words : List ℕ) (shape : IsShape sizes) (opening : AreOpening sizes words) where
  -- the first seat is the only one
  only_first : (Fact : SeatView → Type 0) → Fact (first_seat sizes)
      → (n : ℕ) (v : SeatView) → get_elem? (first_seat sizes ∷ []) n ≡ some v → Fact v
  only_first Fact here zero v e = subst Fact (some-injective (first_seat sizes) v e) here
  only_first Fact here (suc n) v e = absurd (some-ne-none v (sym e))

  first_numbered : Numbered sizes (opening_mind sizes) (first_seat sizes ∷ [])
  first_numbered = record {
    seats = 1;
    few = shape.a_process;
    each = (((omega arith, refl), tt), tt);
    once = λ n low. omega (arith, counts_for 0 n (omega arith));
    unmade = λ n le. refl;
    counted = λ n v at is zeroth. only_first (λ u. u.made ≡ 1) refl n v at;
    shaped = λ n v at is. only_first (λ u. u.sizes ≡ sizes) refl n v at;
  }

  minds_open : MindsHold sizes words (opening_mind sizes) []
  minds_open = record {
    shape = shape;
    whole = opening.whole;
    meets = opening_holds sizes words (views_of (opening_mind sizes)) shape opening (λ i low. refl);
    sees = λ i low. record { own_seen = refl; beginning = refl };
    whole_seen = λ some_entry. absurd (omega arith);
    data_words = λ i low. record {
      holds = λ block index value e. absurd (grind arith);
      within = λ block index value e. absurd (grind arith);
      value = λ block index value e. absurd (grind arith);
    };
  }

  -- the rule holds of the opening words and the first seat alone
  pub first_holds : Holds words (first_seat sizes ∷ [])
  first_holds = record { sizes = sizes; minds = opening_mind sizes; history = []; holds = minds_open; numbered = first_numbered }

-- so the first seat is among words and views of the rule
pub first_among : (sizes : Sizes) (words : List ℕ) (v : SeatView) → IsShape sizes → AreOpening sizes words → v ≡ first_seat sizes → Among v
first_among sizes words v shape opening e =
    subst Among (sym e) (first_is_among Holds words (first_seat sizes) (first_holds sizes words shape opening))
