-- How the held blocks stay shared out among grips, while a block comes to one of them or leaves it.
use Rattle.std.proofs.Common.{◌≡◌, ◌≢◌, ℕ, ◌+◌, ◌<◌, ◌≤◌, ◌==◌, Bool, true, false, not, cond, refl, sym, ◌∙◌, ap, inl, inr, arith, List, []}
use Rattle.std.proofs.Common.{◌∷◌, length, filter}
use Rattle.std.specs.List.{Contains}
use Rattle.std.proofs.lemmas.Bool.Decides.{nat_tests}
use Rattle.pool_model.specs.Limits.{Limits}
use Rattle.pool_model.proofs.Members.{contains_cons_cases, contains_nil, contains_without}
use Rattle.process_sums.specs.Sums.{total}
use Rattle.process_sums.proofs.Sums.{total_same, total_moved, term_of_total, total_none}
use Rattle.history_invariant.specs.Grips.{times, GripsAreHeld}
use Rattle.history_invariant.proofs.Times.{times_push, times_without, length_without, times_contained, times_none}

-- a block that nobody holds comes to one grip
pub grips_got : (limits : Limits) (i block : ℕ) (blocks : List ℕ) (grips new : ℕ → List ℕ)
    → i < limits.processes
    → block < limits.blocks
    → ¬ Contains blocks block
    → GripsAreHeld limits blocks grips
    → new i ≡ block ∷ grips i
    → ((o : ℕ) → o < limits.processes → o ≢ i → new o ≡ grips o)
    → GripsAreHeld limits (block ∷ blocks) new
grips_got limits i block blocks grips new lt low out g hit miss = record {
  once = λ c. once_more block c (times block blocks) (times c blocks) (times c (block ∷ blocks))
      (times_none block blocks out) (λ e. ap (λ k. times k blocks) e) (times_push c block blocks) (g.once c);
  parts = λ c. omega (
    arith,
    times_push c block blocks,
    g.parts c,
    ap (times c) hit ∙ times_push c block (grips i),
    total_moved limits.processes i (λ o. times c (grips o)) (λ o. times c (new o)) lt (λ o lo ne. ap (times c) (miss o lo ne)),
  );
  count = omega (
    arith,
    g.count,
    ap length hit,
    total_moved limits.processes i (λ o. length (grips o)) (λ o. length (new o)) lt (λ o lo ne. ap length (miss o lo ne)),
  );
  below = λ c there. elim (contains_cons_cases c block blocks there) [ inl e ↦ omega (arith, e, low) | inr old ↦ g.below c old ];
}
  where
    once_more : (block c here there all : ℕ)
        → here ≡ 0
        → (c ≡ block → there ≡ here)
        → all ≡ cond (block == c) 1 0 + there
        → there ≤ 1
        → all ≤ 1
    once_more block c here there all none same e few = grind (arith, nat_tests)

-- a block leaves a grip
pub grip_once : (limits : Limits) (i block : ℕ) (blocks : List ℕ) (grips : ℕ → List ℕ)
    → i < limits.processes
    → GripsAreHeld limits blocks grips
    → times block (grips i) ≤ 1
grip_once limits i block blocks grips lt g =
    omega (arith, g.once block, g.parts block, term_of_total limits.processes i (λ o. times block (grips o)) lt)

-- a block stands in a grip at most as often as among the held blocks
pub grip_all : (limits : Limits) (i block : ℕ) (blocks : List ℕ) (grips : ℕ → List ℕ)
    → i < limits.processes
    → GripsAreHeld limits blocks grips
    → times block (grips i) ≤ times block blocks
grip_all limits i block blocks grips lt g = omega (arith, g.parts block, term_of_total limits.processes i (λ o. times block (grips o)) lt)

-- once a block is given back, the other grips are the blocks that are held still
pub grips_back : (limits : Limits) (i block : ℕ) (blocks : List ℕ) (grips new : ℕ → List ℕ)
    → i < limits.processes
    → Contains (grips i) block
    → GripsAreHeld limits blocks grips
    → new i ≡ filter (λ other. not (other == block)) (grips i)
    → ((o : ℕ) → o < limits.processes → o ≢ i → new o ≡ grips o)
    → GripsAreHeld limits (filter (λ other. not (other == block)) blocks) new
grips_back limits i block blocks grips new lt mine g hit miss =
    let some = times_contained block (grips i) mine in
    let mine_once = grip_once limits i block blocks grips lt g in
    let in_all = grip_all limits i block blocks grips lt g in
    let all_once = g.once block in
    let one : times block (grips i) ≡ 1 = omega arith in
    let all : times block blocks ≡ 1 = omega arith in
    record {
      once =
          λ c. once_less (c == block) (times c blocks) (times c (filter (λ other. not (other == block)) blocks))
          (times_without block c blocks) (g.once c);
      parts = λ c. parts_less block c (times block (grips i)) (times block blocks) (times c (grips i)) (times c blocks)
          (total limits.processes (λ o. times c (grips o))) (times c (new i)) (total limits.processes (λ o. times c (new o)))
          (times c (filter (λ other. not (other == block)) blocks))
          one all (λ e. ap (λ k. times k (grips i)) e) (λ e. ap (λ k. times k blocks) e) (g.parts c)
          (ap (times c) hit ∙ times_without block c (grips i)) (times_without block c blocks)
          (total_moved limits.processes i (λ o. times c (grips o)) (λ o. times c (new o)) lt (λ o lo ne. ap (times c) (miss o lo ne)));
      count = omega (
        arith,
        g.count,
        one,
        all,
        length_without block blocks,
        length_without block (grips i),
        ap length hit,
        total_moved limits.processes i (λ o. length (grips o)) (λ o. length (new o)) lt (λ o lo ne. ap length (miss o lo ne)),
      );
      below = λ c there. g.below c (contains_without block c blocks there).0;
    }
  where
    once_less : (t : Bool) (old new : ℕ) → new ≡ cond t 0 old → old ≤ 1 → new ≤ 1
    once_less true old new e few = omega arith
    once_less false old new e few = omega arith

    parts_less : (block c mine_at all_at mine all sum mine_after sum_after all_after : ℕ) → mine_at ≡ 1 → all_at ≡ 1
        → (c ≡ block → mine ≡ mine_at) → (c ≡ block → all ≡ all_at) → all ≡ sum
        → mine_after ≡ cond (c == block) 0 mine → all_after ≡ cond (c == block) 0 all
        → sum_after + mine ≡ sum + mine_after → all_after ≡ sum_after
    parts_less block c mine_at all_at mine all sum mine_after sum_after all_after one whole here everywhere parts e f moved =
        grind (arith, nat_tests)

-- grips that stay
pub grips_same : (limits : Limits) (blocks : List ℕ) (grips new : ℕ → List ℕ)
    → GripsAreHeld limits blocks grips
    → ((o : ℕ) → new o ≡ grips o)
    → GripsAreHeld limits blocks new
grips_same limits blocks grips new g same = record {
  once = g.once;
  parts =
      λ c. g.parts c ∙ sym (total_same limits.processes (λ o. times c (grips o)) (λ o. times c (new o)) (λ o lo. ap (times c) (same o)));
  count = g.count ∙ sym (total_same limits.processes (λ o. length (grips o)) (λ o. length (new o)) (λ o lo. ap length (same o)));
  below = g.below;
}

-- no block, and no grip
pub grips_none : (limits : Limits) → GripsAreHeld limits [] (λ o. [])
grips_none limits = record {
  once = λ block. omega arith;
  parts = λ block. sym (total_none limits.processes (λ o. 0) (λ o lo. refl));
  count = sym (total_none limits.processes (λ o. 0) (λ o lo. refl));
  below = λ block there. absurd (contains_nil block there);
}
