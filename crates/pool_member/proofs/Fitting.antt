-- Marks stay exact where a block is got or given back.
use Rattle.std.proofs.Common.{◌≡◌, ◌≢◌, ℕ, ◌<◌, ◌↔◌, ⊎_elim, ◌∙◌, List, [], ◌∷◌, length, sym, subst, arith}
use Rattle.std.specs.List.{Contains}
use Rattle.std.proofs.lemmas.Bool.{cases_eq}
use Rattle.word_layout.specs.Sizes.{blocks}
use Rattle.pool_model.specs.declared.entry.Entry.TheVariants.{Back}
use Rattle.pool_model.specs.History.{grip_after}
use Rattle.pool_model.proofs.Members.{contains_head, contains_tail, contains_cons_cases, contains_nil, contains_without, without_contains}
use Rattle.block_marks.specs.Marked.{Marked, Has}
use Rattle.pool_table.specs.Minds.{KnownWord}
use Rattle.block_pool.specs.Calls.{SamePass}
use Rattle.block_pool.specs.Passing.{Pooled, Passed, IsOf}
use Rattle.pool_member.specs.Fitting.{FitsPool}

-- the pass stays one of the pool
of_same : (pool : Pooled) (old new : Passed) → IsOf pool old → SamePass old new → IsOf pool new
of_same pool old new of_pool same = record { table = same.table ∙ of_pool.table; sizes = same.sizes ∙ of_pool.sizes }

none_held : (held : List ℕ) (block : ℕ) → length held ≡ 0 → Contains held block → ⊥
none_held [] block e = contains_nil block
none_held (b ∷ held) block e = absurd (omega (arith, e))

-- no mark fits a pass that holds nothing
pub fits_bare : (pool : Pooled) (pass : Passed) (marks : Marked) → IsOf pool pass → length pass.held ≡ 0 → marks.bound ≡ blocks pool.sizes
    → ((block : ℕ) → Has marks block → ⊥) → FitsPool pool pass marks
fits_bare pool pass marks of_pool bare bound none = record {
  of_pool = of_pool;
  bound = bound;
  exact = λ block. (λ has. absurd (none block has), λ holds. absurd (none_held pass.held block bare holds));
}

-- a block that the pass holds is below the marks' bound
pub held_below : (pool : Pooled) (pass : Passed) (marks : Marked) (block : ℕ) → FitsPool pool pass marks → Contains pass.held block
    → block < marks.bound
held_below pool pass marks block fits holds = ((fits.exact block).1 holds).0

-- more moves and other known words change nothing of it
pub fits_moved : (pool : Pooled) (pass : Passed) (marks : Marked) (moves : ℕ) (known : List KnownWord) → FitsPool pool pass marks
    → FitsPool pool (record pass { moves = moves; known = known }) marks
fits_moved pool pass marks moves known fits = record {
  of_pool = record { table = fits.of_pool.table; sizes = fits.of_pool.sizes };
  bound = fits.bound;
  exact = fits.exact;
}

-- a pass that holds the same fits the same marks
pub fits_same : (pool : Pooled) (old new : Passed) (marks : Marked) → FitsPool pool old marks → SamePass old new → new.held ≡ old.held
    → FitsPool pool new marks
fits_same pool old new marks fits same held = record {
  of_pool = of_same pool old new fits.of_pool same;
  bound = fits.bound;
  exact = subst (λ (bs : List ℕ). (block : ℕ) → Has marks block ↔ Contains bs block) (sym held) fits.exact;
}

module _ (pool : Pooled) (old new : Passed) (marks after : Marked) (block : ℕ) (fits : FitsPool pool old marks) (same : SamePass old new)
    (bound : after.bound ≡ marks.bound) (others : (other : ℕ) → other ≢ block → Has after other ↔ Has marks other) where
  -- of a block that was got the mark is set
  pub fits_got : Has after block → new.held ≡ block ∷ old.held → FitsPool pool new after
  fits_got marked held = record {
    of_pool = of_same pool old new fits.of_pool same;
    bound = bound ∙ fits.bound;
    exact = λ b. subst (λ (bs : List ℕ). Has after b ↔ Contains bs b) (sym held) (⊎_elim
        (λ it. (
          λ _. subst (λ (c : ℕ). Contains (block ∷ old.held) c) (sym it) (contains_head block old.held),
          λ _. subst (λ (c : ℕ). Has after c) (sym it) marked,
        ))
        (λ other. (
          λ has. contains_tail b block old.held ((fits.exact b).0 ((others b other).0 has)),
          λ holds. (others b other).1 ((fits.exact b).1 (⊎_elim (λ it. absurd (other (sym it))) (λ there. there)
              (contains_cons_cases b block old.held holds))),
        ))
        (cases_eq b block));
  }

  -- of a block that was given back it is taken off
  pub fits_back : (by : ℕ) → (Has after block → ⊥) → new.held ≡ grip_after old.held (Back by block) → FitsPool pool new after
  fits_back by cleared held = record {
    of_pool = of_same pool old new fits.of_pool same;
    bound = bound ∙ fits.bound;
    exact = λ b. subst (λ (bs : List ℕ). Has after b ↔ Contains bs b) (sym held) (⊎_elim
        (λ it. (
          λ has. absurd (cleared (subst (λ (c : ℕ). Has after c) it has)),
          λ holds. absurd ((contains_without block b old.held holds).1 it),
        ))
        (λ other. (
          λ has. without_contains block b old.held ((fits.exact b).0 ((others b other).0 has)) other,
          λ holds. (others b other).1 ((fits.exact b).1 (contains_without block b old.held holds).0),
        ))
        (cases_eq b block));
  }
