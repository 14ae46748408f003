-- Passes in the order of their processes are all passes.
use Rattle.std.proofs.Common.{◌≡◌, ◌≢◌, ◌⊎◌, ⊎_elim, ℕ, zero, suc, ◌+◌, ◌<◌, ◌≤◌, ◌==◌, List, [], ◌∷◌, length, set, get_or, Some, refl}
use Rattle.std.proofs.Common.{sym, ap, ◌∙◌, inl, inr, arith}
use Rattle.std.specs.Prelude.{if◌then◌else◌, slice_get, slice_index_or, count_by}
use Rattle.std.specs.List.{All}
use Rattle.std.proofs.Math.ListN.{length-set}
use Rattle.std.proofs.lemmas.Bool.{cases_eq}
use Rattle.std.proofs.lemmas.Option.{same_Some, slice_get_within, slice_get-get_or}
use Rattle.std.proofs.lemmas.List.Sums.{sum_by-cons}
use Rattle.pool_table.specs.Rule.{one_if}
use Rattle.pool_table.proofs.Numbered.{counts_for, counts_not}
use Rattle.block_pool.specs.Passing.{Pooled, Passed}
use Rattle.block_pool.specs.Opening.{opened_pass, AreOpenedPasses}
use Rattle.block_pool.specs.Calls.{SamePass}
use Rattle.block_pool.specs.Closing.{AreAllPasses, OrderedAreAll, OpenedAreInOrder, CallsKeepOrder}
use Rattle.block_pool.specs.Fresh.{IsFresh}

-- the passes have the numbers from `next` on, in order
abbrev AreNumbered : ℕ → List Passed → Type 0
AreNumbered next passes = (k : ℕ) (pass : Passed) → slice_get passes k ≡ Some pass → pass.number ≡ next + k

first_number : (next : ℕ) (pass : Passed) (passes : List Passed) → AreNumbered next (pass ∷ passes) → pass.number ≡ next
first_number next pass passes each = omega (arith, each 0 pass refl)

further_numbers : (next : ℕ) (pass : Passed) (passes : List Passed) → AreNumbered next (pass ∷ passes) → AreNumbered (next + 1) passes
further_numbers next pass passes each k other at = omega (arith, each (suc k) other at)

-- how often a number stands there
number_counted : (n : ℕ) (pass : Passed) (passes : List Passed)
    → count_by (λ p. p.number == n) (pass ∷ passes) ≡ one_if (pass.number == n) + count_by (λ p. p.number == n) passes
number_counted n pass passes = sum_by-cons (λ (p : Passed). if p.number == n then 1 else 0) pass passes

none_below : (next n : ℕ) (passes : List Passed) → AreNumbered next passes → n < next → count_by (λ pass. pass.number == n) passes ≡ 0
none_below next n [] each low = refl
none_below next n (pass ∷ passes) each low =
    let first = first_number next pass passes each in
    let other : pass.number ≢ n = λ e. absurd (omega (arith, e, first)) in
    let more = none_below (next + 1) n passes (further_numbers next pass passes each) (omega arith) in
    omega (arith, number_counted n pass passes, counts_not pass.number n other, more)

one_from : (next n : ℕ) (passes : List Passed) → AreNumbered next passes → next ≤ n → n < next + length passes
    → count_by (λ pass. pass.number == n) passes ≡ 1
one_from next n [] each from within = absurd (omega arith)
one_from next n (pass ∷ passes) each from within =
    let first = first_number next pass passes each in
    let further = further_numbers next pass passes each in
    elim (cases_eq n next) [
      | inl here ↦
          let more = none_below (next + 1) n passes further (omega arith) in
          omega (arith, number_counted n pass passes, counts_for pass.number n (first ∙ sym here), more)
      | inr later ↦
          let other : pass.number ≢ n = λ e. later (sym e ∙ first) in
          let more = one_from (next + 1) n passes further (omega arith) (omega arith) in
          omega (arith, number_counted n pass passes, counts_not pass.number n other, more)
    ]

-- passes in the order of their processes are all passes, each once
pub ordered_are_all : OrderedAreAll
ordered_are_all pool passes ordered = record {
  many = ordered.many;
  each = λ k d within. (ordered.each k _ (slice_get-get_or passes k d within)).0;
  once = λ n low. one_from 0 n passes (λ k pass at. omega (arith, (ordered.each k pass at).1)) (omega arith) (omega (arith, ordered.many));
}

-- the passes that an opening gives are in order
pub opened_are_in_order : OpenedAreInOrder
opened_are_in_order pool passes opened = record {
  many = opened.many;
  each = λ n pass at.
      let within = slice_get_within passes n pass at in
      let is = same_Some _ pass (sym (opened.each n (omega (arith, opened.many))) ∙ at) in (
        record { table = ap (λ (p : Passed). p.table) (sym is); sizes = ap (λ (p : Passed). p.sizes) (sym is) },
        ap (λ (p : Passed). p.number) (sym is),
      );
}

-- what stands in a list where one place was written
pub item_of_set : {X : Type 0} (xs : List X) (n k : ℕ) (new item : X) → slice_get (set xs n new) k ≡ Some item
    → ((k ≡ n) × (new ≡ item)) ⊎ (slice_get xs k ≡ Some item)
item_of_set [] n k new item at = inr at
item_of_set (x ∷ xs) zero zero new item at = inl (refl, same_Some new item at)
item_of_set (x ∷ xs) zero (suc k) new item at = inr at
item_of_set (x ∷ xs) (suc n) zero new item at = inr at
item_of_set (x ∷ xs) (suc n) (suc k) new item at =
    ⊎_elim (λ (is : (k ≡ n) × (new ≡ item)). inl (ap suc is.0, is.1)) (λ there. inr there) (item_of_set xs n k new item at)

-- a call of one of them leaves them so
pub calls_keep_order : CallsKeepOrder
calls_keep_order pool passes n old new ordered at same =
    let was = ordered.each n old at in
    record {
      many = length-set passes n new ∙ ordered.many;
      each = λ k pass there. ⊎_elim
          (λ (is : (k ≡ n) × (new ≡ pass)). (
            record {
              table = ap (λ (p : Passed). p.table) (sym is.1) ∙ same.table ∙ was.0.table;
              sizes = ap (λ (p : Passed). p.sizes) (sym is.1) ∙ same.sizes ∙ was.0.sizes;
            },
            ap (λ (p : Passed). p.number) (sym is.1) ∙ same.number ∙ was.1 ∙ sym is.0,
          ))
          (λ (still : slice_get passes k ≡ Some pass). ordered.each k pass still)
          (item_of_set passes n k new pass there);
    }

-- the passes of a pool at its opening are fresh
pub opened_fresh : (pool : Pooled) (passes : List Passed) → AreOpenedPasses pool passes → All (IsFresh pool) passes
opened_fresh pool passes opened k d within =
    let is : get_or passes k d ≡ opened_pass pool.table pool.sizes k =
    same_Some _ _ (sym (slice_get-get_or passes k d within) ∙ opened.each k (omega (arith, within, opened.many))) in
    record {
      is_of = record { table = ap (λ (p : Passed). p.table) is; sizes = ap (λ (p : Passed). p.sizes) is };
      age = ap (λ (p : Passed). p.age) is;
    }

-- and calls leave them all the passes of the pool
pub played_all : (pool : Pooled) (passes played : List Passed) → AreOpenedPasses pool passes → length played ≡ length passes
    → ((k : ℕ) (d : Passed) → k < length passes → SamePass (slice_index_or passes k d) (slice_index_or played k d))
    → AreAllPasses pool played
played_all pool passes played opened many stays =
    let order = opened_are_in_order pool passes opened in
    ordered_are_all pool played (record {
      many = many ∙ opened.many;
      each = λ n pass at.
          let within = slice_get_within played n pass at in
          let before : n < length passes = omega (arith, within, many) in
          let was = order.each n (get_or passes n pass) (slice_get-get_or passes n pass before) in
          let same = stays n pass before in
          let is : get_or played n pass ≡ pass = same_Some _ _ (sym (slice_get-get_or played n pass within) ∙ at) in (
            record {
              table = ap (λ (p : Passed). p.table) (sym is) ∙ same.table ∙ was.0.table;
              sizes = ap (λ (p : Passed). p.sizes) (sym is) ∙ same.sizes ∙ was.0.sizes;
            },
            ap (λ (p : Passed). p.number) (sym is) ∙ same.number ∙ was.1,
          );
    })
