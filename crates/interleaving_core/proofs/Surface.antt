-- what begins at the opening, and goes on by steps of the core
use Rattle.std.proofs.Common.{◌≡◌, ℕ, ◌<◌, true, ◌==◌, List, [], ◌++◌, refl, inl, inr, arith}
use Rattle.std.specs.Prelude.{false, nat_lt}
use Rattle.std.proofs.lemmas.Bool.{cases_eq}
use Rattle.std.proofs.lemmas.Bool.Decides.{nat_tests}
use Rattle.word_layout.specs.Packing.{most_age}
use Rattle.word_layout.specs.Sizes.{Sizes, IsShape}
use Rattle.word_layout.proofs.Ages.{many_ages}
use Rattle.word_layout.specs.declared.announced.Wish.TheVariants.{Take}
use Rattle.pool_model.specs.declared.entry.Entry.{Entry}
use Rattle.transfer_machine.specs.Opening.{AreOpening}
use Rattle.pool_machine.specs.Beginning.{alone_begun}
use Rattle.pool_machine.specs.Pools.{opening_view}
use Rattle.pool_machine.specs.declared.view.ProcessView.{ProcessView}
use Rattle.interleaving_core.specs.Invariant.{IsAmong, MeetsInvariant, with_view}
use Rattle.interleaving_core.specs.Runs.{entries_of}
use Rattle.interleaving_core.specs.Steps.{is_alone, next_met, next_answer}
use Rattle.interleaving_core.proofs.Opens.{opening_holds}
use Rattle.interleaving_core.proofs.Tables.{among_moving, next_number}

-- the views of the opening, that of the first process among them
seated : (sizes : Sizes) (i : ℕ) → with_view (opening_view sizes 0) (opening_view sizes) i ≡ opening_view sizes i
seated sizes i = elim (cases_eq i 0) [
  | inl e ↦ rw e refl
  | inr ne ↦ let test : (i == 0) ≡ false = grind (arith, nat_tests) in rw test refl
]

-- at the opening the first process may begin a take
pub first_take : (sizes : Sizes) (words : List ℕ) → IsShape sizes → AreOpening sizes words
    → IsAmong sizes words (alone_begun Take (opening_view sizes 0))
first_take sizes words shape opening =
    let many = many_ages sizes shape in
    let young : nat_lt 0 (most_age sizes) ≡ true = some_test (most_age sizes) (omega (arith, many)) in
    among_moving sizes words (opening_view sizes 0) Take shape (rw young refl) (record {
      low = shape.a_process;
      others = opening_view sizes;
      past = [];
      meets = opening_holds sizes words (with_view (opening_view sizes 0) (opening_view sizes)) shape opening (λ i li. seated sizes i);
    })
  where
    some_test : (n : ℕ) → 0 < n → nat_lt 0 n ≡ true
    some_test n some = grind (arith, nat_tests)

-- after its step a process is among the others as before
pub among_goes_on : (sizes : Sizes) (words new : List ℕ) (v x : ProcessView) (word : ℕ) → IsAmong sizes words v → x ≡ next_met sizes v word
    → ((others : ℕ → ProcessView) (past : List Entry) → MeetsInvariant sizes words (with_view v others) past
    → MeetsInvariant sizes new (with_view x others) (past ++ entries_of (next_answer v word)))
    → IsAmong sizes new x
among_goes_on sizes words new v x word among met goes = record {
  low = rw (met, next_number sizes v word (is_alone v.calls.way) refl) among.low;
  others = among.others;
  past = among.past ++ entries_of (next_answer v word);
  meets = goes among.others among.past among.meets;
}
