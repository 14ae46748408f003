-- What a legal history promises in plain sentences.
use Rattle.std.proofs.Common.{◌≡◌, ℕ, ◌+◌, ◌-◌, ◌*◌, ◌<◌, ◌≤◌, List, length, take, sym, ap, subst, inl, inr, arith}
use Rattle.std.specs.Prelude.{Some, Contains, slice_get, slice_index_or}
use Rattle.std.proofs.lemmas.Bool.{cases_eq}
use Rattle.std.proofs.lemmas.List.{take-take, length-take}
use Rattle.std.proofs.lemmas.List.Sums.{sum_by-le}
use Rattle.std.proofs.lemmas.Option.{slice_get_within}
use Rattle.word_layout.specs.Sizes.{Sizes, limits_of}
use Rattle.process_sums.specs.Sums.{SomeTerm}
use Rattle.process_sums.proofs.Sums.{two_terms_of_total, some_term, term_of_total}
use Rattle.pool_model.specs.declared.entry.Entry.{Entry}
use Rattle.pool_model.specs.declared.entry.Entry.TheVariants.{Got, Back, Dry}
use Rattle.pool_model.specs.History.{held, unheld, slack}
use Rattle.pool_model.specs.Legal.{IsLegal, MayFollow, HasNet, HadFew}
use Rattle.pool_model.proofs.Histories.{legal_take, slack_at_most}
use Rattle.history_invariant.specs.Grips.{times}
use Rattle.history_invariant.proofs.Times.{times_contained, contained_times}
use Rattle.history_invariant.proofs.Shared.{Shared, grips_of, legal_shared}
use Rattle.transfer_schedule.specs.Numbers.{withheld}
use Rattle.block_pool.specs.Passing.{Passed}
use Rattle.block_pool.specs.Closing.{Settlement}
use Rattle.block_pool.specs.Promises.{HasBlock, HeldOnce, AnsweredRight, FewUnheld, RefusalsHadCause, EnoughIsEnough, CountedAreShort}
use Rattle.block_pool.specs.Promises.{PassesWithholdFew}

-- at every place the held blocks are shared out
shared_at : (settled : Settlement) → IsLegal (limits_of settled.sizes) settled.history → (place : ℕ)
    → Shared (limits_of settled.sizes) (take place settled.history)
shared_at settled legal place =
    let limits = limits_of settled.sizes in
    legal_shared limits (take place settled.history) (legal_take limits settled.history place legal)

-- a held block has a holder, and what a process holds is held
has_holder : (settled : Settlement) (place block : ℕ) → Shared (limits_of settled.sizes) (take place settled.history)
    → Contains (held (take place settled.history)) block → (i : ℕ) × HasBlock settled place i block
has_holder settled place block s there =
    let past = take place settled.history in
    let number = λ (i : ℕ). times block (grips_of past i) in
    let some : SomeTerm settled.sizes.processes number =
    some_term settled.sizes.processes number (omega (arith, times_contained block (held past) there, s.grips.parts block)) in
    (some.place, record { process = some.within; holds = contained_times block (grips_of past some.place) some.some })

is_held : (settled : Settlement) (place block : ℕ) → Shared (limits_of settled.sizes) (take place settled.history)
    → (i : ℕ) × HasBlock settled place i block → Contains (held (take place settled.history)) block
is_held settled place block s (i, has) =
    let past = take place settled.history in
    let number = λ (o : ℕ). times block (grips_of past o) in
    contained_times block (held past) (omega (
      arith,
      times_contained block (grips_of past i) has.holds,
      s.grips.parts block,
      term_of_total settled.sizes.processes i number has.process,
    ))

one_holder : (settled : Settlement) (place block i j : ℕ) → Shared (limits_of settled.sizes) (take place settled.history)
    → HasBlock settled place i block → HasBlock settled place j block → i ≡ j
one_holder settled place block i j s first second =
    let past = take place settled.history in
    let number = λ (o : ℕ). times block (grips_of past o) in
    elim (cases_eq i j) [
      | inl same ↦ same
      | inr other ↦ absurd (omega (
        arith,
        times_contained block (grips_of past i) first.holds,
        times_contained block (grips_of past j) second.holds,
        two_terms_of_total settled.sizes.processes i j number first.process second.process (λ e. other (sym e)),
        s.grips.parts block,
        s.grips.once block,
      ))
    ]

-- in a settled pool no block is held by two
pub held_once : (settled : Settlement) → IsLegal (limits_of settled.sizes) settled.history → HeldOnce settled
held_once settled legal = record {
  of_pool = λ place block there. (shared_at settled legal place).grips.below block there;
  once = λ place block. (shared_at settled legal place).grips.once block;
  holder = λ place block. (
    λ there. has_holder settled place block (shared_at settled legal place) there,
    λ has. is_held settled place block (shared_at settled legal place) has,
  );
  one_holder = λ place block i j first second. one_holder settled place block i j (shared_at settled legal place) first second;
}

-- the entry at a place may follow what was before it
may_at : (settled : Settlement) (x : ℕ) (made : Entry) → IsLegal (limits_of settled.sizes) settled.history
    → slice_get settled.history x ≡ Some made → MayFollow (limits_of settled.sizes) (take x settled.history) made
may_at settled x made legal at = rw at at (legal.follows x)

-- its calls are answered as a free set answers
pub answered_right : (settled : Settlement) → IsLegal (limits_of settled.sizes) settled.history → AnsweredRight settled
answered_right settled legal = record {
  got = λ x by block at. (may_at settled x (Got by block) legal at).2;
  back = λ x by block at.
      let may = may_at settled x (Back by block) legal at in
      record { process = may.0; holds = may.1 };
}

-- at a place with few unheld blocks before another one
few_at : (settled : Settlement) (x place : ℕ) → place ≤ x
    → unheld (limits_of settled.sizes) (take x settled.history) place ≤ slack (limits_of settled.sizes) (take x settled.history) place
    → FewUnheld settled place
few_at settled x place before few =
    let limits = limits_of settled.sizes in
    let most = slack_at_most limits (take x settled.history) place in
    let same = ap (λ (past : List Entry). length (held past)) (take-take place x settled.history before) in
    omega (arith, few, most, same)

-- as many blocks are held by a process as it got more than it gave back
net_held : (gots backs mine least : ℕ) → least ≤ gots - backs → gots ≡ backs + mine → least ≤ mine
net_held gots backs mine least net balance = omega arith

-- each refusal has its moment
pub refusals_had_cause : (settled : Settlement) → IsLegal (limits_of settled.sizes) settled.history → RefusalsHadCause settled
refusals_had_cause settled legal x by at =
    let limits = limits_of settled.sizes in
    let past = take x settled.history in
    let may = may_at settled x (Dry by) legal at in
    let net : HasNet limits past (Dry by) = rw at at (legal.nets x) in
    let had : HadFew limits past by = may.1 in
    let within : had.place ≤ x = omega (arith, had.in_window.before, length-take x settled.history) in
    record {
      place = had.place;
      before = within;
      recent = omega (arith, had.in_window.recent);
      few = few_at settled x had.place within had.few;
      many = net_held _ _ _ (2 * settled.sizes.length) net ((shared_at settled legal x).balance by may.0);
    }

-- with enough unheld blocks at every moment none is refused
pub enough_is_enough : (settled : Settlement) → IsLegal (limits_of settled.sizes) settled.history → EnoughIsEnough settled
enough_is_enough settled legal more x by at =
    let cause = refusals_had_cause settled legal x by at in
    more cause.place (omega (arith, cause.before, slice_get_within settled.history x (Dry by) at)) cause.few

-- counted calls are short
pub counted_are_short : CountedAreShort
counted_are_short quantum before after old new counted = record {
  some = omega (arith, counted.steps);
  few = omega (arith, counted.steps, counted.few);
  nine = λ e. omega (arith, counted.steps, counted.few, e);
  alike = omega (arith, counted.steps, counted.moves);
}

-- five batches for each
five_regrouped : (processes batch : ℕ) → processes * (5 * batch) ≡ 5 * processes * batch
five_regrouped processes batch = grind arith

five_each : (processes batch count all : ℕ) → count ≡ processes → all ≤ count * (5 * batch) → all ≤ 5 * processes * batch
five_each processes batch count all same few =
    omega (arith, few, ap (λ (n : ℕ). n * (5 * batch)) same, five_regrouped processes batch)

-- the passes of a pool withhold few blocks together
pub passes_withhold_few : PassesWithholdFew
passes_withhold_few pool passes all well =
    let each = λ (k : ℕ) (d : Passed) (within : k < length passes).
    subst (λ (s : Sizes). withheld (slice_index_or passes k d).plan ≤ 5 * s.length)
    (all.each k d within).sizes (well k d within).withholds in
    five_each pool.sizes.processes pool.sizes.length (length passes) _ all.many
    (sum_by-le (λ (pass : Passed). withheld pass.plan) (5 * pool.sizes.length) passes each)
