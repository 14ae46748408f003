-- A seat that has taken in those of all other processes knows the one history.
use Rattle.std.proofs.Common.{◌≡◌, ◌≢◌, ℕ, ◌+◌, ◌*◌, ◌<◌, ◌≤◌, ◌==◌, List, [], ◌∷◌, length, refl, sym, ap, ◌∙◌, subst, inl, inr, arith}
use Rattle.std.proofs.lemmas.Bool.{cases_eq}
use Rattle.process_sums.specs.Sums.{total}
use Rattle.process_sums.proofs.Sums.{total_same, total_none, total_of_one, total_sums, term_of_total}
use Rattle.word_layout.specs.Sizes.{Sizes, blocks, limits_of}
use Rattle.pool_model.specs.declared.entry.Entry.{Entry}
use Rattle.pool_model.specs.History.{own, held, grip}
use Rattle.pool_model.specs.Legal.{IsLegal}
use Rattle.history_invariant.proofs.Shared.{legal_shared}
use Rattle.interleaving_core.specs.Invariant.{MeetsInvariant}
use Rattle.interleaving_core.proofs.CallLawsKept.{all_counted}
use Rattle.pool_table.specs.Minds.{Mind, number_of, held_in}
use Rattle.pool_table.specs.Views.{longest_in}
use Rattle.pool_table.specs.Rule.{Minds, EachMind, IsSeated, MindsHold, views_of, one_if, count_in}
use Rattle.pool_table.specs.Settled.{FitsIn}
use Rattle.pool_table.proofs.Numbered.{counts_for, counts_not}
use Rattle.pool_table.proofs.Seating.{each_mind_becomes}
use Rattle.pool_table.proofs.Seen.{Begins, whole_is, longest_in_reaches, longest_in_begins}
use Rattle.pool_table.proofs.Settled.{fits_in, among_seated, among_fits}
use Rattle.pool_seats.specs.Settling.{HasEachOnce, held_count, AllFit, AllSeatsFit, EachHoldsFew}

-- where all processes have their minds there, the longest of what these have seen is the history
longest_is_all : (sizes : Sizes) (words : List ℕ) (minds : Minds) (history : List Entry) (seats : ℕ) (list : List Mind)
    → seats ≤ sizes.processes → MindsHold sizes words minds history → EachMind (IsSeated seats minds) list
    → HasEachOnce sizes.processes list
    → longest_in list ≡ history
longest_is_all sizes words minds history seats list few holds each once =
    let begins : Begins (longest_in list) history =
    longest_in_begins seats minds history list (λ n low. (holds.sees n (omega arith)).beginning) each in
    elim (cases_eq (length history) 0) [
      | inl none ↦ whole_is history (longest_in list) begins (omega arith)
      | inr more ↦
          let sees = holds.whole_seen (omega arith) in
          let one = once sees.process sees.low in
          let le = longest_in_reaches seats sees.process minds list each (omega (arith, one)) in
          whole_is history (longest_in list) begins (omega (arith, le, ap length sees.all))
    ]

-- a number of each process, summed over these minds
sum_over : (ℕ → ℕ) → List Mind → ℕ
sum_over number [] = 0
sum_over number (mind ∷ minds) = number (number_of mind) + sum_over number minds

-- a term counts where its process's mind does
counted_term : (number : ℕ → ℕ) (first n count : ℕ)
    → (one_if (first == n) + count) * number n ≡ one_if (first == n) * number n + count * number n
counted_term number first n count = grind arith

term_of_other : (number : ℕ → ℕ) (first n : ℕ) → n ≢ first → one_if (first == n) * number n ≡ 0
term_of_other number first n ne = rw (counts_not first n (λ e. ne (sym e))) (omega arith)

term_of_one : (number : ℕ → ℕ) (n : ℕ) → one_if (n == n) * number n ≡ number n
term_of_one number n = rw (counts_for n n refl) (omega arith)

-- the sum is that over the processes, as often as each is there
sum_is_total : (processes : ℕ) (number : ℕ → ℕ) (minds : List Mind) → EachMind (λ mind. number_of mind < processes) minds
    → sum_over number minds ≡ total processes (λ n. count_in n minds * number n)
unfolding sum_over
sum_is_total processes number [] each = sym (total_none processes (λ n. 0 * number n) (λ n low. omega arith))
sum_is_total processes number (mind ∷ minds) each =
    let first = number_of mind in
    let one = λ (n : ℕ). one_if (first == n) * number n in
    let others = λ (n : ℕ). count_in n minds * number n in
    let apart = total_same processes (λ n. one n + others n) (λ n. (one_if (first == n) + count_in n minds) * number n)
    (λ n low. counted_term number first n (count_in n minds)) in
    let alone = total_of_one processes first one each.0 (λ n low ne. term_of_other number first n ne) in
    let both = total_sums processes one others in
    omega (arith, apart, alone, both, term_of_one number first, sum_is_total processes number minds each.1)

-- where each is there once, it is the sum over the processes
sum_once : (processes : ℕ) (number : ℕ → ℕ) (minds : List Mind) → EachMind (λ mind. number_of mind < processes) minds
    → HasEachOnce processes minds
    → sum_over number minds ≡ total processes number
sum_once processes number minds each once =
    sum_is_total processes number minds each
    ∙ total_same processes number (λ n. count_in n minds * number n) (λ n low. rw (once n low) (omega arith))

-- what these hold, by a history that fits each of them
held_is_sum : (history : List Entry) (minds : List Mind) → EachMind (FitsIn history) minds
    → held_count minds ≡ sum_over (λ n. length (grip (own history n))) minds
unfolding sum_over
held_is_sum history [] each = refl
held_is_sum history (mind ∷ minds) each =
    omega (arith, ap (λ entries. length (grip entries)) each.0.entries, held_is_sum history minds each.1)

-- no more blocks are held than there are
held_few : (sizes : Sizes) (words : List ℕ) (minds : Minds) (history : List Entry) → MindsHold sizes words minds history
    → length (held history) ≤ blocks sizes
held_few sizes words minds history holds =
    let meets : MeetsInvariant sizes words (views_of minds) history = holds.meets in
    omega (arith, all_counted sizes words (views_of minds) history meets.0 meets.1)

-- the one history, and what all minds say of it
all_fit : (sizes : Sizes) (words : List ℕ) (minds : Minds) (history : List Entry) (seats : ℕ) (list : List Mind)
    → seats ≤ sizes.processes → MindsHold sizes words minds history → EachMind (IsSeated seats minds) list
    → HasEachOnce sizes.processes list → longest_in list ≡ history
    → AllFit sizes list
all_fit sizes words minds history seats list few holds each once is =
    let fits = each_mind_becomes (IsSeated seats minds) (FitsIn history) (fits_in sizes words minds history seats few holds) list each in
    let low = each_mind_becomes (IsSeated seats minds) (λ mind. number_of mind < sizes.processes) (λ mind s. let l = s.0 in omega arith)
    list each in
    let legal : IsLegal (limits_of sizes) history = holds.meets.1.entries.legal in
    let shared = legal_shared (limits_of sizes) history legal in
    let sum = sum_once sizes.processes (λ n. length (grip (own history n))) list low once in
    record {
      low = low;
      legal = subst (IsLegal (limits_of sizes)) (sym is) legal;
      each = subst (λ whole. EachMind (FitsIn whole) list) (sym is) fits;
      counted = ap (λ whole. length (held whole)) is ∙ shared.grips.count ∙ sym sum ∙ sym (held_is_sum history list fits);
      few = subst (λ whole. length (held whole) ≤ blocks sizes) (sym is) (held_few sizes words minds history holds);
    }

-- a seat with each process's mind once shows one legal history, which all minds fit, and the number of blocks held after it
pub all_seats_fit : AllSeatsFit
all_seats_fit v among e once =
    let h = among.held in
    let list = v.mind ∷ v.taken in
    let each = among_seated v among e in
    let shape : v.sizes ≡ h.sizes = h.numbered.shaped among.number v among.seated e in
    let all : HasEachOnce h.sizes.processes list = subst (λ (s : Sizes). HasEachOnce s.processes list) shape once in
    let is = longest_is_all h.sizes among.words h.minds h.history h.numbered.seats list h.numbered.few h.holds each all in
    subst (λ sizes. AllFit sizes list) (sym shape)
    (all_fit h.sizes among.words h.minds h.history h.numbered.seats list h.numbered.few h.holds each all is)

-- a process holds no more than all together
pub each_holds_few : EachHoldsFew
each_holds_few v among e =
    let h = among.held in
    let shape : v.sizes ≡ h.sizes = h.numbered.shaped among.number v among.seated e in
    let fits = (among_fits v among e).0 in
    let shared = legal_shared (limits_of h.sizes) h.history h.holds.meets.1.entries.legal in
    let grips = λ (n : ℕ). length (grip (own h.history n)) in
    let seated = (among_seated v among e).0.0 in
    let few = h.numbered.few in
    let term = term_of_total h.sizes.processes (number_of v.mind) grips (omega arith) in
    let same = ap (λ entries. length (grip entries)) fits.entries in
    let all = held_few h.sizes among.words h.minds h.history h.holds in
    subst (λ sizes. length (held_in v.mind) ≤ blocks sizes) (sym shape) (omega (arith, term, same, all, shared.grips.count))
