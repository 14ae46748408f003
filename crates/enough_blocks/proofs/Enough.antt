-- With enough blocks nothing is refused.
use Rattle.std.proofs.Common.{◌≡◌, ℕ, ◌+◌, ◌<◌, ◌≤◌, ◌==◌, zero, suc, List, [], ◌∷◌, ◌++◌, length, take, drop, get_or, refl, sym, ap, ◌∙◌}
use Rattle.std.proofs.Common.{subst, inl, inr, arith, append_assoc, Some}
use Rattle.std.specs.Prelude.{Option, sum_by, slice_get, IfSome}
use Rattle.std.specs.List.{Contains}
use Rattle.std.proofs.lemmas.Option.{slice_get-get_or, slice_get_within}
use Rattle.std.proofs.lemmas.List.{take_more, take-append-drop, take_all}
use Rattle.std.proofs.lemmas.List.Sums.{sum_by-cons}
use Rattle.std.proofs.lemmas.List.Elements.{filter-append, Contains-append_cases}
use Rattle.process_sums.specs.Sums.{total}
use Rattle.process_sums.proofs.Sums.{total_more, total_parts}
use Rattle.pool_model.specs.declared.entry.Entry.{Entry}
use Rattle.pool_model.specs.declared.entry.Entry.TheVariants.{Dry}
use Rattle.pool_model.specs.Limits.{Limits, greatest_slack}
use Rattle.pool_model.specs.History.{own, held, grip, process_of}
use Rattle.pool_model.specs.Legal.{IsLegal, MayFollow, HadFew}
use Rattle.pool_model.proofs.Histories.{legal_take, slack_at_most}
use Rattle.history_invariant.proofs.Shared.{legal_shared}
use Rattle.enough_blocks.specs.Enough.{EnoughBlocksAreNotRefused, HoldsAtMost, NoneIsDry}
use Rattle.enough_blocks.proofs.Refusals.{none_first, none_of_own}

total_none : (g : ℕ → ℕ) → total 0 g ≡ 0
unfolding total
total_none g = refl

total_first : (g : ℕ → ℕ) → total 1 g ≡ g 0
total_first g = omega (arith, total_more 0 g, total_none g)

module _ {S : Type 0} (peak : S → ℕ) where
  -- a sum over processes is at most that over their scripts
  total-le-sum_by : (scripts : List S) (g : ℕ → ℕ) → ((k : ℕ) (script : S) → slice_get scripts k ≡ Some script → g k ≤ peak script)
      → total (length scripts) g ≤ sum_by peak scripts
  total-le-sum_by [] g each = omega (arith, total_none g)
  total-le-sum_by (script ∷ scripts) g each =
      let next : (k : ℕ) → suc k ≡ 1 + k = λ k. omega arith in
      let later = total-le-sum_by scripts (λ k. g (1 + k))
      (λ k other at. subst (λ (n : ℕ). g n ≤ peak other) (next k) (each (suc k) other at)) in
      omega (
        arith,
        ap (λ n. total n g) (next (length scripts)),
        total_parts 1 (length scripts) g,
        total_first g,
        each 0 script refl,
        later,
        sum_by-cons peak script scripts,
      )

  module _ (limits : Limits) (history : List Entry) (scripts : List S) (legal : IsLegal limits history)
      (each : length scripts ≡ limits.processes)
      (few : (k : ℕ) (script : S) → slice_get scripts k ≡ Some script → HoldsAtMost (peak script) (own history k))
      (enough : greatest_slack limits + sum_by peak scripts < limits.blocks) where
    -- before the first refusal each process holds no more than its peak
    grip-le-peak : (past rest : List Entry) → past ++ rest ≡ history → IsLegal limits past → NoneIsDry past → (k : ℕ) (script : S)
        → slice_get scripts k ≡ Some script → length (grip (own past k)) ≤ peak script
    grip-le-peak past rest parts begins none k script at =
        let split : own past k ++ own rest k ≡ own history k
        = sym (filter-append (λ entry. process_of entry == k) past rest) ∙ ap (λ (whole : List Entry). own whole k) parts in
        let low : k < limits.processes = omega (arith, each, slice_get_within scripts k script at) in
        let balance = (legal_shared limits past begins).balance k low in
        omega (arith, few k script at (own past k) (own rest k) split (none_of_own past k none), balance)

    -- and so no more is held than the peaks together
    held-le-peaks : (past rest : List Entry) → past ++ rest ≡ history → IsLegal limits past → NoneIsDry past
        → length (held past) ≤ sum_by peak scripts
    held-le-peaks past rest parts begins none =
        let grips : ℕ → ℕ = λ k. length (grip (own past k)) in
        omega (
          arith,
          (legal_shared limits past begins).grips.count,
          ap (λ n. total n grips) each,
          total-le-sum_by scripts grips (grip-le-peak past rest parts begins none),
        )

    -- a refusal had few unheld blocks before it, and so more are held than the peaks together
    no_refusal_here : (n by : ℕ) → n ≤ length history → NoneIsDry (take n history) → HadFew limits (take n history) by → ⊥
    no_refusal_here n by low none had =
        let past = take had.place (take n history) in
        let between = drop had.place (take n history) in
        let whole : past ++ between ≡ take n history = take-append-drop had.place (take n history) in
        let parts : past ++ (between ++ drop n history) ≡ history
        = sym (append_assoc past between (drop n history)) ∙ ap (λ front. front ++ drop n history) whole ∙ take-append-drop n history in
        let begins = legal_take limits (take n history) had.place (legal_take limits history n legal) in
        let before = none_first past between (subst NoneIsDry (sym whole) none) in
        omega (
          arith,
          enough,
          had.few,
          slack_at_most limits (take n history) had.place,
          held-le-peaks past (between ++ drop n history) parts begins before,
        )

    -- what an entry of the history asks of its past
    follows_at : (n : ℕ) (entry : Entry) → slice_get history n ≡ Some entry → MayFollow limits (take n history) entry
    follows_at n entry at = subst (λ (found : Option Entry). IfSome found (MayFollow limits (take n history))) at (legal.follows n)

    none_by : (n : ℕ) → n ≤ length history → NoneIsDry (take n history)
    none_by zero low by has = absurd (omega (arith, has.1))
    none_by (suc n) low by has =
        let earlier : NoneIsDry (take n history) = none_by n (omega (arith, low)) in
        let one_more : suc n ≡ n + 1 = omega arith in
        let last = get_or history n (Dry by) in
        let next : take (suc n) history ≡ take n history ++ last ∷ []
        = ap (λ m. take m history) one_more ∙ take_more history n (Dry by) (omega (arith, low)) in
        let among = subst (λ (front : List Entry). Contains front (Dry by)) next has in
        elim (Contains-append_cases (take n history) (last ∷ []) (Dry by) among) [
          | inl before ↦ earlier by before
          | inr last ↦ here earlier last.0 last.1 last.2
        ]
      where
        here : NoneIsDry (take n history) → (k : ℕ) → k < 1 → get_or (get_or history n (Dry by) ∷ []) k (Dry by) ≡ Dry by → ⊥
        here earlier zero one is = no_refusal_here n by (omega (arith, low)) earlier
            (follows_at n (Dry by) (slice_get-get_or history n (Dry by) (omega (arith, low)) ∙ ap Some is)).1
        here earlier (suc k) one is = absurd (omega (arith, one))

    -- where the blocks are more than the processes may withhold and hold at their peaks, no entry is a refusal
    pub nothing_is_refused : NoneIsDry history
    nothing_is_refused = subst NoneIsDry (take_all (length history) history (omega arith)) (none_by (length history) (omega arith))

-- no legal history refuses one of so many blocks
pub enough_blocks : EnoughBlocksAreNotRefused
enough_blocks limits history peaks legal each few enough = nothing_is_refused (λ peak. peak) limits history peaks legal each few enough
