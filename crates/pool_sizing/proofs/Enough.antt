-- A pool with enough blocks refuses nobody.
use Rattle.std.proofs.Common.{◌≡◌, ℕ, ◌+◌, ◌<◌, ◌≤◌, List, ◌++◌, length, take, drop, get_or, sym, ap, ◌∙◌, subst, arith, append_assoc, Some}
use Rattle.std.specs.Prelude.{Option, slice_get, IfSome, Contains}
use Rattle.std.proofs.lemmas.Option.{slice_get-get_or}
use Rattle.std.proofs.lemmas.List.{take-append-drop}
use Rattle.pool_model.specs.declared.entry.Entry.{Entry}
use Rattle.pool_model.specs.declared.entry.Entry.TheVariants.{Dry}
use Rattle.pool_model.specs.Legal.{IsLegal, MayFollow, HadFew}
use Rattle.pool_model.proofs.Histories.{slack_at_most}
use Rattle.word_layout.specs.Sizes.{Sizes, limits_of}
use Rattle.pool_sizing.specs.Enough.{EnoughAreNotRefused, HasEnough, HoldsAtMost}

-- what a refusal asks of the calls before it isn't so
refusal_had_few : (pool : Sizes) (live : ℕ) (past rest : List Entry) (by : ℕ) → HasEnough pool live
    → HoldsAtMost live (past ++ rest) → HadFew (limits_of pool) past by → ⊥
refusal_had_few pool live past rest by enough few had =
    let before = take had.place past in
    let between = drop had.place past in
    let parts : before ++ (between ++ rest) ≡ past ++ rest
    = sym (append_assoc before between rest) ∙ ap (λ front. front ++ rest) (take-append-drop had.place past) in
    omega (arith, enough, had.few, slack_at_most (limits_of pool) past had.place, few before (between ++ rest) parts)

-- so none is refused
pub enough_are_not_refused : EnoughAreNotRefused
enough_are_not_refused pool live history enough legal few by (n, low, is) =
    let at = slice_get-get_or history n (Dry by) low ∙ ap Some is in
    let asked : MayFollow (limits_of pool) (take n history) (Dry by)
    = subst (λ (found : Option Entry). IfSome found (MayFollow (limits_of pool) (take n history))) at (legal.follows n) in
    let whole = take-append-drop n history in
    refusal_had_few pool live (take n history) (drop n history) by enough (subst (HoldsAtMost live) (sym whole) few) asked.1
