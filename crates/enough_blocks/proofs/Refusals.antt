-- Entries of which none is a refusal.
use Rattle.std.proofs.Common.{◌≡◌, ℕ, Bool, true, false, cond, List, [], ◌∷◌, ◌++◌, filter, inl, inr, arith}
use Rattle.std.specs.List.{Contains}
use Rattle.std.proofs.lemmas.List.Elements.{Contains-append_left, Contains-append_right, Contains-append_cases}
use Rattle.pool_model.specs.declared.entry.Entry.{Entry}
use Rattle.pool_model.specs.declared.entry.Entry.TheVariants.{Dry}
use Rattle.pool_model.specs.History.{own}
use Rattle.enough_blocks.specs.Enough.{NoneIsDry}

-- what a list keeps of another
contains_filter : (p : Entry → Bool) (xs : List Entry) (x : Entry) → Contains (filter p xs) x → Contains xs x
contains_filter p [] x has = has
contains_filter p (y ∷ xs) x has =
    by_test (λ within. Contains-append_right (y ∷ []) xs x (contains_filter p xs x within)) (p y) has
  where
    by_test : (Contains (filter p xs) x → Contains (y ∷ xs) x) → (t : Bool)
        → Contains (cond t (y ∷ filter p xs) (filter p xs)) x → Contains (y ∷ xs) x
    by_test rest true within = elim (Contains-append_cases (y ∷ []) (filter p xs) x within) [
      | inl first ↦ Contains-append_left (y ∷ []) xs x first
      | inr later ↦ rest later
    ]
    by_test rest false within = rest within

-- entries of a process are among all entries
pub none_of_own : (history : List Entry) (i : ℕ) → NoneIsDry history → NoneIsDry (own history i)
none_of_own history i none by has = none by (contains_filter _ history (Dry by) has)

-- where no entry is a refusal, none of the first is, and none of those behind them
pub none_first : (first rest : List Entry) → NoneIsDry (first ++ rest) → NoneIsDry first
none_first first rest none by has = none by (Contains-append_left first rest (Dry by) has)

-- nor is one behind them
pub none_rest : (first rest : List Entry) → NoneIsDry (first ++ rest) → NoneIsDry rest
none_rest first rest none by has = none by (Contains-append_right first rest (Dry by) has)

-- nor is the one in front
pub front_is_not_dry : (i : ℕ) (entry : Entry) (entries : List Entry) → NoneIsDry (entry ∷ entries) → entry ≡ Dry i → ⊥
front_is_not_dry i entry entries none is = none i (0, omega arith, is)
