-- What one more entry makes of the numbers of a history.
use Rattle.std.proofs.Common.{◌≡◌, ℕ, ◌+◌, ◌*◌, ◌<◌, ◌≤◌, ◌==◌, Bool, true, false, cond, refl, ◌∙◌, ap, inl, inr}
use Rattle.std.proofs.Common.{arith, zero, suc, List, [], ◌∷◌, ◌++◌, length, take, drop, length-append, append-nil}
use Rattle.std.specs.Prelude.{fold}
use Rattle.std.proofs.lemmas.List.{take-append-le, take_all, take-take, length-take}
use Rattle.std.proofs.lemmas.List.Elements.{filter-append}
use Rattle.std.specs.List.{Contains}
use Rattle.std.proofs.lemmas.Bool.{cases_eq, cases_lt}
use Rattle.std.proofs.lemmas.Bool.Decides.{nat_tests}
use Rattle.std.proofs.lemmas.Option.{slice_get_past}
use Rattle.process_sums.proofs.Sums.{total_at_most}
use Rattle.pool_model.specs.declared.entry.Entry.{Entry}
use Rattle.pool_model.specs.declared.entry.Entry.TheVariants.{Got, Back, Dry}
use Rattle.pool_model.specs.Limits.{Limits, greatest_slack}
use Rattle.pool_model.specs.History.{process_of, own, held_after, held, grip_after, grip, unheld, allowance, slack}
use Rattle.pool_model.specs.Legal.{MayFollow, HasNet, IsDryWhenFull, EachEntry, IsLegal, IsExact}
use Rattle.pool_model.proofs.Places.{slice_get-append, slice_get-push, slice_get-take}
use Rattle.pool_model.proofs.Members.{without_shorter}

-- the held blocks after one entry more are what that entry makes of those that were held
pub held_more : (history : List Entry) (entry : Entry) → held (history ++ entry ∷ []) ≡ held_after (held history) entry
held_more history entry = go history []
  where
    go : (history : List Entry) (blocks : List ℕ)
        → fold held_after blocks (history ++ entry ∷ []) ≡ held_after (fold held_after blocks history) entry
    go [] blocks = refl
    go (first ∷ rest) blocks = go rest (held_after blocks first)

-- the grip, with one more entry of its process
pub grip_more : (entries : List Entry) (entry : Entry) → grip (entries ++ entry ∷ []) ≡ grip_after (grip entries) entry
grip_more entries entry = go entries []
  where
    go : (entries : List Entry) (blocks : List ℕ)
        → fold grip_after blocks (entries ++ entry ∷ []) ≡ grip_after (fold grip_after blocks entries) entry
    go [] blocks = refl
    go (first ∷ rest) blocks = go rest (grip_after blocks first)

-- after an allocate that got a block, one block more is held
pub held_got : (history : List Entry) (i block : ℕ) → length (held (history ++ Got i block ∷ [])) ≡ length (held history) + 1
held_got history i block = ap length (held_more history (Got i block)) ∙ omega arith

-- after a free of a held block, fewer blocks are held
pub held_back : (history : List Entry) (i block : ℕ) → Contains (held history) block
    → length (held (history ++ Back i block ∷ [])) < length (held history)
held_back history i block holds = rw (held_more history (Back i block)) (without_shorter block (held history) holds)

-- the entry is its process's last
pub own_more : (history : List Entry) (entry : Entry) (i : ℕ) → process_of entry ≡ i
    → own (history ++ entry ∷ []) i ≡ own history i ++ entry ∷ []
own_more history entry i mine =
    filter-append (λ e. process_of e == i) history (entry ∷ [])
    ∙ ap (λ es. own history i ++ es) (last (process_of entry == i) (grind (arith, nat_tests)))
  where
    last : (t : Bool) → t ≡ true → cond t (entry ∷ []) [] ≡ entry ∷ []
    last true e = refl
    last false e = cc

-- another's entry changes nothing of a process's own
pub own_other : (history : List Entry) (entry : Entry) (i : ℕ) → ¬ (process_of entry ≡ i) → own (history ++ entry ∷ []) i ≡ own history i
own_other history entry i apart =
    filter-append (λ e. process_of e == i) history (entry ∷ [])
    ∙ ap (λ es. own history i ++ es) (last (process_of entry == i) (grind (arith, nat_tests))) ∙ append-nil (own history i)
  where
    last : (t : Bool) → t ≡ false → cond t (entry ∷ []) [] ≡ []
    last false e = refl
    last true e = cc

-- so an entry moves the grip of its own process, and of no other
pub own_grip_more : (history : List Entry) (entry : Entry) (i : ℕ) → process_of entry ≡ i
    → grip (own (history ++ entry ∷ []) i) ≡ grip_after (grip (own history i)) entry
own_grip_more history entry i mine = ap grip (own_more history entry i mine) ∙ grip_more (own history i) entry

-- another's entry leaves the grip of a process as it was
pub own_grip_other : (history : List Entry) (entry : Entry) (i : ℕ) → ¬ (process_of entry ≡ i)
    → grip (own (history ++ entry ∷ []) i) ≡ grip (own history i)
own_grip_other history entry i apart = ap grip (own_other history entry i apart)

-- the slack of a place is at most the greatest
pub slack_at_most : (limits : Limits) (history : List Entry) (place : ℕ) → slack limits history place ≤ greatest_slack limits
slack_at_most limits history place =
    omega (arith, total_at_most (5 * limits.batch_length) limits.processes (allowance limits (take place history)) (λ i lt. omega arith))

-- a fact of each entry, one entry on
pub each_entry_more : (Fact : List Entry → Entry → Type 0) (history : List Entry) (entry : Entry) → EachEntry Fact history
    → Fact history entry
    → EachEntry Fact (history ++ entry ∷ [])
each_entry_more Fact history entry each last x = elim (cases_lt x (length history)) [
  | inl lt ↦ rw (slice_get-append history (entry ∷ []) x lt) (rw (take-append-le x history (entry ∷ []) (omega arith)) (each x))
  | inr ge ↦ elim (cases_eq x (length history)) [
    | inl at ↦
        rw at (rw (slice_get-push history entry) (rw (take-append-le (length history) history (entry ∷ []) (omega arith))
        (rw (take_all (length history) history (omega arith)) last)))
    | inr past ↦ rw (slice_get_past (history ++ entry ∷ []) x (omega (arith, length-append history (entry ∷ [])))) tt
  ]
]

-- an empty history has no entry that could fail a fact
pub each_entry_none : (Fact : List Entry → Entry → Type 0) → EachEntry Fact []
each_entry_none Fact zero = tt
each_entry_none Fact (suc x) = tt

-- a legal history stays legal by an entry that may follow it and has the net that it needs
pub legal_more : (limits : Limits) (history : List Entry) (entry : Entry) → IsLegal limits history → MayFollow limits history entry
    → HasNet limits history entry
    → IsLegal limits (history ++ entry ∷ [])
legal_more limits history entry legal may has_net = record {
  follows = each_entry_more (MayFollow limits) history entry legal.follows may;
  nets = each_entry_more (HasNet limits) history entry legal.nets has_net;
}

-- an exact history stays exact by an entry that may follow it and that refuses only where no block is unheld
pub exact_more : (limits : Limits) (history : List Entry) (entry : Entry) → IsExact limits history → MayFollow limits history entry
    → IsDryWhenFull limits history entry
    → IsExact limits (history ++ entry ∷ [])
exact_more limits history entry exact may full = record {
  follows = each_entry_more (MayFollow limits) history entry exact.follows may;
  full = each_entry_more (IsDryWhenFull limits) history entry exact.full full;
}

-- the empty history is exact
pub exact_none : (limits : Limits) → IsExact limits []
exact_none limits = record { follows = each_entry_none (MayFollow limits); full = each_entry_none (IsDryWhenFull limits) }

-- every place of a legal history is legal
pub each_entry_take : (Fact : List Entry → Entry → Type 0) (history : List Entry) (place : ℕ) → EachEntry Fact history
    → EachEntry Fact (take place history)
each_entry_take Fact history place each x = elim (cases_lt x place) [
  | inl lt ↦ rw (slice_get-take history place x lt) (rw (take-take x place history (omega arith)) (each x))
  | inr ge ↦ rw (slice_get_past (take place history) x (omega (arith, length-take place history))) tt
]

-- each beginning of a legal history is legal
pub legal_take : (limits : Limits) (history : List Entry) (place : ℕ) → IsLegal limits history → IsLegal limits (take place history)
legal_take limits history place legal = record {
  follows = each_entry_take (MayFollow limits) history place legal.follows;
  nets = each_entry_take (HasNet limits) history place legal.nets;
}

-- where no block is unheld, a refusal may follow, however small the shape
pub full_may_follow : (limits : Limits) (history : List Entry) (i : ℕ) → i < limits.processes → 0 < limits.batch_length
    → unheld limits history (length history) ≡ 0
    → MayFollow limits history (Dry i)
full_may_follow limits history i process long full = (
  process,
  record {
    place = length history;
    in_window = record { before = omega arith; recent = rw (drop_whole history) (omega (arith, long)) };
    few = omega (arith, full);
  },
)
  where
    drop_whole : (history : List Entry) → drop (length history) history ≡ []
    drop_whole [] = refl
    drop_whole (first ∷ rest) = drop_whole rest
