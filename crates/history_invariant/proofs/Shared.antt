-- A legal history shares the held blocks out among the grips of the processes.
use Rattle.std.proofs.Common.{◌≡◌, ◌≢◌, ℕ, ◌+◌, ◌<◌, ◌≤◌, cond, refl, sym, ap, subst, inl, inr, arith, zero, suc, List, [], ◌∷◌, ◌++◌}
use Rattle.std.proofs.Common.{length, take, get_or, Some}
use Rattle.std.specs.Prelude.{slice_get}
use Rattle.std.specs.List.{count_by}
use Rattle.std.proofs.Math.Seq.{take-length, take-suc}
use Rattle.std.proofs.lemmas.List.Sums.{sum_by_push}
use Rattle.std.proofs.lemmas.Bool.{cases_eq}
use Rattle.pool_model.specs.declared.entry.Entry.{Entry}
use Rattle.pool_model.specs.declared.entry.Entry.TheVariants.{Got, Back, Dry}
use Rattle.pool_model.specs.Limits.{Limits}
use Rattle.pool_model.specs.History.{process_of, own, held_after, held, grip, is_got, is_back}
use Rattle.pool_model.specs.Legal.{MayFollow, EachEntry, IsLegal}
use Rattle.pool_model.proofs.Histories.{held_more, grip_more, own_more, own_other, own_grip_more, own_grip_other}
use Rattle.history_invariant.specs.Grips.{times, GripsAreHeld, Balances}
use Rattle.history_invariant.proofs.Times.{length_without, times_contained}
use Rattle.history_invariant.proofs.Grips.{grips_got, grips_back, grips_same, grips_none, grip_once}

-- the grips of the processes after a history
abbrev pub grips_of : List Entry → ℕ → List ℕ
grips_of history i = grip (own history i)

-- what holds of the blocks after a legal history
pub record Shared (limits : Limits) (history : List Entry) : Type 0 where
  pub grips : GripsAreHeld limits (held history) (grips_of history)
  pub balance : (i : ℕ) → i < limits.processes → Balances (own history i)

-- an entry leaves the grips of all other processes
grip_stays : (history : List Entry) (entry : Entry) (o : ℕ) → o ≢ process_of entry → grips_of (history ++ entry ∷ []) o ≡ grips_of history o
grip_stays history entry o ne = own_grip_other history entry o (λ e. ne (sym e))

grip_refused : (history : List Entry) (by o : ℕ) → grips_of (history ++ Dry by ∷ []) o ≡ grips_of history o
grip_refused history by o = elim (cases_eq o by) [
  | inl e ↦ rw e (own_grip_more history (Dry by) by refl)
  | inr ne ↦ grip_stays history (Dry by) o ne
]

-- an entry that may follow keeps the held blocks shared out
shares_more : (limits : Limits) (history : List Entry) (entry : Entry) → Shared limits history → MayFollow limits history entry
    → GripsAreHeld limits (held_after (held history) entry) (grips_of (history ++ entry ∷ []))
shares_more limits history (Got by block) s may =
    grips_got limits by block (held history) (grips_of history) (grips_of (history ++ Got by block ∷ [])) may.0 may.1 may.2 s.grips
    (own_grip_more history (Got by block) by refl) (λ o lo. grip_stays history (Got by block) o)
shares_more limits history (Back by block) s may =
    grips_back limits by block (held history) (grips_of history) (grips_of (history ++ Back by block ∷ [])) may.0 may.1 s.grips
    (own_grip_more history (Back by block) by refl) (λ o lo. grip_stays history (Back by block) o)
shares_more limits history (Dry by) s may =
    grips_same limits (held history) (grips_of history) (grips_of (history ++ Dry by ∷ [])) s.grips (grip_refused history by)

-- how many of the entries gave a block or took one back
pub gots_more : (entries : List Entry) (entry : Entry)
    → count_by is_got (entries ++ entry ∷ []) ≡ count_by is_got entries + cond (is_got entry) 1 0
gots_more entries entry = sum_by_push (λ e. cond (is_got e) 1 0) entries entry

-- one entry more counts where it gives a block back
pub backs_more : (entries : List Entry) (entry : Entry)
    → count_by is_back (entries ++ entry ∷ []) ≡ count_by is_back entries + cond (is_back entry) 1 0
backs_more entries entry = sum_by_push (λ e. cond (is_back e) 1 0) entries entry

-- the own entries of the process that makes the entry balance
got_balances : (entries : List Entry) (by block : ℕ) → Balances entries → Balances (entries ++ Got by block ∷ [])
got_balances entries by block b =
    omega (arith, b, gots_more entries (Got by block), backs_more entries (Got by block), ap length (grip_more entries (Got by block)))

back_balances : (entries : List Entry) (by block : ℕ)
    → times block (grip entries) ≡ 1
    → Balances entries
    → Balances (entries ++ Back by block ∷ [])
back_balances entries by block one b = omega (
  arith,
  b,
  one,
  length_without block (grip entries),
  gots_more entries (Back by block),
  backs_more entries (Back by block),
  ap length (grip_more entries (Back by block)),
)

dry_balances : (entries : List Entry) (by : ℕ) → Balances entries → Balances (entries ++ Dry by ∷ [])
dry_balances entries by b =
    omega (arith, b, gots_more entries (Dry by), backs_more entries (Dry by), ap length (grip_more entries (Dry by)))

mine_balances : (limits : Limits) (history : List Entry) (entry : Entry) → Shared limits history → MayFollow limits history entry
    → Balances (own history (process_of entry) ++ entry ∷ [])
mine_balances limits history (Got by block) s may = got_balances (own history by) by block (s.balance by may.0)
mine_balances limits history (Back by block) s may =
    let some = times_contained block (grip (own history by)) may.1 in
    let few = grip_once limits by block (held history) (grips_of history) may.0 s.grips in
    back_balances (own history by) by block (omega arith) (s.balance by may.0)
mine_balances limits history (Dry by) s may = dry_balances (own history by) by (s.balance by may.0)

balances_more : (limits : Limits) (history : List Entry) (entry : Entry) → ((i : ℕ) → i < limits.processes → Balances (own history i))
    → Balances (own history (process_of entry) ++ entry ∷ [])
    → (i : ℕ) → i < limits.processes → Balances (own (history ++ entry ∷ []) i)
balances_more limits history entry balances mine i lt = elim (cases_eq i (process_of entry)) [
  | inl e ↦ rw e (rw (own_more history entry (process_of entry) refl) mine)
  | inr ne ↦ rw (own_other history entry i (λ e. ne (sym e))) (balances i lt)
]

-- an entry that may follow keeps both
shared_more : (limits : Limits) (history : List Entry) (entry : Entry)
    → Shared limits history
    → MayFollow limits history entry
    → Shared limits (history ++ entry ∷ [])
shared_more limits history entry s may = record {
  grips =
      subst (λ blocks. GripsAreHeld limits blocks (grips_of (history ++ entry ∷ []))) (sym (held_more history entry))
      (shares_more limits history entry s may);
  balance = balances_more limits history entry s.balance (mine_balances limits history entry s may);
}

shared_none : (limits : Limits) → Shared limits []
shared_none limits = record { grips = grips_none limits; balance = λ i lt. refl }

-- the entry at a place
some_at : (history : List Entry) (x : ℕ) (default : Entry) → x < length history → slice_get history x ≡ Some (get_or history x default)
some_at [] x default lt = absurd (omega arith)
some_at (first ∷ rest) zero default lt = refl
some_at (first ∷ rest) (suc x) default lt = some_at rest x default (omega arith)

entry_at : (Fact : List Entry → Entry → Type 0) (history : List Entry) (x : ℕ) (default : Entry)
    → x < length history
    → EachEntry Fact history
    → Fact (take x history) (get_or history x default)
entry_at Fact history x default lt each = rw (some_at history x default lt) at (each x)

-- every legal history shares out its blocks
shared_at : (limits : Limits) (history : List Entry) (place : ℕ)
    → place ≤ length history
    → IsLegal limits history
    → Shared limits (take place history)
shared_at limits history zero le legal = shared_none limits
shared_at limits history (suc place) le legal =
    subst (Shared limits) (sym (take-suc history place (Dry 0) (omega arith)))
    (shared_more limits (take place history) (get_or history place (Dry 0)) (shared_at limits history place (omega arith) legal)
    (entry_at (MayFollow limits) history place (Dry 0) (omega arith) legal.follows))

-- a legal history shares its held blocks out among its processes
pub legal_shared : (limits : Limits) (history : List Entry) → IsLegal limits history → Shared limits history
legal_shared limits history legal =
    subst (Shared limits) (take-length history) (shared_at limits history (length history) (omega arith) legal)
