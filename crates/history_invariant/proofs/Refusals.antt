-- Why the refusal of an allocate that finds no block is legal.
use Rattle.std.proofs.Common.{◌≡◌, ℕ, ◌+◌, ◌-◌, ◌*◌, ◌<◌, ◌≤◌, true, refl, sym, ◌∙◌, ap, arith, List, [], ◌∷◌, length, take, drop}
use Rattle.std.proofs.lemmas.Bool.Decides.{nat_tests}
use Rattle.pool_model.specs.declared.entry.Entry.{Entry}
use Rattle.pool_model.specs.declared.entry.Entry.TheVariants.{Dry}
use Rattle.pool_model.specs.Limits.{Limits}
use Rattle.pool_model.specs.History.{own}
use Rattle.pool_model.specs.Legal.{IsInWindow, HasNet, MayFollow}
use Rattle.transfer_schedule.specs.declared.own_step.Source.TheVariants.{Nothing}
use Rattle.transfer_schedule.specs.Numbers.{AreSizes, source_of}
use Rattle.transfer_schedule.specs.Account.{Account, asks_in, Sought}
use Rattle.transfer_schedule.specs.Laws.{IsSound, FoundNothing}
use Rattle.transfer_schedule.proofs.Stock.{nothing_stock}
use Rattle.transfer_schedule.proofs.AtPhase.{stands_sound, stands_refused, stands_misses, asks_serves}
use Rattle.transfer_schedule.proofs.Reaching.{reached_stands, reached_sizes}
use Rattle.history_invariant.specs.Ledger.{Ledger}
use Rattle.history_invariant.specs.Fits.{LedgerFits, HadFewNow}
use Rattle.history_invariant.proofs.Fitting.{own_since}

-- the place of the last ended take lies in the window, and with it every later place
in_window : (limits : Limits) (history : List Entry) (i ended_place entries ended : ℕ)
    → 2 ≤ limits.batch_length
    → length (own history i) ≡ entries
    → length (own (take ended_place history) i) ≡ ended → entries ≤ ended + (2 * limits.batch_length - 2)
    → (place : ℕ) → ended_place ≤ place → place ≤ length history → IsInWindow limits history i place
in_window limits history i ended_place entries ended long all here soon place after within = record {
  before = within;
  recent = omega (arith, own_since i ended_place place history after, all, here, soon, long);
}

-- a process that finds no block has got two batches more than it gave back
has_net : (a : Account) → IsSound a → a.unbroken ≡ true → source_of a.plan ≡ Nothing → 2 * a.plan.length + a.backs ≤ a.gots
has_net a sound unbroken none = let net = sound.net unbroken in grind (arith, nat_tests, nothing_stock a.plan none)

-- its refusal is legal
pub refusal_may_follow : (limits : Limits) (bound quantum : ℕ) (history : List Entry) (i : ℕ) (ledger : Ledger)
    → AreSizes limits.batch_length bound quantum
    → i < limits.processes → LedgerFits limits bound quantum history i ledger
    → asks_in ledger.account.phase ≡ true
    → source_of ledger.account.plan ≡ Nothing
    → MayFollow limits history (Dry i)
refusal_may_follow limits bound quantum history i ledger sizes lt f phase none =
    let stands = reached_stands limits.batch_length bound quantum ledger.account sizes f.reached in
    let soon : FoundNothing (2 * ledger.account.plan.length - 2) ledger.account =
    stands_refused ledger.account stands ledger.account.phase refl phase none in
    let same = (reached_sizes limits.batch_length bound quantum ledger.account f.reached).0 in
    let few = f.found.dry soon.dry in
    let all : length (own history i) ≡ ledger.account.entries = ap length f.sees.own_entries ∙ sym f.counts.entries in (
      lt,
      record {
        place = few.place;
        in_window =
            in_window limits history i ledger.ended_place ledger.account.entries ledger.account.ended sizes.long all
            f.places.ended_here (rw (← same) soon.recent)
            few.place few.after few.within;
        few = few.few;
      },
    )

-- a refused process has got as many blocks more than it gave back as a legal refusal asks for
pub refusal_has_net : (limits : Limits) (bound quantum : ℕ) (history : List Entry) (i : ℕ) (ledger : Ledger)
    → AreSizes limits.batch_length bound quantum
    → LedgerFits limits bound quantum history i ledger
    → asks_in ledger.account.phase ≡ true
    → source_of ledger.account.plan ≡ Nothing
    → HasNet limits history (Dry i)
refusal_has_net limits bound quantum history i ledger sizes f phase none =
    let stands = reached_stands limits.batch_length bound quantum ledger.account sizes f.reached in
    let sound = stands_sound ledger.account stands (asks_serves ledger.account.phase phase) in
    let enough = has_net ledger.account sound f.counts.unbroken none in
    let same = (reached_sizes limits.batch_length bound quantum ledger.account f.reached).0 in
    rw f.sees.own_entries (omega (arith, enough, same, f.counts.gots, f.counts.backs))

-- a list of no length
none_left : (xs : List Entry) → length xs ≤ 0 → xs ≡ []
none_left [] le = refl
none_left (x ∷ xs) le = absurd (omega (arith, le))

none_since : (since before all entries ended : ℕ) → since + before ≤ all → before ≡ ended → all ≡ entries → entries ≤ ended + 0 → since ≤ 0
none_since since before all entries ended split here same recent = omega (arith, split, here, same, recent)

-- the refusal of a search had its moment after the last entry of its process
pub search_had_few : (limits : Limits) (bound quantum : ℕ) (history : List Entry) (i : ℕ) (ledger : Ledger)
    → AreSizes limits.batch_length bound quantum
    → LedgerFits limits bound quantum history i ledger
    → ledger.account.phase ≡ Sought
    → source_of ledger.account.plan ≡ Nothing
    → HadFewNow limits history i
search_had_few limits bound quantum history i ledger sizes f phase none =
    let stands = reached_stands limits.batch_length bound quantum ledger.account sizes f.reached in
    let now : FoundNothing 0 ledger.account = stands_misses ledger.account stands phase none in
    let few = f.found.dry now.dry in
    let all : length (own history i) ≡ ledger.account.entries = ap length f.sees.own_entries ∙ sym f.counts.entries in
    record {
      place = few.place;
      within = few.within;
      since =
          none_left (own (drop few.place history) i)
          (none_since (length (own (drop few.place history) i)) (length (own (take ledger.ended_place history) i)) (length (own history i))
          ledger.account.entries ledger.account.ended (own_since i ledger.ended_place few.place history few.after) f.places.ended_here all
          now.recent);
      few = few.few;
    }
