-- what a process may begin it begins
use Rattle.std.proofs.Common.{◌≡◌, ◌≢◌, ℕ, ◌<◌, ◌≤◌, ◌==◌, Bool, true, false, List, length, refl, arith}
use Rattle.std.specs.Prelude.{nat_lt, nat_le, ◌&&◌, ◌||◌, not}
use Rattle.std.proofs.lemmas.Bool.Decides.{nat_tests}
use Rattle.word_layout.specs.Names.{word_at}
use Rattle.word_layout.specs.Sizes.{Sizes}
use Rattle.word_layout.specs.Packing.{most_age}
use Rattle.word_layout.specs.declared.announced.Wish.{Wish}
use Rattle.word_layout.specs.declared.announced.Wish.TheVariants.{Take, Give}
use Rattle.pool_model.specs.declared.entry.Entry.{Entry}
use Rattle.transfer_schedule.specs.Beginning.{may_begin}
use Rattle.transfer_schedule.specs.Numbers.{due, is_idle}
use Rattle.transfer_schedule.specs.declared.pending.Pending.{Pending}
use Rattle.transfer_schedule.specs.declared.pending.Pending.TheVariants.{Idle, Taking, Giving}
use Rattle.transfer_machine.specs.Stages.{is_rest}
use Rattle.pool_machine.specs.declared.call.Call.{Call}
use Rattle.pool_machine.specs.declared.call.Call.TheVariants.{Allocate, Free, Read, Write}
use Rattle.pool_machine.specs.declared.call.Way.{Way}
use Rattle.pool_machine.specs.declared.call.Way.TheVariants.{Fresh, Alone, Calls}
use Rattle.pool_machine.specs.declared.view.PoolView.{PoolView}
use Rattle.pool_machine.specs.Beginning.{newest}
use Rattle.pool_machine.specs.Conditions.{may_use_calls, may_use_transfers, IsYoungFor, is_young_for, names_fit}
use Rattle.interleaving_core.specs.Moves.{CoreState, view_at, holder_of, is_holder, holds_for, may_wish}
use Rattle.interleaving_core.specs.Runs.{Moves, Events, is_made}
use Rattle.interleaving_core.specs.MovingLaws as laws
use Rattle.interleaving_core.specs.MovingLaws.{StandsBetween, StandsAtRest}
use Rattle.interleaving_core.proofs.Joins.{keeps}
use Rattle.interleaving_core.proofs.Runs.{RunFits}
use Rattle.interleaving_core.proofs.CallLaws.{every_run}

-- tests of what is known
is_less : (a b : ℕ) → a < b → nat_lt a b ≡ true
is_less a b lt = grind (arith, nat_tests)

is_most : (a b : ℕ) → a ≤ b → nat_le a b ≡ true
is_most a b le = grind (arith, nat_tests)

both_are : (a b : Bool) → a ≡ true → b ≡ true → (a && b) ≡ true
both_are a b e f = rw (e, f) refl

second_is : (a b : Bool) → b ≡ true → (a || b) ≡ true
second_is true b e = refl
second_is false b e = e

-- a process that has begun no transfer alone may use calls, and one that has begun no call transfers
uses_calls : (way : Way) → way ≢ Alone → may_use_calls way ≡ true
uses_calls Fresh ne = refl
uses_calls Alone ne = absurd (ne refl)
uses_calls Calls ne = refl

uses_transfers : (way : Way) → way ≢ Calls → may_use_transfers way ≡ true
uses_transfers Fresh ne = refl
uses_transfers Alone ne = refl
uses_transfers Calls ne = absurd (ne refl)

-- a call whose names fit begins between two calls
call_begins : (s : CoreState) (i : ℕ) (call : Call) → StandsBetween s.sizes i s → is_young_for s.sizes call (view_at s i) ≡ true
    → names_fit s.sizes (holds_for s.holders i call) call ≡ true → is_made (Events i call) s ≡ true
call_begins s i call stands young names =
    let v = view_at s i in
    let fits = both_are (is_young_for s.sizes call v) (names_fit s.sizes (holds_for s.holders i call) call) young names in
    let may = both_are (may_use_calls v.calls.way) _ (uses_calls v.calls.way stands.way) fits in
    both_are (nat_lt i s.sizes.processes) _ (is_less i s.sizes.processes stands.low) (rw stands.between may)

age_for : (sizes : Sizes) (due : Pending) (age : ℕ) → (due ≢ Idle → age < most_age sizes)
    → (is_idle due || nat_lt age (most_age sizes)) ≡ true
age_for sizes Idle age young = refl
age_for sizes Taking age young = is_less age (most_age sizes) (young (λ e. grind arith))
age_for sizes Giving age young = is_less age (most_age sizes) (young (λ e. grind arith))

allocates_here : (history : List Entry) (s : CoreState) → RunFits s history → (i : ℕ) → StandsBetween s.sizes i s
    → IsYoungFor s.sizes Allocate (view_at s i)
    → is_made (Events i Allocate) s ≡ true
allocates_here history s fits i stands young =
    call_begins s i Allocate stands (age_for s.sizes (due (view_at s i).pool.plan) (view_at s i).transfer.age young) refl

-- where an allocate may begin, its turn begins it
pub allocates_begin : laws.AllocatesBegin
allocates_begin = every_run _ allocates_here

frees_here : (history : List Entry) (s : CoreState) → RunFits s history → (i block : ℕ) → StandsBetween s.sizes i s
    → IsYoungFor s.sizes (Free block) (view_at s i)
    → is_holder i (holder_of s block) ≡ true → is_made (Events i (Free block)) s ≡ true
frees_here history s fits i block stands young holds =
    call_begins s i (Free block) stands (age_for s.sizes (due (view_at s i).pool.plan) (view_at s i).transfer.age young) holds

-- where a free may begin, its turn begins it
pub frees_begin : laws.FreesBegin
frees_begin = every_run _ frees_here

reads_here : (history : List Entry) (s : CoreState) → RunFits s history → (i block index : ℕ) → StandsBetween s.sizes i s
    → is_holder i (holder_of s block) ≡ true → index < s.sizes.words
    → is_made (Events i (Read block index)) s ≡ true
reads_here history s fits i block index stands holds within =
    call_begins s i (Read block index) stands refl
    (both_are (is_holder i (holder_of s block)) (nat_lt index s.sizes.words) holds (is_less index s.sizes.words within))

-- where a read may begin, its turn begins it
pub reads_begin : laws.ReadsBegin
reads_begin = every_run _ reads_here

writes_here : (history : List Entry) (s : CoreState) → RunFits s history → (i block index value : ℕ) → StandsBetween s.sizes i s
    → is_holder i (holder_of s block) ≡ true → index < s.sizes.words
    → is_made (Events i (Write block index value)) s ≡ true
writes_here history s fits i block index value stands holds within =
    call_begins s i (Write block index value) stands refl
    (both_are (is_holder i (holder_of s block)) (nat_lt index s.sizes.words) holds (is_less index s.sizes.words within))

-- where a write may begin, its turn begins it
pub writes_begin : laws.WritesBegin
writes_begin = every_run _ writes_here

-- a transfer that the pool may begin begins at rest
transfer_begins : (s : CoreState) (i : ℕ) (wish : Wish) → StandsAtRest s.sizes i s → may_wish wish (view_at s i).pool ≡ true
    → is_made (Moves i wish) s ≡ true
transfer_begins s i wish stands may =
    let v = view_at s i in
    let young =
    both_are (nat_lt v.transfer.age (most_age s.sizes)) (may_wish wish v.pool)
    (is_less v.transfer.age (most_age s.sizes) stands.young) may in
    let first = second_is (not (is_rest v.transfer.next)) _ young in
    both_are (nat_lt i s.sizes.processes) _ (is_less i s.sizes.processes stands.low)
    (both_are (may_use_transfers v.calls.way) _ (uses_transfers v.calls.way stands.way) first)

takes_here : (history : List Entry) (s : CoreState) → RunFits s history → (i : ℕ) → StandsAtRest s.sizes i s
    → (view_at s i).pool.plan.spares ≤ 1 → is_made (Moves i Take) s ≡ true
takes_here history s fits i stands few = transfer_begins s i Take stands (is_most (view_at s i).pool.plan.spares 1 few)

-- where a take alone may begin, its turn begins it
pub takes_begin : laws.TakesBegin
takes_begin = every_run _ takes_here

gives_newest : (pool : PoolView) → length pool.heads ≡ pool.plan.spares → 1 ≤ pool.plan.spares → may_wish (Give (newest pool)) pool ≡ true
gives_newest pool heads some =
    let one = both_are (may_begin Giving pool.plan.spares) (newest pool == newest pool) (is_most 1 pool.plan.spares some)
    (same (newest pool)) in
    both_are (nat_lt 0 (length pool.heads)) _ (is_less 0 (length pool.heads) (rw heads some)) one
  where
    same : (n : ℕ) → (n == n) ≡ true
    same n = grind (arith, nat_tests)

gives_here : (history : List Entry) (s : CoreState) → RunFits s history → (i : ℕ) → StandsAtRest s.sizes i s
    → 1 ≤ (view_at s i).pool.plan.spares → is_made (Moves i (Give (newest (view_at s i).pool))) s ≡ true
gives_here history s fits i stands some =
    let (ghosts, h) = fits.meets in
    let heads = (keeps s.sizes (word_at s.sizes s.words) (view_at s) history ghosts i fits.shape stands.low h).heads in
    transfer_begins s i (Give (newest (view_at s i).pool)) stands (gives_newest (view_at s i).pool heads some)

-- where a give alone may begin, its turn begins it
pub gives_begin : laws.GivesBegin
gives_begin = every_run _ gives_here
