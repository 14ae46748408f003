-- what holds of a process that may begin something
use Rattle.std.proofs.Common.{◌≡◌, ◌≢◌, ℕ, ◌-◌, ◌<◌, ◌≤◌, ◌==◌, Bool, true, false, List, length, refl, sym, ap, arith}
use Rattle.std.specs.Prelude.{slice_index, nat_lt, nat_le, ◌&&◌, ◌||◌}
use Rattle.std.proofs.lemmas.Bool.Decides.{nat_tests}
use Rattle.word_layout.specs.Sizes.{Sizes, IsShape, blocks}
use Rattle.word_layout.specs.Packing.{FitsWish, most_age}
use Rattle.word_layout.specs.declared.announced.Wish.{Wish}
use Rattle.word_layout.specs.declared.announced.Wish.TheVariants.{Take, Give}
use Rattle.pool_model.specs.declared.entry.Entry.{Entry}
use Rattle.transfer_schedule.specs.Beginning.{few_spares}
use Rattle.transfer_schedule.specs.declared.pending.Pending.TheVariants.{Idle, Taking, Giving}
use Rattle.pool_machine.specs.Pools.{MayBegin}
use Rattle.pool_machine.specs.declared.call.Call.{Call}
use Rattle.pool_machine.specs.declared.call.Call.TheVariants.{Allocate, Free, Read, Write, Search}
use Rattle.pool_machine.specs.declared.call.CallStage.TheVariants.{Between}
use Rattle.pool_machine.specs.declared.call.Way.{Way}
use Rattle.pool_machine.specs.declared.call.Way.TheVariants.{Fresh, Alone, Calls}
use Rattle.pool_machine.specs.declared.view.ProcessView.{ProcessView}
use Rattle.transfer_machine.specs.declared.stage.NextStep.TheVariants.{Rest}
use Rattle.transfer_machine.specs.Stages.{is_rest}
use Rattle.transfer_invariant.specs.Memory.{Words, state_tag}
use Rattle.stack_invariant.proofs.Follows.{each_process}
use Rattle.batch_invariant.specs.Batches.{ProcessViews}
use Rattle.chain_invariant.proofs.Gives.{heads_are_blocks}
use Rattle.transfer_schedule.specs.Numbers.{due, is_idle}
use Rattle.transfer_schedule.specs.declared.pending.Pending.{Pending}
use Rattle.pool_machine.specs.Conditions.{IsYoungFor, is_young_for, may_call, may_use_calls, names_fit}
use Rattle.pool_machine.specs.Ready.{CanBegin}
use Rattle.call_invariant.proofs.Uses.{calls_can_begin, calls_used, transfers_used}
use Rattle.interleaving_core.proofs.Joins.{transfers, keeps}
use Rattle.interleaving_core.specs.Invariant.{Ghosts, Holds, Meets, held_in}
use Rattle.interleaving_core.specs.Moves.{may_wish}
use Rattle.interleaving_core.specs.Steps.{is_alone, is_at_step}

-- the view of a process has its number
pub numbered : (sizes : Sizes) (words : Words) (views : ProcessViews) (history : List Entry) (ghosts : Ghosts) (i : ℕ) → i < sizes.processes
    → Holds sizes words views history ghosts
    → (views i).transfer.number ≡ i
numbered sizes words views history ghosts i li h = (each_process sizes words (transfers views) ghosts.states i li h.stack).number

-- the view of a process has its number
pub number_holds : (sizes : Sizes) (words : Words) (views : ProcessViews) (history : List Entry) (i : ℕ) → i < sizes.processes
    → Meets sizes words views history → (views i).transfer.number ≡ i
number_holds sizes words views history i li (ghosts, h) = numbered sizes words views history ghosts i li h

-- a process that isn't alone
pub isnt_alone : (way : Way) → is_alone way ≡ false → way ≢ Alone
isnt_alone way e is = grind arith

-- a process that has begun nothing is at rest, and one that makes transfers alone is in no call
pub fresh_rests : (sizes : Sizes) (words : Words) (views : ProcessViews) (history : List Entry) (i : ℕ) → i < sizes.processes
    → Meets sizes words views history → (views i).calls.way ≡ Fresh
    → is_rest (views i).transfer.next ≡ true
fresh_rests sizes words views history i li (ghosts, h) fresh =
    let calls = calls_used sizes i (views i) (ghosts.ledgers i) (views i).calls.way (λ e. fresh_is_not_alone (views i).calls.way fresh e)
    (h.pools i li) in
    ap (λ v. is_rest v.transfer.next) (calls.fresh fresh).view
  where
    fresh_is_not_alone : (way : Way) → way ≡ Fresh → way ≡ Alone → ⊥
    fresh_is_not_alone way e f = grind arith

-- a process of transfers alone has begun no step of a call
pub alone_between : (sizes : Sizes) (words : Words) (views : ProcessViews) (history : List Entry) (i : ℕ) → i < sizes.processes
    → Meets sizes words views history → (views i).calls.way ≡ Alone
    → is_at_step (views i).calls.stage ≡ false
alone_between sizes words views history i li (ghosts, h) alone =
    ap is_at_step (transfers_used sizes i (views i) (ghosts.ledgers i) (views i).calls.way alone (h.pools i li)).stage

-- it stands between two calls
pub alone_stage : (sizes : Sizes) (words : Words) (views : ProcessViews) (history : List Entry) (i : ℕ) → i < sizes.processes
    → Meets sizes words views history → (views i).calls.way ≡ Alone → (views i).calls.stage ≡ Between
alone_stage sizes words views history i li (ghosts, h) alone =
    (transfers_used sizes i (views i) (ghosts.ledgers i) (views i).calls.way alone (h.pools i li)).stage

-- a process at rest has nothing pending
pub rests_idle : (sizes : Sizes) (words : Words) (views : ProcessViews) (history : List Entry) (i : ℕ) → IsShape sizes → i < sizes.processes
    → Meets sizes words views history
    → (views i).transfer.next ≡ Rest → (views i).pool.plan.pending ≡ Idle
rests_idle sizes words views history i shape li (ghosts, h) rest =
    (keeps sizes words views history ghosts i shape li h).runs.kept.idle (rw rest refl)

-- tests of numbers, and of several conditions
few : (a b : ℕ) → nat_le a b ≡ true → a ≤ b
few a b t = grind (arith, nat_tests)

-- where a test says less, it is
pub less : (a b : ℕ) → nat_lt a b ≡ true → a < b
less a b t = grind (arith, nat_tests)

same : (a b : ℕ) → (a == b) ≡ true → a ≡ b
same a b t = grind (arith, nat_tests)

-- where both hold the first does
pub both_first : (a b : Bool) → (a && b) ≡ true → a ≡ true
both_first true b e = refl
both_first false b e = e

-- where both hold the second does
pub both_second : (a b : Bool) → (a && b) ≡ true → b ≡ true
both_second true b e = e
both_second false b e = absurd (grind arith)

-- a spare is a block
pub spare_is_block : (sizes : Sizes) (words : Words) (views : ProcessViews) (history : List Entry) (ghosts : Ghosts) (i place : ℕ)
    → IsShape sizes → i < sizes.processes
    → Holds sizes words views history ghosts → place < length (views i).pool.heads
    → slice_index (views i).pool.heads place < blocks sizes
spare_is_block sizes words views history ghosts i place shape li h lt =
    (heads_are_blocks sizes words (ghosts.states (state_tag words)) views (held_in ghosts.ledgers) shape h.chains).1 i place li lt

-- so a wish of a process at rest fits
pub wish_fits_at : (sizes : Sizes) (words : Words) (views : ProcessViews) (history : List Entry) (ghosts : Ghosts) (i : ℕ) (wish : Wish)
    → IsShape sizes → i < sizes.processes
    → Holds sizes words views history ghosts → may_wish wish (views i).pool ≡ true
    → FitsWish wish × MayBegin wish (views i).pool
wish_fits_at sizes words views history ghosts i Take shape li h may = (tt, few (views i).pool.plan.spares few_spares may)
wish_fits_at sizes words views history ghosts i (Give head) shape li h may =
    let heads = (views i).pool.heads in
    let last = length heads - 1 in
    let spares = (views i).pool.plan.spares in
    let any : 0 < length heads = less 0 (length heads)
    (both_first (nat_lt 0 (length heads)) (nat_le 1 spares && (slice_index heads last == head)) may) in
    let both = both_second (nat_lt 0 (length heads)) (nat_le 1 spares && (slice_index heads last == head)) may in
    let some : 1 ≤ spares = few 1 spares (both_first (nat_le 1 spares) (slice_index heads last == head) both) in
    let is : slice_index heads last ≡ head = same (slice_index heads last) head
    (both_second (nat_le 1 spares) (slice_index heads last == head) both) in
    let block = spare_is_block sizes words views history ghosts i last shape li h (omega arith) in
    let limit = shape.few_blocks in
    (rw (sym is) (omega arith), (omega arith, some, is))

-- a wish that may be made fits a word and may begin
pub wish_fits : (sizes : Sizes) (words : Words) (views : ProcessViews) (history : List Entry) (i : ℕ) (wish : Wish) → IsShape sizes
    → i < sizes.processes → Meets sizes words views history
    → (views i).transfer.next ≡ Rest → may_wish wish (views i).pool ≡ true → FitsWish wish × MayBegin wish (views i).pool
wish_fits sizes words views history i wish shape li (ghosts, h) rest may =
    wish_fits_at sizes words views history ghosts i wish shape li h may

-- what the test of a call says
pub uses_no_transfers : (way : Way) → may_use_calls way ≡ true → way ≢ Alone
uses_no_transfers Fresh e = λ is. grind arith
uses_no_transfers Alone e = λ is. grind arith
uses_no_transfers Calls e = λ is. grind arith

-- a call that may be made is none of a process of transfers alone
pub call_way : (sizes : Sizes) (holds : Bool) (call : Call) (v : ProcessView) → may_call sizes holds call v ≡ true → v.calls.way ≢ Alone
call_way sizes holds call v may =
    uses_no_transfers v.calls.way (both_first (may_use_calls v.calls.way) (is_young_for sizes call v && names_fit sizes holds call) may)

call_rest : (sizes : Sizes) (holds : Bool) (call : Call) (v : ProcessView) → may_call sizes holds call v ≡ true
    → (is_young_for sizes call v && names_fit sizes holds call) ≡ true
call_rest sizes holds call v may = both_second (may_use_calls v.calls.way) (is_young_for sizes call v && names_fit sizes holds call) may

age_by : (sizes : Sizes) (due : Pending) (age : ℕ) → (is_idle due || nat_lt age (most_age sizes)) ≡ true → due ≢ Idle
    → age < most_age sizes
age_by sizes Idle age e some = absurd (some refl)
age_by sizes Taking age e some = less age (most_age sizes) e
age_by sizes Giving age e some = less age (most_age sizes) e

young_by : (sizes : Sizes) (call : Call) (v : ProcessView) → is_young_for sizes call v ≡ true → IsYoungFor sizes call v
young_by sizes Allocate v e = age_by sizes (due v.pool.plan) v.transfer.age e
young_by sizes (Free block) v e = age_by sizes (due v.pool.plan) v.transfer.age e
young_by sizes (Read block index) v e = tt
young_by sizes (Write block index value) v e = tt
young_by sizes Search v e = less v.transfer.age (most_age sizes) e

-- it is young enough for its call
pub call_young : (sizes : Sizes) (holds : Bool) (call : Call) (v : ProcessView) → may_call sizes holds call v ≡ true
    → IsYoungFor sizes call v
call_young sizes holds call v may =
    young_by sizes call v (both_first (is_young_for sizes call v) (names_fit sizes holds call) (call_rest sizes holds call v may))

-- and names blocks and indices of the pool
pub call_names : (sizes : Sizes) (holds : Bool) (call : Call) (v : ProcessView) → may_call sizes holds call v ≡ true
    → names_fit sizes holds call ≡ true
call_names sizes holds call v may =
    both_second (is_young_for sizes call v) (names_fit sizes holds call) (call_rest sizes holds call v may)

-- a process between two calls can begin one
pub call_can : (sizes : Sizes) (words : Words) (views : ProcessViews) (history : List Entry) (ghosts : Ghosts) (i : ℕ) → IsShape sizes
    → i < sizes.processes → Holds sizes words views history ghosts
    → CanBegin (views i)
call_can sizes words views history ghosts i shape li h =
    let kept = keeps sizes words views history ghosts i shape li h in
    calls_can_begin sizes (views i) kept (λ three.
    let block = spare_is_block sizes words views history ghosts i (length (views i).pool.heads - 1) shape li h
    (omega (arith, three, kept.heads)) in
    let limit = shape.few_blocks in
    omega arith)

-- what a call asks of a view so that it can begin, each view of the invariant has
pub call_can_begin : (sizes : Sizes) (words : Words) (views : ProcessViews) (history : List Entry) (i : ℕ)
    → IsShape sizes → i < sizes.processes → Meets sizes words views history → CanBegin (views i)
call_can_begin sizes words views history i shape li (ghosts, h) = call_can sizes words views history ghosts i shape li h
