-- what a process may do that can make the next step of its call
use Rattle.std.proofs.Common.{◌≡◌, ◌≢◌, ℕ, ◌-◌, Bool, true, false, Some, arith, refl, sym, ap, ◌∙◌, subst}
use Rattle.std.specs.Prelude.{◌↔◌, nat_lt, if◌then◌else◌, Option, None}
use Rattle.std.proofs.lemmas.Bool.Decides.{nat_tests}
use Rattle.pool_machine.specs.Beginning.{newest}
use Rattle.block_pool.specs.Calls.{HasNoBlock}
use Rattle.std.proofs.lemmas.Bool.{false≢true}
use Rattle.word_layout.specs.Sizes.{Sizes}
use Rattle.transfer_schedule.specs.Numbers.{Numbers, source_of, target_of}
use Rattle.transfer_schedule.specs.declared.own_step.Source.{Source}
use Rattle.transfer_schedule.specs.declared.own_step.Source.TheVariants as source
use Rattle.transfer_schedule.specs.declared.own_step.Target.{Target}
use Rattle.transfer_schedule.specs.declared.own_step.Target.TheVariants as target
use Rattle.pool_machine.specs.Ready.{CanActCall, CanMeetCall, CanMove, CanOwn, CanOwnFor, CanMeetOwnFor, CanFollow, CanAllocate, CanFree}
use Rattle.pool_machine.specs.OwnSteps.{block_from, next_block, own_action_for, allocate_action, allocated, pool_own_met}
use Rattle.call_invariant.specs.Phases.{is_getting}
use Rattle.pool_machine.specs.declared.call.Call.{Call}
use Rattle.pool_machine.specs.declared.call.Call.TheVariants.{Allocate, Free, Read, Write, Search}
use Rattle.pool_machine.specs.declared.view.PoolView.{PoolView}
use Rattle.pool_machine.specs.declared.view.ProcessView.{ProcessView}
use Rattle.interleaving_core.specs.Steps.{is_alone, next_action, next_met}
use Rattle.pool_table.specs.declared.about.About.TheVariants.{InCall}
use Rattle.pool_table.specs.Turns.{turning}
use Rattle.pool_table.specs.Views.{SeatView}
use Rattle.pool_table.specs.Steps.{Stepped}
use Rattle.pool_table.proofs.Steps.{next_step_allowed}
use Rattle.block_pool.specs.declared.process.Process.{Process}
use Rattle.block_pool.specs.Running.{moving, owning, CanGo, IsMoving, IsOwning}

-- what its next step names is in range
pub can_act : (sizes : Sizes) (call : Call) (w : ProcessView) (v : SeatView) → CanGo sizes call w v → is_alone w.calls.way ≡ false
    → CanActCall sizes w
can_act sizes call w v go calls =
    let allowed = next_step_allowed sizes (InCall call) v go.can in
    let acts : is_alone (turning (InCall call) v.mind.view).calls.way ≡ false
    → CanActCall v.sizes (turning (InCall call) v.mind.view) = allowed.call_act in
    subst (λ z. CanActCall z w) go.can.shape ((rw go.view at acts) calls)

-- and so is what it makes of the view
pub can_meet : (sizes : Sizes) (call : Call) (w : ProcessView) (v x : SeatView) (word : ℕ) → CanGo sizes call w v
    → is_alone w.calls.way ≡ false → Stepped (InCall call) v word x → CanMeetCall sizes w word
can_meet sizes call w v x word go calls s =
    let meets : is_alone (turning (InCall call) v.mind.view).calls.way ≡ false
    → CanMeetCall v.sizes (turning (InCall call) v.mind.view) word = s.can_meet.call in
    subst (λ z. CanMeetCall z w word) go.can.shape ((rw go.view at meets) calls)

-- what its view becomes
pub becomes : (sizes : Sizes) (call : Call) (w : ProcessView) (v x : SeatView) (word : ℕ) → CanGo sizes call w v
    → Stepped (InCall call) v word x → x.mind.view ≡ next_met sizes w word
becomes sizes call w v x word go s =
    s.view ∙ (ap (λ z. next_met v.sizes z word) go.view ∙ ap (λ z. next_met z w word) go.can.shape)

-- a step of the transfer
pub can_move : (sizes : Sizes) (call : Call) (n : ℕ) (x : Process) → IsMoving sizes call n x → CanMove sizes (moving call n x)
can_move sizes call n x go = can_act sizes call (moving call n x) x.seat.view go refl

-- the own step
pub can_own : (sizes : Sizes) (call : Call) (n : ℕ) (x : Process) → IsOwning sizes call n x → CanOwn sizes (owning call n x)
can_own sizes call n x go = can_act sizes call (owning call n x) x.seat.view go refl

-- where the block of an allocate comes from, and goes to in a free, whatever its plan has become
can_take_with : (sizes : Sizes) (pool : PoolView) (plan : Numbers) (from : Source) → CanAllocate sizes pool from
    → CanAllocate sizes (record pool { plan = plan }) from
can_take_with sizes pool plan source.Current can = can
can_take_with sizes pool plan source.Spare can = can
can_take_with sizes pool plan source.Nothing can = can

-- what the own step of an allocate or of a search needs, does and leaves
pub getting_can : (sizes : Sizes) (pool : PoolView) (call : Call) → is_getting (Some call) ≡ true → CanOwnFor sizes pool (Some call)
    → CanAllocate sizes pool (source_of pool.plan)
getting_can sizes pool Allocate e can = can
getting_can sizes pool Search e can = can
getting_can sizes pool (Free block) e can = absurd (false≢true e)
getting_can sizes pool (Read block index) e can = absurd (false≢true e)
getting_can sizes pool (Write block index value) e can = absurd (false≢true e)

getting_acts : (pool : PoolView) (call : Call) → is_getting (Some call) ≡ true
    → own_action_for pool (Some call) ≡ allocate_action (next_block pool)
getting_acts pool Allocate e = refl
getting_acts pool Search e = refl
getting_acts pool (Free block) e = absurd (false≢true e)
getting_acts pool (Read block index) e = absurd (false≢true e)
getting_acts pool (Write block index value) e = absurd (false≢true e)

-- what the own step of an allocate or a search leaves of the private pool
pub getting_leaves : (word : ℕ) (pool : PoolView) (call : Call) → is_getting (Some call) ≡ true
    → pool_own_met word pool (Some call) ≡ allocated word pool (source_of pool.plan)
getting_leaves word pool Allocate e = refl
getting_leaves word pool Search e = refl
getting_leaves word pool (Free block) e = absurd (false≢true e)
getting_leaves word pool (Read block index) e = absurd (false≢true e)
getting_leaves word pool (Write block index value) e = absurd (false≢true e)

getting_follows : (word : ℕ) (pool : PoolView) (call : Call) → is_getting (Some call) ≡ true → CanMeetOwnFor pool word (Some call)
    → CanFollow word (source_of pool.plan)
getting_follows word pool Allocate e can = can
getting_follows word pool Search e can = can
getting_follows word pool (Free block) e can = absurd (false≢true e)
getting_follows word pool (Read block index) e can = absurd (false≢true e)
getting_follows word pool (Write block index value) e can = absurd (false≢true e)

-- at its own step the block can be taken from where the plan says
pub can_take : (sizes : Sizes) (call : Call) (n : ℕ) (x : Process) (plan : Numbers) (from : Source) → is_getting (Some call) ≡ true
    → IsOwning sizes call n x → from ≡ source_of x.pool.plan → CanAllocate sizes (record x.pool { plan = plan }) from
can_take sizes call n x plan from gets go e =
    can_take_with sizes x.pool plan from
    (subst (CanAllocate sizes x.pool) (sym e) (getting_can sizes x.pool call gets (can_own sizes call n x go)))

-- the action of the own step is that for the block that is to be had
pub gets_by : (sizes : Sizes) (call : Call) (n : ℕ) (x : Process) (v : SeatView) (from : Source) (block : Option ℕ)
    → is_getting (Some call) ≡ true → IsOwning sizes call n x → x.seat.view ≡ v → from ≡ source_of x.pool.plan
    → block ≡ block_from x.pool from
    → allocate_action block ≡ next_action sizes (turning (InCall call) v.mind.view)
gets_by sizes call n x v from block gets go seat e is =
    ap allocate_action (is ∙ ap (block_from x.pool) e)
    ∙ (sym (getting_acts x.pool call gets)
    ∙ (ap (next_action sizes) (sym go.view) ∙ ap (λ (z : SeatView). next_action sizes (turning (InCall call) z.mind.view)) seat))

-- the word that the own step meets can be followed where it is the next of the current list
pub follows_by : (sizes : Sizes) (call : Call) (n : ℕ) (x : Process) (y : SeatView) (from : Source) (word : ℕ)
    → is_getting (Some call) ≡ true → IsOwning sizes call n x → from ≡ source_of x.pool.plan → Stepped (InCall call) x.seat.view word y
    → CanFollow word from
follows_by sizes call n x y from word gets go e s =
    subst (CanFollow word) (sym e)
    (getting_follows word x.pool call gets (can_meet sizes call (owning call n x) x.seat.view y word go refl s))

-- a plan gives no block exactly where it has none
next_is : (pool : PoolView) (a b : Bool) → nat_lt 0 pool.plan.current ≡ a → nat_lt 0 pool.plan.spares ≡ b
    → next_block pool ≡ block_from pool (if a then source.Current else (if b then source.Spare else source.Nothing))
next_is pool a b e f =
    ap (λ k. block_from pool (if k then source.Current else (if nat_lt 0 pool.plan.spares then source.Spare else source.Nothing))) e
    ∙ ap (λ k. block_from pool (if a then source.Current else (if k then source.Spare else source.Nothing))) f

not_zero : (n : ℕ) → nat_lt 0 n ≡ true → n ≢ 0
not_zero n e = λ z. grind (arith, nat_tests)

is_zero : (n : ℕ) → nat_lt 0 n ≡ false → n ≡ 0
is_zero n e = grind (arith, nat_tests)

none_by : (pool : PoolView) (a b : Bool) → nat_lt 0 pool.plan.current ≡ a → nat_lt 0 pool.plan.spares ≡ b
    → (next_block pool ≡ None) ↔ HasNoBlock pool.plan
none_by pool true b e f = (
  (λ is. let got : Some (pool.head - 1) ≡ None = sym (next_is pool true b e f) ∙ is in absurd (cc)),
  (λ none. absurd (not_zero pool.plan.current e none.0)),
)
none_by pool false true e f = (
  (λ is. let got : Some (newest pool) ≡ None = sym (next_is pool false true e f) ∙ is in absurd (cc)),
  (λ none. absurd (not_zero pool.plan.spares f none.1)),
)
none_by pool false false e f = (
  (λ is. (is_zero pool.plan.current e, is_zero pool.plan.spares f)),
  (λ none. next_is pool false false e f),
)

-- there is no block exactly where the plan has none
pub gives_none : (pool : PoolView) (got : Option ℕ) → got ≡ next_block pool → (got ≡ None) ↔ HasNoBlock pool.plan
gives_none pool got is =
    let none = none_by pool (nat_lt 0 pool.plan.current) (nat_lt 0 pool.plan.spares) refl refl in
    ((λ e. none.0 (sym is ∙ e)), (λ e. is ∙ none.1 e))

can_put_with : (pool : PoolView) (plan : Numbers) (to : Target) → CanFree pool to → CanFree (record pool { plan = plan }) to
can_put_with pool plan target.Current can = can
can_put_with pool plan target.Fresh can = can

-- at the own step of a free the block can be put where the plan says
pub can_put : (sizes : Sizes) (n block : ℕ) (x : Process) (plan : Numbers) (to : Target) → IsOwning sizes (Free block) n x
    → to ≡ target_of x.pool.plan → CanFree (record x.pool { plan = plan }) to
can_put sizes n block x plan to go e =
    can_put_with x.pool plan to (subst (CanFree x.pool) (sym e) (can_own sizes (Free block) n x go).1)
