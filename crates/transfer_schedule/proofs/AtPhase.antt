-- What holds of an account in each phase, and what follows of every account that stands.
use Rattle.std.proofs.Common.{◌≡◌, ℕ, ◌+◌, ◌-◌, ◌*◌, ◌<◌, ◌≤◌, Bool, true, false, sym, refl, ◌∙◌, ap, subst, inl, inr}
use Rattle.std.proofs.Common.{arith}
use Rattle.std.proofs.lemmas.Bool.{cases_eq, false≢true}
use Rattle.std.proofs.lemmas.Bool.Decides.{nat_tests}
use Rattle.transfer_schedule.specs.declared.own_step.Source.TheVariants.{Nothing}
use Rattle.transfer_schedule.specs.declared.pending.Pending.{Pending}
use Rattle.transfer_schedule.specs.declared.pending.Pending.TheVariants.{Giving}
use Rattle.transfer_schedule.specs.Numbers.{Numbers, AreSizes, is_idle, is_taking, is_giving}
use Rattle.transfer_schedule.specs.Numbers.{source_of, stock}
use Rattle.transfer_schedule.specs.Table.{InTable}
use Rattle.transfer_schedule.specs.Account.{CallPhase, Between, Moving, Own, Seeking, Choosing, Sought, Leaving, Clearing, Shedding}
use Rattle.transfer_schedule.specs.Account.{Resting, Joining, Returning, Account, moves_in, asks_in}
use Rattle.transfer_schedule.specs.Laws.{RestsWithFour, WithholdsFive, IsSound, EndsInTime, GivesLeaveBatch, CountsSteps}
use Rattle.transfer_schedule.specs.Laws.{BeginsShort, RefusesSoon, serves, SoundWhileServing, MissesNow, FoundNothing, IsCleared}
use Rattle.transfer_schedule.specs.Laws.{RestsCleared, is_at_rest}
use Rattle.transfer_schedule.specs.Laws.{WaitsAnnounced, JustBegun, PendsWhileMoving, is_still, IdlesWhileStill}
use Rattle.transfer_schedule.proofs.Products.{times_le, quantum_some}
use Rattle.transfer_schedule.proofs.Operations.{no_steps}
use Rattle.transfer_schedule.proofs.Operations.{busy_not_idle, not_idle_busy, idle_is}
use Rattle.transfer_schedule.proofs.Standing.{Standing, Ready}
use Rattle.transfer_schedule.proofs.Standing.{young, young_ready, nothing_dry}
use Rattle.transfer_schedule.proofs.Spared.{Spared, spared_standing, spared_ready, spared_table, spared_rests, spared_withholds}

-- the facts of an account between two calls: a pending transfer began before the last entry
pub record Waits (a : Account) : Type 0 where
  pub standing : Standing a.plan 0 a.entries a.begun a.ended
  pub late : is_idle a.plan.pending ≡ false → a.begun < a.entries

-- of one whose call has made transfer steps
pub record Moves (made : ℕ) (a : Account) : Type 0 where
  pub standing : Standing a.plan made a.entries a.begun a.ended
  pub busy : is_idle a.plan.pending ≡ false
  pub few : made < a.plan.quantum

-- at the transfer of a search or of a retire, which a search may have begun after the last entry
pub record Seeks (chosen : Bool) (a : Account) : Type 0 where
  pub made : ℕ
  pub standing : Standing a.plan made a.entries a.begun a.ended
  pub busy : is_idle a.plan.pending ≡ false
  pub now : chosen ≡ true → a.begun ≡ a.entries

-- in a search, with the transfer that it met ended
pub record Chooses (a : Account) : Type 0 where
  pub standing : Standing a.plan 0 a.entries a.begun a.ended
  pub idle : is_idle a.plan.pending ≡ true

-- in a search, before its own step
pub record Looks (a : Account) : Type 0 where
  pub ready : Ready a.plan a.entries a.begun a.ended
  pub now : source_of a.plan ≡ Nothing → (a.plan.dry ≡ true) × (a.ended ≡ a.entries)

-- in a retire, with nothing pending
pub record Clears (a : Account) : Type 0 where
  pub sizes : AreSizes a.plan.length a.plan.bound a.plan.quantum
  pub room : a.plan.current ≤ a.plan.length
  pub spares : a.plan.spares ≤ 3
  pub idle : is_idle a.plan.pending ≡ true

-- at a give of its own
pub record Sheds (a : Account) : Type 0 where
  pub sizes : AreSizes a.plan.length a.plan.bound a.plan.quantum
  pub room : a.plan.current ≤ a.plan.length
  pub spares : a.plan.spares ≤ 2
  pub giving : is_giving a.plan.pending ≡ true
  pub now : a.begun ≡ a.entries

-- at rest, and in an enlist before its take
pub record Reposes (a : Account) : Type 0 where
  pub sizes : AreSizes a.plan.length a.plan.bound a.plan.quantum
  pub idle : is_idle a.plan.pending ≡ true
  pub none : a.plan.spares ≡ 0
  pub few : a.plan.current < a.plan.length
  pub broken : a.unbroken ≡ false

-- at its take
pub record Comes (a : Account) : Type 0 where
  pub sizes : AreSizes a.plan.length a.plan.bound a.plan.quantum
  pub taking : is_taking a.plan.pending ≡ true
  pub none : a.plan.spares ≡ 0
  pub few : a.plan.current < a.plan.length
  pub now : a.begun ≡ a.entries
  pub broken : a.unbroken ≡ false

-- the facts of an account in each phase
abbrev pub AtPhase : CallPhase → Account → Type 0
AtPhase Between a = Waits a
AtPhase (Moving made) a = Moves made a
AtPhase Own a = Ready a.plan a.entries a.begun a.ended
AtPhase (Seeking chosen) a = Seeks chosen a
AtPhase Choosing a = Chooses a
AtPhase Sought a = Looks a
AtPhase Leaving a = Seeks false a
AtPhase Clearing a = Clears a
AtPhase Shedding a = Sheds a
AtPhase Resting a = Reposes a
AtPhase Joining a = Reposes a
AtPhase Returning a = Comes a

-- the facts of an account at its phase, and that its stock and what was got are two batches above what was given back
pub record Stands (a : Account) : Type 0 where
  pub at_phase : AtPhase a.phase a
  pub held : a.unbroken ≡ true → a.backs ≤ a.gots
  pub net : serves a.phase ≡ true → a.unbroken ≡ true → 2 * a.plan.length + a.backs ≤ stock a.plan + a.gots

-- the facts of its phase, of an account that stands
pub at : (phase : CallPhase) (a : Account) → a.phase ≡ phase → Stands a → AtPhase phase a
at phase a e s = subst (λ p. AtPhase p a) e s.at_phase

-- what needs a test that fails holds
pub no_net : {A : Type 0} → false ≡ true → A
no_net e = absurd (false≢true e)

-- the sizes have a quantum of at least one step
pub some_of : (x : Numbers) → AreSizes x.length x.bound x.quantum → 0 < x.quantum
some_of x sizes = quantum_some x.length x.bound x.quantum sizes.some sizes.soon

-- a fact of every reached account, by what holds in each phase
record Facts (Fact : Account → Type 0) (a : Account) : Type 0 where
  standing : (made : ℕ) → Standing a.plan made a.entries a.begun a.ended → Fact a
  ready : Ready a.plan a.entries a.begun a.ended → Fact a
  clears : Clears a → Fact a
  sheds : Sheds a → Fact a
  reposes : Reposes a → Fact a
  comes : Comes a → Fact a

by_phase : (Fact : Account → Type 0) (a : Account) → Stands a → Facts Fact a → Fact a
by_phase Fact a s f = go a.phase refl
  where
    go : (phase : CallPhase) → a.phase ≡ phase → Fact a
    go Between e = f.standing 0 (let w = at Between a e s in w.standing)
    go (Moving made) e = f.standing made (let m = at (Moving made) a e s in m.standing)
    go Own e = f.ready (at Own a e s)
    go (Seeking chosen) e = (let m = at (Seeking chosen) a e s in f.standing m.made m.standing)
    go Choosing e = f.standing 0 (let m = at Choosing a e s in m.standing)
    go Sought e = f.ready (let l = at Sought a e s in l.ready)
    go Leaving e = (let m = at Leaving a e s in f.standing m.made m.standing)
    go Clearing e = f.clears (at Clearing a e s)
    go Shedding e = f.sheds (at Shedding a e s)
    go Resting e = f.reposes (at Resting a e s)
    go Joining e = f.reposes (at Joining a e s)
    go Returning e = f.comes (at Returning a e s)

-- while a process serves, its plan stands or is ready for an own step
by_service : (Fact : Account → Type 0) (a : Account) → Stands a → serves a.phase ≡ true
    → ((made : ℕ) → Standing a.plan made a.entries a.begun a.ended → Fact a)
    → (Ready a.plan a.entries a.begun a.ended → Fact a) → Fact a
by_service Fact a s serving standing ready = go a.phase refl
  where
    go : (phase : CallPhase) → a.phase ≡ phase → Fact a
    go Between e = standing 0 (let w = at Between a e s in w.standing)
    go (Moving made) e = standing made (let m = at (Moving made) a e s in m.standing)
    go Own e = ready (at Own a e s)
    go (Seeking chosen) e = (let m = at (Seeking chosen) a e s in standing m.made m.standing)
    go Choosing e = standing 0 (let m = at Choosing a e s in m.standing)
    go Sought e = ready (let l = at Sought a e s in l.ready)
    go Leaving e = no_net (ap serves (sym e) ∙ serving)
    go Clearing e = no_net (ap serves (sym e) ∙ serving)
    go Shedding e = no_net (ap serves (sym e) ∙ serving)
    go Resting e = no_net (ap serves (sym e) ∙ serving)
    go Joining e = no_net (ap serves (sym e) ∙ serving)
    go Returning e = no_net (ap serves (sym e) ∙ serving)

sound_standing : (a : Account) (made : ℕ)
    → Standing a.plan made a.entries a.begun a.ended
    → (a.unbroken ≡ true → 2 * a.plan.length + a.backs ≤ stock a.plan + a.gots)
    → IsSound a
sound_standing a made s net = grind (arith, nat_tests)

sound_ready : (a : Account) → Ready a.plan a.entries a.begun a.ended
    → (a.unbroken ≡ true → 2 * a.plan.length + a.backs ≤ stock a.plan + a.gots) → IsSound a
sound_ready a r net = grind (arith, nat_tests)

-- a process that serves knows of its own pool how much it keeps, and why that is little
pub stands_sound : (a : Account) → Stands a → SoundWhileServing a
stands_sound a s serving =
    by_service IsSound a s serving (λ made t. sound_standing a made t (s.net serving)) (λ r. sound_ready a r (s.net serving))

-- the bounds on spares and kept blocks
standing_spared : (a : Account) (made : ℕ) → Standing a.plan made a.entries a.begun a.ended → Spared a.plan (a.entries - a.begun)
standing_spared a made t =
    subst (λ x. Spared x (a.entries - a.begun)) (no_steps a.plan) (spared_standing a.plan 0 made a.entries a.begun a.ended t)

clears_table : (a : Account) → Clears a → InTable a.plan
clears_table a c = grind (arith, nat_tests)

sheds_table : (a : Account) → Sheds a → InTable a.plan
sheds_table a c = grind (arith, nat_tests)

reposes_table : (a : Account) → Reposes a → InTable a.plan
reposes_table a c = grind (arith, nat_tests)

comes_table : (a : Account) → Comes a → InTable a.plan
comes_table a c = grind (arith, nat_tests)

-- the table of spares holds
pub stands_table : (a : Account) → Stands a → InTable a.plan
stands_table a s = by_phase (λ a. InTable a.plan) a s (record {
  standing = λ made t. spared_table a.plan (a.entries - a.begun) (standing_spared a made t);
  ready = λ r. spared_table a.plan (a.entries - a.begun) (spared_ready a.plan a.entries a.begun a.ended r);
  clears = clears_table a;
  sheds = sheds_table a;
  reposes = reposes_table a;
  comes = comes_table a;
})

clears_rests : (a : Account) → Clears a → RestsWithFour a.plan
clears_rests a c idle = let k = ap is_idle idle in grind (arith, nat_tests, times_le a.plan.length a.plan.spares 3)

sheds_rests : (a : Account) → Sheds a → RestsWithFour a.plan
sheds_rests a c idle = let k = ap is_giving idle in grind (arith, nat_tests)

reposes_rests : (a : Account) → Reposes a → RestsWithFour a.plan
reposes_rests a c idle = grind (arith, nat_tests)

comes_rests : (a : Account) → Comes a → RestsWithFour a.plan
comes_rests a c idle = let k = ap is_taking idle in grind (arith, nat_tests)

-- with nothing pending at most four batches are kept
pub stands_rests : (a : Account) → Stands a → RestsWithFour a.plan
stands_rests a s = by_phase (λ a. RestsWithFour a.plan) a s (record {
  standing = λ made t. spared_rests a.plan (a.entries - a.begun) (standing_spared a made t);
  ready = λ r. spared_rests a.plan (a.entries - a.begun) (spared_ready a.plan a.entries a.begun a.ended r);
  clears = clears_rests a;
  sheds = sheds_rests a;
  reposes = reposes_rests a;
  comes = comes_rests a;
})

clears_withholds : (a : Account) → Clears a → WithholdsFive a.plan
clears_withholds a c = grind (arith, nat_tests, times_le a.plan.length a.plan.spares 3)

sheds_withholds : (a : Account) → Sheds a → WithholdsFive a.plan
sheds_withholds a c = grind (arith, nat_tests, times_le a.plan.length a.plan.spares 2)

reposes_withholds : (a : Account) → Reposes a → WithholdsFive a.plan
reposes_withholds a c = grind (arith, nat_tests)

comes_withholds : (a : Account) → Comes a → WithholdsFive a.plan
comes_withholds a c = grind (arith, nat_tests)

-- at most five batches are withheld
pub stands_withholds : (a : Account) → Stands a → WithholdsFive a.plan
stands_withholds a s = by_phase (λ a. WithholdsFive a.plan) a s (record {
  standing = λ made t. spared_withholds a.plan (a.entries - a.begun) (standing_spared a made t);
  ready = λ r. spared_withholds a.plan (a.entries - a.begun) (spared_ready a.plan a.entries a.begun a.ended r);
  clears = clears_withholds a;
  sheds = sheds_withholds a;
  reposes = reposes_withholds a;
  comes = comes_withholds a;
})

clears_idle : (a : Account) → Clears a → EndsInTime a
clears_idle a c busy = absurd (busy (idle_is a.plan.pending c.idle))

-- a pending transfer is in its first calls, fewer than a batch has blocks
pub stands_in_time : (a : Account) → Stands a → EndsInTime a
stands_in_time a s = by_phase EndsInTime a s (record {
  standing = λ made t busy. omega (arith, young a.plan made a.entries a.begun a.ended t (not_idle_busy a.plan.pending busy));
  ready = λ r busy. omega (arith, young_ready a.plan a.entries a.begun a.ended r (not_idle_busy a.plan.pending busy));
  clears = clears_idle a;
  sheds = λ c busy. omega (arith, c.now, c.sizes.long);
  reposes = λ r busy. absurd (busy (idle_is a.plan.pending r.idle));
  comes = λ c busy. omega (arith, c.now, c.sizes.long);
})

-- a give leaves more than a batch
pub stands_gives : (a : Account) → Stands a → GivesLeaveBatch a
stands_gives a s serving = by_service (λ a. a.plan.pending ≡ Giving → a.plan.length < stock a.plan) a s serving
    (λ made t giving. omega (
      arith,
      t.give_stock (ap is_giving giving),
      young a.plan made a.entries a.begun a.ended t (ap is_idle giving),
    ))
    (λ r giving. omega (arith, r.give_stock (ap is_giving giving), young_ready a.plan a.entries a.begun a.ended r (ap is_idle giving)))

-- each call before this one has made a whole quantum of steps of the pending transfer
pub stands_counts : (a : Account) → Stands a → CountsSteps a
stands_counts a s = record {
  pending = λ made e. let m = at (Moving made) a e s in busy_not_idle a.plan.pending m.busy;
  few = λ made e. let m = at (Moving made) a e s in m.few;
  done = λ made e. let m = at (Moving made) a e s in m.standing.done_now m.busy;
}

-- a take begins short only soon after one that found nothing
pub stands_begins : (a : Account) → Stands a → BeginsShort a
stands_begins a s e idle taking short =
    let w = at Between a e s in
    let t = w.standing in
    let rest = ap is_idle idle in
    record { dry = t.idle_dry rest (omega arith); recent = t.idle_recent rest (omega arith) }

-- an allocate is refused only soon after a take that found nothing
pub stands_refuses : (a : Account) → Stands a → RefusesSoon a
stands_refuses a s e none =
    let n = nothing_dry a.plan a.entries a.begun a.ended (at Own a e s) none in
    record { dry = n.0; recent = omega (arith, n.1) }

-- a search is refused only after a take of its own that found nothing
pub stands_misses : (a : Account) → Stands a → MissesNow a
stands_misses a s e none = let l = at Sought a e s in let n = l.now none in record { dry = n.0; recent = omega (arith, n.1) }

-- an allocate or a search
pub asks_serves : (phase : CallPhase) → asks_in phase ≡ true → serves phase ≡ true
asks_serves Own asks = refl
asks_serves Sought asks = refl
asks_serves Between asks = no_net asks
asks_serves (Moving made) asks = no_net asks
asks_serves (Seeking chosen) asks = no_net asks
asks_serves Choosing asks = no_net asks
asks_serves Leaving asks = no_net asks
asks_serves Clearing asks = no_net asks
asks_serves Shedding asks = no_net asks
asks_serves Resting asks = no_net asks
asks_serves Joining asks = no_net asks
asks_serves Returning asks = no_net asks

-- either is refused only soon after a take that found nothing
pub stands_refused : (a : Account) → Stands a → (phase : CallPhase) → a.phase ≡ phase → asks_in phase ≡ true → source_of a.plan ≡ Nothing
    → FoundNothing (2 * a.plan.length - 2) a
stands_refused a s Own e asks none = stands_refuses a s e none
stands_refused a s Sought e asks none =
    let n : FoundNothing 0 a = stands_misses a s e none in record { dry = n.dry; recent = omega (arith, n.recent) }
stands_refused a s Between e asks none = no_net asks
stands_refused a s (Moving made) e asks none = no_net asks
stands_refused a s (Seeking chosen) e asks none = no_net asks
stands_refused a s Choosing e asks none = no_net asks
stands_refused a s Leaving e asks none = no_net asks
stands_refused a s Clearing e asks none = no_net asks
stands_refused a s Shedding e asks none = no_net asks
stands_refused a s Resting e asks none = no_net asks
stands_refused a s Joining e asks none = no_net asks
stands_refused a s Returning e asks none = no_net asks

cleared_at_rest : (a : Account) → Reposes a → IsCleared a
cleared_at_rest a r = record { idle = idle_is a.plan.pending r.idle; none = r.none; few = r.few }

-- a retired process keeps less than a batch, and nothing is pending
pub stands_rested : (a : Account) → Stands a → RestsCleared a
stands_rested a s rest = go a.phase refl rest
  where
    go : (phase : CallPhase) → a.phase ≡ phase → is_at_rest phase ≡ true → IsCleared a
    go Resting e rest = cleared_at_rest a (at Resting a e s)
    go Joining e rest = cleared_at_rest a (at Joining a e s)
    go Between e rest = no_net rest
    go (Moving made) e rest = no_net rest
    go Own e rest = no_net rest
    go (Seeking chosen) e rest = no_net rest
    go Choosing e rest = no_net rest
    go Sought e rest = no_net rest
    go Leaving e rest = no_net rest
    go Clearing e rest = no_net rest
    go Shedding e rest = no_net rest
    go Returning e rest = no_net rest

-- nothing is pending where a search chooses, where a retire clears, and at rest
pub stands_still : (a : Account) → Stands a → IdlesWhileStill a
stands_still a s still = go a.phase refl still
  where
    go : (phase : CallPhase) → a.phase ≡ phase → is_still phase ≡ true → is_idle a.plan.pending ≡ true
    go Choosing e still = (let c = at Choosing a e s in c.idle)
    go Clearing e still = (let c = at Clearing a e s in c.idle)
    go Resting e still = (let r = at Resting a e s in r.idle)
    go Joining e still = (let r = at Joining a e s in r.idle)
    go Between e still = no_net still
    go (Moving made) e still = no_net still
    go Own e still = no_net still
    go (Seeking chosen) e still = no_net still
    go Sought e still = no_net still
    go Leaving e still = no_net still
    go Shedding e still = no_net still
    go Returning e still = no_net still

-- between two calls a pending transfer has made a step
some_done : (quantum entries begun done : ℕ) → 0 < quantum → begun < entries → done ≡ quantum * (entries - begun) + 0 → 1 ≤ done
some_done quantum entries begun done some late is = omega (arith, times_le quantum 1 (entries - begun) (omega arith))

-- between two calls a pending transfer has made a step
pub stands_waits : (a : Account) → Stands a → WaitsAnnounced a
stands_waits a s e pends =
    let w = at Between a e s in
    let busy = not_idle_busy a.plan.pending pends in
    some_done a.plan.quantum a.entries a.begun a.plan.done (some_of a.plan w.standing.sizes) (w.late busy) (w.standing.done_now busy)

-- a transfer that moves and has made no step has just begun
none_done : (quantum made entries begun : ℕ) → 0 < quantum → 0 ≡ quantum * (entries - begun) + made → begun ≤ entries → entries ≡ begun
none_done quantum made entries begun some none le = elim (cases_eq (entries - begun) 0) [
  | inl e ↦ omega arith
  | inr more ↦ absurd (omega (arith, times_le quantum 1 (entries - begun) (omega arith)))
]

fresh_standing : (a : Account) (made : ℕ) → Standing a.plan made a.entries a.begun a.ended → is_idle a.plan.pending ≡ false
    → a.plan.done ≡ 0 → a.entries ≡ a.begun
fresh_standing a made t busy none =
    none_done a.plan.quantum made a.entries a.begun (some_of a.plan t.sizes) (sym none ∙ t.done_now busy) (t.begun_before busy)

-- a transfer that moves and has made no step began after the last entry
pub stands_begun : (a : Account) → Stands a → JustBegun a
stands_begun a s moving none = go a.phase refl moving
  where
    go : (phase : CallPhase) → a.phase ≡ phase → moves_in phase ≡ true → a.entries ≡ a.begun
    go Between e moving = no_net moving
    go (Moving made) e moving = (let m = at (Moving made) a e s in fresh_standing a made m.standing m.busy none)
    go Own e moving = no_net moving
    go (Seeking chosen) e moving = (let m = at (Seeking chosen) a e s in fresh_standing a m.made m.standing m.busy none)
    go Choosing e moving = no_net moving
    go Sought e moving = no_net moving
    go Leaving e moving = (let m = at Leaving a e s in fresh_standing a m.made m.standing m.busy none)
    go Clearing e moving = no_net moving
    go Shedding e moving = (let m = at Shedding a e s in sym m.now)
    go Resting e moving = no_net moving
    go Joining e moving = no_net moving
    go Returning e moving = (let m = at Returning a e s in sym m.now)

busy_giving : (p : Pending) → is_giving p ≡ true → is_idle p ≡ false
busy_giving p e = grind arith

busy_taking : (p : Pending) → is_taking p ≡ true → is_idle p ≡ false
busy_taking p e = grind arith

-- a transfer is pending in each phase in which one moves
pub stands_pends : (a : Account) → Stands a → PendsWhileMoving a
stands_pends a s moving = go a.phase refl moving
  where
    go : (phase : CallPhase) → a.phase ≡ phase → moves_in phase ≡ true → is_idle a.plan.pending ≡ false
    go Between e moving = no_net moving
    go (Moving made) e moving = (let m = at (Moving made) a e s in m.busy)
    go Own e moving = no_net moving
    go (Seeking chosen) e moving = (let m = at (Seeking chosen) a e s in m.busy)
    go Choosing e moving = no_net moving
    go Sought e moving = no_net moving
    go Leaving e moving = (let m = at Leaving a e s in m.busy)
    go Clearing e moving = no_net moving
    go Shedding e moving = (let m = at Shedding a e s in busy_giving a.plan.pending m.giving)
    go Resting e moving = no_net moving
    go Joining e moving = no_net moving
    go Returning e moving = (let m = at Returning a e s in busy_taking a.plan.pending m.taking)
