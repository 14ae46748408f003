-- whole calls: how they begin and how they end
use Rattle.std.proofs.lemmas.Bool.{false≢true}
use Rattle.std.proofs.Common.{◌≡◌, ◌≢◌, ℕ, ◌<◌, Bool, true, false, List, [], ◌∷◌, ◌++◌, refl, sym, ap, ◌∙◌, subst, arith}
use Rattle.std.specs.Prelude.{◌&&◌, ◌||◌, nat_lt, if◌then◌else◌, Option, None, Some, Contains}
use Rattle.std.proofs.lemmas.Bool.Decides.{nat_tests}
use Rattle.word_layout.specs.Sizes.{Sizes}
use Rattle.word_layout.specs.Packing.{most_age}
use Rattle.word_layout.specs.declared.announced.Wish.{Wish}
use Rattle.pool_model.specs.declared.entry.Entry.{Entry}
use Rattle.pool_model.specs.declared.entry.Entry.TheVariants.{Back}
use Rattle.transfer_schedule.specs.Numbers.{Numbers, is_idle, after_choice}
use Rattle.transfer_schedule.specs.Numbers as numbers
use Rattle.transfer_schedule.specs.declared.pending.Pending.{Pending}
use Rattle.transfer_schedule.specs.declared.pending.Pending.TheVariants.{Idle, Taking, Giving}
use Rattle.transfer_schedule.proofs.Operations.{choice_sizes}
use Rattle.transfer_machine.specs.declared.transfer.TransferView.{TransferView}
use Rattle.transfer_machine.specs.declared.kind.Kind.{Kind}
use Rattle.pool_machine.specs.Beginning.{due, begun_if_due, before_call, first_stage, entered, call_begun}
use Rattle.pool_machine.specs.Conditions.{HasAgeFor, has_age_for, may_call, may_use_calls, is_young_for, names_fit}
use Rattle.pool_machine.specs.OwnSteps.{own_answer_for, own_kind_for, next_block, allocate_answer, allocate_kind}
use Rattle.call_invariant.specs.Phases.{is_getting}
use Rattle.pool_machine.specs.Ready.{CanBegin}
use Rattle.pool_machine.specs.Steps.{happened}
use Rattle.pool_machine.specs.declared.call.Call.{Call}
use Rattle.pool_machine.specs.declared.call.Call.TheVariants.{Allocate, Free, Read, Write, Search}
use Rattle.pool_machine.specs.declared.call.CallStage.TheVariants.{Between, Moving, Own}
use Rattle.pool_machine.specs.declared.call.CallView.{CallView}
use Rattle.pool_machine.specs.declared.view.PoolView.{PoolView}
use Rattle.pool_machine.specs.declared.view.ProcessView.{ProcessView}
use Rattle.pool_machine.proofs.Plans.{choice_is_the_plans}
use Rattle.interleaving_core.specs.Invariant.{BlockIsHeld}
use Rattle.interleaving_core.specs.Moves.{may_go, may_start_at, calling_view}
use Rattle.interleaving_core.specs.Runs.{entries_of}
use Rattle.interleaving_core.specs.Steps.{is_at_step, next_answer}
use Rattle.interleaving_core.proofs.CallLawsData.{begun_first}
use Rattle.pool_table.specs.declared.about.About.TheVariants.{InCall}
use Rattle.pool_table.specs.Minds.{number_of, entries_in, held_in}
use Rattle.pool_table.specs.Turns.{turning, words_by_call, words_known_after}
use Rattle.pool_table.specs.Views.{SeatView}
use Rattle.pool_table.specs.Steps.{SeenAfter, Stepped}
use Rattle.pool_table.proofs.Ready.{seat_can_begin, call_can_step}
use Rattle.block_pool.specs.declared.process.Process.{Process}
use Rattle.block_pool.specs.Passing.{BetweenCalls}
use Rattle.block_pool.specs.Running.{calling, owning, beginning, CanBeginDue, transfer_begun, pool_begun_by, CanGo, IsOwning}
use Rattle.block_pool.specs.Moves.{MovedOn}
use Rattle.block_pool.specs.Owning.{OwnMade}
use Rattle.block_pool.specs.Calls.{CallMade, entry_for}
use Rattle.block_pool.proofs.Going.{becomes}
use Rattle.block_pool.proofs.Standing.{plan_quantum}

-- the transfer that is due can begin
can_begin : (sizes : Sizes) (x : Process) → BetweenCalls sizes x → CanBegin x.seat.view.mind.view
can_begin sizes x f = seat_can_begin x.seat.view f.among f.of_process

-- between two calls the transfer that is due can begin
pub due_begins : (sizes : Sizes) (x : Process) → BetweenCalls sizes x → CanBeginDue x.pool
due_begins sizes x f =
    let begins = can_begin sizes x f in
    subst CanBeginDue f.pool (record { heads = begins.heads; fits = begins.fits })

-- a process between two calls may begin one
both_hold : (a b c : Bool) → a ≡ true → b ≡ true → c ≡ true → (a && (b && c)) ≡ true
both_hold a b c e f g = rw (e, f, g) refl

may_begin : (sizes : Sizes) (call : Call) (v : ProcessView) → v.calls.stage ≡ Between → may_call sizes true call v ≡ true
    → may_go sizes true call v ≡ true
may_begin sizes call v e may =
    ap (λ stage. is_at_step stage || may_start_at stage sizes true call v) e ∙ may

-- a call whose names are in range, of a block that its caller holds, begins from between two calls where its process has the age for it
pub call_starts : (sizes : Sizes) (call : Call) (x : Process) → BetweenCalls sizes x → is_young_for sizes call x.seat.view.mind.view ≡ true
    → names_fit sizes true call ≡ true → BlockIsHeld (held_in x.seat.view.mind) call
    → CanGo sizes call (call_begun call x.seat.view.mind.view) x.seat.view
call_starts sizes call x f young names held =
    let v = x.seat.view in
    let may = both_hold (may_use_calls v.mind.view.calls.way) (is_young_for sizes call v.mind.view) (names_fit sizes true call)
    f.way young names in
    record {
      can = call_can_step sizes call v f.of_process f.shape f.among (may_begin sizes call v.mind.view f.between may) held;
      view = begun_first call v.mind.view f.between;
    }

-- the test `<` on numbers answers true where it holds
pub low_test : (a b : ℕ) → a < b → nat_lt a b ≡ true
low_test a b lt = grind (arith, nat_tests)

age_test : (sizes : Sizes) (due : Pending) (age : ℕ) → (due ≢ Idle → age < most_age sizes)
    → (is_idle due || nat_lt age (most_age sizes)) ≡ true
age_test sizes Idle age young = refl
age_test sizes Taking age young = low_test age (most_age sizes) (young (λ e. grind arith))
age_test sizes Giving age young = low_test age (most_age sizes) (young (λ e. grind arith))

young_test : (sizes : Sizes) (x : Process) → BetweenCalls sizes x → HasAgeFor sizes x.pool.plan x.transfer.age
    → has_age_for sizes x.seat.view.mind.view.pool.plan x.seat.view.mind.view.transfer.age ≡ true
young_test sizes x f young =
    ap (λ (p : PoolView). has_age_for sizes p.plan x.seat.view.mind.view.transfer.age) f.pool
    ∙ (ap (λ (t : TransferView). has_age_for sizes x.pool.plan t.age) f.transfer
    ∙ age_test sizes (numbers.due x.pool.plan) x.transfer.age young)

-- an allocate or a free begins with what is due
pub begun_parts : (call : Call) (d : Option Wish) (t : TransferView) (p : PoolView) (calls : CallView)
    → (let v : ProcessView = begun_if_due d (record { transfer = t; pool = p; calls = calls }) in entered call (first_stage v) v)
    ≡ record {
      transfer = transfer_begun d t;
      pool = pool_begun_by d p;
      calls = calling (if is_idle (pool_begun_by d p).plan.pending then Own else Moving) call 0;
    }
begun_parts call None t p calls = refl
begun_parts call (Some wish) t p calls = refl

-- a call that can begin stands, in the running parts, where the transfer that is due has begun
pub starts_there : (sizes : Sizes) (call : Call) (x y : Process)
    → x.seat.view.mind.view.transfer ≡ x.transfer → x.seat.view.mind.view.pool ≡ x.pool
    → y.seat ≡ x.seat → y.transfer ≡ transfer_begun (due x.pool) x.transfer → y.pool ≡ pool_begun_by (due x.pool) x.pool
    → (let v : ProcessView = before_call x.seat.view.mind.view in CanGo sizes call (entered call (first_stage v) v) x.seat.view)
    → CanGo sizes call (beginning call y) y.seat.view
starts_there sizes call x y own_transfer own_pool seat transfer pool go =
    let v = x.seat.view.mind.view in
    let parts : TransferView → PoolView → ProcessView = λ t p. record {
      transfer = t;
      pool = p;
      calls = calling (if is_idle p.plan.pending then Own else Moving) call 0;
    } in
    let same : (let w : ProcessView = before_call v in entered call (first_stage w) w) ≡ beginning call y =
    begun_parts call (due v.pool) v.transfer v.pool v.calls
    ∙ (ap (λ (t : TransferView). parts (transfer_begun (due v.pool) t) (pool_begun_by (due v.pool) v.pool)) own_transfer
    ∙ (ap (λ (p : PoolView). parts (transfer_begun (due p) x.transfer) (pool_begun_by (due p) p)) own_pool
    ∙ (ap (λ (t : TransferView). parts t (pool_begun_by (due x.pool) x.pool)) (sym transfer)
    ∙ ap (λ (p : PoolView). parts y.transfer p) (sym pool)))) in
    let there = subst (λ w. CanGo sizes call w x.seat.view) same go in
    subst (λ s. CanGo sizes call (beginning call y) s.view) (sym seat) there

-- an allocate can begin between two calls, where its pass has the age for the transfer that is due
pub allocate_starts : (sizes : Sizes) (x y : Process) → BetweenCalls sizes x → HasAgeFor sizes x.pool.plan x.transfer.age
    → y.seat ≡ x.seat → y.transfer ≡ transfer_begun (due x.pool) x.transfer → y.pool ≡ pool_begun_by (due x.pool) x.pool
    → CanGo sizes Allocate (beginning Allocate y) y.seat.view
allocate_starts sizes x y f young seat transfer pool =
    starts_there sizes Allocate x y f.transfer f.pool seat transfer pool (call_starts sizes Allocate x f
    (young_test sizes x f young) refl tt)

-- and so can a free of a block that the process holds
pub free_starts : (sizes : Sizes) (block : ℕ) (x y : Process) → BetweenCalls sizes x → HasAgeFor sizes x.pool.plan x.transfer.age
    → Contains (held_in x.seat.view.mind) block
    → y.seat ≡ x.seat → y.transfer ≡ transfer_begun (due x.pool) x.transfer → y.pool ≡ pool_begun_by (due x.pool) x.pool
    → CanGo sizes (Free block) (beginning (Free block) y) y.seat.view
free_starts sizes block x y f young held seat transfer pool =
    starts_there sizes (Free block) x y f.transfer f.pool seat transfer pool (call_starts sizes (Free block) x f
    (young_test sizes x f young) refl held)

-- a read or a write is at its own step at once
owning_so : (sizes : Sizes) (call : Call) (x : Process) → BetweenCalls sizes x
    → CanGo sizes call (entered call Own x.seat.view.mind.view) x.seat.view → IsOwning sizes call 0 x
owning_so sizes call x f go =
    let v = x.seat.view.mind.view in
    let same : entered call Own v ≡ owning call 0 x =
    ap (λ (t : TransferView). record { transfer = t; pool = v.pool; calls = calling Own call 0 }) f.transfer
    ∙ ap (λ (p : PoolView). record { transfer = x.transfer; pool = p; calls = calling Own call 0 }) f.pool in
    subst (λ w. CanGo sizes call w x.seat.view) same go

-- a read of a word of a held block stands at its own step at once
pub read_starts : (sizes : Sizes) (block index : ℕ) (x : Process) → BetweenCalls sizes x → Contains (held_in x.seat.view.mind) block
    → index < sizes.words → IsOwning sizes (Read block index) 0 x
read_starts sizes block index x f held low =
    owning_so sizes (Read block index) x f (call_starts sizes (Read block index) x f refl (low_test index sizes.words low) held)

-- and so does a write
pub write_starts : (sizes : Sizes) (block index value : ℕ) (x : Process) → BetweenCalls sizes x
    → Contains (held_in x.seat.view.mind) block → index < sizes.words → IsOwning sizes (Write block index value) 0 x
write_starts sizes block index value x f held low =
    owning_so sizes (Write block index value) x f
    (call_starts sizes (Write block index value) x f refl (low_test index sizes.words low) held)

-- what is due begins by the plan, and leaves the age and the quantum
begun_plan_by : (d : Option Wish) (t : TransferView) (p : PoolView) (calls : CallView)
    → (begun_if_due d (record { transfer = t; pool = p; calls = calls })).pool.plan ≡ (pool_begun_by d p).plan
begun_plan_by None t p calls = refl
begun_plan_by (Some wish) t p calls = refl

-- the plan once what is due has begun is the schedule's choice
pub begun_plan : (x y : Process) → y.pool ≡ pool_begun_by (due x.pool) x.pool → y.pool.plan ≡ after_choice x.pool.plan
begun_plan x y e =
    let v : ProcessView = record { transfer = x.transfer; pool = x.pool; calls = x.seat.view.mind.view.calls } in
    ap (λ (p : PoolView). p.plan) e
    ∙ (sym (begun_plan_by (due x.pool) x.transfer x.pool x.seat.view.mind.view.calls) ∙ choice_is_the_plans v)

same_age : (d : Option Wish) (t : TransferView) → (transfer_begun d t).age ≡ t.age
same_age None t = refl
same_age (Some wish) t = refl

-- a beginning leaves the age, which its announcement will raise
pub begun_age : (x y : Process) → y.transfer ≡ transfer_begun (due x.pool) x.transfer → y.transfer.age ≡ x.transfer.age
begun_age x y e = ap (λ (t : TransferView). t.age) e ∙ same_age (due x.pool) x.transfer

same_quantum : (plan : Numbers) → (after_choice plan).quantum ≡ plan.quantum
same_quantum plan = grind (arith, choice_sizes)

-- and the plan's quantum
pub begun_quantum : (sizes : Sizes) (x y : Process) → BetweenCalls sizes x → y.pool ≡ pool_begun_by (due x.pool) x.pool
    → y.pool.plan.quantum ≡ sizes.quantum
begun_quantum sizes x y f is = ap (λ (p : Numbers). p.quantum) (begun_plan x y is) ∙ (same_quantum x.pool.plan ∙ plan_quantum sizes x f)

-- the entries of the own step of a call
abbrev pub own_entries : Call → ℕ → Process → List Entry
own_entries call word x =
    entries_of (happened (own_kind_for x.pool (Some call)) (own_answer_for x.transfer.number x.pool word (Some call)))

-- its process's number
pub number_is : (sizes : Sizes) (call : Call) (k n word : ℕ) (before : SeatView) (x : Process) (v : SeatView) → IsOwning sizes call k x
    → Stepped (InCall call) x.seat.view word v → MovedOn before n x.seat.view → x.transfer.number ≡ number_of before.mind
number_is sizes call k n word before x v go s h = sym (ap (λ (w : ProcessView). w.transfer.number) go.view) ∙ (s.owner ∙ h.number)

-- a call ends with its own step
pub call_made : (sizes : Sizes) (call : Call) (k n : ℕ) (entries : List Entry) (before : SeatView) (x y : Process) → IsOwning sizes call k x
    → MovedOn before n x.seat.view → (own : OwnMade call x y) → own_entries call own.word x ≡ entries
    → CallMade call entries n before y.seat.view
call_made sizes call k n entries before x y go h own is =
    let s = own.stepped in
    let v = x.seat.view in
    let after = y.seat.view in
    let answer : entries_of (next_answer (turning (InCall call) v.mind.view) own.word) ≡ entries =
    ap (λ z. entries_of (next_answer z own.word)) go.view ∙ is in
    let seen : SeenAfter entries v.mind.seen after.mind.seen = subst (λ l. SeenAfter l v.mind.seen after.mind.seen) answer s.seen in
    record {
      stays = s.stays ∙ ap (λ (z : SeatView). record z { mind = after.mind }) h.stays;
      number = s.number ∙ h.number;
      seen = subst (λ l. SeenAfter entries l after.mind.seen) h.seen seen;
      entries_after = s.entries ∙ (ap (λ l. entries_in v.mind ++ l) answer ∙ ap (λ l. l ++ entries) h.entries);
      known = s.known ∙ (ap (λ z. words_known_after z v.mind.known) go.view
          ∙ ap (words_by_call (Some call)) h.known);
      moves = let a = s.moves in let b = h.moves in omega (arith, a, b);
    }

-- after its own step a call stands between two calls again
pub call_left : (sizes : Sizes) (call : Call) (n : ℕ) (x y : Process) → IsOwning sizes call n x → OwnMade call x y → BetweenCalls sizes y
call_left sizes call n x y go own =
    let s = own.stepped in
    let view = becomes sizes call (owning call n x) x.seat.view y.seat.view own.word go s in
    record {
      of_process = ap (λ (z : SeatView). z.of_process) s.stays ∙ go.can.of_process;
      shape = ap (λ (z : SeatView). z.sizes) s.stays ∙ go.can.shape;
      transfer = ap (λ (w : ProcessView). w.transfer) view ∙ sym own.transfer;
      pool = ap (λ (w : ProcessView). w.pool) view ∙ sym own.pool;
      between = ap (λ (w : ProcessView). w.calls.stage) view;
      way = ap (λ (w : ProcessView). may_use_calls w.calls.way) view;
      among = s.among;
    }

-- the entry of an allocate, of a search and of a free
entries_for : (by : ℕ) (kind : Kind) (block : Option ℕ) → entries_of (happened kind (allocate_answer by block)) ≡ entry_for by block ∷ []
entries_for by kind None = refl
entries_for by kind (Some block) = refl

got_entries : (by : ℕ) (block : Option ℕ) (x : Process) → x.transfer.number ≡ by → block ≡ next_block x.pool
    → entries_of (happened (allocate_kind (next_block x.pool)) (allocate_answer x.transfer.number
    (next_block x.pool))) ≡ entry_for by block ∷ []
got_entries by block x e is =
    entries_for x.transfer.number (allocate_kind (next_block x.pool)) (next_block x.pool)
    ∙ (ap (λ k. entry_for k (next_block x.pool) ∷ []) e ∙ ap (λ b. entry_for by b ∷ []) (sym is))

-- the own step of an allocate or a search enters the block that it got, or that there was none
pub allocate_entries : (call : Call) (by word : ℕ) (block : Option ℕ) (x : Process) → is_getting (Some call) ≡ true
    → x.transfer.number ≡ by → block ≡ next_block x.pool → own_entries call word x ≡ entry_for by block ∷ []
allocate_entries Allocate by word block x gets e is = got_entries by block x e is
allocate_entries Search by word block x gets e is = got_entries by block x e is
allocate_entries (Free freed) by word block x gets e is = absurd (false≢true gets)
allocate_entries (Read read index) by word block x gets e is = absurd (false≢true gets)
allocate_entries (Write written index value) by word block x gets e is = absurd (false≢true gets)

-- the own step of a free enters its block
pub free_entries : (by word block : ℕ) (x : Process) → x.transfer.number ≡ by
    → own_entries (Free block) word x ≡ Back by block ∷ []
free_entries by word block x e = ap (λ k. Back k block ∷ []) e
