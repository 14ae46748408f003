-- steps on the words of a table keep the invariant
use Rattle.std.proofs.Common.{◌≡◌, ◌≢◌, ℕ, ◌<◌, ◌==◌, Bool, true, false, Option, None, Some, List, ◌++◌, length, refl, arith, length-set}
use Rattle.std.specs.Prelude.{if◌then◌else◌, ◌||◌}
use Rattle.std.proofs.lemmas.Bool.Decides.{nat_tests}
use Rattle.word_layout.specs.Sizes.{Sizes, IsShape}
use Rattle.word_layout.specs.Names.{InRange, table_words, word_at, set_word, place}
use Rattle.word_layout.specs.Packing.{FitsWish}
use Rattle.word_layout.specs.declared.announced.Wish.{Wish}
use Rattle.word_layout.proofs.Placed.{word_at-set_word_same, word_at-set_word_other}
use Rattle.pool_model.specs.declared.entry.Entry.{Entry}
use Rattle.transfer_schedule.specs.Numbers.{is_idle, source_of}
use Rattle.transfer_schedule.specs.declared.own_step.Source.{Source}
use Rattle.transfer_schedule.specs.declared.own_step.Source.TheVariants as source
use Rattle.transfer_machine.specs.Machine.{try_action, action_at, action_of, met_in_try, met_at, CanActInTry, CanActAt}
use Rattle.transfer_schedule.specs.declared.pending.Pending.TheVariants.{Idle}
use Rattle.pool_machine.specs.Pools.{MayBegin, view_met}
use Rattle.transfer_machine.specs.Words.{name_of, left_by, acted, met_word}
use Rattle.transfer_machine.specs.declared.action.Action.{Action}
use Rattle.pool_machine.specs.declared.view.PoolView.{PoolView}
use Rattle.pool_machine.specs.declared.call.Call.{Call}
use Rattle.pool_machine.specs.declared.call.Call.TheVariants.{Allocate, Free, Read, Write, Search}
use Rattle.pool_machine.specs.declared.call.CallStage.{CallStage}
use Rattle.pool_machine.specs.declared.call.CallStage.TheVariants.{Between, Choosing, Moving, Own}
use Rattle.transfer_machine.specs.declared.transfer.TransferView.{TransferView}
use Rattle.pool_machine.specs.declared.view.ProcessView.{ProcessView}
use Rattle.transfer_machine.specs.declared.stage.NextStep.{NextStep}
use Rattle.transfer_machine.specs.declared.stage.NextStep.TheVariants.{Rest, Announce, LoadFinalState, LoadReply, Try}
use Rattle.transfer_machine.specs.Stages.{is_rest}
use Rattle.transfer_machine.specs.declared.stage.TryStep.{TryStep}
use Rattle.transfer_machine.specs.declared.stage.TryStep.TheVariants.{LoadState, LoadRecordWord, LoadCoveredSlot, ExchangeSlot}
use Rattle.transfer_machine.specs.declared.stage.TryStep.TheVariants.{LoadAnnouncement, LoadPoppedSlot, StoreRecordWord, ExchangeState}
use Rattle.transfer_invariant.specs.Memory.{Words, Acted}
use Rattle.batch_invariant.specs.Batches.{ProcessViews, MovedProcess}
use Rattle.pool_machine.specs.Beginning.{alone_begun, search_begun_by, call_begun, begun_if_due, due}
use Rattle.pool_machine.specs.OwnSteps.{own_action_for, allocate_action, block_from}
use Rattle.pool_machine.specs.Ready.{CanBegin, CanActCallAt, CanAllocate, CanOwnFor}
use Rattle.pool_machine.specs.Steps.{call_action_at, call_met_at, call_action, call_met, call_answer}
use Rattle.interleaving_core.specs.Invariant.{MeetsInvariant, IsAmong, IsAmongHolding, with_view}
use Rattle.interleaving_core.specs.Moves.{may_wish, may_go_alone, moving_view, may_go, started_at, started, calling_view}
use Rattle.interleaving_core.specs.Runs.{entries_of}
use Rattle.interleaving_core.specs.Steps.{is_alone, is_busy, is_at_step, next_action, next_met, next_answer}
use Rattle.interleaving_core.proofs.Begins.{alone_begins, call_starts}
use Rattle.interleaving_core.proofs.Holds.{StepAllowed, step_allowed, step_holds}
use Rattle.interleaving_core.proofs.Standing.{rests_idle, wish_fits, call_can_begin}

-- an action on a table acts on its words by their names
pub table_acted : (sizes : Sizes) (table : List ℕ) (action : Action) → length table ≡ table_words sizes → InRange sizes (name_of action)
    → Acted sizes action (word_at sizes table) (word_at sizes (acted sizes table action))
table_acted sizes table action whole range =
    let word = left_by action (met_word sizes table action) in
    record {
      here = word_at-set_word_same sizes table (name_of action) word whole range;
      elsewhere = λ name low ne. word_at-set_word_other sizes table (name_of action) name word range low ne;
    }

-- an action leaves the number of words
pub acted_length : (sizes : Sizes) (words : List ℕ) (action : Action) → length (acted sizes words action) ≡ length words
unfolding set_word
acted_length sizes words action = length-set words (place sizes (name_of action)) (left_by action (met_word sizes words action))

-- the name that a view acts on in a transfer is in range
try_in_range : (sizes : Sizes) (v : TransferView) (s : TryStep) → CanActInTry sizes v s → InRange sizes (name_of (try_action sizes v s))
try_in_range sizes v LoadState can = tt
try_in_range sizes v (LoadRecordWord index) (row, low) = (row, low)
try_in_range sizes v (LoadCoveredSlot offset) (few, low) = low
try_in_range sizes v (ExchangeSlot offset) (few, low) = low
try_in_range sizes v (LoadAnnouncement process) low = low
try_in_range sizes v (LoadPoppedSlot process) (low, some, most) = omega arith
try_in_range sizes v (StoreRecordWord index) (row, low, few, tag, value) = (row, low)
try_in_range sizes v ExchangeState can = tt

acts_in_range : (sizes : Sizes) (v : TransferView) (s : NextStep) → CanActAt sizes v s → InRange sizes (name_of (action_at sizes v s))
acts_in_range sizes v Rest can = tt
acts_in_range sizes v Announce (low, age, fits) = low
acts_in_range sizes v (Try second step) can = try_in_range sizes v step can
acts_in_range sizes v LoadFinalState can = tt
acts_in_range sizes v LoadReply (row, low) = (row, omega arith)

-- and so is the one of a call's step
call_in_range : (sizes : Sizes) (v : ProcessView) (stage : CallStage) → CanActCallAt sizes v stage
    → InRange sizes (name_of (call_action_at sizes v stage))
call_in_range sizes v Between can = tt
call_in_range sizes v Choosing can = tt
call_in_range sizes v Moving can = acts_in_range sizes v.transfer v.transfer.next can.go.act
call_in_range sizes v Own can = own_in_range sizes v v.calls.call can
  where
    allocate_in_range : (sizes : Sizes) (pool : PoolView) (s : Source) → CanAllocate sizes pool s
        → InRange sizes (name_of (allocate_action (block_from pool s)))
    allocate_in_range sizes pool source.Current (some, most) = omega (arith, some, most)
    allocate_in_range sizes pool source.Spare (some, low) = low
    allocate_in_range sizes pool source.Nothing can = tt

    own_in_range : (sizes : Sizes) (v : ProcessView) (call : Option Call) → CanOwnFor sizes v.pool call
        → InRange sizes (name_of (own_action_for v.pool call))
    own_in_range sizes v None can = tt
    own_in_range sizes v (Some Allocate) can = allocate_in_range sizes v.pool (source_of v.pool.plan) can
    own_in_range sizes v (Some (Free block)) (low, can) = low
    own_in_range sizes v (Some (Read block index)) (low, within) = (low, within)
    own_in_range sizes v (Some (Write block index value)) (low, within) = (low, within)
    own_in_range sizes v (Some Search) can = allocate_in_range sizes v.pool (source_of v.pool.plan) can

-- the word of a next step is in the table
pub next_in_range : (sizes : Sizes) (words : Words) (v : ProcessView) (t : Bool) → is_alone v.calls.way ≡ t → StepAllowed sizes words v
    → InRange sizes (name_of (next_action sizes v))
next_in_range sizes words v true alone allowed = rw alone (acts_in_range sizes v.transfer v.transfer.next (allowed.act alone))
next_in_range sizes words v false alone allowed = rw alone (call_in_range sizes v v.calls.stage (allowed.call_act alone))

-- a step keeps the number of its process
try_number : (sizes : Sizes) (v : TransferView) (word : ℕ) (second : Bool) (s : TryStep)
    → (met_in_try sizes v word second s).number ≡ v.number
try_number sizes v word second LoadState = refl
try_number sizes v word second (LoadRecordWord index) = grind (arith, nat_tests)
try_number sizes v word second (LoadCoveredSlot offset) = refl
try_number sizes v word second (ExchangeSlot offset) = refl
try_number sizes v word second (LoadAnnouncement process) = grind (arith, nat_tests)
try_number sizes v word second (LoadPoppedSlot process) = refl
try_number sizes v word second (StoreRecordWord index) = refl
try_number sizes v word second ExchangeState = grind (arith, nat_tests)

met_number : (sizes : Sizes) (v : TransferView) (word : ℕ) (s : NextStep) → (met_at sizes v word s).number ≡ v.number
met_number sizes v word Rest = refl
met_number sizes v word Announce = refl
met_number sizes v word (Try second step) = try_number sizes v word second step
met_number sizes v word LoadFinalState = refl
met_number sizes v word LoadReply = refl

call_number : (sizes : Sizes) (v : ProcessView) (word : ℕ) (stage : CallStage)
    → (call_met_at sizes v word stage).transfer.number ≡ v.transfer.number
call_number sizes v word Between = refl
call_number sizes v word Choosing = refl
call_number sizes v word Moving = met_number sizes v.transfer word v.transfer.next
call_number sizes v word Own = refl

-- a step leaves the number of its process
pub next_number : (sizes : Sizes) (v : ProcessView) (word : ℕ) (t : Bool) → is_alone v.calls.way ≡ t
    → (next_met sizes v word).transfer.number ≡ v.transfer.number
next_number sizes v word true alone = rw alone (met_number sizes v.transfer word v.transfer.next)
next_number sizes v word false alone = rw alone (call_number sizes v word v.calls.stage)

-- the step of a process on a table
pub table_step : (sizes : Sizes) (table : List ℕ) (views after : ProcessViews) (history : List Entry) (i : ℕ) → IsShape sizes
    → length table ≡ table_words sizes → i < sizes.processes → MeetsInvariant sizes table views history → is_busy (views i) ≡ true
    → MovedProcess i (next_met sizes (views i) (met_word sizes table (next_action sizes (views i)))) views after
    → MeetsInvariant sizes (acted sizes table (next_action sizes (views i))) after
    (history ++ entries_of (next_answer (views i) (met_word sizes table (next_action sizes (views i)))))
table_step sizes table views after history i shape whole li h busy moved =
    let allowed = step_allowed sizes (word_at sizes table) views history i shape li h busy in
    step_holds sizes (word_at sizes table) (word_at sizes (acted sizes table (next_action sizes (views i)))) views after history i shape li
    h busy
    (table_acted sizes table (next_action sizes (views i)) whole
    (next_in_range sizes (word_at sizes table) (views i) (is_alone (views i).calls.way) refl allowed)) moved

-- the view of a process among those of the others
pub with_view_here : (v : ProcessView) (others : ProcessViews) → with_view v others v.transfer.number ≡ v
with_view_here v others = let test : (v.transfer.number == v.transfer.number) ≡ true = grind (arith, nat_tests) in rw test refl

-- views with another one of a process have moved by it
pub with_view_moved : (v x : ProcessView) (others : ProcessViews) → x.transfer.number ≡ v.transfer.number
    → MovedProcess v.transfer.number x (with_view v others) (with_view x others)
with_view_moved v x others same = record {
  here = let test : (v.transfer.number == x.transfer.number) ≡ true = grind (arith, nat_tests) in rw test refl;
  elsewhere = λ o ne. apart o v.transfer.number x.transfer.number ne same v x (others o);
}
  where
    apart : (o a b : ℕ) → o ≢ a → b ≡ a → (v x w : ProcessView) → (if o == b then x else w) ≡ (if o == a then v else w)
    apart o a b ne same v x w = grind (arith, nat_tests)

-- the step of one of the processes keeps the invariant
pub among_step : (sizes : Sizes) (table : List ℕ) (v : ProcessView) (others : ProcessViews) (history : List Entry) → IsShape sizes
    → length table ≡ table_words sizes → v.transfer.number < sizes.processes → is_busy v ≡ true
    → MeetsInvariant sizes table (with_view v others) history
    → MeetsInvariant sizes (acted sizes table (next_action sizes v))
    (with_view (next_met sizes v (met_word sizes table (next_action sizes v))) others)
    (history ++ entries_of (next_answer v (met_word sizes table (next_action sizes v))))
among_step sizes table v others history shape whole low busy meets =
    let x = next_met sizes v (met_word sizes table (next_action sizes v)) in
    let here = with_view_here v others in
    let moved = with_view_moved v x others (next_number sizes v (met_word sizes table (next_action sizes v)) (is_alone v.calls.way) refl) in
    let step = table_step sizes table (with_view v others) (with_view x others) history v.transfer.number shape whole low meets in
    rw here at step busy moved

-- and it can be made
pub among_allowed : (sizes : Sizes) (table : List ℕ) (v : ProcessView) → IsShape sizes → is_busy v ≡ true → IsAmong sizes table v
    → StepAllowed sizes (word_at sizes table) v
among_allowed sizes table v shape busy among =
    let here = with_view_here v among.others in
    let allowed = step_allowed sizes (word_at sizes table) (with_view v among.others) among.past v.transfer.number shape among.low
    among.meets in
    rw here at allowed busy

-- what a process at rest needs to begin a transfer alone
pub among_idle : (sizes : Sizes) (table : List ℕ) (v : ProcessView) → IsShape sizes → IsAmong sizes table v → v.transfer.next ≡ Rest
    → v.pool.plan.pending ≡ Idle
among_idle sizes table v shape among rest =
    let here = with_view_here v among.others in
    let idle = rests_idle sizes (word_at sizes table) (with_view v among.others) among.past v.transfer.number shape among.low among.meets in
    rw here at idle rest

-- a wish that may be made fits a word and may begin, of a view among some states
pub among_fits : (sizes : Sizes) (table : List ℕ) (v : ProcessView) (wish : Wish) → IsShape sizes → IsAmong sizes table v
    → v.transfer.next ≡ Rest → may_wish wish v.pool ≡ true → FitsWish wish × MayBegin wish v.pool
among_fits sizes table v wish shape among rest may =
    let here = with_view_here v among.others in
    let fits = wish_fits sizes (word_at sizes table) (with_view v among.others) among.past v.transfer.number wish shape among.low
    among.meets in
    rw here at fits rest may

-- and the transfer that is due with a call to begin
pub among_can_begin : (sizes : Sizes) (table : List ℕ) (v : ProcessView) → IsShape sizes → IsAmong sizes table v → CanBegin v
among_can_begin sizes table v shape among =
    let here = with_view_here v among.others in
    let can = call_can_begin sizes (word_at sizes table) (with_view v among.others) among.past v.transfer.number shape among.low
    among.meets in
    rw here at can

-- a step at rest, and a stage outside any call
pub rests : (s : NextStep) → is_rest s ≡ true → s ≡ Rest
rests s h = grind arith

-- the view that moves alone
moving_among : (sizes : Sizes) (table : List ℕ) (v : ProcessView) (wish : Wish) (t : Bool) → IsShape sizes → is_rest v.transfer.next ≡ t
    → may_go_alone sizes wish v ≡ true → IsAmong sizes table v → IsAmong sizes table (if t then alone_begun wish v else v)
moving_among sizes table v wish true shape rest may among =
    let here = with_view_here v among.others in
    let x = alone_begun wish v in
    let begins = alone_begins sizes (word_at sizes table) (with_view v among.others) (with_view x among.others) among.past v.transfer.number
    wish shape among.low among.meets in
    record {
      low = among.low;
      others = among.others;
      past = among.past;
      meets = (rw here at begins) (rests v.transfer.next rest) may
          (with_view_moved v x among.others refl);
    }
moving_among sizes table v wish false shape rest may among = among

-- a transfer alone that may go leaves a view among some states
pub among_moving : (sizes : Sizes) (table : List ℕ) (v : ProcessView) (wish : Wish) → IsShape sizes → may_go_alone sizes wish v ≡ true
    → IsAmong sizes table v → IsAmong sizes table (moving_view wish v)
among_moving sizes table v wish shape may among = moving_among sizes table v wish (is_rest v.transfer.next) shape refl may among

-- a call leaves the number of its process
due_number : (wish : Option Wish) (v : ProcessView) → (begun_if_due wish v).transfer.number ≡ v.transfer.number
due_number None v = refl
due_number (Some wish) v = refl

-- the beginning of a call leaves the number of its process
pub begun_number : (call : Call) (v : ProcessView) → (call_begun call v).transfer.number ≡ v.transfer.number
begun_number Allocate v = due_number (due v.pool) v
begun_number (Free block) v = due_number (due v.pool) v
begun_number (Read block index) v = refl
begun_number (Write block index value) v = refl
begun_number Search v = searching (is_idle v.pool.plan.pending)
  where
    searching : (t : Bool) → (search_begun_by t v).transfer.number ≡ v.transfer.number
    searching true = due_number (due v.pool) v
    searching false = refl

started_number : (call : Call) (v : ProcessView) (stage : CallStage) → (started_at stage call v).transfer.number ≡ v.transfer.number
started_number call v Between = begun_number call v
started_number call v Choosing = due_number (due v.pool) v
started_number call v Moving = begun_number call v
started_number call v Own = begun_number call v

-- where one of two holds and the first doesn't, the second does
pub either_may : (a b : Bool) → a ≡ false → (a || b) ≡ true → b ≡ true
either_may true b e h = grind arith
either_may false b e h = h

-- the view that goes on with a call
calling_among : (sizes : Sizes) (table : List ℕ) (v : ProcessView) (call : Call) (holds t : Bool) → IsShape sizes
    → is_at_step v.calls.stage ≡ t → may_go sizes holds call v ≡ true → IsAmongHolding sizes table v holds call
    → IsAmong sizes table (if t then v else started call v)
calling_among sizes table v call holds true shape inside may h = h.among
calling_among sizes table v call holds false shape inside may h =
    let among = h.among in
    let here = with_view_here v among.others in
    let x = started call v in
    let begins = call_starts sizes (word_at sizes table) (with_view v among.others) (with_view x among.others) among.past v.transfer.number
    call holds shape among.low among.meets in
    let number = started_number call v v.calls.stage in
    record {
      low = rw number among.low;
      others = among.others;
      past = among.past;
      meets =
          (rw here at begins) inside may h.held (with_view_moved v x among.others number);
    }

-- a call that may go leaves a view among some states
pub among_calling : (sizes : Sizes) (table : List ℕ) (v : ProcessView) (call : Call) (holds : Bool) → IsShape sizes
    → may_go sizes holds call v ≡ true → IsAmongHolding sizes table v holds call → IsAmong sizes table (calling_view call v)
among_calling sizes table v call holds shape may h = calling_among sizes table v call holds (is_at_step v.calls.stage) shape refl may h

-- the step of a process on a table, by its way
pub alone_met : (sizes : Sizes) (table : List ℕ) (v : ProcessView) → is_alone v.calls.way ≡ true
    → view_met sizes v (met_word sizes table (action_of sizes v.transfer)) ≡ next_met sizes v (met_word sizes table (next_action sizes v))
alone_met sizes table v alone = rw alone refl

-- in a call the next step is the call's
pub call_meets : (sizes : Sizes) (table : List ℕ) (v : ProcessView) → is_alone v.calls.way ≡ false
    → call_met sizes v (met_word sizes table (call_action sizes v)) ≡ next_met sizes v (met_word sizes table (next_action sizes v))
call_meets sizes table v calls = rw calls refl

-- and its answer is the call's
pub call_answers : (sizes : Sizes) (table : List ℕ) (v : ProcessView) → is_alone v.calls.way ≡ false
    → call_answer v (met_word sizes table (call_action sizes v)) ≡ next_answer v (met_word sizes table (next_action sizes v))
call_answers sizes table v calls = rw calls refl
