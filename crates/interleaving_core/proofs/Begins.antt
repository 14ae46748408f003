-- beginnings of transfers and of calls keep the invariant
use Rattle.std.proofs.Common.{◌≡◌, ℕ, ◌<◌, Bool, true, false, Option, None, Some, List, refl, sym, ◌∙◌, ap, subst, inl, inr, arith}
use Rattle.std.specs.Prelude.{nat_lt, ◌&&◌, ◌||◌}
use Rattle.std.proofs.Math.Path.{fun_ext}
use Rattle.std.proofs.lemmas.Bool.{cases_eq}
use Rattle.word_layout.specs.Sizes.{Sizes, IsShape, transfer_bound, limits_of}
use Rattle.word_layout.specs.declared.announced.Wish.{Wish}
use Rattle.word_layout.specs.Packing.{most_age}
use Rattle.pool_model.specs.declared.entry.Entry.{Entry}
use Rattle.pool_model.specs.History.{own, grip}
use Rattle.transfer_machine.specs.Machine.{begun}
use Rattle.pool_machine.specs.Pools.{MayBegin}
use Rattle.transfer_machine.specs.States.{StackState}
use Rattle.pool_machine.specs.declared.call.Call.{Call}
use Rattle.pool_machine.specs.declared.call.Call.TheVariants.{Allocate, Free, Read, Write, Search}
use Rattle.pool_machine.specs.declared.call.CallStage.{CallStage}
use Rattle.pool_machine.specs.declared.call.CallStage.TheVariants.{Between, Choosing, Moving, Own}
use Rattle.pool_machine.specs.declared.call.Way.{Way}
use Rattle.pool_machine.specs.declared.call.Way.TheVariants.{Fresh, Alone, Calls}
use Rattle.transfer_machine.specs.declared.transfer.TransferView.{TransferView}
use Rattle.pool_machine.specs.declared.view.ProcessView.{ProcessView}
use Rattle.transfer_machine.specs.declared.stage.NextStep.TheVariants.{Rest}
use Rattle.transfer_invariant.specs.Memory.{Words, States, state_tag}
use Rattle.stack_invariant.specs.Stack.{StackHolds}
use Rattle.stack_invariant.proofs.Keeps.{beginnings_keep_stack}
use Rattle.batch_invariant.specs.Batches.{ProcessViews, MovedProcess}
use Rattle.batch_invariant.proofs.Steps.{transfers_move}
use Rattle.chain_invariant.specs.Calls.{NamesHeld}
use Rattle.chain_invariant.proofs.Calls as chains
use Rattle.chain_invariant.proofs.Moves.{beginning_keeps}
use Rattle.history_invariant.specs.Holds.{HistoryHolds}
use Rattle.history_invariant.specs.Ledger.{Ledger, Ledgers}
use Rattle.history_invariant.specs.Steps.{GoesOn, with_ledger}
use Rattle.history_invariant.proofs.Fitting.{step_kept}
use Rattle.history_invariant.proofs.GoingOn.{going_fits, going_sees}
use Rattle.history_invariant.proofs.Replacing.{replaced_with}
use Rattle.pool_machine.specs.Beginning.{due, begun_if_due, alone_begun, search_begun_by, search_chosen, call_begun}
use Rattle.transfer_schedule.specs.Numbers.{is_idle}
use Rattle.pool_machine.specs.Conditions.{IsYoungFor, may_call, may_use_transfers, names_fit, MayMove}
use Rattle.call_invariant.specs.InCalls.{Scheduled, InCalls}
use Rattle.call_invariant.specs.Ledgers.{ledger_begun, ledger_chosen}
use Rattle.call_invariant.specs.Phases.{changes_pool}
use Rattle.call_invariant.specs.Uses.{UsesPoolBy, UsesPool}
use Rattle.call_invariant.proofs.Alone.{moves_alone}
use Rattle.call_invariant.proofs.Begun.{changing_call_begins, keeping_call_begins, search_chooses}
use Rattle.call_invariant.proofs.Standing.{some_quantum}
use Rattle.call_invariant.proofs.Uses.{due_begins, uses_calls, calls_used, uses_transfers}
use Rattle.interleaving_core.specs.EmptyTakes.{TakesHadFew}
use Rattle.interleaving_core.proofs.EmptyTakes.{few_same, begun_dry, due_dry}
use Rattle.interleaving_core.specs.Invariant.{Ghosts, Holds, Meets, BlockIsHeld, KnowsOfNothing, held_in}
use Rattle.interleaving_core.specs.Moves.{may_go_alone, may_wish, may_go, may_start_at, started_at, started}
use Rattle.interleaving_core.specs.Steps.{is_at_step}
use Rattle.interleaving_core.proofs.Joins.{transfers, keeps, scheduled, same_ledgers}
use Rattle.interleaving_core.proofs.Standing.{less, both_first, both_second, wish_fits_at, call_way, call_young, call_names, call_can}

-- a fact of each process, once one has moved
pub each_moved : (Fact : ℕ → ProcessView → Type 0) (p i : ℕ) (x : ProcessView) (views after : ProcessViews) → MovedProcess i x views after
    → Fact i x → ((o : ℕ) → o < p → Fact o (views o)) → (o : ℕ)
    → o < p → Fact o (after o)
each_moved Fact p i x views after moved here h o lo = elim (cases_eq o i) [
  | inl e ↦ rw e (rw moved.here here)
  | inr ne ↦ rw (moved.elsewhere o ne) (h o lo)
]

-- a transfer that is only begun has found nothing yet
begun_knows : (s : StackState) (i : ℕ) (wish : Wish) (t : TransferView) (ledger : Ledger) → KnowsOfNothing s i (begun wish t) ledger
begun_knows s i wish t ledger announced = absurd (grind arith)

-- a transfer begins alone
pub alone_begins_at : (sizes : Sizes) (words : Words) (views after : ProcessViews) (history : List Entry) (ghosts : Ghosts) (i : ℕ)
    (wish : Wish)
    → IsShape sizes → i < sizes.processes
    → Holds sizes words views history ghosts
    → MayMove (views i) → (views i).transfer.next ≡ Rest → MayBegin wish (views i).pool → (views i).transfer.age < most_age sizes
    → MovedProcess i (alone_begun wish (views i)) views after → Holds sizes words after history ghosts
alone_begins_at sizes words views after history ghosts i wish shape li h free rest begins young moved =
    let v = views i in
    let s = ghosts.states (state_tag words) in
    let x = alone_begun wish v in
    record {
      stack =
          beginnings_keep_stack sizes words (transfers views) (transfers after) ghosts.states i wish li h.stack rest
          (transfers_move i x views after moved);
      chains = record {
        batch_blocks = h.chains.batch_blocks;
        current_blocks = h.chains.current_blocks;
        hold =
            beginning_keeps sizes words s views after h.chains.batch_blocks h.chains.current_blocks (held_in ghosts.ledgers) i wish x li
            h.chains.hold rest begins
            (record { transfer = refl; pool = refl }) moved;
      };
      pools = each_moved (λ o w. UsesPool sizes o w (ghosts.ledgers o)) sizes.processes i x views after moved
          (uses_transfers sizes i x (ghosts.ledgers i) Alone refl
          (moves_alone sizes i v wish (ghosts.ledgers i) v.calls.way refl (h.pools i li) free rest begins young)) h.pools;
      entries = h.entries;
      empties =
          each_moved (λ o w. KnowsOfNothing s o w.transfer (ghosts.ledgers o)) sizes.processes i x views after moved
          (begun_knows s i wish v.transfer (ghosts.ledgers i)) h.empties;
      few =
          each_moved (λ o w. TakesHadFew (limits_of sizes) history (ghosts.ledgers o) w.pool.plan) sizes.processes i x views after moved
          (few_same (limits_of sizes) history (ghosts.ledgers i) (ghosts.ledgers i) v.pool.plan x.pool.plan refl refl refl
          (begun_dry wish v) (h.few i li)) h.few;
      names =
          each_moved (λ o w. NamesHeld sizes (held_in ghosts.ledgers o) w.calls.call) sizes.processes i x views after moved (h.names i li)
          h.names;
      data_words = h.data_words;
    }

-- a transfer that is begun alone, by a process at rest, keeps the invariant
pub alone_begins : (sizes : Sizes) (words : Words) (views after : ProcessViews) (history : List Entry) (i : ℕ) (wish : Wish) → IsShape sizes
    → i < sizes.processes → Meets sizes words views history
    → (views i).transfer.next ≡ Rest → may_go_alone sizes wish (views i) ≡ true
    → MovedProcess i (alone_begun wish (views i)) views after → Meets sizes words after history
alone_begins sizes words views after history i wish shape li (ghosts, h) rest may moved =
    let v = views i in
    let tests : (may_use_transfers v.calls.way && (nat_lt v.transfer.age (most_age sizes) && may_wish wish v.pool)) ≡ true =
    rw rest at may in
    let both = both_second (may_use_transfers v.calls.way) (nat_lt v.transfer.age (most_age sizes) && may_wish wish v.pool) tests in
    let fits = wish_fits_at sizes words views history ghosts i wish shape li h
    (both_second (nat_lt v.transfer.age (most_age sizes)) (may_wish wish v.pool) both) in (
      ghosts,
      alone_begins_at sizes words views after history ghosts i wish shape li h
          (both_first (may_use_transfers v.calls.way) (nat_lt v.transfer.age (most_age sizes) && may_wish wish v.pool) tests)
          rest fits.1 (less v.transfer.age (most_age sizes) (both_first (nat_lt v.transfer.age (most_age sizes))
          (may_wish wish v.pool) both)) moved,
    )

-- the transfer that begins with a call, if any
search_wish : Bool → ProcessView → Option Wish
search_wish true v = due v.pool
search_wish false v = None

-- which wish is begun, if one is, as a call begins
pub call_wish : Call → ProcessView → Option Wish
call_wish Allocate v = due v.pool
call_wish (Free block) v = due v.pool
call_wish (Read block index) v = None
call_wish (Write block index value) v = None
call_wish Search v = search_wish (is_idle v.pool.plan.pending) v

-- the parts of a view once it is begun
pub record BegunParts (wish : Option Wish) (v x : ProcessView) : Type 0 where
  pub transfer : x.transfer ≡ (begun_if_due wish v).transfer
  pub pool : x.pool ≡ (begun_if_due wish v).pool
  pub due : (w : Wish) → wish ≡ Some w → due v.pool ≡ Some w

no_wish : (v : ProcessView) (w : Wish) → None ≡ Some w → due v.pool ≡ Some w
no_wish v w e = cc

search_parts : (t : Bool) (v : ProcessView) → BegunParts (search_wish t v) v (search_begun_by t v)
unfolding search_wish
search_parts true v = record { transfer = refl; pool = refl; due = λ w e. e }
search_parts false v = record { transfer = refl; pool = refl; due = no_wish v }

call_parts : (call : Call) (v : ProcessView) → BegunParts (call_wish call v) v (call_begun call v)
unfolding call_wish
call_parts Allocate v = record { transfer = refl; pool = refl; due = λ w e. e }
call_parts (Free block) v = record { transfer = refl; pool = refl; due = λ w e. e }
call_parts (Read block index) v = record { transfer = refl; pool = refl; due = no_wish v }
call_parts (Write block index value) v = record { transfer = refl; pool = refl; due = no_wish v }
call_parts Search v = search_parts (is_idle v.pool.plan.pending) v

search_named : (t : Bool) (v : ProcessView) → (search_begun_by t v).calls.call ≡ Some Search
search_named true v = refl
search_named false v = refl

-- a call that has begun is the one that was asked for
pub call_named : (call : Call) (v : ProcessView) → (call_begun call v).calls.call ≡ Some call
call_named Allocate v = refl
call_named (Free block) v = refl
call_named (Read block index) v = refl
call_named (Write block index value) v = refl
call_named Search v = search_named (is_idle v.pool.plan.pending) v

-- the stack, and what is known of an empty take, once that transfer is begun
stack_begun : (sizes : Sizes) (words : Words) (views after : ProcessViews) (states : States) (i : ℕ) (x : ProcessView) (wish : Option Wish)
    → i < sizes.processes
    → StackHolds sizes words (transfers views) states
    → x.transfer ≡ (begun_if_due wish (views i)).transfer → ((w : Wish) → wish ≡ Some w → (views i).transfer.next ≡ Rest)
    → MovedProcess i x views after
    → StackHolds sizes words (transfers after) states
stack_begun sizes words views after states i x None li h e rests moved = rw (fun_ext stays) h
  where
    stays : (o : ℕ) → transfers after o ≡ transfers views o
    stays o = elim (cases_eq o i) [
      | inl is ↦ rw is (ap (λ v. v.transfer) moved.here ∙ e)
      | inr ne ↦ ap (λ v. v.transfer) (moved.elsewhere o ne)
    ]
stack_begun sizes words views after states i x (Some wish) li h e rests moved =
    beginnings_keep_stack sizes words (transfers views) (transfers after) states i wish li h (rests wish refl)
    (rw e at (transfers_move i x views after moved))

knows_begun : (s : StackState) (i : ℕ) (wish : Option Wish) (v x : ProcessView) (old new : Ledger)
    → x.transfer ≡ (begun_if_due wish v).transfer → new.found_nothing ≡ old.found_nothing
    → KnowsOfNothing s i v.transfer old
    → KnowsOfNothing s i x.transfer new
knows_begun s i None v x old new e found h = rw (e, found) h
knows_begun s i (Some wish) v x old new e found h = rw e (begun_knows s i wish v.transfer new)

-- what the call names is held
block_named : (sizes : Sizes) (held : List ℕ) (holds : Bool) (call : Call) → names_fit sizes holds call ≡ true
    → (holds ≡ true → BlockIsHeld held call) → NamesHeld sizes held (Some call)
block_named sizes held holds Allocate fit is = tt
block_named sizes held holds (Free block) fit is = is fit
block_named sizes held holds (Read block index) fit is =
    (is (both_first holds (nat_lt index sizes.words) fit), less index sizes.words (both_second holds (nat_lt index sizes.words) fit))
block_named sizes held holds (Write block index value) fit is =
    (is (both_first holds (nat_lt index sizes.words) fit), less index sizes.words (both_second holds (nat_lt index sizes.words) fit))
block_named sizes held holds Search fit is = tt

named_so : (sizes : Sizes) (old new : List ℕ) (call : Call) (called : Option Call) → new ≡ old → called ≡ Some call
    → NamesHeld sizes old (Some call) → NamesHeld sizes new called
named_so sizes old new call called e is named =
    subst (λ held. NamesHeld sizes held called) (sym e) (subst (NamesHeld sizes old) (sym is) named)

-- a ledger with the same entries says the same of the held blocks
pub held_stays : (i : ℕ) (ledger : Ledger) (ledgers : Ledgers) → ledger.entries ≡ (ledgers i).entries → (o : ℕ)
    → held_in (with_ledger i ledger ledgers) o ≡ held_in ledgers o
held_stays i ledger ledgers e o = elim (cases_eq o i) [
  | inl is ↦ rw is (ap (λ l. grip l.entries) (replaced_with i ledger ledgers).here ∙ ap grip e)
  | inr ne ↦ ap (λ l. grip l.entries) ((replaced_with i ledger ledgers).elsewhere o ne)
]

-- a fact of each process with its ledger, once one has moved with its ledger
pub each_moved_with : (Fact : ℕ → ProcessView → Ledger → Type 0) (p i : ℕ) (x : ProcessView) (ledger : Ledger) (views after : ProcessViews)
    (ledgers : Ledgers)
    → MovedProcess i x views after
    → Fact i x ledger → ((o : ℕ) → o < p → Fact o (views o) (ledgers o)) → (o : ℕ) → o < p
    → Fact o (after o) (with_ledger i ledger ledgers o)
each_moved_with Fact p i x ledger views after ledgers moved here h o lo = elim (cases_eq o i) [
  | inl e ↦ rw e (rw (moved.here, (replaced_with i ledger ledgers).here) here)
  | inr ne ↦ rw (moved.elsewhere o ne, (replaced_with i ledger ledgers).elsewhere o ne) (h o lo)
]

-- A process in its calls begins the transfer that is due, or none: what its new view and its ledger owe to the ones before. So a call
-- begins, and so a search goes on to its own transfer.
pub record BeginsSo (sizes : Sizes) (history : List Entry) (i : ℕ) (v x : ProcessView) (wish : Option Wish) (ledgers : Ledgers) (g : Ledger)
    : Type 0 where
  pub parts : BegunParts wish v x
  pub entries : g.entries ≡ (ledgers i).entries
  pub found : g.found_nothing ≡ (ledgers i).found_nothing
  pub begun : g.begun_place ≡ (ledgers i).begun_place
  pub ended : g.ended_place ≡ (ledgers i).ended_place
  pub calls : InCalls sizes i x g
  pub goes_on : HistoryHolds (limits_of sizes) (transfer_bound sizes) sizes.quantum history (with_ledger i g ledgers)

-- a beginning keeps the invariant, whichever call makes it: so of the view, the ledger and the wish that it gives
pub begins_at : (sizes : Sizes) (words : Words) (views after : ProcessViews) (history : List Entry) (ghosts : Ghosts) (i : ℕ)
    (x : ProcessView) (wish : Option Wish) (g : Ledger)
    → IsShape sizes → i < sizes.processes
    → Holds sizes words views history ghosts
    → BeginsSo sizes history i (views i) x wish ghosts.ledgers g
    → NamesHeld sizes (held_in ghosts.ledgers i) x.calls.call
    → MovedProcess i x views after
    → Holds sizes words after history (record ghosts { ledgers = with_ledger i g ghosts.ledgers })
begins_at sizes words views after history ghosts i x wish g shape li h b named moved =
    let v = views i in
    let s = ghosts.states (state_tag words) in
    let ledgers = ghosts.ledgers in
    let held_same = held_stays i g ledgers b.entries in
    let can = call_can sizes words views history ghosts i shape li h in
    let kept = keeps sizes words views history ghosts i shape li h in
    record {
      stack =
          stack_begun sizes words views after ghosts.states i x wish li h.stack b.parts.transfer
          (λ w e. (due_begins sizes v w kept (b.parts.due w e)).0) moved;
      chains = chains.held_same sizes words s after (held_in ledgers) (held_in (with_ledger i g ledgers))
          (chains.begun_so sizes words s views after (held_in ledgers) i x li h.chains can moved wish b.parts.due
          (record { transfer = b.parts.transfer; pool = b.parts.pool })) (λ o lo. held_same o);
      pools =
          each_moved_with (λ o w l. UsesPool sizes o w l) sizes.processes i x g views after ledgers moved
          (uses_calls sizes i x g x.calls.way b.calls.way b.calls) h.pools;
      entries = b.goes_on;
      empties = each_moved_with (λ o w l. KnowsOfNothing s o w.transfer l) sizes.processes i x g views after ledgers moved
          (knows_begun s i wish v x (ledgers i) g b.parts.transfer b.found (h.empties i li)) h.empties;
      few = each_moved_with (λ o w l. TakesHadFew (limits_of sizes) history l w.pool.plan) sizes.processes i x g views after ledgers
          moved (few_same (limits_of sizes) history (ledgers i) g v.pool.plan x.pool.plan b.found b.begun b.ended
          (ap (λ pool. pool.plan.dry) b.parts.pool ∙ due_dry wish v) (h.few i li)) h.few;
      names = each_moved_with (λ o w l. NamesHeld sizes (grip l.entries) w.calls.call) sizes.processes i x g views after ledgers moved
          (subst (λ entries. NamesHeld sizes (grip entries) x.calls.call) (sym b.entries) named) h.names;
      data_words = λ o lo. rw (held_same o) (h.data_words o lo);
    }

-- a step of its ledger without an entry
goes_kept : (sizes : Sizes) (history : List Entry) (i : ℕ) (ledgers : Ledgers) (g : Ledger) → i < sizes.processes
    → HistoryHolds (limits_of sizes) (transfer_bound sizes) sizes.quantum history ledgers → Scheduled sizes (ledgers i).account
    → GoesOn (ledgers i) g
    → HistoryHolds (limits_of sizes) (transfer_bound sizes) sizes.quantum history (with_ledger i g ledgers)
goes_kept sizes history i ledgers g li h s goes =
    step_kept (limits_of sizes) (transfer_bound sizes) sizes.quantum history ledgers (with_ledger i g ledgers) i g li h
    (going_fits (limits_of sizes) (transfer_bound sizes) sizes.quantum history i (ledgers i) g s.fit (h.each i li) goes)
    (going_sees (ledgers i) g goes) (replaced_with i g ledgers)

-- a call begins, and its ledger goes on or stays
begun_same : (call : Call) (l : Ledger)
    → ((ledger_begun call l).entries ≡ l.entries) × ((ledger_begun call l).found_nothing ≡ l.found_nothing)
    × ((ledger_begun call l).begun_place ≡ l.begun_place) × ((ledger_begun call l).ended_place ≡ l.ended_place)
begun_same Allocate l = (refl, refl, refl, refl)
begun_same (Free block) l = (refl, refl, refl, refl)
begun_same (Read block index) l = (refl, refl, refl, refl)
begun_same (Write block index value) l = (refl, refl, refl, refl)
begun_same Search l = (refl, refl, refl, refl)

keeping_ledger : (call : Call) (l : Ledger) → changes_pool (Some call) ≡ false → ledger_begun call l ≡ l
keeping_ledger Allocate l e = cc
keeping_ledger (Free block) l e = cc
keeping_ledger (Read block index) l e = refl
keeping_ledger (Write block index value) l e = refl
keeping_ledger Search l e = cc

-- the beginning of a call gives such a view and such a ledger
pub call_goes : (sizes : Sizes) (history : List Entry) (i : ℕ) (v : ProcessView) (ledgers : Ledgers) (call : Call) (t : Bool)
    → changes_pool (Some call) ≡ t → i < sizes.processes
    → HistoryHolds (limits_of sizes) (transfer_bound sizes) sizes.quantum history ledgers
    → Scheduled sizes (ledgers i).account → InCalls sizes i v (ledgers i) → v.calls.stage ≡ Between → IsYoungFor sizes call v
    → BeginsSo sizes history i v (call_begun call v) (call_wish call v) ledgers (ledger_begun call (ledgers i))
call_goes sizes history i v ledgers call true changes li h s calls between young =
    let carries = changing_call_begins sizes i v (ledgers i) call changes s between young calls in
    let same = begun_same call (ledgers i) in
    record {
      parts = call_parts call v;
      entries = same.0;
      found = same.1;
      begun = same.2;
      ended = same.3;
      calls = carries.calls;
      goes_on = goes_kept sizes history i ledgers (ledger_begun call (ledgers i)) li h s carries.goes;
    }
call_goes sizes history i v ledgers call false keeps li h s calls between young =
    let stays = keeping_ledger call (ledgers i) keeps in
    let same = begun_same call (ledgers i) in
    record {
      parts = call_parts call v;
      entries = same.0;
      found = same.1;
      begun = same.2;
      ended = same.3;
      calls = rw stays (keeping_call_begins sizes i v (ledgers i) call keeps between calls);
      goes_on = rw stays (rw (same_ledgers i ledgers) h);
    }

-- a call begins
pub call_begins : (sizes : Sizes) (words : Words) (views after : ProcessViews) (history : List Entry) (i : ℕ) (call : Call) (holds : Bool)
    → IsShape sizes → i < sizes.processes
    → Meets sizes words views history → (views i).calls.stage ≡ Between → may_call sizes holds call (views i) ≡ true
    → (holds ≡ true → BlockIsHeld (grip (own history i)) call)
    → MovedProcess i (call_begun call (views i)) views after → Meets sizes words after history
call_begins sizes words views after history i call holds shape li (ghosts, h) between may held moved =
    let v = views i in
    let way = call_way sizes holds call v may in
    let young = call_young sizes holds call v may in
    let ledger = ledger_begun call (ghosts.ledgers i) in
    let mine = (h.entries.each i li).sees.own_entries in
    let named = block_named sizes (grip (own history i)) holds call (call_names sizes holds call v may) held in
    let calls = calls_used sizes i v (ghosts.ledgers i) v.calls.way way (h.pools i li) in
    let s = scheduled sizes words views history ghosts i shape li h in (
      record ghosts { ledgers = with_ledger i ledger ghosts.ledgers },
      begins_at sizes words views after history ghosts i (call_begun call v) (call_wish call v) ledger shape li h
          (call_goes sizes history i v ghosts.ledgers call (changes_pool (Some call)) refl li h.entries s calls between young)
          (named_so sizes (held_in ghosts.ledgers i) (held_in ghosts.ledgers i) call (call_begun call v).calls.call refl (call_named call v)
          (subst (λ entries. NamesHeld sizes (grip entries) (Some call)) mine named))
          moved,
    )

-- a process that makes transfers alone chooses nothing
choosing_by_way : (sizes : Sizes) (i : ℕ) (v : ProcessView) (g : Ledger) (way : Way) → v.calls.stage ≡ Choosing → way ≡ Alone
    → UsesPoolBy way sizes i v g → ⊥
choosing_by_way sizes i v g Fresh stage e uses = cc
choosing_by_way sizes i v g Alone stage e uses = apart (sym stage ∙ uses.stage)
  where
    apart : Choosing ≡ Between → ⊥
    apart e = cc
choosing_by_way sizes i v g Calls stage e uses = cc

-- a process that is choosing is in its calls
pub choosing_in_calls : (sizes : Sizes) (i : ℕ) (v : ProcessView) (g : Ledger) → v.calls.stage ≡ Choosing → UsesPool sizes i v g
    → InCalls sizes i v g
choosing_in_calls sizes i v g stage uses =
    calls_used sizes i v g v.calls.way (λ alone. choosing_by_way sizes i v g v.calls.way stage alone uses) uses

-- a search goes on to its own transfer
pub search_goes : (sizes : Sizes) (words : Words) (views after : ProcessViews) (history : List Entry) (i : ℕ)
    → IsShape sizes → i < sizes.processes
    → Meets sizes words views history → (views i).calls.stage ≡ Choosing
    → MovedProcess i (search_chosen (views i)) views after → Meets sizes words after history
search_goes sizes words views after history i shape li (ghosts, h) choosing moved =
    let v = views i in
    let g = ghosts.ledgers i in
    let used = choosing_in_calls sizes i v g choosing (h.pools i li) in
    let s = scheduled sizes words views history ghosts i shape li h in
    let carries = search_chooses sizes i v g (some_quantum sizes s.fit) choosing used in (
      record ghosts { ledgers = with_ledger i (ledger_chosen g) ghosts.ledgers },
      begins_at sizes words views after history ghosts i (search_chosen v) (due v.pool) (ledger_chosen g) shape li h
          (record {
            parts = record { transfer = refl; pool = refl; due = λ w e. e };
            entries = refl;
            found = refl;
            begun = refl;
            ended = refl;
            calls = carries.calls;
            goes_on = goes_kept sizes history i ghosts.ledgers (ledger_chosen g) li h.entries s carries.goes;
          })
          tt
          moved,
    )

-- what a process begins that has not begun its next step: a search goes on to its own transfer, and between two calls one begins
may_second : (a b : Bool) → a ≡ false → (a || b) ≡ true → b ≡ true
may_second true b e h = cc
may_second false b e h = h

starts_at : (sizes : Sizes) (words : Words) (views after : ProcessViews) (history : List Entry) (i : ℕ) (call : Call) (holds : Bool)
    (stage : CallStage) → IsShape sizes → i < sizes.processes
    → Meets sizes words views history → (views i).calls.stage ≡ stage → is_at_step stage ≡ false
    → may_start_at stage sizes holds call (views i) ≡ true → (holds ≡ true → BlockIsHeld (grip (own history i)) call)
    → MovedProcess i (started_at stage call (views i)) views after → Meets sizes words after history
starts_at sizes words views after history i call holds Between shape li meets e outside may held moved =
    call_begins sizes words views after history i call holds shape li meets e may held moved
starts_at sizes words views after history i call holds Choosing shape li meets e outside may held moved =
    search_goes sizes words views after history i shape li meets e moved
starts_at sizes words views after history i call holds Moving shape li meets e outside may held moved = cc
starts_at sizes words views after history i call holds Own shape li meets e outside may held moved = cc

-- a call that may start keeps the invariant as it starts
pub call_starts : (sizes : Sizes) (words : Words) (views after : ProcessViews) (history : List Entry) (i : ℕ) (call : Call) (holds : Bool)
    → IsShape sizes → i < sizes.processes
    → Meets sizes words views history → is_at_step (views i).calls.stage ≡ false → may_go sizes holds call (views i) ≡ true
    → (holds ≡ true → BlockIsHeld (grip (own history i)) call)
    → MovedProcess i (started call (views i)) views after → Meets sizes words after history
call_starts sizes words views after history i call holds shape li meets outside may held moved =
    let stage = (views i).calls.stage in
    starts_at sizes words views after history i call holds stage shape li meets refl outside
    (may_second (is_at_step stage) (may_start_at stage sizes holds call (views i)) outside may) held moved
