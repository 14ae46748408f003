-- the content changes by exchanges of the state alone, which apply pending transfers
use Rattle.std.proofs.Common.{◌≡◌, ℕ, ◌<◌, ◌⊎◌, Bool, true, false, Option, None, Some, List, length, get_or, set, get_or-set_same}
use Rattle.std.proofs.Common.{get_or-set_other, refl, subst, sym, ◌∙◌, ap, inl, inr, arith}
use Rattle.std.specs.Prelude.{if◌then◌else◌}
use Rattle.std.proofs.lemmas.Bool.{cases_eq, false≢true}
use Rattle.word_layout.specs.Sizes.{Sizes, IsShape}
use Rattle.word_layout.specs.Names.{word_at}
use Rattle.word_layout.specs.declared.announced.Wish.{Wish}
use Rattle.pool_model.specs.declared.entry.Entry.{Entry}
use Rattle.transfer_machine.specs.Machine.{action_of, met_of}
use Rattle.pool_machine.specs.Pools.{opening_view}
use Rattle.transfer_machine.specs.States.{StackState}
use Rattle.transfer_machine.specs.Words.{met_word, name_of}
use Rattle.transfer_machine.specs.declared.action.Action.{Action}
use Rattle.pool_machine.specs.declared.call.Call.{Call}
use Rattle.pool_machine.specs.declared.call.Call.TheVariants.{Allocate, Free, Read, Write, Search}
use Rattle.pool_machine.specs.declared.call.CallStage.{CallStage}
use Rattle.pool_machine.specs.declared.call.CallStage.TheVariants.{Between, Choosing, Moving, Own}
use Rattle.transfer_machine.specs.declared.transfer.TransferView.{TransferView}
use Rattle.pool_machine.specs.declared.view.ProcessView.{ProcessView}
use Rattle.transfer_machine.specs.Stages.{is_rest}
use Rattle.transfer_invariant.specs.Memory.{Acted, Moved, state_tag}
use Rattle.transfer_invariant.specs.Installing.{states_after}
use Rattle.stack_invariant.specs.Gives.{present}
use Rattle.stack_invariant.proofs.Keeps.{steps_keep_stack}
use Rattle.stack_invariant.proofs.OtherWords.{StackWordsStay, records_stay}
use Rattle.batch_invariant.specs.Batches.{ProcessViews, MovedProcess}
use Rattle.batch_invariant.proofs.Steps.{transfers_move}
use Rattle.pool_machine.specs.Beginning.{due, begun_if_due, alone_begun, search_begun_by, call_begun}
use Rattle.pool_machine.specs.OwnSteps.{own_action}
use Rattle.interleaving_core.specs.Invariant.{Ghosts, Holds}
use Rattle.interleaving_core.specs.Moves.{CoreState, view_at, with_step, started_at, started}
use Rattle.transfer_schedule.specs.Numbers.{is_idle}
use Rattle.interleaving_core.specs.Runs.{Turn, Moves, Events, by_of, is_made, turning_view}
use Rattle.interleaving_core.specs.Steps.{is_alone, is_busy, is_at_step, next_action, next_met}
use Rattle.interleaving_core.specs.TransferLaws.{next_step, announced_count, moves_transfer, ShowsState, LeavesContent, AppliesPending}
use Rattle.interleaving_core.specs.TransferLaws.{IsExchange, ContentMoves}
use Rattle.interleaving_core.proofs.Holds.{step_allowed}
use Rattle.interleaving_core.proofs.Joins.{transfers, supplied}
use Rattle.interleaving_core.proofs.OwnParts.{own_leaves_stack}
use Rattle.interleaving_core.proofs.OwnSteps.{stack_stays}
use Rattle.interleaving_core.proofs.Runs.{RunFits, run_fits, turn_low, turn_meets, turn_busy, moved_twice}
use Rattle.interleaving_core.proofs.RunStates.{holds_show}
use Rattle.interleaving_core.proofs.Tables.{table_acted, next_in_range}
use Rattle.interleaving_core.proofs.RunShown.{both_shown, step_content}

-- a process that exchanges the state after it began something was at it before, and no beginning changes an age
due_exchanges : (wish : Option Wish) (v : ProcessView) → IsExchange (begun_if_due wish v).transfer.next → IsExchange v.transfer.next
due_exchanges None v at = at
due_exchanges (Some wish) v (second, e) = grind arith

moving_exchanges : (wish : Wish) (v : ProcessView) (t : Bool) → IsExchange (if t then alone_begun wish v else v).transfer.next
    → IsExchange v.transfer.next
moving_exchanges wish v true (second, e) = grind arith
moving_exchanges wish v false at = at

search_exchanges : (t : Bool) (v : ProcessView) → IsExchange (search_begun_by t v).transfer.next → IsExchange v.transfer.next
search_exchanges true v at = due_exchanges (due v.pool) v at
search_exchanges false v at = at

begun_exchanges : (call : Call) (v : ProcessView) → IsExchange (call_begun call v).transfer.next → IsExchange v.transfer.next
begun_exchanges Allocate v at = due_exchanges (due v.pool) v at
begun_exchanges (Free block) v at = due_exchanges (due v.pool) v at
begun_exchanges (Read block index) v at = at
begun_exchanges (Write block index value) v at = at
begun_exchanges Search v at = search_exchanges (is_idle v.pool.plan.pending) v at

started_exchanges : (call : Call) (v : ProcessView) (stage : CallStage) → IsExchange (started_at stage call v).transfer.next
    → IsExchange v.transfer.next
started_exchanges call v Between at = begun_exchanges call v at
started_exchanges call v Choosing at = due_exchanges (due v.pool) v at
started_exchanges call v Moving at = begun_exchanges call v at
started_exchanges call v Own at = begun_exchanges call v at

calling_exchanges : (call : Call) (v : ProcessView) (t : Bool) → IsExchange (if t then v else started call v).transfer.next
    → IsExchange v.transfer.next
calling_exchanges call v true at = at
calling_exchanges call v false at = started_exchanges call v v.calls.stage at

turning_exchanges : (turn : Turn) (s : CoreState) → IsExchange (turning_view turn s).transfer.next → IsExchange (next_step s (by_of turn))
turning_exchanges (Moves by wish) s at = moving_exchanges wish (view_at s by) (is_rest (view_at s by).transfer.next) at
turning_exchanges (Events by call) s at = calling_exchanges call (view_at s by) (is_at_step (view_at s by).calls.stage) at

due_age : (wish : Option Wish) (v : ProcessView) → (begun_if_due wish v).transfer.age ≡ v.transfer.age
due_age None v = refl
due_age (Some wish) v = refl

moving_age : (wish : Wish) (v : ProcessView) (t : Bool) → (if t then alone_begun wish v else v).transfer.age ≡ v.transfer.age
moving_age wish v true = refl
moving_age wish v false = refl

search_age : (t : Bool) (v : ProcessView) → (search_begun_by t v).transfer.age ≡ v.transfer.age
search_age true v = due_age (due v.pool) v
search_age false v = refl

begun_age : (call : Call) (v : ProcessView) → (call_begun call v).transfer.age ≡ v.transfer.age
begun_age Allocate v = due_age (due v.pool) v
begun_age (Free block) v = due_age (due v.pool) v
begun_age (Read block index) v = refl
begun_age (Write block index value) v = refl
begun_age Search v = search_age (is_idle v.pool.plan.pending) v

started_age : (call : Call) (v : ProcessView) (stage : CallStage) → (started_at stage call v).transfer.age ≡ v.transfer.age
started_age call v Between = begun_age call v
started_age call v Choosing = due_age (due v.pool) v
started_age call v Moving = begun_age call v
started_age call v Own = begun_age call v

calling_age : (call : Call) (v : ProcessView) (t : Bool) → (if t then v else started call v).transfer.age ≡ v.transfer.age
calling_age call v true = refl
calling_age call v false = started_age call v v.calls.stage

turning_age : (turn : Turn) (s : CoreState) → (turning_view turn s).transfer.age ≡ announced_count s (by_of turn)
turning_age (Moves by wish) s = moving_age wish (view_at s by) (is_rest (view_at s by).transfer.next)
turning_age (Events by call) s = calling_age call (view_at s by) (is_at_step (view_at s by).calls.stage)

ages_of : (sizes : Sizes) (xs : List ProcessView) (i : ℕ) (v : ProcessView) → i < length xs
    → v.transfer.age ≡ (get_or xs i (opening_view sizes i)).transfer.age → (o : ℕ)
    → (get_or (set xs i v) o (opening_view sizes o)).transfer.age ≡ (get_or xs o (opening_view sizes o)).transfer.age
ages_of sizes xs i v low same o = elim (cases_eq o i) [
  | inl e ↦ rw e (ap (λ w. w.transfer.age) (get_or-set_same xs i v (opening_view sizes i) low) ∙ same)
  | inr ne ↦ ap (λ w. w.transfer.age) (get_or-set_other xs i o v (opening_view sizes o) ne)
]

-- a step is one of the transfer, or the own one of a call
pub moves_action : (sizes : Sizes) (v : ProcessView) (t : Bool) (stage : CallStage) → is_alone v.calls.way ≡ t → v.calls.stage ≡ stage
    → moves_transfer v ≡ true → next_action sizes v ≡ action_of sizes v.transfer
moves_action sizes v true stage alone here moves = rw alone refl
moves_action sizes v false Between alone here moves = absurd (false≢true (rw (alone, here) at moves))
moves_action sizes v false Choosing alone here moves = absurd (false≢true (rw (alone, here) at moves))
moves_action sizes v false Moving alone here moves = rw (alone, here) refl
moves_action sizes v false Own alone here moves = absurd (false≢true (rw (alone, here) at moves))

-- a step that moves a transfer is the transfer's own
pub moves_met : (sizes : Sizes) (v : ProcessView) (word : ℕ) (t : Bool) (stage : CallStage) → is_alone v.calls.way ≡ t
    → v.calls.stage ≡ stage
    → moves_transfer v ≡ true → (next_met sizes v word).transfer ≡ met_of sizes v.transfer word
moves_met sizes v word true stage alone here moves = rw alone refl
moves_met sizes v word false Between alone here moves = absurd (false≢true (rw (alone, here) at moves))
moves_met sizes v word false Choosing alone here moves = absurd (false≢true (rw (alone, here) at moves))
moves_met sizes v word false Moving alone here moves = rw (alone, here) refl
moves_met sizes v word false Own alone here moves = absurd (false≢true (rw (alone, here) at moves))

-- any other step of a busy process is the own step of its call
pub own_acts : (sizes : Sizes) (v : ProcessView) (t : Bool) (stage : CallStage) → is_alone v.calls.way ≡ t → v.calls.stage ≡ stage
    → is_busy v ≡ true → moves_transfer v ≡ false → next_action sizes v ≡ own_action v
own_acts sizes v true stage alone here busy not = absurd (false≢true (sym (rw alone at not)))
own_acts sizes v false Between alone here busy not = absurd (false≢true (rw (alone, here) at busy))
own_acts sizes v false Choosing alone here busy not = absurd (false≢true (rw (alone, here) at busy))
own_acts sizes v false Moving alone here busy not = absurd (false≢true (sym (rw (alone, here) at not)))
own_acts sizes v false Own alone here busy not = rw (alone, here) refl

own_leaves : (sizes : Sizes) (v : ProcessView) (word : ℕ) (t : Bool) (stage : CallStage) → is_alone v.calls.way ≡ t → v.calls.stage ≡ stage
    → is_busy v ≡ true → moves_transfer v ≡ false → (next_met sizes v word).transfer ≡ v.transfer
own_leaves sizes v word true stage alone here busy not = absurd (false≢true (sym (rw alone at not)))
own_leaves sizes v word false Between alone here busy not = absurd (false≢true (rw (alone, here) at busy))
own_leaves sizes v word false Choosing alone here busy not = absurd (false≢true (rw (alone, here) at busy))
own_leaves sizes v word false Moving alone here busy not = absurd (false≢true (sym (rw (alone, here) at not)))
own_leaves sizes v word false Own alone here busy not = rw (alone, here) refl

-- what a step makes of the content
MoveContent : CoreState → ℕ → ProcessView → Type 0
MoveContent s by v =
    LeavesContent s (with_step by v s)
    ⊎ (IsExchange v.transfer.next
    × ((announcements : ℕ → ℕ) × ((t : StackState) × AppliesPending s (with_step by v s) announcements t)))

-- of a process among these views, which are those of the moment but for what it has begun
module _
    (s : CoreState)
    (by : ℕ)
    (views : ProcessViews)
    (history : List Entry)
    (ghosts : Ghosts)
    (shape : IsShape s.sizes)
    (li : by < s.sizes.processes)
    (h : Holds s.sizes (word_at s.sizes s.words) views history ghosts)
    (acted : Acted s.sizes (next_action s.sizes (views by)) (word_at s.sizes s.words) (word_at s.sizes (with_step by (views by) s).words))
    (moved : MovedProcess by (next_met s.sizes (views by) (met_word s.sizes s.words (next_action s.sizes (views by)))) views
    (view_at (with_step by (views by) s)))
    (ages : (o : ℕ) → (views o).transfer.age ≡ announced_count s o)
  where
    transfer_content : moves_transfer (views by) ≡ true → MoveContent s by (views by)
    unfolding MoveContent
    transfer_content moves =
        let v = views by in
        let now = with_step by v s in
        let words = word_at s.sizes s.words in
        let new = word_at s.sizes now.words in
        let action = moves_action s.sizes v (is_alone v.calls.way) v.calls.stage refl refl moves in
        let acts = subst (λ (a : Action). Acted s.sizes a words new) action acted in
        let met = moves_met s.sizes v (met_word s.sizes s.words (next_action s.sizes v)) (is_alone v.calls.way) v.calls.stage refl refl
        moves
        ∙ ap (λ (a : Action). met_of s.sizes v.transfer (words (name_of a))) action in
        let goes = subst (λ (x : TransferView). Moved by x (transfers views) (transfers (view_at now))) met
        (transfers_move by _ views (view_at now) moved) in
        let kept = steps_keep_stack s.sizes words new (transfers views) (transfers (view_at now)) ghosts.states by shape li h.stack
        (supplied s.sizes words views history ghosts by shape li h) acts goes in
        let old_shown = holds_show s (transfers views) ghosts.states h.stack (λ o lo. ages o) in
        let new_shown = holds_show now (transfers (view_at now)) (states_after words v.transfer ghosts.states) kept (λ o lo. refl) in
        step_content s now refl by (transfers views) (transfers (view_at now)) ghosts.states shape li h.stack kept acts old_shown new_shown

    own_content : is_busy (views by) ≡ true → moves_transfer (views by) ≡ false → LeavesContent s (with_step by (views by) s)
    own_content busy not =
        let v = views by in
        let now = with_step by v s in
        let words = word_at s.sizes s.words in
        let new = word_at s.sizes now.words in
        let acts = subst (λ (a : Action). Acted s.sizes a words new)
        (own_acts s.sizes v (is_alone v.calls.way) v.calls.stage refl refl busy not) acted in
        let stay : StackWordsStay s.sizes words new = own_leaves_stack s.sizes words new v.pool v.calls.call acts in
        let met = own_leaves s.sizes v (met_word s.sizes s.words (next_action s.sizes v)) (is_alone v.calls.way) v.calls.stage refl refl
        busy not in
        let kept = stack_stays s.sizes words new by _ views (view_at now) ghosts.states moved met stay h.stack in
        let tag : state_tag new ≡ state_tag words = (records_stay s.sizes words new stay).state in
        let old_shown = holds_show s (transfers views) ghosts.states h.stack (λ o lo. ages o) in
        let new_shown = holds_show now (transfers (view_at now)) ghosts.states kept (λ o lo. refl) in
        both_shown s now (present words ghosts.states) refl old_shown (subst (λ (n : ℕ). ShowsState now (ghosts.states n)) tag new_shown)

    either_content : is_busy (views by) ≡ true → (t : Bool) → moves_transfer (views by) ≡ t → MoveContent s by (views by)
    unfolding MoveContent
    either_content busy true moves = transfer_content moves
    either_content busy false moves = inl (own_content busy moves)

-- the own step of a call leaves it
OwnLeaves : CoreState → ℕ → ProcessView → Type 0
OwnLeaves s by v = moves_transfer v ≡ false → LeavesContent s (with_step by v s)

-- of a turn that is made
made_content : (s : CoreState) (history : List Entry) (turn : Turn) → RunFits s history → is_made turn s ≡ true
    → MoveContent s (by_of turn) (turning_view turn s) × OwnLeaves s (by_of turn) (turning_view turn s)
unfolding OwnLeaves
made_content s history turn fits made =
    let by = by_of turn in
    let v = turning_view turn s in
    let li = turn_low s turn made in
    let low : by < length s.views = rw fits.seats li in
    let views : ProcessViews = λ o. get_or (set s.views by v) o (opening_view s.sizes o) in
    let words = word_at s.sizes s.words in
    let meets = turn_meets s history turn fits made li in
    let (ghosts, h) = meets in
    let here : views by ≡ v = get_or-set_same s.views by v (opening_view s.sizes by) low in
    let moved = subst (λ (w : ProcessView). MovedProcess by (next_met s.sizes w (met_word s.sizes s.words (next_action s.sizes w))) views
    (view_at (with_step by w s))) (sym here)
    (moved_twice s.sizes s.views by v (next_met s.sizes v (met_word s.sizes s.words (next_action s.sizes v))) low) in
    let busy = subst (λ (w : ProcessView). is_busy w ≡ true) (sym here) (turn_busy s history turn fits made li) in
    let allowed = step_allowed s.sizes words views history by fits.shape li meets busy in
    let does = table_acted s.sizes s.words (next_action s.sizes (views by)) fits.whole
    (next_in_range s.sizes words (views by) (is_alone (views by).calls.way) refl allowed) in
    let ages = λ (o : ℕ). ages_of s.sizes s.views by v low (turning_age turn s) o in
    subst (λ (w : ProcessView). MoveContent s by w × OwnLeaves s by w) here (
      either_content s by views history ghosts fits.shape li h does moved ages busy (moves_transfer (views by)) refl,
      own_content s by views history ghosts fits.shape li h does moved ages busy,
    )

-- an own step leaves the content of the stack
pub own_step_leaves : (s : CoreState) (history : List Entry) (turn : Turn) → RunFits s history → is_made turn s ≡ true
    → moves_transfer (turning_view turn s) ≡ false → LeavesContent s (with_step (by_of turn) (turning_view turn s) s)
unfolding OwnLeaves
own_step_leaves s history turn fits made own = (made_content s history turn fits made).1 own

-- a turn that isn't made changes nothing
content_of_turn : (s : CoreState) (history : List Entry) (turn : Turn) (t : Bool) → RunFits s history → is_made turn s ≡ t
    → LeavesContent s (if t then with_step (by_of turn) (turning_view turn s) s else s)
    ⊎ (IsExchange (next_step s (by_of turn))
    × ((announcements : ℕ → ℕ)
    × ((u : StackState) × AppliesPending s (if t then with_step (by_of turn) (turning_view turn s) s else s) announcements u)))
unfolding MoveContent
content_of_turn s history turn true fits made =
    elim ((made_content s history turn fits made).0) [
      | inl left ↦ inl left
      | inr applied ↦ inr (turning_exchanges turn s applied.0, applied.1)
    ]
content_of_turn s history turn false fits made = inl (record { content = refl; replies = λ o lo. refl })

-- the content changes only by an exchange of the state, which applies pending transfers
pub content_moves : ContentMoves
content_moves sizes past history s turn run = content_of_turn s history turn (is_made turn s) (run_fits sizes past history s run) refl
