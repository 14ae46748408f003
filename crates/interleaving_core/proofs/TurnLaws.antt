-- a run begins what it is asked for, and is answered so
use Rattle.std.proofs.Common.{◌≡◌, ℕ, ◌+◌, ◌<◌, ◌==◌, Bool, true, false, Option, None, Some, List, refl, sym, ap, ◌∙◌}
use Rattle.std.proofs.Common.{inl, inr, subst, arith, get_or, set, get_or-set_same}
use Rattle.std.specs.Prelude.{if◌then◌else◌, ◌||◌}
use Rattle.word_layout.specs.Sizes.{Sizes}
use Rattle.word_layout.specs.Names.{word_at}
use Rattle.word_layout.specs.Packing.{announced_word}
use Rattle.word_layout.specs.declared.announced.Wish.{Wish}
use Rattle.word_layout.specs.declared.announced.Wish.TheVariants.{Take, Give}
use Rattle.word_layout.specs.declared.name.WordName.TheVariants.{Announcement}
use Rattle.pool_model.specs.declared.entry.Entry.{Entry}
use Rattle.transfer_machine.specs.Stages.{is_rest}
use Rattle.transfer_machine.specs.Words.{acted, met_word}
use Rattle.transfer_machine.specs.declared.stage.NextStep.{NextStep}
use Rattle.transfer_machine.specs.declared.stage.NextStep.TheVariants.{Announce}
use Rattle.pool_machine.specs.Pools.{opening_view, view_met, pending_of, pool_met_at}
use Rattle.pool_machine.specs.Beginning.{search_begun_by, call_begun, alone_begun}
use Rattle.pool_machine.specs.declared.call.Call.{Call}
use Rattle.pool_machine.specs.declared.call.Call.TheVariants.{Allocate, Free, Read, Write, Search}
use Rattle.pool_machine.specs.declared.call.CallStage.{CallStage}
use Rattle.pool_machine.specs.declared.call.CallStage.TheVariants.{Between, Choosing, Moving, Own}
use Rattle.pool_machine.specs.declared.view.ProcessView.{ProcessView}
use Rattle.pool_machine.specs.declared.event.Happened.{Happened}
use Rattle.pool_machine.specs.declared.event.Happened.TheVariants.{Ignored}
use Rattle.pool_machine.specs.OwnSteps.{next_block, allocate_answer, allocate_kind, own_answer_for, own_kind_for}
use Rattle.pool_machine.specs.Steps.{happened, is_paced, stage_after, call_met_at, call_answer_at}
use Rattle.transfer_schedule.specs.Numbers.{is_idle}
use Rattle.transfer_invariant.specs.Memory.{Acted}
use Rattle.batch_invariant.specs.Batches.{ProcessViews}
use Rattle.interleaving_core.specs.CallLaws.{is_in_call}
use Rattle.interleaving_core.specs.Moves.{CoreState, view_at, calling_view}
use Rattle.interleaving_core.specs.Runs.{Turn, Moves, Events, by_of, is_made, turning_view, after_turn, turn_answer}
use Rattle.interleaving_core.specs.Steps.{is_at_step, next_action, next_met}
use Rattle.interleaving_core.specs.TransferLaws.{rests}
use Rattle.interleaving_core.specs.TurnLaws as laws
use Rattle.interleaving_core.specs.TurnLaws.{IsAllocated, IsAnswerTo, GoesOn, HasEnded, MakesCall, HasBegunAlone, SetsOut, MakesStep}
use Rattle.interleaving_core.proofs.Begins.{choosing_in_calls}
use Rattle.interleaving_core.proofs.Standing.{numbered}
use Rattle.interleaving_core.proofs.Runs.{RunFits, turn_low, turn_meets}
use Rattle.interleaving_core.proofs.RunTurns.{others_leave, turn_sizes}
use Rattle.interleaving_core.proofs.CallLaws.{every_run}
use Rattle.interleaving_core.proofs.CallLawsData.{begun_first, turn_acts}
use Rattle.interleaving_core.proofs.CallLawsShort.{turn_turns, after_is, answer_is, within_made, made_view, ignored_state}
use Rattle.interleaving_core.proofs.MovingAnswers.{inside_calls, no_move}

-- the own step of a call answers it
allocate_answers : (i by : ℕ) (block : Option ℕ) → by ≡ i → IsAllocated i (happened (allocate_kind block) (allocate_answer by block))
allocate_answers i by None e = rw e (inr refl)
allocate_answers i by (Some block) e = rw e (inl (block, refl))

own_answers : (i : ℕ) (v : ProcessView) (word : ℕ) (call : Call) → v.transfer.number ≡ i
    → IsAnswerTo call i (happened (own_kind_for v.pool (Some call)) (own_answer_for v.transfer.number v.pool word (Some call)))
own_answers i v word Allocate e = allocate_answers i v.transfer.number (next_block v.pool) e
own_answers i v word (Free block) e = rw e refl
own_answers i v word (Read block index) e = (word, refl)
own_answers i v word (Write block index value) e = refl
own_answers i v word Search e = allocate_answers i v.transfer.number (next_block v.pool) e

-- a step of its transfer goes on with it
either_within : (t : Bool) (a b : CallStage) → is_in_call a ≡ true → is_in_call b ≡ true → is_in_call (if t then a else b) ≡ true
either_within true a b x y = x
either_within false a b x y = y

moves_within : (paced chosen : Bool) (quantum steps : ℕ) (next : NextStep) → is_in_call (stage_after paced chosen quantum steps next) ≡ true
moves_within true chosen quantum steps next = either_within (is_rest next || (steps + 1 == quantum)) Own Moving refl refl
moves_within false chosen quantum steps next =
    either_within (is_rest next) (if chosen then Own else Choosing) Moving (either_within chosen Own Choosing refl refl) refl

step_makes : (sizes : Sizes) (i : ℕ) (v : ProcessView) (word : ℕ) (call : Call) (stage : CallStage) → is_at_step stage ≡ true
    → v.calls.call ≡ Some call → v.transfer.number ≡ i
    → MakesCall call i (call_answer_at v word stage) (call_met_at sizes v word stage)
step_makes sizes i v word call Between inside same number = absurd (grind arith)
step_makes sizes i v word call Choosing inside same number = absurd (grind arith)
step_makes sizes i v word call Moving inside same number = inl (record {
  within = moves_within (is_paced v.calls.call) v.calls.chosen sizes.quantum v.calls.steps (view_met sizes v word).transfer.next;
  same = same;
  silent = refl;
})
step_makes sizes i v word call Own inside same number = inr (record {
  answered = rw same (own_answers i v word call number);
  between = refl;
})

-- a process makes its turns with its number
turn_number : (s : CoreState) (history : List Entry) (turn : Turn) → RunFits s history → is_made turn s ≡ true
    → (turning_view turn s).transfer.number ≡ by_of turn
turn_number s history turn fits made =
    let i = by_of turn in
    let v = turning_view turn s in
    let views : ProcessViews = λ o. get_or (set s.views i v) o (opening_view s.sizes o) in
    let li = turn_low s turn made in
    let here : views i ≡ v = get_or-set_same s.views i v (opening_view s.sizes i) (rw fits.seats li) in
    let (ghosts, h) = turn_meets s history turn fits made li in
    sym (ap (λ (w : ProcessView). w.transfer.number) here) ∙ numbered s.sizes (word_at s.sizes s.words) views history ghosts i li h

-- so a turn of a process that sets out with this call
turn_makes : (s : CoreState) (history : List Entry) (i : ℕ) (asked call : Call) → RunFits s history → is_made (Events i asked) s ≡ true
    → (turning_view (Events i asked) s).calls.call ≡ Some call
    → MakesCall call i (turn_answer (Events i asked) s) (view_at (after_turn (Events i asked) s) i)
turn_makes s history i asked call fits made same =
    let v = turning_view (Events i asked) s in
    let word = met_word s.sizes s.words (next_action s.sizes v) in
    let k = turn_turns history s i asked fits made in
    let answer = answer_is s i asked made k.calls in
    let after = after_is s history i asked fits made k.calls in
    let step = step_makes s.sizes i v word call v.calls.stage k.inside same (turn_number s history (Events i asked) fits made) in
    subst (λ (x : ProcessView). MakesCall call i (turn_answer (Events i asked) s) x) (sym after)
    (subst (λ (told : Happened). MakesCall call i told (call_met_at s.sizes v word v.calls.stage)) (sym answer) step)

-- the call that is asked for is begun
search_call : (t : Bool) (v : ProcessView) → (search_begun_by t v).calls.call ≡ Some Search
search_call true v = refl
search_call false v = refl

begun_call : (call : Call) (v : ProcessView) → (call_begun call v).calls.call ≡ Some call
begun_call Allocate v = refl
begun_call (Free block) v = refl
begun_call (Read block index) v = refl
begun_call (Write block index value) v = refl
begun_call Search v = search_call (is_idle v.pool.plan.pending) v

begins_here : (history : List Entry) (s : CoreState) → RunFits s history → (i : ℕ) (call : Call) → (view_at s i).calls.stage ≡ Between
    → is_made (Events i call) s ≡ true
    → MakesCall call i (turn_answer (Events i call) s) (view_at (after_turn (Events i call) s) i)
begins_here history s fits i call between made =
    let first = begun_first call (view_at s i) between in
    turn_makes s history i call call fits made (ap (λ (v : ProcessView). v.calls.call) first ∙ begun_call call (view_at s i))

-- between two calls a turn begins the call that is asked for
pub calls_begin_as_asked : laws.CallsBeginAsAsked
calls_begin_as_asked = every_run _ begins_here

-- and stays the same
goes_with : (asked : Call) (v : ProcessView) (stage : CallStage) → v.calls.stage ≡ stage → is_in_call stage ≡ true
    → (v.calls.stage ≡ Choosing → v.calls.call ≡ Some Search) → (calling_view asked v).calls.call ≡ v.calls.call
goes_with asked v Between e within searches = cc
goes_with asked v Choosing e within searches = rw e (sym (searches e))
goes_with asked v Moving e within searches = rw e refl
goes_with asked v Own e within searches = rw e refl

stays_here : (history : List Entry) (s : CoreState) → RunFits s history → (turn : Turn) (call : Call) → by_of turn < s.sizes.processes
    → is_in_call (view_at s (by_of turn)).calls.stage ≡ true
    → (view_at s (by_of turn)).calls.call ≡ Some call
    → MakesCall call (by_of turn) (turn_answer turn s) (view_at (after_turn turn s) (by_of turn))
stays_here history s fits (Moves i wish) call li within same =
    let off = no_move s i wish (inside_calls s history i fits li within) in
    inl (record {
      within = rw off within;
      same = rw off same;
      silent = rw off refl;
    })
stays_here history s fits (Events i asked) call li within same =
    let v = view_at s i in
    let made = within_made s i asked li within in
    let (ghosts, h) = fits.meets in
    let searches = λ (e : v.calls.stage ≡ Choosing). (choosing_in_calls s.sizes i v (ghosts.ledgers i) e (h.pools i li)).stage.searches e in
    turn_makes s history i asked call fits made (goes_with asked v v.calls.stage refl within searches ∙ same)

-- in a call the turn goes on with it
pub calls_stay : laws.CallsStay
calls_stay = every_run _ stays_here

-- the step of a view that has begun a transfer alone announces it
pending_begun : (wish : Wish) (v : ProcessView) (word : ℕ)
    → (pool_met_at word (alone_begun wish v).pool Announce).plan.pending ≡ pending_of wish
pending_begun Take v word = refl
pending_begun (Give head) v word = refl

moving_begins : (s : CoreState) (i : ℕ) (wish : Wish) → rests s i ≡ true
    → turning_view (Moves i wish) s ≡ alone_begun wish (view_at s i)
moving_begins s i wish rest = rw rest refl

alone_here : (history : List Entry) (s : CoreState) → RunFits s history → (i : ℕ) (wish : Wish) → rests s i ≡ true
    → is_made (Moves i wish) s ≡ true → HasBegunAlone wish i (after_turn (Moves i wish) s)
alone_here history s fits i wish rest made =
    let turn = Moves i wish in
    let old = view_at s i in
    let begun = alone_begun wish old in
    let first = moving_begins s i wish rest in
    let own = made_view s turn made (rw fits.seats (turn_low s turn made)) in
    let after : view_at (after_turn turn s) i ≡ view_met s.sizes begun (met_word s.sizes s.words (next_action s.sizes begun)) =
    own ∙ ap (λ (v : ProcessView). next_met s.sizes v (met_word s.sizes s.words (next_action s.sizes v))) first in
    let number : old.transfer.number ≡ i = sym (ap (λ (v : ProcessView). v.transfer.number) first) ∙ turn_number s history turn fits made in
    let acts = subst (λ (v : ProcessView). Acted s.sizes (next_action s.sizes v) (word_at s.sizes s.words)
    (word_at s.sizes (acted s.sizes s.words (next_action s.sizes v)))) first (turn_acts s history turn fits made) in
    let words : (after_turn turn s).words ≡ acted s.sizes s.words (next_action s.sizes begun) =
    rw made (ap (λ (v : ProcessView). acted s.sizes s.words (next_action s.sizes v)) first) in
    let told : word_at s.sizes (after_turn turn s).words (Announcement i) ≡ announced_word
    (record { number = old.transfer.age + 1; wish = wish }) =
    ap (λ (all : List ℕ). word_at s.sizes all (Announcement i)) words
    ∙ (ap (λ (n : ℕ). word_at s.sizes (acted s.sizes s.words (next_action s.sizes begun)) (Announcement n)) (sym number) ∙ acts.here) in
    record {
      goes = ap (λ (v : ProcessView). is_rest v.transfer.next) after;
      wishes = ap (λ (v : ProcessView). v.transfer.wish) after;
      way = ap (λ (v : ProcessView). v.calls.way) after;
      pending =
          ap (λ (v : ProcessView). v.pool.plan.pending) after ∙ pending_begun wish old
          (met_word s.sizes s.words (next_action s.sizes begun));
      told =
          ap (λ (z : Sizes). word_at z (after_turn turn s).words (Announcement i)) (turn_sizes turn s)
          ∙ (told ∙ ap (λ (n : ℕ). announced_word (record { number = n; wish = wish }))
          (sym (ap (λ (v : ProcessView). v.transfer.age) after)));
    }

-- at rest a turn begins the transfer that is wished
pub transfers_begin_as_asked : laws.TransfersBeginAsAsked
transfers_begin_as_asked = every_run _ alone_here

-- a turn that is made makes the machine's step
sets_out : (s : CoreState) (turn : Turn) → SetsOut turn (view_at s (by_of turn)) (turning_view turn s)
sets_out s (Moves by wish) = record { goes_on = λ e. rw e refl; begins = λ e. rw e refl }
sets_out s (Events by call) = record { goes_on = λ e. rw e refl; chooses = λ e. rw e refl; begins = λ e. rw e refl }

steps_here : (history : List Entry) (s : CoreState) → RunFits s history → (turn : Turn) → is_made turn s ≡ true
    → (v : ProcessView) × SetsOut turn (view_at s (by_of turn)) v × MakesStep turn v s
steps_here history s fits turn made = (
  turning_view turn s,
  sets_out s turn,
  record {
    words = rw made refl;
    own = made_view s turn made (rw fits.seats (turn_low s turn made));
    others = λ other ne. others_leave s turn other ne;
    answer = rw made refl;
    holders = rw made refl;
  },
)

-- a turn that is made is one step of its process's view
pub turns_make_steps : laws.TurnsMakeSteps
turns_make_steps = every_run _ steps_here

ignored_here : (history : List Entry) (s : CoreState) → RunFits s history → (turn : Turn) → is_made turn s ≡ false
    → (after_turn turn s ≡ s) × (turn_answer turn s ≡ Ignored)
ignored_here history s fits turn off = (ignored_state s turn off, rw off refl)

-- a turn that may not be made changes nothing
pub other_turns_are_ignored : laws.OtherTurnsAreIgnored
other_turns_are_ignored = every_run _ ignored_here
