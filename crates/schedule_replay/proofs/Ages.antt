-- a turn announces at most one transfer of one process
use Rattle.std.proofs.Common.{◌≡◌, ◌≢◌, ℕ, ◌+◌, ◌<◌, ◌≤◌, Bool, true, false, List, [], ◌∷◌, length, map, inl, inr, refl, ap, sym, ◌∙◌}
use Rattle.std.proofs.Common.{arith}
use Rattle.std.proofs.Math.ListN.{length-set}
use Rattle.std.specs.Prelude.{if◌then◌else◌, Option, None, Some, ◌^◌, ◌==◌, nat_lt, slice_set}
use Rattle.std.proofs.lemmas.Bool.{cases_eq}
use Rattle.word_layout.specs.Sizes.{Sizes, IsShape}
use Rattle.word_layout.specs.Packing.{most_age}
use Rattle.word_layout.proofs.Ages.{many_ages}
use Rattle.word_layout.specs.declared.announced.Wish.{Wish}
use Rattle.transfer_machine.specs.Machine.{met_in_try, met_at, try_ended, record_word_loaded, after_heard, installed}
use Rattle.transfer_machine.specs.Machine.{after_record}
use Rattle.transfer_machine.specs.Loads.{loaded_tag}
use Rattle.transfer_machine.specs.Tries.{begun_draft, pops_slot, after_announcement}
use Rattle.transfer_machine.specs.declared.loaded.Loaded.{Loaded}
use Rattle.word_layout.specs.Names.{record_words}
use Rattle.word_layout.specs.Packing.{tag_of}
use Rattle.transfer_machine.specs.Words.{met_word}
use Rattle.transfer_machine.specs.declared.stage.NextStep.{NextStep}
use Rattle.transfer_machine.specs.declared.stage.NextStep.TheVariants.{Rest, Announce, LoadFinalState, LoadReply, Try}
use Rattle.transfer_machine.specs.declared.stage.TryStep.{TryStep}
use Rattle.transfer_machine.specs.declared.stage.TryStep.TheVariants.{LoadState, LoadRecordWord, LoadCoveredSlot, ExchangeSlot}
use Rattle.transfer_machine.specs.declared.stage.TryStep.TheVariants.{LoadAnnouncement, LoadPoppedSlot, StoreRecordWord, ExchangeState}
use Rattle.transfer_machine.specs.declared.transfer.TransferView.{TransferView}
use Rattle.pool_machine.specs.Beginning.{begun_if_due, call_begun, search_begun_by, search_chosen, due}
use Rattle.pool_machine.specs.Conditions.{IsYoungFor}
use Rattle.pool_machine.specs.Pools.{opening_view, view_met}
use Rattle.pool_machine.specs.Steps.{call_met_at}
use Rattle.pool_machine.specs.declared.call.Call.{Call}
use Rattle.pool_machine.specs.declared.call.Call.TheVariants.{Allocate, Free, Read, Write, Search}
use Rattle.pool_machine.specs.declared.call.CallStage.{CallStage}
use Rattle.pool_machine.specs.declared.call.CallStage.TheVariants.{Between, Choosing, Moving, Own}
use Rattle.pool_machine.specs.declared.view.ProcessView.{ProcessView}
use Rattle.interleaving_core.specs.Moves.{CoreState, view_at, with_step, started, started_at}
use Rattle.interleaving_core.specs.Runs.{Turn, Moves, Events, by_of, is_made, turning_view, after_turn}
use Rattle.interleaving_core.specs.Steps.{is_alone, is_at_step, next_action, next_met}
use Rattle.interleaving_core.specs.TransferLaws.{after_turns}
use Rattle.interleaving_core.proofs.RunTurns.{own_view, others_leave, turn_sizes}
use Rattle.transfer_schedule.specs.Numbers.{is_idle}
use Rattle.schedule_replay.specs.Replays.{HasTurns, turn_of}
use Rattle.schedule_replay.specs.declared.schedule.Repeat.{Repeat}

either_age : (t : Bool) (x y : TransferView) {n : ℕ} → x.age ≡ n → y.age ≡ n → (if t then x else y).age ≡ n
either_age true x y a b = a
either_age false x y a b = b

record_age : (sizes : Sizes) (second : Bool) (index : ℕ) (loaded : Loaded) (v : TransferView)
    → (record_word_loaded sizes second index loaded v).age ≡ v.age
record_age sizes second index loaded v =
    either_age (index + 1 == record_words sizes)
    (record v { loaded = loaded; next = Try second (after_record loaded); draft = begun_draft loaded v.draft })
    (record v { loaded = loaded; next = Try second (LoadRecordWord (index + 1)) })
    refl refl

-- a step of a try announces none
tried_age : (sizes : Sizes) (v : TransferView) (word : ℕ) (second : Bool) (step : TryStep)
    → (met_in_try sizes v word second step).age ≡ v.age
tried_age sizes v word second LoadState = refl
tried_age sizes v word second (LoadRecordWord index) =
    let loaded = record v.loaded { record_words = slice_set v.loaded.record_words index word } in
    either_age (nat_lt (loaded_tag v.loaded) (tag_of word)) (try_ended second v) (record_word_loaded sizes second index loaded v) refl
    (record_age sizes second index loaded v)
tried_age sizes v word second (LoadCoveredSlot offset) = refl
tried_age sizes v word second (ExchangeSlot offset) = refl
tried_age sizes v word second (LoadAnnouncement process) =
    let loaded : Loaded = record v.loaded { announcements = slice_set v.loaded.announcements process word } in
    either_age (pops_slot sizes.processes v.loaded process word v.draft)
    (record v { loaded = loaded; next = Try second (LoadPoppedSlot process) })
    (record v {
      loaded = loaded;
      next = Try second (after_heard sizes process);
      draft = after_announcement sizes.processes v.loaded process word 0 v.draft;
    })
    refl refl
tried_age sizes v word second (LoadPoppedSlot process) = refl
tried_age sizes v word second (StoreRecordWord index) = refl
tried_age sizes v word second ExchangeState = either_age (word == v.loaded.state) (installed v) (try_ended second v) refl refl

-- a step of a transfer announces at most one
met_age : (sizes : Sizes) (v : TransferView) (word : ℕ) (next : NextStep) → (met_at sizes v word next).age ≤ v.age + 1
met_age sizes v word Rest = omega arith
met_age sizes v word Announce = omega arith
met_age sizes v word (Try second step) = omega (arith, tried_age sizes v word second step)
met_age sizes v word LoadFinalState = omega arith
met_age sizes v word LoadReply = omega arith

-- so does a step of a call
call_age : (sizes : Sizes) (v : ProcessView) (word : ℕ) (stage : CallStage)
    → (call_met_at sizes v word stage).transfer.age ≤ v.transfer.age + 1
call_age sizes v word Between = omega arith
call_age sizes v word Choosing = omega arith
call_age sizes v word Moving = met_age sizes v.transfer word v.transfer.next
call_age sizes v word Own = omega arith

next_age : (sizes : Sizes) (v : ProcessView) (word : ℕ) (alone : Bool) → is_alone v.calls.way ≡ alone
    → (next_met sizes v word).transfer.age ≤ v.transfer.age + 1
next_age sizes v word true e = rw e (met_age sizes v.transfer word v.transfer.next)
next_age sizes v word false e = rw e (call_age sizes v word v.calls.stage)

-- what begins announces none
due_age : (wish : Option Wish) (v : ProcessView) → (begun_if_due wish v).transfer.age ≡ v.transfer.age
due_age None v = refl
due_age (Some wish) v = refl

search_age : (t : Bool) (v : ProcessView) → (search_begun_by t v).transfer.age ≡ v.transfer.age
search_age true v = due_age (due v.pool) v
search_age false v = refl

begun_age : (call : Call) (v : ProcessView) → (call_begun call v).transfer.age ≡ v.transfer.age
begun_age Allocate v = due_age (due v.pool) v
begun_age (Free block) v = due_age (due v.pool) v
begun_age (Read block index) v = refl
begun_age (Write block index value) v = refl
begun_age Search v = search_age (is_idle v.pool.plan.pending) v

started_age : (call : Call) (v : ProcessView) (stage : CallStage) → (started_at stage call v).transfer.age ≡ v.transfer.age
started_age call v Between = begun_age call v
started_age call v Choosing = due_age (due v.pool) v
started_age call v Moving = begun_age call v
started_age call v Own = begun_age call v

calling_age : (call : Call) (v : ProcessView) (t : Bool) → (if t then v else started call v).transfer.age ≡ v.transfer.age
calling_age call v true = refl
calling_age call v false = started_age call v v.calls.stage

-- an event announces at most one transfer of its process
event_age : (call : Call) (s : CoreState) (i : ℕ) → i < length s.views → (t : Bool) → is_made (Events i call) s ≡ t
    → (view_at (after_turn (Events i call) s) i).transfer.age ≤ (view_at s i).transfer.age + 1
event_age call s i low true e =
    let v = turning_view (Events i call) s in
    let word = met_word s.sizes s.words (next_action s.sizes v) in
    let own = own_view s i v low in
    let same = calling_age call (view_at s i) (is_at_step (view_at s i).calls.stage) in
    rw e (rw own (omega (arith, same, next_age s.sizes v word (is_alone v.calls.way) refl)))
event_age call s i low false e = rw e (omega arith)

any_age : (by : ℕ) (call : Call) (s : CoreState) (i : ℕ) → i < length s.views
    → (view_at (after_turn (Events by call) s) i).transfer.age ≤ (view_at s i).transfer.age + 1
any_age by call s i low = elim (cases_eq i by) [
  | inl e ↦ rw (sym e) (event_age call s i low (is_made (Events i call) s) refl)
  | inr ne ↦ omega (arith, ap (λ v. v.transfer.age) (others_leave s (Events by call) i ne))
]

views_of : (t : Bool) (by : ℕ) (v : ProcessView) (s : CoreState) → length (if t then with_step by v s else s).views ≡ length s.views
views_of true by v s = length-set s.views by _
views_of false by v s = refl

-- so one event fewer is left after an event
pub has_turns_after : (count : ℕ) (repeat : Repeat) (s : CoreState) → HasTurns (count + 1) s
    → HasTurns count (after_turn (turn_of repeat) s)
has_turns_after count repeat s has =
    let turn = turn_of repeat in
    let sizes = turn_sizes turn s in
    record {
      shape = rw sizes has.shape;
      views = views_of (is_made turn s) (by_of turn) (turning_view turn s) s ∙ has.views ∙ ap (λ n. n.processes) (sym sizes);
      young = λ i li.
          let low : i < s.sizes.processes = omega (arith, li, ap (λ n. n.processes) sizes) in
          omega (arith, any_age repeat.event.by repeat.event.call s i (omega (arith, low, has.views)), has.young i low);
    }

-- fewer events are left where more are
pub has_turns_fewer : (count more : ℕ) (s : CoreState) → count ≤ more → HasTurns more s → HasTurns count s
has_turns_fewer count more s few has = record {
  shape = has.shape;
  views = has.views;
  young = λ i li. omega (arith, few, has.young i li);
}

-- and so after several
pub has_turns_later : (events : List Repeat) (count : ℕ) (s : CoreState) → HasTurns (length events + count) s
    → HasTurns count (after_turns (map turn_of events) s)
unfolding after_turns
has_turns_later [] count s has = has_turns_fewer count _ s (omega arith) has
has_turns_later (repeat ∷ events) count s has =
    has_turns_later events count (after_turn (turn_of repeat) s)
    (has_turns_after (length events + count) repeat s (has_turns_fewer _ _ s (omega arith) has))

-- a process that may make one event more is young enough for any call
pub is_young : (call : Call) (s : CoreState) (i : ℕ) → i < s.sizes.processes → HasTurns 1 s → IsYoungFor s.sizes call (view_at s i)
is_young call s i li has = for_call call (omega (arith, has.young i li, many_ages s.sizes has.shape))
  where
    for_call : (call : Call) → (view_at s i).transfer.age < most_age s.sizes → IsYoungFor s.sizes call (view_at s i)
    for_call Allocate young = λ _. young
    for_call (Free block) young = λ _. young
    for_call (Read block index) young = tt
    for_call (Write block index value) young = tt
    for_call Search young = young
