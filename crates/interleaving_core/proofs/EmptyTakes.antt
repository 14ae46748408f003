-- few blocks were unheld since the announcement of a take that found nothing: what keeps this, of one process
use Rattle.std.proofs.Common.{◌≡◌, ◌≢◌, ℕ, ◌+◌, ◌<◌, ◌≤◌, Bool, true, false, Option, None, Some, List, [], ◌++◌, length, take, refl, sym}
use Rattle.std.proofs.Common.{ap}
use Rattle.std.proofs.Common.{◌∙◌, length-append, subst, arith}
use Rattle.std.specs.Prelude.{if◌then◌else◌, not}
use Rattle.std.proofs.lemmas.List.{take-append-le}
use Rattle.word_layout.specs.Packing.{value_of, reply_of}
use Rattle.word_layout.specs.declared.announced.Wish.{Wish}
use Rattle.word_layout.specs.declared.announced.Wish.TheVariants.{Take, Give}
use Rattle.word_layout.specs.declared.reply.Reply.{Reply}
use Rattle.word_layout.specs.declared.reply.Reply.TheVariants.{Nothing, Took, Gave}
use Rattle.pool_model.specs.declared.entry.Entry.{Entry}
use Rattle.pool_model.specs.History.{own, HasFewUnheld}
use Rattle.pool_model.specs.Limits.{Limits}
use Rattle.transfer_schedule.specs.Account.{opened}
use Rattle.transfer_schedule.specs.Numbers.{Numbers, is_taking, after_take}
use Rattle.transfer_schedule.specs.declared.pending.Pending.TheVariants.{Idle}
use Rattle.transfer_machine.specs.declared.stage.NextStep.{NextStep}
use Rattle.transfer_machine.specs.declared.stage.NextStep.TheVariants.{Rest, Announce, Try, LoadFinalState, LoadReply}
use Rattle.pool_machine.specs.Beginning.{due, begun_if_due, search_begun_by, call_begun}
use Rattle.transfer_schedule.specs.Numbers as schedule
use Rattle.pool_machine.specs.OwnSteps.{next_block, pool_own_met}
use Rattle.pool_machine.specs.Pools.{view_begun, pool_met_at, pool_ended, step_counted}
use Rattle.pool_machine.specs.declared.call.Call.{Call}
use Rattle.pool_machine.specs.declared.call.Call.TheVariants.{Allocate, Free, Read, Write, Search}
use Rattle.pool_machine.specs.declared.view.PoolView.{PoolView}
use Rattle.pool_machine.specs.declared.view.ProcessView.{ProcessView}
use Rattle.transfer_invariant.specs.Progress.{has_only_begun}
use Rattle.history_invariant.specs.Fits.{SeesBeginning, HadFewSince, LedgerFits}
use Rattle.history_invariant.specs.Ledger.{Ledger}
use Rattle.history_invariant.proofs.Fitting.{own_rises}
use Rattle.history_invariant.proofs.Holding.{few_now}
use Rattle.history_invariant.proofs.Seeing.{own_of_longer}
use Rattle.call_invariant.specs.Ledgers.{ledger_begun, ledger_moved_at, found_by}
use Rattle.interleaving_core.specs.EmptyTakes.{TakesHadFew}
use Rattle.interleaving_core.proofs.OwnParts.{ledger_allocated, ledger_by_call}
use Rattle.interleaving_core.proofs.OwnPlans.{own_same}

-- the same places, and a plan that says no more
pub few_same : (limits : Limits) (history : List Entry) (old new : Ledger) (plan after : Numbers) → new.found_nothing ≡ old.found_nothing
    → new.begun_place ≡ old.begun_place → new.ended_place ≡ old.ended_place → after.dry ≡ plan.dry
    → TakesHadFew limits history old plan → TakesHadFew limits history new after
few_same limits history old new plan after found begun ended dry h = record {
  pending = λ f. rw begun (h.pending (sym found ∙ f));
  dry = λ d. rw ended (h.dry (sym dry ∙ d));
}

-- a longer history
longer : (limits : Limits) (history tail : List Entry) (start : ℕ) → HadFewSince limits history start
    → HadFewSince limits (history ++ tail) start
longer limits history tail start h = record {
  place = h.place;
  after = h.after;
  within = omega (arith, h.within, length-append history tail);
  few = rw (take-append-le h.place history tail h.within) h.few;
}

-- takes that found nothing had few unheld blocks, also seen from a longer history
pub few_longer : (limits : Limits) (history tail : List Entry) (ledger : Ledger) (plan : Numbers) → TakesHadFew limits history ledger plan
    → TakesHadFew limits (history ++ tail) ledger plan
few_longer limits history tail ledger plan h = record {
  pending = λ f. longer limits history tail ledger.begun_place (h.pending f);
  dry = λ d. longer limits history tail ledger.ended_place (h.dry d);
}

-- an exchange answers a take with nothing, at a moment when few blocks are unheld
pub few_known : (limits : Limits) (history : List Entry) (t : Bool) (g : Ledger) (plan : Numbers)
    → (t ≡ true → HasFewUnheld limits history (length history)) → g.begun_place ≤ length history
    → TakesHadFew limits history g plan
    → TakesHadFew limits history (if t then record g { found_nothing = true } else g) plan
few_known limits history true g plan few le h = record {
  pending = λ f. few_now limits history g.begun_place le (few refl);
  dry = h.dry;
}
few_known limits history false g plan few le h = h

-- how the places of a ledger move with a step of the transfer
pub record PlacesMove (next : NextStep) (taking : Bool) (old new : Ledger) : Type 0 where
  pub opens : has_only_begun next ≡ true → new.found_nothing ≡ false
  pub found : has_only_begun next ≡ false → new.found_nothing ≡ old.found_nothing
  pub begun : has_only_begun next ≡ false → new.begun_place ≡ old.begun_place
  pub stays : next ≢ LoadReply → new.ended_place ≡ old.ended_place
  pub ended : next ≡ LoadReply → new.ended_place ≡ (if taking then old.begun_place else old.ended_place)

-- what the end of a transfer makes of the plan's word
end_dry : (t found : Bool) (x : Numbers) → (if t then after_take found x else record x { pending = Idle; done = 0 }).dry
    ≡ (if t then not found else x.dry)
end_dry true found x = refl
end_dry false found x = refl

ended_dry : (reply : Reply) (pool : PoolView)
    → (pool_ended reply pool).plan.dry ≡ (if is_taking pool.plan.pending then not (found_by reply) else pool.plan.dry)
ended_dry Nothing pool = end_dry (is_taking pool.plan.pending) false pool.plan
ended_dry (Took head) pool = end_dry (is_taking pool.plan.pending) true pool.plan
ended_dry Gave pool = end_dry (is_taking pool.plan.pending) true pool.plan

found_none : (reply : Reply) → not (found_by reply) ≡ true → reply ≡ Nothing
found_none Nothing e = refl
found_none (Took head) e = grind arith
found_none Gave e = grind arith

-- a step of the transfer
few_goes_on : (limits : Limits) (history : List Entry) (next : NextStep) (taking : Bool) (old new : Ledger) (plan after : Numbers)
    → has_only_begun next ≡ false → next ≢ LoadReply → PlacesMove next taking old new → after.dry ≡ plan.dry
    → TakesHadFew limits history old plan → TakesHadFew limits history new after
few_goes_on limits history next taking old new plan after not_first not_last m dry h =
    few_same limits history old new plan after (m.found not_first) (m.begun not_first) (m.stays not_last) dry h

few_ends : (limits : Limits) (history : List Entry) (taking : Bool) (reply : Reply) (old new : Ledger) (plan after : Numbers)
    → PlacesMove LoadReply taking old new → after.dry ≡ (if taking then not (found_by reply) else plan.dry)
    → (taking ≡ true → reply ≡ Nothing → old.found_nothing ≡ true)
    → TakesHadFew limits history old plan → TakesHadFew limits history new after
few_ends limits history true reply old new plan after m dry knows h = record {
  pending = λ f. rw (m.begun refl) (h.pending (sym (m.found refl) ∙ f));
  dry = λ d. rw (m.ended refl) (h.pending (knows refl (found_none reply (sym dry ∙ d))));
}
few_ends limits history false reply old new plan after m dry knows h =
    few_same limits history old new plan after (m.found refl) (m.begun refl) (m.ended refl) dry h

-- the same after a step of a transfer
pub few_moved : (limits : Limits) (history : List Entry) (next : NextStep) (word : ℕ) (pool : PoolView) (old new : Ledger)
    → PlacesMove next (is_taking pool.plan.pending) old new
    → (next ≡ LoadReply → is_taking pool.plan.pending ≡ true → reply_of (value_of word) ≡ Nothing → old.found_nothing ≡ true)
    → TakesHadFew limits history old pool.plan → TakesHadFew limits history new (pool_met_at word pool next).plan
few_moved limits history Rest word pool old new m knows h =
    few_goes_on limits history Rest _ old new pool.plan pool.plan refl (λ e. cc) m refl h
few_moved limits history Announce word pool old new m knows h = record {
  pending = λ f. absurd (no (sym (m.opens refl) ∙ f));
  dry = λ d. rw (m.stays (λ e. cc)) (h.dry d);
}
  where
    no : false ≢ true
    no e = cc
few_moved limits history (Try second step) word pool old new m knows h =
    few_goes_on limits history (Try second step) _ old new pool.plan (step_counted pool).plan refl (λ e. cc) m refl h
few_moved limits history LoadFinalState word pool old new m knows h =
    few_goes_on limits history LoadFinalState _ old new pool.plan (step_counted pool).plan refl (λ e. cc) m refl h
few_moved limits history LoadReply word pool old new m knows h =
    let reply = reply_of (value_of word) in
    few_ends limits history (is_taking pool.plan.pending) reply old new pool.plan (pool_ended reply (step_counted pool)).plan m
    (ended_dry reply (step_counted pool)) (knows refl) h

-- a beginning: the plan's word stays
pub begun_dry : (wish : Wish) (v : ProcessView) → (view_begun wish v).pool.plan.dry ≡ v.pool.plan.dry
begun_dry Take v = refl
begun_dry (Give head) v = refl

-- the beginning of a transfer leaves what is known of the last take
pub due_dry : (wish : Option Wish) (v : ProcessView) → (begun_if_due wish v).pool.plan.dry ≡ v.pool.plan.dry
due_dry None v = refl
due_dry (Some wish) v = begun_dry wish v

-- so does the beginning of a call
pub called_dry : (call : Call) (v : ProcessView) → (call_begun call v).pool.plan.dry ≡ v.pool.plan.dry
called_dry Allocate v = due_dry (due v.pool) v
called_dry (Free block) v = due_dry (due v.pool) v
called_dry (Read block index) v = refl
called_dry (Write block index value) v = refl
called_dry Search v = search_dry (schedule.is_idle v.pool.plan.pending) v
  where
    search_dry : (t : Bool) (v : ProcessView) → (search_begun_by t v).pool.plan.dry ≡ v.pool.plan.dry
    search_dry true v = due_dry (due v.pool) v
    search_dry false v = refl

-- takes that found nothing had few unheld blocks, also after the beginning of a call
pub few_called : (limits : Limits) (history : List Entry) (call : Call) (v : ProcessView) (ledger : Ledger)
    → TakesHadFew limits history ledger v.pool.plan
    → TakesHadFew limits history (ledger_begun call ledger) (call_begun call v).pool.plan
few_called limits history Allocate v ledger h =
    few_same limits history ledger _ v.pool.plan _ refl refl refl (called_dry Allocate v) h
few_called limits history (Free block) v ledger h =
    few_same limits history ledger _ v.pool.plan _ refl refl refl (called_dry (Free block) v) h
few_called limits history (Read block index) v ledger h = h
few_called limits history (Write block index value) v ledger h = h
few_called limits history Search v ledger h = few_same limits history ledger _ v.pool.plan _ refl refl refl (called_dry Search v) h

-- the own step of a call: the plan's word stays, and the history grows
few_allocated : (limits : Limits) (history past : List Entry) (i : ℕ) (block : Option ℕ) (ledger : Ledger) (plan after : Numbers)
    → after.dry ≡ plan.dry → TakesHadFew limits history ledger plan
    → TakesHadFew limits history (ledger_allocated past i block ledger) after
few_allocated limits history past i None ledger plan after dry h = few_same limits history ledger _ plan after refl refl refl dry h
few_allocated limits history past i (Some block) ledger plan after dry h = few_same limits history ledger _ plan after refl refl refl dry h

few_by_call : (limits : Limits) (history past : List Entry) (i word : ℕ) (pool : PoolView) (call : Option Call) (ledger : Ledger)
    → TakesHadFew limits history ledger pool.plan
    → TakesHadFew limits history (ledger_by_call past i pool call ledger) (pool_own_met word pool call).plan
few_by_call limits history past i word pool None ledger h = h
few_by_call limits history past i word pool (Some Allocate) ledger h =
    few_allocated limits history past i (next_block pool) ledger pool.plan _ (own_same word pool (Some Allocate)).dry h
few_by_call limits history past i word pool (Some (Free block)) ledger h =
    few_same limits history ledger _ pool.plan _ refl refl refl (own_same word pool (Some (Free block))).dry h
few_by_call limits history past i word pool (Some (Read block index)) ledger h = h
few_by_call limits history past i word pool (Some (Write block index value)) ledger h = h
few_by_call limits history past i word pool (Some Search) ledger h =
    few_allocated limits history past i (next_block pool) ledger pool.plan _ (own_same word pool (Some Search)).dry h

-- and after the own step of a call
pub few_owned : (limits : Limits) (history tail : List Entry) (i word : ℕ) (pool : PoolView) (call : Option Call) (ledger : Ledger)
    → TakesHadFew limits history ledger pool.plan
    → TakesHadFew limits (history ++ tail) (ledger_by_call history i pool call ledger) (pool_own_met word pool call).plan
few_owned limits history tail i word pool call ledger h =
    few_longer limits history tail _ _ (few_by_call limits history history i word pool call ledger h)

-- the ledger of a process whose transfer makes this step in a call
call_places : (word : ℕ) (next : NextStep) (ledger : Ledger)
    → PlacesMove next (is_taking ledger.account.plan.pending) ledger (ledger_moved_at word next ledger)
call_places word Rest ledger = record { opens = λ e. cc; found = λ e. refl; begun = λ e. refl; stays = λ e. refl; ended = λ e. cc }
call_places word Announce ledger = record { opens = λ e. refl; found = λ e. cc; begun = λ e. cc; stays = λ e. refl; ended = λ e. cc }
call_places word (Try second step) ledger =
    record { opens = λ e. cc; found = λ e. refl; begun = λ e. refl; stays = λ e. refl; ended = λ e. cc }
call_places word LoadFinalState ledger =
    record { opens = λ e. cc; found = λ e. refl; begun = λ e. refl; stays = λ e. refl; ended = λ e. cc }
call_places word LoadReply ledger =
    record { opens = λ e. cc; found = λ e. refl; begun = λ e. refl; stays = λ ne. absurd (ne refl); ended = λ e. refl }

-- a step of a transfer in a call moves the ledger's places as a transfer does
pub call_places_by : (taking : Bool) (word : ℕ) (next : NextStep) (ledger : Ledger) → is_taking ledger.account.plan.pending ≡ taking
    → PlacesMove next taking ledger (ledger_moved_at word next ledger)
call_places_by taking word next ledger e =
    subst (λ (t : Bool). PlacesMove next t ledger (ledger_moved_at word next ledger)) e (call_places word next ledger)

-- the ledger of one that makes transfers alone: it keeps the places of its takes as well, and enters nothing
abbrev pub ledger_alone : NextStep → Bool → Ledger → Ledger
ledger_alone Rest taking ledger = ledger
ledger_alone Announce taking ledger = record ledger { begun_place = length ledger.seen; found_nothing = false }
ledger_alone (Try second step) taking ledger = ledger
ledger_alone LoadFinalState taking ledger = ledger
ledger_alone LoadReply taking ledger = record ledger { ended_place = if taking then ledger.begun_place else ledger.ended_place }

-- so does one of a transfer alone
pub alone_places : (next : NextStep) (taking : Bool) (ledger : Ledger) → PlacesMove next taking ledger (ledger_alone next taking ledger)
alone_places Rest taking ledger = record { opens = λ e. cc; found = λ e. refl; begun = λ e. refl; stays = λ e. refl; ended = λ e. cc }
alone_places Announce taking ledger = record { opens = λ e. refl; found = λ e. cc; begun = λ e. cc; stays = λ e. refl; ended = λ e. cc }
alone_places (Try second step) taking ledger =
    record { opens = λ e. cc; found = λ e. refl; begun = λ e. refl; stays = λ e. refl; ended = λ e. cc }
alone_places LoadFinalState taking ledger =
    record { opens = λ e. cc; found = λ e. refl; begun = λ e. refl; stays = λ e. refl; ended = λ e. cc }
alone_places LoadReply taking ledger =
    record { opens = λ e. cc; found = λ e. refl; begun = λ e. refl; stays = λ ne. absurd (ne refl); ended = λ e. refl }

-- it has the same account and entries, and has seen the same
pub record SameBook (old new : Ledger) : Type 0 where
  pub account : new.account ≡ old.account
  pub entries : new.entries ≡ old.entries
  pub seen : new.seen ≡ old.seen

-- and it leaves the ledger's entries and its account
pub alone_book : (next : NextStep) (taking : Bool) (ledger : Ledger) → SameBook ledger (ledger_alone next taking ledger)
alone_book Rest taking ledger = record { account = refl; entries = refl; seen = refl }
alone_book Announce taking ledger = record { account = refl; entries = refl; seen = refl }
alone_book (Try second step) taking ledger = record { account = refl; entries = refl; seen = refl }
alone_book LoadFinalState taking ledger = record { account = refl; entries = refl; seen = refl }
alone_book LoadReply taking ledger = record { account = refl; entries = refl; seen = refl }

-- its places lie in the history
either_within : (t : Bool) (a b n : ℕ) → a ≤ n → b ≤ n → (if t then a else b) ≤ n
either_within true a b n le more = le
either_within false a b n le more = more

begun_within : (next : NextStep) (taking : Bool) (ledger : Ledger) (n : ℕ) → length ledger.seen ≤ n → ledger.begun_place ≤ n
    → (ledger_alone next taking ledger).begun_place ≤ n
begun_within Rest taking ledger n seen begun = begun
begun_within Announce taking ledger n seen begun = seen
begun_within (Try second step) taking ledger n seen begun = begun
begun_within LoadFinalState taking ledger n seen begun = begun
begun_within LoadReply taking ledger n seen begun = begun

ended_within : (next : NextStep) (taking : Bool) (ledger : Ledger) (n : ℕ) → ledger.begun_place ≤ n → ledger.ended_place ≤ n
    → (ledger_alone next taking ledger).ended_place ≤ n
ended_within Rest taking ledger n begun ended = ended
ended_within Announce taking ledger n begun ended = ended
ended_within (Try second step) taking ledger n begun ended = ended
ended_within LoadFinalState taking ledger n begun ended = ended
ended_within LoadReply taking ledger n begun ended = either_within taking ledger.begun_place ledger.ended_place n begun ended

-- a process without entries has none before any place
none_before : (history : List Entry) (i place : ℕ) (ledger : Ledger) → SeesBeginning history i ledger → ledger.entries ≡ []
    → length (own (take place history) i) ≡ 0
none_before history i place ledger sees none =
    let later = place + length ledger.seen in
    let all = own_of_longer history ledger.seen i later (sees.own_seen ∙ sym sees.own_entries) sees.beginning (omega arith) in
    omega (arith, own_rises i place later history (omega arith), ap length (all ∙ sees.own_entries ∙ none))

-- so it fits the history with any places
pub alone_fits : (limits : Limits) (bound quantum : ℕ) (history : List Entry) (i : ℕ) (next : NextStep) (taking : Bool) (ledger : Ledger)
    → LedgerFits limits bound quantum history i ledger
    → ledger.account ≡ opened limits.batch_length bound quantum → ledger.entries ≡ []
    → length ledger.seen ≤ length history
    → LedgerFits limits bound quantum history i (ledger_alone next taking ledger)
alone_fits limits bound quantum history i next taking ledger f account none seen =
    let new = ledger_alone next taking ledger in
    let same = alone_book next taking ledger in
    let now = same.account ∙ account in
    record {
      reached = rw same.account f.reached;
      counts = rw (same.account, same.entries) f.counts;
      sees = record {
        own_entries = f.sees.own_entries ∙ sym same.entries;
        own_seen = rw (same.seen, same.entries) f.sees.own_seen;
        beginning = rw same.seen f.sees.beginning;
      };
      places = record {
        begun_within = begun_within next taking ledger (length history) seen f.places.begun_within;
        begun_here = λ some. absurd (not_announced now some);
        ended_within = ended_within next taking ledger (length history) f.places.begun_within f.places.ended_within;
        ended_here = none_before history i new.ended_place ledger f.sees none ∙ sym (ap (λ a. a.ended) now);
      };
      found = record {
        pending = λ take. absurd (not_taking now take);
        dry = λ dry. absurd (not_dry now dry);
      };
    }
  where
    not_announced : (ledger_alone next taking ledger).account ≡ opened limits.batch_length bound quantum
        → 0 < (ledger_alone next taking ledger).account.plan.done → ⊥
    not_announced e some = omega (arith, ap (λ a. a.plan.done) e, some)

    not_taking : (ledger_alone next taking ledger).account ≡ opened limits.batch_length bound quantum
        → is_taking (ledger_alone next taking ledger).account.plan.pending ≡ true → ⊥
    not_taking e take = let idle = ap (λ a. is_taking a.plan.pending) e in no (sym idle ∙ take)
      where
        no : false ≢ true
        no e = cc

    not_dry : (ledger_alone next taking ledger).account ≡ opened limits.batch_length bound quantum
        → (ledger_alone next taking ledger).account.plan.dry ≡ true → ⊥
    not_dry e dry = let wet = ap (λ a. a.plan.dry) e in no (sym wet ∙ dry)
      where
        no : false ≢ true
        no e = cc
