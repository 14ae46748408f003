-- the laws of states, of takes that found nothing, and of what views loaded
use Rattle.std.proofs.Common.{◌≡◌, ℕ, ◌+◌, ◌*◌, ◌<◌, ◌≤◌, ◌==◌, Bool, true, false, List, refl, sym, ap, ◌∙◌, subst, inl, inr}
use Rattle.std.proofs.Common.{arith}
use Rattle.std.specs.Prelude.{◌↔◌, if◌then◌else◌, not}
use Rattle.std.proofs.lemmas.Bool.{cases_eq}
use Rattle.std.proofs.lemmas.Bool.Decides.{nat_tests}
use Rattle.word_layout.specs.Sizes.{Sizes, IsShape, transfer_bound}
use Rattle.word_layout.specs.Names.{word_at}
use Rattle.word_layout.specs.Packing.{reply_of}
use Rattle.pool_model.specs.declared.entry.Entry.{Entry}
use Rattle.transfer_schedule.specs.Numbers.{Numbers, is_giving, stock, kept, source_of}
use Rattle.transfer_schedule.specs.declared.pending.Pending.{Pending}
use Rattle.transfer_schedule.specs.declared.pending.Pending.TheVariants.{Idle, Taking, Giving}
use Rattle.transfer_schedule.specs.declared.own_step.Source.TheVariants as source
use Rattle.transfer_schedule.proofs.Products.{times_le}
use Rattle.transfer_schedule.proofs.AtPhase.{stands_gives}
use Rattle.transfer_schedule.proofs.Reaching.{reached_stands}
use Rattle.transfer_schedule.proofs.Stock.{nothing_stock}
use Rattle.std.specs.Prelude.{Option, None, Some}
use Rattle.transfer_schedule.specs.Laws.{serves}
use Rattle.pool_machine.specs.Steps.{is_paced}
use Rattle.pool_machine.specs.declared.call.Call.{Call}
use Rattle.pool_machine.specs.declared.call.Call.TheVariants.{Allocate, Free, Read, Write, Search}
use Rattle.pool_machine.specs.declared.call.CallStage.{CallStage}
use Rattle.pool_machine.specs.declared.call.CallStage.TheVariants.{Between, Choosing, Moving, Own}
use Rattle.pool_machine.specs.declared.call.CallView.{CallView}
use Rattle.call_invariant.specs.Phases.{own_phase, moving_phase, call_phase_at}
use Rattle.pool_machine.specs.declared.call.Way.{Way}
use Rattle.pool_machine.specs.declared.call.Way.TheVariants.{Fresh, Alone, Calls}
use Rattle.pool_machine.specs.declared.view.ProcessView.{ProcessView}
use Rattle.batch_invariant.specs.Batches.{ProcessViews}
use Rattle.stack_invariant.specs.Gives.{present}
use Rattle.stack_invariant.proofs.Content.{words_show}
use Rattle.stack_invariant.proofs.Emptied.{states_are_blocks, empty_takes_met_nothing}
use Rattle.stack_invariant.proofs.Follows.{tries_apply}
use Rattle.stack_invariant.proofs.Tables.{tables_show}
use Rattle.history_invariant.specs.Ledger.{Ledger}
use Rattle.call_invariant.specs.InCalls.{InCalls, Scheduled}
use Rattle.call_invariant.specs.InTransfers.{InTransfers}
use Rattle.call_invariant.specs.Uses.{UsesPoolBy}
use Rattle.interleaving_core.specs.Invariant.{Ghosts, Holds}
use Rattle.interleaving_core.specs.Kept.{reply_value_at, pends_at}
use Rattle.interleaving_core.specs.StateLaws as laws
use Rattle.interleaving_core.specs.StateLaws.{HasStates, IsAnswered}
use Rattle.interleaving_core.proofs.CallLawsKept.{value_said, pends_said}
use Rattle.interleaving_core.proofs.Joins.{transfers, scheduled, keeps}

-- the states that proofs know
has_states : (sizes : Sizes) (table : List ℕ) (views : ProcessViews) (history : List Entry) (ghosts : Ghosts) → IsShape sizes
    → Holds sizes (word_at sizes table) views history ghosts → HasStates sizes table ghosts.states
has_states sizes table views history ghosts shape h = record {
  follow = h.stack.follow;
  shows = tables_show sizes table (transfers views) ghosts.states h.stack;
  heads = λ m place some le lt.
      states_are_blocks sizes (word_at sizes table) (transfers views) ghosts.states m place shape h.stack some le lt;
}

-- the words of a run show states that follow one another
pub states_follow : laws.StatesFollowOne
states_follow sizes words views history shape (ghosts, h) =
    (ghosts.states, has_states sizes words views history ghosts shape h, λ i li. (h.stack.helping.tries i li).installed)

-- what the words say of a process's transfer
same_of : (a b : ℕ) → not (a == b) ≡ false → a ≡ b
same_of a b e = grind (arith, nat_tests)

not_same : (a b : ℕ) → a ≡ b → not (a == b) ≡ false
not_same a b e = grind (arith, nat_tests)

applied_said : (sizes : Sizes) (table : List ℕ) (views : ProcessViews) (history : List Entry) (ghosts : Ghosts) (i : ℕ)
    → i < sizes.processes → Holds sizes (word_at sizes table) views history ghosts → pends_at sizes table i ≡ false
    → (present (word_at sizes table) ghosts.states).applied i ≡ (views i).transfer.age
applied_said sizes table views history ghosts i li h none =
    same_of _ _ (sym (pends_said sizes table views history ghosts i li h) ∙ none)

reply_said : (sizes : Sizes) (table : List ℕ) (views : ProcessViews) (history : List Entry) (ghosts : Ghosts) (i : ℕ)
    → i < sizes.processes → Holds sizes (word_at sizes table) views history ghosts
    → reply_of (reply_value_at sizes table i) ≡ reply_of ((present (word_at sizes table) ghosts.states).reply i)
reply_said sizes table views history ghosts i li h =
    ap reply_of (value_said sizes table (present (word_at sizes table) ghosts.states) i
    (words_show sizes (word_at sizes table) (transfers views) ghosts.states h.stack) li)

-- takes that found nothing
pub empty_takes : laws.EmptyTakesMetNothing
empty_takes sizes words views history shape (ghosts, h) i li answered = (
  ghosts.states,
  has_states sizes words views history ghosts shape h,
  empty_takes_met_nothing sizes (word_at sizes words) (transfers views) ghosts.states i shape li h.stack answered.announced
      (applied_said sizes words views history ghosts i li h answered.applied)
      (sym (reply_said sizes words views history ghosts i li h) ∙ answered.said),
)

-- a take that finds nothing had few unheld blocks
pub empty_takes_had_few : laws.EmptyTakesHadFew
empty_takes_had_few sizes words views history shape (ghosts, h) i li = record {
  ledger = ghosts.ledgers i;
  fits = h.entries.each i li;
  uses = h.pools i li;
  pending = λ take answered. (h.few i li).pending (h.empties i li answered.announced
      (applied_said sizes words views history ghosts i li h answered.applied) take
      (sym (reply_said sizes words views history ghosts i li h) ∙ answered.said));
  dry = (h.few i li).dry;
}

-- the end of two tries
pub tries_applied : laws.TriesApply
tries_applied sizes words views history shape (ghosts, h) i li tried =
    pends_said sizes words views history ghosts i li h
    ∙ not_same _ _ (tries_apply sizes (word_at sizes words) (transfers views) ghosts.states i li h.stack tried)

-- where both tries failed the state's number is two above the first loaded one at least
pub failed_tries : laws.FailedTriesMoveState
failed_tries sizes words views history shape (ghosts, h) i li tried none = (h.stack.helping.tries i li).failed tried none

-- what views loaded, and their answers
pub loads_in_range : laws.LoadsAreInRange
loads_in_range sizes words views history shape (ghosts, h) i li = h.stack.loads i li

-- the last answer stays its process's reply in the current record
pub answers_stay : laws.AnswersStay
answers_stay sizes words views history shape (ghosts, h) i li none =
    h.stack.answers i li none ∙ sym (reply_said sizes words views history ghosts i li h)

-- a process that gives has more than a batch besides
giving_is : (p : Pending) → is_giving p ≡ true → p ≡ Giving
giving_is Idle e = grind arith
giving_is Taking e = grind arith
giving_is Giving e = refl

more_than_none : (l n : ℕ) → l < n → 0 < n
more_than_none l n lt = omega (arith, lt)

-- each phase of a call keeps the pool in stock
call_serves : (calls : CallView) (stage : CallStage) → serves (call_phase_at calls stage) ≡ true
call_serves calls Between = refl
call_serves calls Choosing = refl
call_serves calls Moving = moving_serves (is_paced calls.call) calls.chosen calls.steps
  where
    moving_serves : (paced chosen : Bool) (steps : ℕ) → serves (moving_phase paced chosen steps) ≡ true
    moving_serves true chosen steps = refl
    moving_serves false chosen steps = refl
call_serves calls Own = own_serves calls.call
  where
    own_serves : (call : Option Call) → serves (own_phase call) ≡ true
    own_serves None = refl
    own_serves (Some Allocate) = refl
    own_serves (Some (Free block)) = refl
    own_serves (Some (Read block index)) = refl
    own_serves (Some (Write block index value)) = refl
    own_serves (Some Search) = refl

in_calls_gives : (sizes : Sizes) (i : ℕ) (v : ProcessView) (g : Ledger) → InCalls sizes i v g → Scheduled sizes g.account
    → is_giving v.pool.plan.pending ≡ true → 0 < stock v.pool.plan
in_calls_gives sizes i v g h s giving =
    let stands = reached_stands sizes.length (transfer_bound sizes) sizes.quantum g.account s.fit s.reached in
    let pending = ap (λ p. p.pending) h.plan ∙ giving_is v.pool.plan.pending giving in
    subst (λ (p : Numbers). 0 < stock p) h.plan (more_than_none _ _
    (stands_gives g.account stands (rw h.phase (call_serves v.calls v.calls.stage)) pending))

alone_has : (sizes : Sizes) (i : ℕ) (v : ProcessView) (g : Ledger) → InTransfers sizes i v g → 2 ≤ sizes.length → 0 < stock v.pool.plan
alone_has sizes i v g h long = let full = h.pool.alone.full.full in omega (arith, full, long)

gives : (sizes : Sizes) (i : ℕ) (v : ProcessView) (g : Ledger) (way : Way) → UsesPoolBy way sizes i v g → Scheduled sizes g.account
    → is_giving v.pool.plan.pending ≡ true → 0 < stock v.pool.plan
gives sizes i v g Fresh h s giving = in_calls_gives sizes i v g h s giving
gives sizes i v g Alone h s giving = alone_has sizes i v g h s.fit.long
gives sizes i v g Calls h s giving = in_calls_gives sizes i v g h s giving

-- so it finds no block exactly where it keeps none
none_kept : (t : Bool) (n l : ℕ) → n ≡ 0 → (t ≡ true → 0 < n) → n + (if t then l else 0) ≡ 0
none_kept true n l e some = absurd (omega (arith, e, some refl))
none_kept false n l e some = omega (arith, e)

no_stock : (t : Bool) (n l : ℕ) → n + (if t then l else 0) ≡ 0 → n ≡ 0
no_stock t n l e = omega (arith, e)

no_spare : (l s : ℕ) → 2 ≤ l → l * s ≡ 0 → s ≡ 0
no_spare l s long e = elim (cases_eq s 0) [
  | inl none ↦ none
  | inr some ↦ absurd (omega (arith, times_le l 1 s (omega (arith, some)), e, long))
]

no_source : (x : Numbers) → x.current ≡ 0 → x.spares ≡ 0 → source_of x ≡ source.Nothing
no_source x e f = grind (arith, nat_tests)

none_exactly : (x : Numbers) → 2 ≤ x.length → (is_giving x.pending ≡ true → 0 < stock x)
    → (source_of x ≡ source.Nothing) ↔ (kept x ≡ 0)
none_exactly x long giving = (
  λ none. none_kept (is_giving x.pending) (stock x) x.length (nothing_stock x none) giving,
  λ none. let empty = no_stock (is_giving x.pending) (stock x) x.length none in
      no_source x (omega (arith, empty)) (no_spare x.length x.spares long (omega (arith, empty))),
)

-- an allocate finds no block exactly where its process keeps none
pub none_where_none_is_kept : laws.NoneWhereNoneIsKept
none_where_none_is_kept sizes words views history shape (ghosts, h) i li =
    let s = scheduled sizes (word_at sizes words) views history ghosts i shape li h in
    let size = (keeps sizes (word_at sizes words) views history ghosts i shape li h).runs.kept.batch in
    none_exactly (views i).pool.plan (rw size s.fit.long)
    (gives sizes i (views i) (ghosts.ledgers i) (views i).calls.way (h.pools i li) s)
