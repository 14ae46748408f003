-- what a store makes of its process's view is the same whatever word was there
use Rattle.std.proofs.Common.{◌≡◌, ℕ, Bool, true, false, refl, sym, ap, ◌∙◌}
use Rattle.std.specs.Prelude.{Option, None, Some}
use Rattle.std.proofs.lemmas.Bool.{false≢true}
use Rattle.word_layout.specs.Sizes.{Sizes}
use Rattle.word_layout.specs.declared.name.WordName.{WordName}
use Rattle.transfer_machine.specs.Machine.{try_action, action_at, action_of, met_in_try, met_at, CanMeetInTry, CanMeetAt}
use Rattle.transfer_machine.specs.declared.action.Action.TheVariants.{Store}
use Rattle.transfer_machine.specs.declared.stage.NextStep.{NextStep}
use Rattle.transfer_machine.specs.declared.stage.NextStep.TheVariants.{Rest, Announce, Try, LoadFinalState, LoadReply}
use Rattle.transfer_machine.specs.declared.stage.TryStep.{TryStep}
use Rattle.transfer_machine.specs.declared.stage.TryStep.TheVariants.{LoadState, LoadRecordWord, LoadCoveredSlot, ExchangeSlot}
use Rattle.transfer_machine.specs.declared.stage.TryStep.TheVariants.{LoadAnnouncement, LoadPoppedSlot, StoreRecordWord, ExchangeState}
use Rattle.transfer_machine.specs.declared.transfer.TransferView.{TransferView}
use Rattle.pool_machine.specs.Pools.{CanMeetPool, pool_met_at, view_met}
use Rattle.pool_machine.specs.declared.call.Call.{Call}
use Rattle.pool_machine.specs.declared.call.Call.TheVariants.{Allocate, Free, Read, Write, Search}
use Rattle.pool_machine.specs.declared.call.CallStage.{CallStage}
use Rattle.pool_machine.specs.declared.call.CallStage.TheVariants.{Between, Choosing, Moving, Own}
use Rattle.pool_machine.specs.declared.view.PoolView.{PoolView}
use Rattle.pool_machine.specs.declared.view.ProcessView.{ProcessView}
use Rattle.pool_machine.specs.OwnSteps.{own_action_for, allocate_action, next_block, pool_own_met, own_answer_for, own_kind_for, call_left}
use Rattle.pool_machine.specs.Ready.{CanMeetCallAt, CanMeetOwnFor}
use Rattle.pool_machine.specs.Steps.{call_action, call_action_at, call_met_at, call_answer_at, happened, move_counted}
use Rattle.interleaving_core.specs.Steps.{is_alone, next_action, next_met, next_answer}
use Rattle.pool_table.specs.Steps.{CanMeetNext}

-- a step of a try that stores
try_same : (sizes : Sizes) (v : TransferView) (second : Bool) (s : TryStep) (name : WordName) (stored a b : ℕ)
    → try_action sizes v s ≡ Store name stored → (met_in_try sizes v a second s ≡ met_in_try sizes v b second s) × CanMeetInTry sizes v b s
try_same sizes v second LoadState name stored a b e = absurd (cc)
try_same sizes v second (LoadRecordWord index) name stored a b e = absurd (cc)
try_same sizes v second (LoadCoveredSlot offset) name stored a b e = absurd (cc)
try_same sizes v second (ExchangeSlot offset) name stored a b e = absurd (cc)
try_same sizes v second (LoadAnnouncement process) name stored a b e = absurd (cc)
try_same sizes v second (LoadPoppedSlot process) name stored a b e = absurd (cc)
try_same sizes v second (StoreRecordWord index) name stored a b e = (refl, tt)
try_same sizes v second ExchangeState name stored a b e = absurd (cc)

-- a step of a transfer that stores
transfer_same : (sizes : Sizes) (v : TransferView) (s : NextStep) (name : WordName) (stored a b : ℕ)
    → action_at sizes v s ≡ Store name stored → (met_at sizes v a s ≡ met_at sizes v b s) × CanMeetAt sizes v b s
transfer_same sizes v Rest name stored a b e = absurd (cc)
transfer_same sizes v Announce name stored a b e = (refl, tt)
transfer_same sizes v (Try second step) name stored a b e = try_same sizes v second step name stored a b e
transfer_same sizes v LoadFinalState name stored a b e = absurd (cc)
transfer_same sizes v LoadReply name stored a b e = absurd (cc)

pool_same : (sizes : Sizes) (v : TransferView) (pool : PoolView) (s : NextStep) (name : WordName) (stored a b : ℕ)
    → action_at sizes v s ≡ Store name stored → (pool_met_at a pool s ≡ pool_met_at b pool s) × CanMeetPool b pool s
pool_same sizes v pool Rest name stored a b e = absurd (cc)
pool_same sizes v pool Announce name stored a b e = (refl, λ is. absurd (cc))
pool_same sizes v pool (Try second step) name stored a b e = (refl, λ is. absurd (cc))
pool_same sizes v pool LoadFinalState name stored a b e = absurd (cc)
pool_same sizes v pool LoadReply name stored a b e = absurd (cc)

view_same : (sizes : Sizes) (v : ProcessView) (name : WordName) (stored a b : ℕ) → action_of sizes v.transfer ≡ Store name stored
    → view_met sizes v a ≡ view_met sizes v b
view_same sizes v name stored a b e =
    ap (λ transfer. record v { transfer = transfer; pool = pool_met_at a v.pool v.transfer.next })
    (transfer_same sizes v.transfer v.transfer.next name stored a b e).0
    ∙ ap (λ pool. record v { transfer = met_at sizes v.transfer b v.transfer.next; pool = pool })
    (pool_same sizes v.transfer v.pool v.transfer.next name stored a b e).0

-- the own step of a call that stores
allocate_loads : (block : Option ℕ) (name : WordName) (stored : ℕ) → allocate_action block ≡ Store name stored → ⊥
allocate_loads None name stored e = cc
allocate_loads (Some block) name stored e = cc

own_pool_same : (pool : PoolView) (call : Option Call) (name : WordName) (stored a b : ℕ) → own_action_for pool call ≡ Store name stored
    → (pool_own_met a pool call ≡ pool_own_met b pool call) × CanMeetOwnFor pool b call
own_pool_same pool None name stored a b e = (refl, tt)
own_pool_same pool (Some Allocate) name stored a b e = absurd (allocate_loads (next_block pool) name stored e)
own_pool_same pool (Some (Free block)) name stored a b e = (refl, tt)
own_pool_same pool (Some (Read block index)) name stored a b e = (refl, tt)
own_pool_same pool (Some (Write block index value)) name stored a b e = (refl, tt)
own_pool_same pool (Some Search) name stored a b e = absurd (allocate_loads (next_block pool) name stored e)

own_answer_same : (by : ℕ) (pool : PoolView) (call : Option Call) (name : WordName) (stored a b : ℕ)
    → own_action_for pool call ≡ Store name stored → own_answer_for by pool a call ≡ own_answer_for by pool b call
own_answer_same by pool None name stored a b e = absurd (cc)
own_answer_same by pool (Some Allocate) name stored a b e = refl
own_answer_same by pool (Some (Free block)) name stored a b e = refl
own_answer_same by pool (Some (Read block index)) name stored a b e = absurd (cc)
own_answer_same by pool (Some (Write block index value)) name stored a b e = refl
own_answer_same by pool (Some Search) name stored a b e = refl

-- a step at a stage of a call that stores
record SameAtStage (sizes : Sizes) (v : ProcessView) (stage : CallStage) (a b : ℕ) : Type 0 where
  met : call_met_at sizes v a stage ≡ call_met_at sizes v b stage
  answer : call_answer_at v a stage ≡ call_answer_at v b stage
  can : CanMeetCallAt sizes v b stage

call_same : (sizes : Sizes) (v : ProcessView) (stage : CallStage) (name : WordName) (stored a b : ℕ)
    → call_action_at sizes v stage ≡ Store name stored → SameAtStage sizes v stage a b
call_same sizes v Between name stored a b e = record { met = refl; answer = refl; can = tt }
call_same sizes v Choosing name stored a b e = record { met = refl; answer = refl; can = tt }
call_same sizes v Moving name stored a b e = record {
  met = ap (move_counted sizes) (view_same sizes v name stored a b e);
  answer = refl;
  can = record {
    meet = (transfer_same sizes v.transfer v.transfer.next name stored a b e).1;
    end = (pool_same sizes v.transfer v.pool v.transfer.next name stored a b e).1;
  };
}
call_same sizes v Own name stored a b e =
    let (pool, can) = own_pool_same v.pool v.calls.call name stored a b e in
    record {
      met = ap (λ p. record v { pool = p; calls = call_left v.calls }) pool;
      answer = ap (happened (own_kind_for v.pool v.calls.call)) (own_answer_same v.transfer.number v.pool v.calls.call name stored a b e);
      can = can;
    }

-- the next step of a process, where it stores
pub record SameMet (sizes : Sizes) (v : ProcessView) (a b : ℕ) : Type 0 where
  pub met : next_met sizes v a ≡ next_met sizes v b
  pub answer : next_answer v a ≡ next_answer v b
  pub can : CanMeetNext sizes v b

same_met_by : (sizes : Sizes) (v : ProcessView) (t : Bool) (name : WordName) (stored a b : ℕ) → is_alone v.calls.way ≡ t
    → next_action sizes v ≡ Store name stored → SameMet sizes v a b
same_met_by sizes v true name stored a b alone e =
    let acts : action_of sizes v.transfer ≡ Store name stored = rw alone at e in
    record {
      met = rw alone (view_same sizes v name stored a b acts);
      answer = rw alone refl;
      can = record {
        meet = λ is. (transfer_same sizes v.transfer v.transfer.next name stored a b acts).1;
        end = λ is. (pool_same sizes v.transfer v.pool v.transfer.next name stored a b acts).1;
        call = λ calls. absurd (false≢true (sym calls ∙ alone));
      };
    }
same_met_by sizes v false name stored a b calls e =
    let acts : call_action sizes v ≡ Store name stored = rw calls at e in
    let same = call_same sizes v v.calls.stage name stored a b acts in
    record {
      met = rw calls same.met;
      answer = rw calls same.answer;
      can = record {
        meet = λ alone. absurd (false≢true (sym calls ∙ alone));
        end = λ alone. absurd (false≢true (sym calls ∙ alone));
        call = λ is. same.can;
      };
    }

-- a store makes the same of its process and its entries, whatever word it replaces
pub stores_meet_any : (sizes : Sizes) (v : ProcessView) (name : WordName) (stored a b : ℕ) → next_action sizes v ≡ Store name stored
    → SameMet sizes v a b
stores_meet_any sizes v name stored a b e = same_met_by sizes v (is_alone v.calls.way) name stored a b refl e
