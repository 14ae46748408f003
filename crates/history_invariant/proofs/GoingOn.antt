-- Each step of a process that makes no entry leaves its ledger fitting the history.
use Rattle.std.proofs.Common.{◌≡◌, ℕ, ◌+◌, ◌<◌, ◌≤◌, Bool, true, false, refl, sym, ◌∙◌, ap, arith, List, length, take}
use Rattle.std.specs.Prelude.{if◌then◌else◌}
use Rattle.std.proofs.lemmas.Bool.{false≢true}
use Rattle.std.proofs.lemmas.Bool.Decides.{nat_tests}
use Rattle.pool_model.specs.declared.entry.Entry.{Entry}
use Rattle.pool_model.specs.Limits.{Limits}
use Rattle.pool_model.specs.History.{own}
use Rattle.transfer_schedule.specs.declared.pending.Pending.TheVariants.{Taking, Giving}
use Rattle.transfer_schedule.specs.Numbers.{Numbers, AreSizes, is_idle, is_taking, is_giving, after_begin, after_choice, after_steps}
use Rattle.transfer_schedule.specs.Numbers.{after_end}
use Rattle.transfer_schedule.specs.Numbers.{after_shelved}
use Rattle.transfer_schedule.specs.Account.{CallPhase, Account, Moving, Own, Seeking, Sought, Leaving, Clearing, Shedding}
use Rattle.transfer_schedule.specs.Account.{Returning}
use Rattle.transfer_schedule.specs.Account.{moves_in, sought_by, Follows, begins, continues, idles, moves, ends}
use Rattle.transfer_schedule.specs.Account.{gets, refuses, frees, meets, seeks, quits, clears, gives, shelves, retires, enlists, retakes}
use Rattle.transfer_schedule.specs.Account.{Reached, follows}
use Rattle.transfer_schedule.proofs.AtPhase.{stands_begun}
use Rattle.transfer_schedule.proofs.Reaching.{reached_stands}
use Rattle.history_invariant.specs.Ledger.{Ledger, IsAnnounced}
use Rattle.history_invariant.specs.Fits.{HadFewSince, LedgerFits}
use Rattle.history_invariant.specs.Steps.{stepped, announced, ended, GoesOn}
use Rattle.history_invariant.specs.Steps as steps
use Rattle.history_invariant.proofs.Fitting.{seen_within}

-- the beginning of a call: what it leaves of the account
record BeginsCall (a b : Account) : Type 0 where
  entries : b.entries ≡ a.entries
  gots : b.gots ≡ a.gots
  backs : b.backs ≡ a.backs
  unbroken : b.unbroken ≡ a.unbroken
  ended : b.ended ≡ a.ended
  dry : b.plan.dry ≡ a.plan.dry
  announced : IsAnnounced b → IsAnnounced a
  begun : IsAnnounced b → b.begun ≡ a.begun
  taking : IsAnnounced b → is_taking b.plan.pending ≡ true → is_taking a.plan.pending ≡ true

choice_dry : (x : Numbers) → (after_choice x).dry ≡ x.dry
choice_dry x = grind (arith, nat_tests)

choice_announced : (x : Numbers) → 0 < (after_choice x).done → 0 < x.done
choice_announced x some = grind (arith, nat_tests)

choice_begins : (x : Numbers) → is_idle x.pending ≡ true → is_idle (after_choice x).pending ≡ false → (after_choice x).done ≡ 0
choice_begins x idle busy = grind (arith, nat_tests)

choice_taking : (x : Numbers) → 0 < (after_choice x).done → is_taking (after_choice x).pending ≡ true → is_taking x.pending ≡ true
choice_taking x some taking = grind (arith, nat_tests)

-- the beginning of a call, where a transfer that is announced then was begun before
choice_made : (a : Account) (phase : CallPhase) (begun : ℕ) → (0 < (after_choice a.plan).done → begun ≡ a.begun)
    → BeginsCall a (record a { plan = after_choice a.plan; phase = phase; begun = begun })
choice_made a phase begun same = record {
  entries = refl;
  gots = refl;
  backs = refl;
  unbroken = refl;
  ended = refl;
  dry = choice_dry a.plan;
  announced = choice_announced a.plan;
  begun = same;
  taking = choice_taking a.plan;
}

-- the plan stays
plan_stays : (a : Account) (phase : CallPhase) → BeginsCall a (record a { phase = phase })
plan_stays a phase = record {
  entries = refl;
  gots = refl;
  backs = refl;
  unbroken = refl;
  ended = refl;
  dry = refl;
  announced = λ some. some;
  begun = λ some. refl;
  taking = λ some taking. taking;
}

-- a search chooses
sought_made : (a : Account) (t : Bool) → is_idle (after_choice a.plan).pending ≡ t → is_idle a.plan.pending ≡ true
    → BeginsCall a (sought_by t a)
sought_made a true e idle = choice_made a Sought a.begun (λ some. refl)
sought_made a false e idle =
    choice_made a (Seeking true) a.entries (λ some. absurd (let none = choice_begins a.plan idle e in omega arith))

-- a transfer that has just begun has made no step
gives_made : (a : Account) → BeginsCall a (record a { plan = after_begin Giving a.plan; phase = Shedding; begun = a.entries })
gives_made a = record {
  entries = refl;
  gots = refl;
  backs = refl;
  unbroken = refl;
  ended = refl;
  dry = refl;
  announced = λ some. absurd (omega (arith, some));
  begun = λ some. absurd (omega (arith, some));
  taking = λ some taking. absurd (omega (arith, some));
}

retakes_made : (a : Account) → BeginsCall a (record a { plan = after_begin Taking a.plan; phase = Returning; begun = a.entries })
retakes_made a = record {
  entries = refl;
  gots = refl;
  backs = refl;
  unbroken = refl;
  ended = refl;
  dry = refl;
  announced = λ some. absurd (omega (arith, some));
  begun = λ some. absurd (omega (arith, some));
  taking = λ some taking. absurd (omega (arith, some));
}

shelves_made : (a : Account) → BeginsCall a (record a { plan = after_shelved a.plan })
shelves_made a = record {
  entries = refl;
  gots = refl;
  backs = refl;
  unbroken = refl;
  ended = refl;
  dry = refl;
  announced = λ some. some;
  begun = λ some. refl;
  taking = λ some taking. taking;
}

more : (n : ℕ) {A : Type 0} → n + 1 ≡ n → A
more n e = absurd (omega (arith, e))

call_begins : (a b : Account) → moves_in a.phase ≡ false → b.entries ≡ a.entries → Follows a b → BeginsCall a b
call_begins a b still same (begins e idle busy) =
    choice_made a (Moving 0) a.entries (λ some. absurd (let none = choice_begins a.plan idle busy in omega arith))
call_begins a b still same (continues e busy) = choice_made a (Moving 0) a.begun (λ some. refl)
call_begins a b still same (idles e idle) = choice_made a Own a.begun (λ some. refl)
call_begins a b still same (moves moving low) = absurd (false≢true (sym still ∙ moving))
call_begins a b still same (ends found moving low giving) = absurd (false≢true (sym still ∙ moving))
call_begins a b still same (gets owns some) = more a.entries same
call_begins a b still same (refuses owns none) = more a.entries same
call_begins a b still same (frees e held) = more a.entries same
call_begins a b still same (meets e busy) = plan_stays a (Seeking false)
call_begins a b still same (seeks chooses idle) = sought_made a (is_idle (after_choice a.plan).pending) refl idle
call_begins a b still same (quits e busy) = plan_stays a Leaving
call_begins a b still same (clears e idle) = plan_stays a Clearing
call_begins a b still same (gives e some) = gives_made a
call_begins a b still same (shelves e none full) = shelves_made a
call_begins a b still same (retires e none few) = more a.entries same
call_begins a b still same (enlists e) = more a.entries same
call_begins a b still same (retakes e) = retakes_made a

begins_fits : (limits : Limits) (bound quantum : ℕ) (history : List Entry) (i : ℕ) (ledger : Ledger) (account : Account)
    → LedgerFits limits bound quantum history i ledger
    → moves_in ledger.account.phase ≡ false → account.entries ≡ ledger.account.entries → Follows ledger.account account
    → LedgerFits limits bound quantum history i (record ledger { account = account })
begins_fits limits bound quantum history i ledger account f still same next =
    let k = call_begins ledger.account account still same next in
    record {
      reached = follows f.reached next;
      counts = record {
        entries = k.entries ∙ f.counts.entries;
        gots = k.gots ∙ f.counts.gots;
        backs = k.backs ∙ f.counts.backs;
        unbroken = k.unbroken ∙ f.counts.unbroken;
      };
      sees = record { own_entries = f.sees.own_entries; own_seen = f.sees.own_seen; beginning = f.sees.beginning };
      places = record {
        begun_within = f.places.begun_within;
        begun_here = λ some. f.places.begun_here (k.announced some) ∙ sym (k.begun some);
        ended_within = f.places.ended_within;
        ended_here = f.places.ended_here ∙ sym k.ended;
      };
      found = record {
        pending = λ taking some nothing. f.found.pending (k.taking some taking) (k.announced some) nothing;
        dry = λ dry. f.found.dry (sym k.dry ∙ dry);
      };
    }

-- the announcement: the transfer has just begun
just_begun : (length bound quantum : ℕ) (a : Account)
    → AreSizes length bound quantum
    → Reached length bound quantum a
    → moves_in a.phase ≡ true
    → a.plan.done ≡ 0 → a.entries ≡ a.begun
just_begun length bound quantum a sizes r moving none = stands_begun a (reached_stands length bound quantum a sizes r) moving none

announces_fits : (limits : Limits) (bound quantum : ℕ) (history : List Entry) (i : ℕ) (ledger : Ledger)
    → AreSizes limits.batch_length bound quantum
    → LedgerFits limits bound quantum history i ledger
    → moves_in ledger.account.phase ≡ true
    → ledger.account.plan.done ≡ 0
    → 1 < ledger.account.plan.bound
    → LedgerFits limits bound quantum history i (announced ledger)
announces_fits limits bound quantum history i ledger sizes f moving none long = record {
  reached = follows f.reached (moves moving (omega arith));
  counts = record { entries = f.counts.entries; gots = f.counts.gots; backs = f.counts.backs; unbroken = f.counts.unbroken };
  sees = record { own_entries = f.sees.own_entries; own_seen = f.sees.own_seen; beginning = f.sees.beginning };
  places = record {
    begun_within = seen_within history i ledger f.sees;
    begun_here = λ some. ap (λ entries. length (own entries i)) f.sees.beginning ∙ ap length f.sees.own_seen ∙ sym f.counts.entries ∙ now;
    ended_within = f.places.ended_within;
    ended_here = f.places.ended_here;
  };
  found = record { pending = λ taking some nothing. absurd (apart nothing); dry = f.found.dry };
}
  where
    now : ledger.account.entries ≡ ledger.account.begun
    now = just_begun limits.batch_length bound quantum ledger.account sizes f.reached moving none

    apart : false ≡ true → ⊥
    apart e = cc

-- a later step of the transfer
moves_fits : (limits : Limits) (bound quantum : ℕ) (history : List Entry) (i : ℕ) (ledger : Ledger)
    → LedgerFits limits bound quantum history i ledger
    → moves_in ledger.account.phase ≡ true
    → IsAnnounced ledger.account
    → ledger.account.plan.done + 1 < ledger.account.plan.bound
    → LedgerFits limits bound quantum history i (record ledger { account = stepped ledger.account })
moves_fits limits bound quantum history i ledger f moving sent low = record {
  reached = follows f.reached (moves moving low);
  counts = record { entries = f.counts.entries; gots = f.counts.gots; backs = f.counts.backs; unbroken = f.counts.unbroken };
  sees = record { own_entries = f.sees.own_entries; own_seen = f.sees.own_seen; beginning = f.sees.beginning };
  places = record {
    begun_within = f.places.begun_within;
    begun_here = λ some. f.places.begun_here sent;
    ended_within = f.places.ended_within;
    ended_here = f.places.ended_here;
  };
  found = record { pending = λ taking some nothing. f.found.pending taking sent nothing; dry = f.found.dry };
}

-- the end of the transfer
end_done : (found : Bool) (x : Numbers) → (after_end found (after_steps 1 x)).done ≡ 0
end_done found x = grind (arith, nat_tests)

take_dry : (found : Bool) (x : Numbers) → is_taking x.pending ≡ true → (after_end found (after_steps 1 x)).dry ≡ true → found ≡ false
take_dry found x taking dry = grind (arith, nat_tests)

give_dry : (found : Bool) (x : Numbers) → is_taking x.pending ≡ false → (after_end found (after_steps 1 x)).dry ≡ x.dry
give_dry found x giving = grind (arith, nat_tests)

-- the place of the last ended take, by whether the transfer is a take
ended_within : (history : List Entry) (begun_place ended_place : ℕ) (t : Bool) → begun_place ≤ length history → ended_place ≤ length history
    → (if t then begun_place else ended_place) ≤ length history
ended_within history begun_place ended_place true b e = b
ended_within history begun_place ended_place false b e = e

ended_here : (history : List Entry) (i begun_place ended_place begun ended : ℕ) (t : Bool)
    → length (own (take begun_place history) i) ≡ begun
    → length (own (take ended_place history) i) ≡ ended
    → length (own (take (if t then begun_place else ended_place) history) i) ≡ (if t then begun else ended)
ended_here history i begun_place ended_place begun ended true b e = b
ended_here history i begun_place ended_place begun ended false b e = e

ended_few : (limits : Limits) (history : List Entry) (begun_place ended_place : ℕ) (t : Bool)
    → (t ≡ true → HadFewSince limits history begun_place)
    → (t ≡ false → HadFewSince limits history ended_place)
    → HadFewSince limits history (if t then begun_place else ended_place)
ended_few limits history begun_place ended_place true b e = b refl
ended_few limits history begun_place ended_place false b e = e refl

ends_fits : (limits : Limits) (bound quantum : ℕ) (history : List Entry) (i : ℕ) (ledger : Ledger) (found : Bool)
    → LedgerFits limits bound quantum history i ledger
    → moves_in ledger.account.phase ≡ true
    → IsAnnounced ledger.account
    → ledger.account.plan.done + 1 ≤ ledger.account.plan.bound
    → (is_giving ledger.account.plan.pending ≡ true → found ≡ true)
    → (is_taking ledger.account.plan.pending ≡ true → found ≡ false → ledger.found_nothing ≡ true)
    → LedgerFits limits bound quantum history i (ended found ledger)
ends_fits limits bound quantum history i ledger found f moving sent low given nothing =
    let x = ledger.account.plan in
    record {
      reached = follows f.reached (ends found moving low given);
      counts = record { entries = f.counts.entries; gots = f.counts.gots; backs = f.counts.backs; unbroken = f.counts.unbroken };
      sees = record { own_entries = f.sees.own_entries; own_seen = f.sees.own_seen; beginning = f.sees.beginning };
      places = record {
        begun_within = f.places.begun_within;
        begun_here = λ some. f.places.begun_here sent;
        ended_within =
            ended_within history ledger.begun_place ledger.ended_place (is_taking x.pending) f.places.begun_within f.places.ended_within;
        ended_here =
            ended_here history i ledger.begun_place ledger.ended_place ledger.account.begun ledger.account.ended (is_taking x.pending)
            (f.places.begun_here sent) f.places.ended_here;
      };
      found = record {
        pending = λ taking some none. absurd (let done = end_done found x in omega arith);
        dry = λ dry. ended_few limits history ledger.begun_place ledger.ended_place (is_taking x.pending)
            (λ taking. f.found.pending taking sent (nothing taking (take_dry found x taking dry)))
            (λ giving. f.found.dry (sym (give_dry found x giving) ∙ dry));
      };
    }

-- each step
pub going_fits : (limits : Limits) (bound quantum : ℕ) (history : List Entry) (i : ℕ) (old new : Ledger)
    → AreSizes limits.batch_length bound quantum
    → LedgerFits limits bound quantum history i old → GoesOn old new → LedgerFits limits bound quantum history i new
going_fits limits bound quantum history i old new sizes f (steps.begins account still same next) =
    begins_fits limits bound quantum history i old account f still same next
going_fits limits bound quantum history i old new sizes f (steps.announces moving none long) =
    announces_fits limits bound quantum history i old sizes f moving none long
going_fits limits bound quantum history i old new sizes f (steps.moves moving sent low) =
    moves_fits limits bound quantum history i old f moving sent low
going_fits limits bound quantum history i old new sizes f (steps.ends found moving sent low given nothing) =
    ends_fits limits bound quantum history i old found f moving sent low given nothing

-- a step that makes no entry leaves what its process has seen
pub going_sees : (old new : Ledger) → GoesOn old new → new.seen ≡ old.seen
going_sees old new (steps.begins account still same next) = refl
going_sees old new (steps.announces moving none long) = refl
going_sees old new (steps.moves moving sent low) = refl
going_sees old new (steps.ends found moving sent low given nothing) = refl
