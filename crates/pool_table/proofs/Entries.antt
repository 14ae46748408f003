-- the entries that a step makes, and what its process and the others have seen after it
use Rattle.std.proofs.Common.{◌≡◌, ℕ, ◌<◌, ◌≤◌, ◌==◌, Bool, true, false, List, [], ◌∷◌}
use Rattle.std.proofs.Common.{◌++◌, length, take, refl, sym, ap, ◌∙◌, inl, inr, arith, eq-eqb}
use Rattle.std.specs.Prelude.{if◌then◌else◌, Option, None, Some}
use Rattle.std.proofs.Math.Seq.{take-length}
use Rattle.std.proofs.lemmas.List.{take-append-le, append-nil, length-take}
use Rattle.std.proofs.lemmas.List.Elements.{filter-append}
use Rattle.std.proofs.lemmas.Bool.{cases_eq}
use Rattle.pool_model.specs.declared.entry.Entry.{Entry}
use Rattle.pool_model.specs.declared.entry.Entry.TheVariants.{Got, Back, Dry}
use Rattle.pool_model.specs.History.{process_of, own}
use Rattle.transfer_machine.specs.declared.kind.Kind.{Kind}
use Rattle.transfer_machine.specs.Stages.{kind_of}
use Rattle.pool_machine.specs.declared.call.Call.{Call}
use Rattle.pool_machine.specs.declared.call.Call.TheVariants.{Allocate, Free, Read, Write, Search}
use Rattle.pool_machine.specs.declared.call.CallStage.{CallStage}
use Rattle.pool_machine.specs.declared.call.CallStage.TheVariants.{Between, Choosing, Moving, Own}
use Rattle.pool_machine.specs.declared.event.Happened.TheVariants.{Step}
use Rattle.pool_machine.specs.declared.view.PoolView.{PoolView}
use Rattle.pool_machine.specs.declared.view.ProcessView.{ProcessView}
use Rattle.pool_machine.specs.OwnSteps.{own_answer_for, own_kind_for, allocate_answer, next_block}
use Rattle.pool_machine.specs.Steps.{call_answer, call_answer_at, happened}
use Rattle.interleaving_core.specs.Runs.{entries_of}
use Rattle.interleaving_core.specs.Steps.{is_alone, next_answer}
use Rattle.pool_table.specs.Minds.{Mind, SeesOwn}
use Rattle.pool_table.specs.Views.{SeatView, longest}
use Rattle.pool_table.specs.Rule.{Minds, OneSeesAll}
use Rattle.pool_table.specs.Steps.{SeenAfter}
use Rattle.pool_table.specs.Turns.{seen_after}
use Rattle.pool_table.proofs.Numbered.{moved, moved_here, moved_elsewhere}

-- all these entries are of process i
abbrev pub AllOwn : ℕ → List Entry → Type 0
AllOwn i entries = own entries i ≡ entries

one_own : (i : ℕ) (entry : Entry) → process_of entry ≡ i → AllOwn i (entry ∷ [])
one_own i entry e = rw (eq-eqb (process_of entry) i e) refl

allocate_own : (by : ℕ) (block : Option ℕ) (kind : Kind) → AllOwn by (entries_of (happened kind (allocate_answer by block)))
allocate_own by None kind = one_own by (Dry by) refl
allocate_own by (Some block) kind = one_own by (Got by block) refl

own_step_own : (by word : ℕ) (pool : PoolView) (call : Option Call)
    → AllOwn by (entries_of (happened (own_kind_for pool call) (own_answer_for by pool word call)))
own_step_own by word pool None = refl
own_step_own by word pool (Some Allocate) = allocate_own by (next_block pool) (own_kind_for pool (Some Allocate))
own_step_own by word pool (Some (Free block)) = one_own by (Back by block) refl
own_step_own by word pool (Some (Read block index)) = refl
own_step_own by word pool (Some (Write block index value)) = refl
own_step_own by word pool (Some Search) = allocate_own by (next_block pool) (own_kind_for pool (Some Search))

call_own : (v : ProcessView) (word : ℕ) (stage : CallStage) → AllOwn v.transfer.number (entries_of (call_answer_at v word stage))
call_own v word Between = refl
call_own v word Choosing = refl
call_own v word Moving = refl
call_own v word Own = own_step_own v.transfer.number word v.pool v.calls.call

step_own : (v : ProcessView) (word : ℕ) (t : Bool)
    → AllOwn v.transfer.number (entries_of (if t then Step (kind_of v.transfer.next) else call_answer v word))
step_own v word true = refl
step_own v word false = call_own v word v.calls.stage

-- a step makes entries of its own process alone
pub next_entries_own : (v : ProcessView) (word : ℕ) → AllOwn v.transfer.number (entries_of (next_answer v word))
next_entries_own v word = step_own v word (is_alone v.calls.way)

own_append : (i : ℕ) (first second : List Entry) → own (first ++ second) i ≡ own first i ++ own second i
own_append i first second = filter-append (λ entry. process_of entry == i) first second

-- what the process has seen after it
pub sees_own_after : (history entries : List Entry) (i : ℕ) (views : List SeatView) (seen : List Entry) → longest views ≡ history
    → SeesOwn history i seen → SeesOwn (history ++ entries) i (seen_after entries views seen)
sees_own_after history [] i views seen long sees = rw (append-nil history) sees
sees_own_after history (entry ∷ more) i views seen long sees =
    rw long (record { own_seen = refl; beginning = take-length (history ++ entry ∷ more) })

-- after entries of its own it has seen all that any seat has, and these; without any, as much as before
pub seen_goes_on : (history entries : List Entry) (i : ℕ) (views : List SeatView) (seen : List Entry) → longest views ≡ history
    → SeesOwn history i seen → SeenAfter entries seen (seen_after entries views seen)
seen_goes_on history [] i views seen long sees = refl
seen_goes_on history (entry ∷ more) i views seen long sees =
    record { past = longest views; ends = refl; begins = rw long sees.beginning }

-- its own entries have become those and the new ones
pub entries_go_on : (history entries : List Entry) (i : ℕ) (views : List SeatView) (seen : List Entry) → longest views ≡ history
    → AllOwn i entries → SeesOwn history i seen → own (seen_after entries views seen) i ≡ own seen i ++ entries
entries_go_on history [] i views seen long mine sees = sym (append-nil (own seen i))
entries_go_on history (entry ∷ more) i views seen long mine sees =
    rw long (own_append i history (entry ∷ more) ∙ ap (λ list. list ++ own (entry ∷ more) i) (sym sees.own_seen)
    ∙ ap (λ list. own seen i ++ list) mine)

-- another process has seen as much of it as before
seen_within : (history seen : List Entry) → take (length seen) history ≡ seen → length seen ≤ length history
seen_within history seen e = omega (arith, ap length e, length-take (length seen) history)

-- a process that made none of the new entries has still seen all its own
pub sees_on : (history entries : List Entry) (o : ℕ) (seen : List Entry) → own (history ++ entries) o ≡ own history o
    → SeesOwn history o seen → SeesOwn (history ++ entries) o seen
sees_on history entries o seen same sees = record {
  own_seen = sees.own_seen ∙ sym same;
  beginning = take-append-le (length seen) history entries (seen_within history seen sees.beginning) ∙ sees.beginning;
}

-- and one process has seen all: this one, where it made entries
still_sees_all : (p : ℕ) (minds : Minds) (history : List Entry) (i : ℕ) (mind : Mind) → i < p → mind.seen ≡ (minds i).seen
    → OneSeesAll p minds history → OneSeesAll p (moved i mind minds) history
still_sees_all p minds history i mind low same sees = elim (cases_eq sees.process i) [
  | inl e ↦ record {
    process = i;
    low = low;
    all = ap (λ m. m.seen) (moved_here i mind minds) ∙ (same ∙ (ap (λ o. (minds o).seen) (sym e) ∙ sees.all));
  }
  | inr ne ↦ record {
    process = sees.process;
    low = sees.low;
    all = ap (λ m. m.seen) (moved_elsewhere i sees.process mind minds ne) ∙ sees.all;
  }
]

-- some process has seen the whole history with the new entries
pub one_sees_all_after : (p : ℕ) (minds : Minds) (history entries : List Entry) (i : ℕ) (views : List SeatView) (mind : Mind) → i < p
    → longest views ≡ history → mind.seen ≡ seen_after entries views (minds i).seen
    → (0 < length history → OneSeesAll p minds history) → 0 < length (history ++ entries)
    → OneSeesAll p (moved i mind minds) (history ++ entries)
one_sees_all_after p minds history [] i views mind low long same sees some =
    rw (append-nil history) (still_sees_all p minds history i mind low same (sees (rw (append-nil history) at some)))
one_sees_all_after p minds history (entry ∷ more) i views mind low long same sees some = record {
  process = i;
  low = low;
  all = ap (λ m. m.seen) (moved_here i mind minds) ∙ (same ∙ ap (λ list. list ++ entry ∷ more) long);
}
