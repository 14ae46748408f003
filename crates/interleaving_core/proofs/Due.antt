-- a process that goes on, or begins a call or a transfer alone: its next step is due, and keeps the invariant
use Rattle.std.proofs.Common.{◌≡◌, ℕ, ◌==◌, Bool, true, false, List, refl, sym, ◌∙◌, inl, inr, arith}
use Rattle.std.specs.Prelude.{if◌then◌else◌}
use Rattle.std.proofs.Math.Path.{fun_ext}
use Rattle.std.proofs.lemmas.Bool.{cases_eq}
use Rattle.std.proofs.lemmas.Bool.Decides.{nat_tests}
use Rattle.word_layout.specs.Sizes.{Sizes}
use Rattle.word_layout.specs.Names.{word_at}
use Rattle.word_layout.specs.declared.announced.Wish.{Wish}
use Rattle.pool_model.specs.declared.entry.Entry.{Entry}
use Rattle.pool_model.specs.History.{own, grip}
use Rattle.transfer_machine.specs.Stages.{is_rest}
use Rattle.pool_machine.specs.Beginning.{alone_begun}
use Rattle.pool_machine.specs.Conditions.{may_use_transfers}
use Rattle.pool_machine.specs.declared.call.Call.{Call}
use Rattle.pool_machine.specs.declared.view.ProcessView.{ProcessView}
use Rattle.batch_invariant.specs.Batches.{ProcessViews, MovedProcess}
use Rattle.interleaving_core.specs.Invariant.{BlockIsHeld, MeetsInvariant}
use Rattle.interleaving_core.specs.Moves.{may_go, started, calling_view, may_go_alone, moving_view}
use Rattle.interleaving_core.specs.StepLaws.{TableMeets, StepIsDue, view_after, words_after, history_after, StepsKeepInvariant}
use Rattle.interleaving_core.specs.StepLaws.{CallsAreDue, CallsKeepInvariant, MovesAreDue, MovesKeepInvariant}
use Rattle.interleaving_core.specs.Steps.{is_busy, is_at_step}
use Rattle.interleaving_core.proofs.Begins.{alone_begins, call_starts}
use Rattle.interleaving_core.proofs.Busy.{moving_busy, calling_busy}
use Rattle.interleaving_core.proofs.Standing.{fresh_rests, alone_between, both_first}
use Rattle.interleaving_core.proofs.Tables.{table_step, rests}

-- a step keeps the invariant
pub steps_keep_invariant : StepsKeepInvariant
steps_keep_invariant sizes words views history i due after moved =
    table_step sizes words views after history i due.table.shape due.table.whole due.table.low due.table.meets due.busy moved

-- views of which one was replaced by itself are the same
replaced_by_itself : (i : ℕ) (views begun : ProcessViews) → MovedProcess i (views i) views begun → begun ≡ views
replaced_by_itself i views begun moved = fun_ext (λ o. elim (cases_eq o i) [
  | inl e ↦ rw e moved.here
  | inr ne ↦ moved.elsewhere o ne
])

-- the views with another one of one process, and a second change of it
abbrev with_process : ℕ → ProcessView → ProcessViews → ProcessViews
with_process i x views = λ o. if o == i then x else views o

process_moves : (i : ℕ) (x : ProcessView) (views : ProcessViews) → MovedProcess i x views (with_process i x views)
process_moves i x views = record {
  here = let test : (i == i) ≡ true = grind
      (arith, nat_tests) in rw test refl;
  elsewhere = λ o ne. let test : (o == i) ≡ false = grind (arith, nat_tests) in rw test refl;
}

moves_again : (i : ℕ) (x y : ProcessView) (views after : ProcessViews) → MovedProcess i y views after
    → MovedProcess i y (with_process i x views) after
moves_again i x y views after moved = record {
  here = moved.here;
  elsewhere = λ o ne. moved.elsewhere o ne ∙ sym
      ((process_moves i x views).elsewhere o ne);
}

-- the invariant and its table, with the views as the process goes on
due_with : (sizes : Sizes) (words : List ℕ) (views begun : ProcessViews) (history : List Entry) (i : ℕ) (x : ProcessView)
    → TableMeets sizes words views history i → MeetsInvariant sizes words begun history
    → MovedProcess i x views begun → is_busy x ≡ true → StepIsDue sizes words begun history i
due_with sizes words views begun history i x t meets moved busy = record {
  table = record { shape = t.shape; whole = t.whole; low = t.low; meets = meets };
  busy = rw moved.here busy;
}

-- a call
calling_kept : (sizes : Sizes) (words : List ℕ) (views begun : ProcessViews) (history : List Entry) (i : ℕ) (call : Call) (holds t : Bool)
    → TableMeets sizes words views history i
    → may_go sizes holds call (views i) ≡ true → (holds ≡ true → BlockIsHeld (grip (own history i)) call)
    → is_at_step (views i).calls.stage ≡ t
    → MovedProcess i (if t then views i else started call (views i)) views begun → MeetsInvariant sizes words begun history
calling_kept sizes words views begun history i call holds true m may held inside moved = rw (replaced_by_itself i views begun moved) m.meets
calling_kept sizes words views begun history i call holds false m may held inside moved =
    call_starts sizes (word_at sizes words) views begun history i call holds m.shape m.low m.meets inside may held moved

-- a call that may go is due for its step
pub calls_are_due : CallsAreDue
calls_are_due sizes words views begun history i call holds m may held moved =
    let v = views i in
    due_with sizes words views begun history i (calling_view call v) m
    (calling_kept sizes words views begun history i call holds (is_at_step v.calls.stage) m may held refl moved) moved
    (calling_busy call v v.calls.way (is_at_step v.calls.stage) refl
    (alone_between sizes (word_at sizes words) views history i m.low m.meets) refl)

-- a step from the views as the process goes on
kept_from : (sizes : Sizes) (words : List ℕ) (views after : ProcessViews) (history : List Entry) (i : ℕ) (x : ProcessView)
    → StepIsDue sizes words (with_process i x views) history i
    → MovedProcess i (view_after sizes words x) views after
    → MeetsInvariant sizes (words_after sizes words x) after (history_after sizes words x history)
kept_from sizes words views after history i x due moved =
    let here = (process_moves i x views).here in
    let step = steps_keep_invariant sizes words (with_process i x views) history i due after in
    rw here at step (moves_again i x (view_after sizes words x) views after moved)

-- a call's turn keeps the invariant
pub calls_keep_invariant : CallsKeepInvariant
calls_keep_invariant sizes words views after history i call holds m may held moved =
    let x = calling_view call (views i) in
    kept_from sizes words views after history i x
    (calls_are_due sizes words views (with_process i x views) history i call holds m may held (process_moves i x views)) moved

-- a transfer alone
moving_kept : (sizes : Sizes) (words : List ℕ) (views begun : ProcessViews) (history : List Entry) (i : ℕ) (wish : Wish) (t : Bool)
    → TableMeets sizes words views history i → may_go_alone sizes wish (views i) ≡ true
    → is_rest (views i).transfer.next ≡ t → MovedProcess i (if t then alone_begun wish (views i) else views i) views begun
    → MeetsInvariant sizes words begun history
moving_kept sizes words views begun history i wish true m may rest moved = alone_begins sizes
    (word_at sizes words) views begun history i wish m.shape m.low m.meets (rests (views i).transfer.next rest) may moved
moving_kept sizes words views begun history i wish false m may rest moved = rw (replaced_by_itself i views begun moved) m.meets

-- a transfer alone that may go is due for its step
pub moves_are_due : MovesAreDue
moves_are_due sizes words views begun history i wish m may moved =
    let v = views i in
    due_with sizes words views begun history i (moving_view wish v) m
    (moving_kept sizes words views begun history i wish (is_rest v.transfer.next) m may refl moved) moved
    (moving_busy wish v v.calls.way (is_rest v.transfer.next) refl
    (fresh_rests sizes (word_at sizes words) views history i m.low m.meets) refl (both_first (may_use_transfers v.calls.way) _ may))

-- its turn keeps the invariant
pub moves_keep_invariant : MovesKeepInvariant
moves_keep_invariant sizes words views after history i wish m may moved =
    let x = moving_view wish (views i) in
    kept_from sizes words views after history i x
    (moves_are_due sizes words views (with_process i x views) history i wish m may (process_moves i x views)) moved
