-- the data words that processes know, as lists, under every step
use Rattle.std.proofs.Common.{◌≡◌, ◌≢◌, ℕ, ◌<◌, ◌==◌, Bool, true, false, Option, None, Some, List, [], ◌∷◌, refl, sym, ap, ◌∙◌, arith}
use Rattle.std.specs.Prelude.{if◌then◌else◌, ◌&&◌, Contains}
use Rattle.std.proofs.lemmas.Bool.Decides.{nat_tests}
use Rattle.word_layout.specs.Sizes.{Sizes}
use Rattle.word_layout.specs.Names.{word_at}
use Rattle.word_layout.specs.declared.name.WordName.{WordName}
use Rattle.pool_model.specs.declared.entry.Entry.{Entry}
use Rattle.pool_model.specs.History.{own, grip}
use Rattle.pool_machine.specs.declared.call.Call.{Call}
use Rattle.pool_machine.specs.declared.call.Call.TheVariants.{Allocate, Free, Read, Write, Search}
use Rattle.pool_machine.specs.declared.call.CallStage.{CallStage}
use Rattle.pool_machine.specs.declared.call.CallStage.TheVariants.{Between, Choosing, Moving, Own}
use Rattle.pool_machine.specs.declared.view.ProcessView.{ProcessView}
use Rattle.batch_invariant.specs.Batches.{ProcessViews}
use Rattle.interleaving_core.specs.DataWords.{forgets, changed_by_call, known_at_stage, changed_after}
use Rattle.interleaving_core.specs.Invariant.{Known, DataHolds}
use Rattle.interleaving_core.specs.StepLaws.{StepIsDue, words_after, history_after}
use Rattle.interleaving_core.specs.Steps.{is_alone}
use Rattle.interleaving_core.proofs.DataSteps.{steps_leave_data, steps_keep_data, steps_enter_own, holders_are_apart}
use Rattle.pool_table.specs.Minds.{KnownWord, known_in}
use Rattle.pool_table.specs.Turns.{forget, words_by_call, words_at_stage, words_known_after}

-- two ways to know the same data words
abbrev pub SameKnown : Known → Known → Type 0
SameKnown a b = (block index : ℕ) → a block index ≡ b block index

-- a free forgets the words of its block in the list as in the look-up
forget_first : (freed block index : ℕ) (word : KnownWord) (rest : Option ℕ) (t : Bool) → (word.block == freed) ≡ t
    → (if block == freed then None else (if block == word.block && (index == word.index) then Some word.value else rest))
    ≡ (if t then (if block == freed then None else rest)
    else (if block == word.block && (index == word.index) then Some word.value else (if block == freed then None else rest)))
forget_first freed block index word rest true e = grind (arith, nat_tests)
forget_first freed block index word rest false e = grind (arith, nat_tests)

forgets_by : (freed : ℕ) (word : KnownWord) (more : List KnownWord) (block index : ℕ) (t : Bool) → (word.block == freed) ≡ t
    → known_in (forget freed more) block index ≡ forgets freed (known_in more) block index
    → known_in (if t then forget freed more else word ∷ forget freed more) block index ≡ forgets freed (known_in (word ∷ more)) block index
forgets_by freed word more block index true e rest = rest ∙ sym (forget_first freed block index word (known_in more block index) true e)
forgets_by freed word more block index false e rest =
    ap (λ o. if block == word.block && (index == word.index) then Some word.value else o) rest
    ∙ sym (forget_first freed block index word (known_in more block index) false e)

nothing_either_way : (known : Option ℕ) (t : Bool) → known ≡ None → known ≡ (if t then None else known)
nothing_either_way known true e = e
nothing_either_way known false e = refl

-- a free makes the list forget the freed block's words and no others, as the machine's look-up does
pub forget_forgets : (freed : ℕ) (known : List KnownWord) → SameKnown (known_in (forget freed known)) (forgets freed (known_in known))
forget_forgets freed [] block index = nothing_either_way None (block == freed) refl
forget_forgets freed (word ∷ more) block index =
    forgets_by freed word more block index (word.block == freed) refl (forget_forgets freed more block index)

-- so the list changes as the machine's look-up does, where a read notes nothing
call_changes : (call : Option Call) (known : List KnownWord)
    → SameKnown (known_in (words_by_call call known)) (changed_by_call call (known_in known))
call_changes None known block index = refl
call_changes (Some Allocate) known block index = refl
call_changes (Some (Free freed)) known block index = forget_forgets freed known block index
call_changes (Some (Read read place)) known block index = refl
call_changes (Some (Write written place value)) known block index = refl
call_changes (Some Search) known block index = refl

stage_changes : (stage : CallStage) (call : Option Call) (known : List KnownWord)
    → SameKnown (known_in (words_at_stage stage call known)) (known_at_stage (changed_by_call call (known_in known)) stage (known_in known))
stage_changes Between call known block index = refl
stage_changes Choosing call known block index = refl
stage_changes Moving call known block index = refl
stage_changes Own call known block index = call_changes call known block index

step_changes_by : (v : ProcessView) (known : List KnownWord) (t : Bool)
    → SameKnown (known_in (if t then known else words_at_stage v.calls.stage v.calls.call known))
    (if t then known_in known else known_at_stage (changed_by_call v.calls.call (known_in known)) v.calls.stage (known_in known))
step_changes_by v known true block index = refl
step_changes_by v known false block index = stage_changes v.calls.stage v.calls.call known block index

-- after any step the list knows what the machine's look-up does
pub step_changes : (v : ProcessView) (known : List KnownWord)
    → SameKnown (known_in (words_known_after v known)) (changed_after v (known_in known))
step_changes v known = step_changes_by v known (is_alone v.calls.way)

-- what is known the same way holds the same
known_same : (sizes : Sizes) (words : WordName → ℕ) (held : List ℕ) (a b : Known) → SameKnown a b → DataHolds sizes words held b
    → DataHolds sizes words held a
known_same sizes words held a b same h = record {
  holds = λ block index value e. h.holds block index value (sym (same block index) ∙ e);
  within = λ block index value e. h.within block index value (sym (same block index) ∙ e);
  value = λ block index value e. h.value block index value (sym (same block index) ∙ e);
}

-- the data words that the process itself knows
pub own_data_after : (sizes : Sizes) (words : List ℕ) (views : ProcessViews) (history : List Entry) (i : ℕ) (known : List KnownWord)
    → StepIsDue sizes words views history i → DataHolds sizes (word_at sizes words) (grip (own history i)) (known_in known)
    → DataHolds sizes (word_at sizes (words_after sizes words (views i))) (grip (own (history_after sizes words (views i) history) i))
    (known_in (words_known_after (views i) known))
own_data_after sizes words views history i known due holds =
    known_same sizes (word_at sizes (words_after sizes words (views i))) (grip (own (history_after sizes words (views i) history) i))
    (known_in (words_known_after (views i) known)) (changed_after (views i) (known_in known)) (step_changes (views i) known)
    (steps_keep_data sizes words views history i due (known_in known) holds)

-- those of another process are of blocks that this one doesn't hold, so they stay
pub other_data_after : (sizes : Sizes) (words : List ℕ) (views : ProcessViews) (history : List Entry) (i o : ℕ) (known : Known)
    → StepIsDue sizes words views history i → o < sizes.processes → o ≢ i
    → DataHolds sizes (word_at sizes words) (grip (own history o)) known
    → DataHolds sizes (word_at sizes (words_after sizes words (views i))) (grip (own (history_after sizes words (views i) history) o)) known
other_data_after sizes words views history i o known due lo ne holds =
    let t = due.table in
    let same = steps_enter_own sizes words views history i due o ne in
    let apart = λ (block : ℕ) (has : Contains (grip (own history o)) block). holders_are_apart sizes words views history t.shape t.meets o
    block lo has in
    record {
      holds = λ block index value e. rw same (holds.holds block index value e);
      within = holds.within;
      value = λ block index value e.
          let (low, alone) = apart block (holds.holds block index value e) in
          steps_leave_data sizes words views history i due block index low (holds.within block index value e)
          (alone i t.low (λ is. ne (sym is))) ∙ holds.value block index value e;
    }
