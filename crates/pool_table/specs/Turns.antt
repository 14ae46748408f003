-- what a step makes of the view of its seat
use Rattle.std.specs.Prelude.{◌≡◌, ℕ, ◌+◌, ◌==◌, if◌then◌else◌, true, Option, None, Some, List, [], ◌∷◌, ◌++◌}
use Rattle.word_layout.specs.Sizes.{Sizes}
use Rattle.pool_model.specs.declared.entry.Entry.{Entry}
use Rattle.pool_machine.specs.declared.call.Call.{Call}
use Rattle.pool_machine.specs.declared.call.Call.TheVariants.{Allocate, Free, Read, Write, Search}
use Rattle.pool_machine.specs.declared.call.CallStage.{CallStage}
use Rattle.pool_machine.specs.declared.call.CallStage.TheVariants.{Between, Choosing, Moving, Own}
use Rattle.pool_machine.specs.declared.view.ProcessView.{ProcessView}
use Rattle.interleaving_core.specs.CallConditions.{MayStepAlone, MayStepInCall}
use Rattle.interleaving_core.specs.Moves.{moving_view, calling_view}
use Rattle.interleaving_core.specs.Runs.{entries_of}
use Rattle.interleaving_core.specs.StepLaws.{word_met}
use Rattle.interleaving_core.specs.Steps.{is_alone, next_met, next_answer}
use Rattle.pool_table.specs.declared.about.About.{About}
use Rattle.pool_table.specs.declared.about.About.TheVariants.{Alone, InCall}
use Rattle.pool_table.specs.Minds.{Mind, KnownWord, held_in}
use Rattle.pool_table.specs.Views.{SeatView, longest}

-- the view with which the step is made: a process at rest first begins what the step is about
abbrev pub turning : About → ProcessView → ProcessView
turning (Alone wish) v = moving_view wish v
turning (InCall call) v = calling_view call v

-- when a process may make a step about this: it goes on or may begin it, and holds the block that a call names
abbrev pub MayTurn : Sizes → About → Mind → Type 0
MayTurn sizes (Alone wish) mind = MayStepAlone sizes wish mind.view
MayTurn sizes (InCall call) mind = MayStepInCall sizes (held_in mind) call mind.view

-- what its process has seen after a step that made these entries: all that seats have seen, and the entries
abbrev pub seen_after : List Entry → List SeatView → List Entry → List Entry
seen_after [] views seen = seen
seen_after (entry ∷ more) views seen = longest views ++ entry ∷ more

-- the known words of other blocks
abbrev pub forget : ℕ → List KnownWord → List KnownWord
forget block [] = []
forget block (word ∷ more) = if word.block == block then forget block more else word ∷ forget block more

-- the words that are known after the own step of this call: a free forgets, a write knows, a read notes nothing
abbrev pub words_by_call : Option Call → List KnownWord → List KnownWord
words_by_call None known = known
words_by_call (Some Allocate) known = known
words_by_call (Some (Free block)) known = forget block known
words_by_call (Some (Read block index)) known = known
words_by_call (Some (Write block index value)) known = record { block = block; index = index; value = value } ∷ known
words_by_call (Some Search) known = known

-- and after a step at that stage of a call
abbrev pub words_at_stage : CallStage → Option Call → List KnownWord → List KnownWord
words_at_stage Between call known = known
words_at_stage Choosing call known = known
words_at_stage Moving call known = known
words_at_stage Own call known = words_by_call call known

-- the words that are known after the next step of a view
abbrev pub words_known_after : ProcessView → List KnownWord → List KnownWord
words_known_after v known = if is_alone v.calls.way then known else words_at_stage v.calls.stage v.calls.call known

-- the mind after the next step of this view met this word
abbrev pub mind_met : Sizes → List SeatView → ProcessView → ℕ → Mind → Mind
mind_met sizes views v word mind = record {
  view = next_met sizes v word;
  seen = seen_after (entries_of (next_answer v word)) views mind.seen;
  known = words_known_after v mind.known;
  moves = mind.moves + 1;
}

-- the mind after the next step of this view on these words
abbrev pub mind_stepped : Sizes → List ℕ → List SeatView → ProcessView → Mind → Mind
mind_stepped sizes words views v mind = mind_met sizes views v (word_met sizes words v) mind

-- the mind after a step about this
abbrev pub mind_after : About → Sizes → List ℕ → List SeatView → Mind → Mind
mind_after (Alone wish) sizes words views mind = mind_stepped sizes words views (moving_view wish mind.view) mind
mind_after (InCall call) sizes words views mind = mind_stepped sizes words views (calling_view call mind.view) mind

-- how a step turns the view of its seat
abbrev pub turned : About → List ℕ → List SeatView → SeatView → SeatView
turned about words views v = record v { mind = mind_after about v.sizes words views v.mind }
