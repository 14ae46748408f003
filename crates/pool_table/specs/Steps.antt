-- one step of a seat: what it asks, and what it tells
use Rattle.std.specs.Prelude.{◌≡◌, ℕ, ◌+◌, ◌<◌, ◌^◌, true, false, Some, List, [], ◌∷◌, ◌++◌, length, take, slice_set}
use mathlib.Core.Option.{some}
use lib.ListN.{get_elem?}
use Rattle.atomic_table.specs.Seated.{TableId}
use Rattle.word_rule.specs.Moves.{IsAmong}
use Rattle.word_table.specs.Seats.{Seated, SameSeat}
use Rattle.word_layout.specs.Sizes.{Sizes}
use Rattle.word_layout.specs.Names.{table_words}
use Rattle.word_layout.specs.declared.name.WordName.TheVariants.{Data}
use Rattle.pool_model.specs.declared.entry.Entry.{Entry}
use Rattle.transfer_machine.specs.declared.action.Action.{Action}
use Rattle.transfer_machine.specs.declared.action.Action.TheVariants.{Load, Store, Exchange}
use Rattle.transfer_machine.specs.Machine.{CanMeet}
use Rattle.pool_machine.specs.Pools.{CanMeetPool}
use Rattle.pool_machine.specs.Ready.{CanMeetCall}
use Rattle.pool_machine.specs.declared.view.ProcessView.{ProcessView}
use Rattle.interleaving_core.specs.Runs.{entries_of}
use Rattle.interleaving_core.specs.StepLaws.{word_met, words_after}
use Rattle.interleaving_core.specs.Steps.{is_alone, next_action, next_met, next_answer}
use Rattle.pool_table.specs.declared.about.About.{About}
use Rattle.pool_table.specs.Minds.{number_of, known_in, entries_in}
use Rattle.pool_table.specs.Views.{SeatView}
use Rattle.pool_table.specs.Rule.{Holds}
use Rattle.pool_table.specs.Turns.{turning, turned, words_known_after, MayTurn}

-- there are words and views that meet the rule, this view among them
abbrev pub Among : SeatView → Type 0
Among v = IsAmong Holds v

-- the seat is that of a process of this shape, which may make a step about this
pub record CanStep (sizes : Sizes) (about : About) (v : SeatView) : Type 0 where
  pub of_process : v.of_process ≡ true
  pub shape : v.sizes ≡ sizes
  pub may : MayTurn sizes about v.mind
  pub among : Among v

-- what a step about this asks: the seat is of this table, which is of this shape, and can make it; the counter has room for its tick
pub record MayStep (sizes : Sizes) (about : About) (table : TableId) (seat : Seated SeatView) (steps : ℕ) : Type 0 where
  pub of_table : seat.table ≡ table
  pub whole : table.words ≡ table_words sizes
  pub room : steps + 1 < 2 ^ 64
  pub can : CanStep sizes about seat.view

-- one step of a seat: of that nothing changes but the view, and the counter ticks once
pub record OneStep (before after : Seated SeatView) (steps ticked : ℕ) : Type 0 where
  pub same : SameSeat before after
  pub tick : ticked ≡ steps + 1

-- what the next step makes of the view stays in range where it meets this word
pub record CanMeetNext (sizes : Sizes) (v : ProcessView) (word : ℕ) : Type 0 where
  pub meet : is_alone v.calls.way ≡ true → CanMeet sizes v.transfer word
  pub end : is_alone v.calls.way ≡ true → CanMeetPool word v.pool v.transfer.next
  pub call : is_alone v.calls.way ≡ false → CanMeetCall sizes v word

-- a process has seen more: all that it had seen, and at the end these entries
pub record SeesMore (old new entries : List Entry) : Type 0 where
  pub past : List Entry
  pub ends : new ≡ past ++ entries
  pub begins : take (length old) past ≡ old

-- what it has seen after a step that made these entries; without one it stays
abbrev pub SeenAfter : List Entry → List Entry → List Entry → Type 0
SeenAfter [] old new = new ≡ old
SeenAfter (entry ∷ more) old new = SeesMore old new (entry ∷ more)

-- what a step answers that met this word: a store the word that it left
abbrev pub answered : Action → ℕ → ℕ
answered (Load name) met = met
answered (Store name word) met = word
answered (Exchange name old new) met = met

-- a step about this as it was made: on words that met the rule with the old view, and meet it afterwards with the new one
pub record MadeOn (about : About) (before : SeatView) (word : ℕ) (after : SeatView) : Type 0 where
  pub words : List ℕ
  pub views : List SeatView
  pub number : ℕ
  pub held : Holds words views
  pub seated : get_elem? views number ≡ some before
  pub answers : word ≡ answered (next_action before.sizes (turning about before.mind.view))
      (word_met before.sizes words (turning about before.mind.view))
  pub learned : after ≡ turned about words views before
  pub kept : Holds (words_after before.sizes words (turning about before.mind.view)) (slice_set views number after)

-- the seat made a step about this, which answered this word; of its view only the mind moved
pub record Stepped (about : About) (before : SeatView) (word : ℕ) (after : SeatView) : Type 0 where
  pub stays : after ≡ record before { mind = after.mind }
  -- its process is the same, whatever it began
  pub number : number_of after.mind ≡ number_of before.mind
  pub owner : (turning about before.mind.view).transfer.number ≡ number_of before.mind
  -- the mind: the machine's step on that word, one move, the known data words, what was seen, and the entries
  pub view : after.mind.view ≡ next_met before.sizes (turning about before.mind.view) word
  pub moves : after.mind.moves ≡ before.mind.moves + 1
  pub known : after.mind.known ≡ words_known_after (turning about before.mind.view) before.mind.known
  pub seen : SeenAfter (entries_of (next_answer (turning about before.mind.view) word)) before.mind.seen after.mind.seen
  pub entries : entries_in after.mind ≡ entries_in before.mind ++ entries_of (next_answer (turning about before.mind.view) word)
  -- a load of a data word that its process knows answers that value
  pub reads : (block index value : ℕ) → next_action before.sizes (turning about before.mind.view) ≡ Load (Data block index)
      → known_in before.mind.known block index ≡ Some value → word ≡ value
  -- what the code needs of the word
  pub can_meet : CanMeetNext before.sizes (turning about before.mind.view) word
  -- the words and the other views as they were, and so the new view is among some that meet the rule
  pub made : MadeOn about before word after
  pub among : Among after
