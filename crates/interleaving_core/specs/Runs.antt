-- runs of the machine: turns from the opening on, one after the other, and the history that they make
use Rattle.std.specs.Prelude.{ℕ, zero, suc, nat_lt, Bool, ◌&&◌, if◌then◌else◌, None, List, [], ◌∷◌, ◌++◌, replicate}
use Rattle.word_layout.specs.Sizes.{Sizes, IsShape, blocks}
use Rattle.word_layout.specs.declared.announced.Wish.{Wish}
use Rattle.pool_model.specs.declared.entry.Entry.{Entry}
use Rattle.transfer_machine.specs.Opening.{AreOpening}
use Rattle.pool_machine.specs.Pools.{opening_view}
use Rattle.pool_machine.specs.declared.call.Call.{Call}
use Rattle.pool_machine.specs.declared.view.ProcessView.{ProcessView}
use Rattle.pool_machine.specs.declared.event.Happened.{Happened}
use Rattle.pool_machine.specs.declared.event.Happened.TheVariants.{Step, Ended, Loaded, Stored, Ignored}
use Rattle.interleaving_core.specs.Moves.{CoreState, view_at, may_go_alone, moving_view, holds_for, may_go, calling_view}
use Rattle.interleaving_core.specs.Moves.{step_answer, with_step}

-- one turn: a step of a transfer alone, or a step of a call; the wish and the call are looked at where nothing is begun
pub data Turn : Type 0 where
  Moves : ℕ → Wish → Turn
  Events : ℕ → Call → Turn

-- whose turn it is
abbrev pub by_of : Turn → ℕ
by_of (Moves by wish) = by
by_of (Events by call) = by

-- whether it is made: its process is in the shape, and moves or goes on
abbrev pub is_made : Turn → CoreState → Bool
is_made (Moves by wish) s = nat_lt by s.sizes.processes && may_go_alone s.sizes wish (view_at s by)
is_made (Events by call) s = nat_lt by s.sizes.processes && may_go s.sizes (holds_for s.holders by call) call (view_at s by)

-- the view with which its process makes the step
abbrev pub turning_view : Turn → CoreState → ProcessView
turning_view (Moves by wish) s = moving_view wish (view_at s by)
turning_view (Events by call) s = calling_view call (view_at s by)

-- the words, views and holders after a turn; one that isn't made changes nothing
abbrev pub after_turn : Turn → CoreState → CoreState
after_turn turn s = if is_made turn s then with_step (by_of turn) (turning_view turn s) s else s

-- how it is answered
abbrev pub turn_answer : Turn → CoreState → Happened
turn_answer turn s = if is_made turn s then step_answer (turning_view turn s) s else Ignored

-- the entries that an answer adds to the history
abbrev pub entries_of : Happened → List Entry
entries_of (Step kind) = []
entries_of (Ended kind entry) = entry ∷ []
entries_of (Loaded word) = []
entries_of Stored = []
entries_of Ignored = []

-- the views of the first so many processes at the opening
unfoldable pub opening_views : Sizes → ℕ → List ProcessView
opening_views sizes zero = []
opening_views sizes (suc process) = opening_views sizes process ++ opening_view sizes process ∷ []

-- the opening: no block is held
abbrev pub opened : Sizes → List ℕ → CoreState
opened sizes words = record {
  sizes = sizes;
  words = words;
  views = opening_views sizes sizes.processes;
  holders = replicate (blocks sizes) None;
}

-- these turns, one after the other, lead from the opening to these words, views and holders, and make this history
pub data IsRun (sizes : Sizes) : List Turn → List Entry → CoreState → Type 0 where
  opens : (words : List ℕ) → IsShape sizes → AreOpening sizes words → IsRun sizes [] [] (opened sizes words)
  turns : (past : List Turn) (history : List Entry) (s : CoreState) (turn : Turn)
      → IsRun sizes past history s
      → IsRun sizes (past ++ turn ∷ []) (history ++ entries_of (turn_answer turn s)) (after_turn turn s)
