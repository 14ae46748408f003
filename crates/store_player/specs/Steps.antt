-- The steps that the commands of a store script take.
use Rattle.std.specs.Prelude.{◌≡◌, ℕ, ◌+◌, ◌≤◌, Bool, true, false, List, [], ◌∷◌, ◌++◌}
use Rattle.pool_model.specs.declared.entry.Entry.{Entry}
use Rattle.store_script.specs.declared.command.Command.{Command}
use Rattle.store_script.specs.declared.command.Command.TheVariants.{Put, Get, Set, Del}
use Rattle.store_script.specs.declared.answered.Answered.{Answered}
use Rattle.store_script.specs.declared.answered.Answered.TheVariants.{Done, Full, Value}
use Rattle.pass_players.specs.Moments.{MadeCall}

-- whether a command that is answered so made a call that got or freed a block, or was refused one
abbrev pub makes_call : Command → Answered → Bool
makes_call (Put key slot value) Done = true
makes_call (Put key slot value) Full = true
makes_call (Del key slot) Done = true
makes_call command answer = false

-- how many steps a command that is answered so takes at least: its call's own one, and one for each word that it reads or writes
abbrev pub least_steps : Command → Answered → ℕ
least_steps (Put key slot value) Done = 5
least_steps (Put key slot value) Full = 1
least_steps (Get key slot) (Value asked found) = 4
least_steps (Set key slot index number) Done = 8
least_steps (Del key slot) Done = 5
least_steps command answer = 0

-- commands that are answered so lead from `start` steps of their process to so many, with these calls: one that makes a call takes its
-- least steps and at most a quantum of others, and any other one its least steps alone
pub data TakesSteps (quantum start : ℕ) : List Command → List Answered → List MadeCall → ℕ → Type 0 where
  starts : TakesSteps quantum start [] [] [] start
  with_call : (commands : List Command) (answers : List Answered) (past : List MadeCall) (before after : ℕ) (command : Command)
      (answer : Answered) (entry : Entry)
      → TakesSteps quantum start commands answers past before → makes_call command answer ≡ true
      → before + least_steps command answer ≤ after → after ≤ before + least_steps command answer + quantum
      → TakesSteps quantum start (commands ++ command ∷ []) (answers ++ answer ∷ [])
      (past ++ record { entry = entry; before = before; after = after } ∷ []) after
  without_call : (commands : List Command) (answers : List Answered) (past : List MadeCall) (before : ℕ) (command : Command)
      (answer : Answered)
      → TakesSteps quantum start commands answers past before → makes_call command answer ≡ false
      → TakesSteps quantum start (commands ++ command ∷ []) (answers ++ answer ∷ []) past (before + least_steps command answer)
