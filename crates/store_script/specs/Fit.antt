-- Which calls of a process fit a store script.
use Rattle.std.specs.Prelude.{◌≡◌, ℕ, Bool, List, [], ◌∷◌, ◌++◌, length, slice_index, Option, Some, None, if◌then◌else◌}
use Rattle.pool_model.specs.declared.entry.Entry.{Entry}
use Rattle.pool_model.specs.declared.entry.Entry.TheVariants.{Got, Back, Dry}
use Rattle.store_script.specs.declared.command.Command.{Command}
use Rattle.store_script.specs.declared.command.Command.TheVariants.{Put, Get, Set, Del}
use Rattle.store_script.specs.declared.command.StoreScript.{StoreScript}
use Rattle.store_script.specs.declared.answered.Answered.{Answered}
use Rattle.store_script.specs.Replies.{Kept, Walk, begun, kept, is_refused, after, walked, answers_to}

-- the calls of process i for a put of a key for which this is kept: an allocate where the key is absent
abbrev pub calls_of_put : ℕ → List Bool → List ℕ → Walk → Option Kept → List Entry
calls_of_put i refused blocks walk (Some before) = []
calls_of_put i refused blocks walk None =
    (if is_refused refused walk.puts then Dry i else Got i (slice_index blocks walk.puts)) ∷ []

-- the calls for a del: a free of the block of the key's put where the key is present
abbrev pub calls_of_del : ℕ → List ℕ → Option Kept → List Entry
calls_of_del i blocks None = []
calls_of_del i blocks (Some before) = Back i (slice_index blocks before.put) ∷ []

-- the calls for a command, after this walk
abbrev pub calls_of : ℕ → List Bool → List ℕ → Walk → Command → List Entry
calls_of i refused blocks walk (Put key slot value) = calls_of_put i refused blocks walk (kept walk key)
calls_of i refused blocks walk (Get key slot) = []
calls_of i refused blocks walk (Set key slot index number) = []
calls_of i refused blocks walk (Del key slot) = calls_of_del i blocks (kept walk key)

-- the calls for commands, after this walk
abbrev pub calls_from : ℕ → List Bool → List ℕ → Walk → List Command → List Entry
calls_from i refused blocks walk [] = []
calls_from i refused blocks walk (command ∷ commands) =
    calls_of i refused blocks walk command ++ calls_from i refused blocks (after refused walk command) commands

-- the entries are the calls of process i for the script's commands, with a truth value for each put of an absent key, and a block
pub record Fits (i : ℕ) (script : StoreScript) (refused : List Bool) (entries : List Entry) : Type 0 where
  pub one_each : length refused ≡ (walked refused script.commands).puts
  pub blocks : List ℕ
  pub call_by_call : entries ≡ calls_from i refused blocks begun script.commands

-- the entries of process i fit its script with refusals that they determine, and the answers are those with these refusals
pub record IsAnswered (i : ℕ) (script : StoreScript) (entries : List Entry) (answers : List Answered) : Type 0 where
  pub refused : List Bool
  pub fits : Fits i script refused entries
  pub only : (other : List Bool) → Fits i script other entries → other ≡ refused
  pub answered : answers ≡ answers_to refused script.commands
