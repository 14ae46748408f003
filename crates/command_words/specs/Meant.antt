-- The meaning of the command line.
use Rattle.std.specs.Prelude.{ℕ, ◌≤◌, List, [], ◌∷◌, Option, None, codes, if◌then◌else◌, option_map}
use Rattle.std.specs.Str.{bytes_eq}
use Rattle.command_words.specs.Drill.{drill_meant, most_calls}
use Rattle.command_words.specs.Play.{play_meant}
use Rattle.command_words.specs.Store.{store_meant}
use Rattle.command_words.specs.declared.command.Command.{Command}
use Rattle.command_words.specs.declared.command.Command.TheVariants.{Drill, Play, Store}

-- what the words of a command ask for, the command's name first, by this name; none where no command has that name
abbrev pub command_meant : List ℕ → List (List ℕ) → Option Command
command_meant name words =
    if bytes_eq name (codes "play") then option_map Play (play_meant words)
    else (if bytes_eq name (codes "drill") then option_map Drill (drill_meant words)
    else (if bytes_eq name (codes "store") then option_map Store (store_meant words)
    else None))

-- what the words ask for, the program's own name first; none where they are at fault
unfoldable pub meant : List (List ℕ) → Option Command
meant [] = None
meant (program ∷ []) = None
meant (program ∷ name ∷ rest) = command_meant name (name ∷ rest)

-- a drill asks for at most so many calls of each process; the other commands have no such limit
abbrev pub HasFewCalls : Command → Type 0
HasFewCalls (Play play) = Unit {0}
HasFewCalls (Drill drill) = drill.calls ≤ most_calls
HasFewCalls (Store store) = Unit {0}
