-- The words of `play`.
use Rattle.std.specs.Prelude.{ℕ, List, [], ◌∷◌, Option, Some, None, codes}
use Rattle.clap.specs.Words.{App, Row, all_of}
use Rattle.command_words.specs.Options.{asked_of, command_of, files_rule, number_at, option_rule}
use Rattle.command_words.specs.declared.command.Play.{Play}

-- the command `play [--batches B] [--size Z] [--quantum Q] FILE...`
unfoldable pub play_app : App
play_app = command_of (codes "play") (option_rule (codes "batches") (codes "1024") ∷ option_rule (codes "size") (codes "64")
    ∷ option_rule (codes "quantum") (codes "8") ∷ files_rule ∷ [])

-- what the numbers and the file names ask for together; none where one of them is missing
abbrev pub play_with : Option ℕ → Option ℕ → Option ℕ → Option (List (List ℕ)) → Option Play
play_with (Some batches) (Some size) (Some quantum) (Some files) =
    Some (record { batches = batches; size = size; quantum = quantum; files = files })
play_with _ _ _ _ = None

-- what the matches ask for; none where an option's value is no number
abbrev pub play_in : List Row → Option Play
play_in matches = play_with (number_at 32 (codes "batches") matches) (number_at 32 (codes "size") matches)
    (number_at 32 (codes "quantum") matches) (all_of (codes "files") matches)

-- what `play` and the words after it ask for; none where `clap` finds a fault in them
unfoldable pub play_meant : List (List ℕ) → Option Play
play_meant = asked_of play_app play_in
