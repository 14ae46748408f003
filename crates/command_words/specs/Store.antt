-- The words of `store`.
use Rattle.std.specs.Prelude.{ℕ, List, [], ◌∷◌, Option, Some, None, codes}
use Rattle.clap.specs.Words.{App, Row, all_of}
use Rattle.command_words.specs.Options.{asked_of, command_of, files_rule, number_at, option_rule}
use Rattle.command_words.specs.declared.command.Store.{Store}

-- the command `store [--batches B] [--quantum Q] FILE...`
unfoldable pub store_app : App
store_app = command_of (codes "store")
    (option_rule (codes "batches") (codes "1024") ∷ option_rule (codes "quantum") (codes "8") ∷ files_rule ∷ [])

-- what the numbers and the file names ask for together; none where one of them is missing
abbrev pub store_with : Option ℕ → Option ℕ → Option (List (List ℕ)) → Option Store
store_with (Some batches) (Some quantum) (Some files) = Some (record { batches = batches; quantum = quantum; files = files })
store_with _ _ _ = None

-- what the matches ask for; none where an option's value is no number
abbrev pub store_in : List Row → Option Store
store_in matches = store_with (number_at 32 (codes "batches") matches) (number_at 32 (codes "quantum") matches)
    (all_of (codes "files") matches)

-- what `store` and the words after it ask for; none where `clap` finds a fault in them
unfoldable pub store_meant : List (List ℕ) → Option Store
store_meant = asked_of store_app store_in
