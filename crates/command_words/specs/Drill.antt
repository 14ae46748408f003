-- The words of `drill`.
use Rattle.std.specs.Prelude.{ℕ, List, [], ◌∷◌, Option, Some, None, codes, nat_le, if◌then◌else◌}
use Rattle.clap.specs.Words.{App, Row}
use Rattle.command_words.specs.Options.{asked_of, command_of, number_at, option_rule}
use Rattle.command_words.specs.declared.command.Drill.{Drill}

-- how many calls are asked for at most
abbrev pub most_calls : ℕ
most_calls = 131072

-- the command `drill [--seed S] [--processes P] [--calls N] [--quantum Q]`
unfoldable pub drill_app : App
drill_app = command_of (codes "drill") (option_rule (codes "seed") (codes "1") ∷ option_rule (codes "processes") (codes "4")
    ∷ option_rule (codes "calls") (codes "1000") ∷ option_rule (codes "quantum") (codes "8") ∷ [])

-- what the numbers ask for together; none where one of them is missing, or more calls are asked for than there may be
abbrev pub drill_with : Option ℕ → Option ℕ → Option ℕ → Option ℕ → Option Drill
drill_with (Some seed) (Some processes) (Some calls) (Some quantum) =
    if nat_le calls most_calls then Some (record { seed = seed; processes = processes; calls = calls; quantum = quantum }) else None
drill_with _ _ _ _ = None

-- what the matches ask for; none where an option's value is no number of its range
abbrev pub drill_in : List Row → Option Drill
drill_in matches = drill_with (number_at 64 (codes "seed") matches) (number_at 32 (codes "processes") matches)
    (number_at 32 (codes "calls") matches) (number_at 32 (codes "quantum") matches)

-- what `drill` and the words after it ask for; none where `clap` finds a fault in them
unfoldable pub drill_meant : List (List ℕ) → Option Drill
drill_meant = asked_of drill_app drill_in
