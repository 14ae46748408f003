use Rattle.std.proofs.Common.{map, string_bytes}
use Rattle.std.specs.Prelude.{◌≤◌}
use Rattle.command_words.specs.Drill.{drill_meant, most_calls}
use Rattle.command_words.proofs.Drills.{few_calls}
use Rattle.command_words.proofs.Parses.{read_ok}
use Rattle.command_words.proofs.drill_words.read_drill.Goals as goal

pub returns-clause-read : goal.returns-clause-read
unfolding drill_meant
returns-clause-read c = c.read_asked.ensures

pub returns-clause-few : goal.returns-clause-few
returns-clause-few c =
    read_ok (drill_meant (map string_bytes c.args.words.now)) (λ drill. drill.calls ≤ most_calls) c.read_asked.result (few_calls _)
    (returns-clause-read c)
