use Rattle.std.proofs.Common.{◌∙◌, ap, map, string_bytes}
use Rattle.std.specs.Prelude.{option_map}
use Rattle.std.proofs.lemmas.Option.{slice_get-map, slice_get_past}
use Rattle.command_words.specs.Meant.{HasFewCalls, meant}
use Rattle.command_words.proofs.Meanings.{few_are_meant, meant-no_name, means}
use Rattle.command_words.proofs.Parses.{read_ok}
use Rattle.command_words.proofs.read.read_words.Goals as goal

pub returns-in_default-clause-read : goal.returns-in_default-clause-read
returns-in_default-clause-read c = λ _. meant-no_name (map string_bytes c.args.words.now)
    (slice_get-map string_bytes c.args.words.now 1
    ∙ ap (option_map string_bytes) (slice_get_past c.args.words.now 1 c.in_default.ensures.lookup.3))

pub returns-clause-read : goal.returns-clause-read
returns-clause-read c =
    let lookup = c.in-Some.ensures.lookup in
    rw (means c.args.words.now c.in-Some.name.now lookup.3.0 lookup.1, ← c.as_str.ensures.value) c.read_command.ensures

pub returns-clause-few : goal.returns-clause-few
returns-clause-few c =
    read_ok (meant (map string_bytes c.args.words.now)) HasFewCalls c.read_command.result (few_are_meant _) (returns-clause-read c)
