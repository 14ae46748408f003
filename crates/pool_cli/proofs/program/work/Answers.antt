use Rattle.std.proofs.Common.{map}
use Rattle.std.specs.Prelude.{string_bytes}
use Rattle.command_words.specs.Meant.{meant}
use Rattle.pool_cli.proofs.program.work.Goals as goal

pub returns : goal.returns
returns g c = c.play_command.ensures (meant (map string_bytes c.args.words.now)) c.in_ok-command.ensures.read
