use Rattle.std.proofs.Common.{◌∙◌, ap}
use Rattle.command_words.specs.Options.{without_help}
use Rattle.command_words.proofs.Parses.{app_of-without_help}
use Rattle.command_words.proofs.options.bare_command.Goals as goal

pub returns : goal.returns
returns c = app_of-without_help c.new.result c.disable_help_flag.result c.disable_help_flag.ensures ∙ ap without_help c.new.ensures.app
