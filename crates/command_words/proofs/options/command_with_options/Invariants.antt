use Rattle.std.proofs.Common.{◌≡◌, take}
use Rattle.clap.specs.Words.{app_of}
use Rattle.command_words.specs.Options.{with_options}
use Rattle.command_words.proofs.options.command_with_options.Given as goal

-- the command has the options so far
abbrev pub invariant-loop-option_name : goal.invariant-loop-option_name
invariant-loop-option_name l = app_of l.command ≡ with_options l.name (take l.option_name-index l.options)
