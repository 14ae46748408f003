-- Each command is one that `clap` says how it reads.
use Rattle.std.specs.Prelude.{refl}
use Rattle.clap.proofs.OnLiterals.{clap_on_literals}
use Rattle.command_words.specs.Drill.{drill_app}
use Rattle.command_words.specs.Options.{IsReadable}
use Rattle.command_words.specs.Play.{play_app}
use Rattle.command_words.specs.Store.{store_app}

-- clap says how the words of play are read
pub play_is_readable : IsReadable play_app
unfolding play_app clap_on_literals
play_is_readable = record { matches = refl; faults = refl }

-- and those of drill
pub drill_is_readable : IsReadable drill_app
unfolding drill_app clap_on_literals
drill_is_readable = record { matches = refl; faults = refl }

-- and those of store
pub store_is_readable : IsReadable store_app
unfolding store_app clap_on_literals
store_is_readable = record { matches = refl; faults = refl }
