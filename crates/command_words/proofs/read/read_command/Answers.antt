use Rattle.command_words.specs.Drill.{drill_meant}
use Rattle.command_words.specs.Play.{play_meant}
use Rattle.command_words.specs.Store.{store_meant}
use Rattle.command_words.specs.declared.command.Command.TheVariants.{Drill, Play, Store}
use Rattle.command_words.proofs.Meanings.{no_command, reads_as}
use Rattle.command_words.proofs.read.read_command.Goals as goal

pub returns-in-play : goal.returns-in-play
unfolding play_meant
returns-in-play c = rw c.in-play.is (reads_as Play _ _ c.map.result c.read_asked.ensures c.map.ensures.cases)

pub returns-in-drill : goal.returns-in-drill
unfolding drill_meant
returns-in-drill c = rw c.in-drill.is (reads_as Drill _ _ c.map-in-drill.result c.read_asked-in-drill.ensures c.map-in-drill.ensures.cases)

pub returns-in-store : goal.returns-in-store
unfolding store_meant
returns-in-store c = rw c.in-store.is (reads_as Store _ _ c.map-in-store.result c.read_asked-in-store.ensures c.map-in-store.ensures.cases)

pub returns-in_default : goal.returns-in_default
returns-in_default c =
    λ _. no_command c.args.name.now _ c.in_default.not-play c.in_default.not-drill c.in_default.not-store
