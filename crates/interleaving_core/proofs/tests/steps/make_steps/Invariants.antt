use Rattle.std.proofs.Common.{◌≡◌, length}
use Rattle.word_layout.specs.Names.{table_words}
use Rattle.interleaving_core.specs.Invariant.{IsAmong}
use Rattle.interleaving_core.proofs.tests.steps.make_steps.Given as goal

abbrev pub invariant-loop-kind : goal.invariant-loop-kind
invariant-loop-kind g l = (length l.words ≡ table_words l.shape) × IsAmong l.shape l.words l.view
