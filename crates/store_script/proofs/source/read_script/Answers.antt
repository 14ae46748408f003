use Rattle.store_script.proofs.Readings.{few_answered}
use Rattle.store_script.proofs.source.read_script.Goals as goal

pub returns-clause-few : goal.returns-clause-few
returns-clause-few g c = few_answered _ c.read_lines.result c.read_lines.ensures
