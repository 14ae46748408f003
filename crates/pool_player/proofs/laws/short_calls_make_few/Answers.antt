use Rattle.pool_player.proofs.Calling.{short_calls_make_few}
use Rattle.pool_player.proofs.laws.short_calls_make_few.Goals as goal

pub returns : goal.returns
returns g = short_calls_make_few
