use Rattle.std.proofs.Common.{arith}
use Rattle.std.proofs.lemmas.Grind.{common_steps}
use Rattle.schedule_replay.proofs.Ages.{is_young}
use Rattle.schedule_replay.proofs.Makings.{makes_one}
use Rattle.schedule_replay.proofs.made.make_once.Goals as goal

pub event-happened-requires : goal.event-happened-requires
event-happened-requires c = λ low between. is_young _ _ _ low c.requires

pub returns-in_ok-push : goal.returns-in_ok-push
returns-in_ok-push c =
    makes_one c.args.repeat.now c.args.run.now _ _ _ c.event-happened.ensures.state (grind (arith, common_steps))

pub returns-in_default : goal.returns-in_default
returns-in_default c =
    makes_one c.args.repeat.now c.args.run.now _ _ _ c.event-happened.ensures.state (grind (arith, common_steps))
