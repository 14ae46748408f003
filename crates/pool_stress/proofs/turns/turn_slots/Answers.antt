use Rattle.std.proofs.Common.{refl, ◌∙◌}
use Rattle.pool_stress.proofs.Turning.{none_gone, one_gone}
use Rattle.pool_stress.proofs.turns.turn_slots.Goals as goal

pub loop-call-init : goal.loop-call-init
loop-call-init c = record { gone = none_gone _ _ c.requires.pool; many = refl; fit = c.requires.slots }

pub loop-call-preserved : goal.loop-call-preserved
loop-call-preserved c = record {
  gone = one_gone _ _ _ _ c.loop-call.invariant.gone c.turn_slot.ensures.pass;
  many = c.turn_slot.auto.slots ∙ c.loop-call.invariant.many;
  fit = c.turn_slot.ensures.slots;
}
