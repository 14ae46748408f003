use Rattle.pool_invariant.proofs.Overlaid.{overlay_is_few}
use Rattle.pool_invariant.proofs.laws.overlays_are_few.Goals as goal

pub returns : goal.returns
returns c sizes words views states i li inv = overlay_is_few sizes words states (views i) inv.states_fit (inv.loaded i li)
