-- An object may go to another thread: it is a block, and a value that has no bytes.
use denote.RattleType.{RattleType}
use denote.Param.Send.{IsSend, sendable}
use Rattle.std.proofs.Crossing.{crosses}
use Rattle.store_script.specs.declared.record.Record as Record
use Rattle.object_store.specs.contracts.object.Object.{the_row}

-- whatever its record is, an object may go to another thread
pub object_send : (R : RattleType) (g : Record.Ghosts R.Denot) → IsSend (the_row R g)
object_send R g = search (sendable, crosses) depth 40
