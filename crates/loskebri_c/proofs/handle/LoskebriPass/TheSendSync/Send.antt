-- a handle goes to another thread with what it owns
use Rattle.std.specs.Prelude.{Option, Some, None}
use base.Shift.{Keyless}
use mir.Raw.{raw}
use denote.Memory.{lone}
use denote.RawPtr.{Ptr}
use denote.Struct.Struct.{exits_of}
use denote.Struct.Owning.{shape, fields, to}
use denote.Param.Send.{IsSend, AllSend, owning_send, struct_send, sendable}
use Rattle.std.proofs.Crossing as heap
use Rattle.std_alloc.proofs.SendSync.{quiet, lies}
use Rattle.std_heap.proofs.Global.TheSendSync as handle
use Rattle.std.specs.Global.{Global}
use Rattle.block_pool.specs.Passing.{Passed}
use Rattle.pool_member.specs.contracts.member.Member as Member
use Rattle.pool_member.proofs.member.Member.TheSendSync.{the_send as member}
use Rattle.loskebri_c.specs.Kept.{kept}
use Rattle.loskebri_c.specs.contracts.handle.LoskebriPass.{the_row, the_type}

crosses : (a : Global) (at : Ptr) (m : Option Passed) → Keyless (kept a at m)
crosses a at None = tt
crosses a at (Some x) = (lies Member.the_row member at x, heap.frees.frees a (raw (lone (Member.the_row).mir)) at)

-- a handle may go to another thread
pub send : IsSend the_row
send =
    let all : AllSend (fields the_type) = (search sendable, (handle.the_field_send, tt)) in
    owning_send the_type all (λ d. crosses d.alloc d.at d.member) (λ k. quiet (to the_type) (exits_of k (fields the_type))
    ((struct_send (shape the_type) all).leaving k))
