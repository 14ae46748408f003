-- What a handle of C's owns.
use Rattle.std.specs.Prelude.{Option, Some, None}
use base.Fml.{Fml, feq}
use denote.RawPtr.{Ptr, null_ptr}
use Rattle.std.specs.Global.{Global}
use Rattle.std.specs.contracts.impls.GlobalAllocator.TheImpl.{ghosts}
use Rattle.std.specs.Box.Ownership.{box_owns}
use Rattle.block_pool.specs.Passing.{Passed}
use Rattle.pool_member.specs.contracts.member.Member.{the_row}

-- a member on the heap, with the right to free its block
abbrev pub boxed : Global → Ptr → Passed → Fml
boxed alloc = box_owns (ghosts.dealloc_token alloc) the_row

-- the pointer is null and owns nothing, or it owns the member
abbrev pub kept : Global → Ptr → Option Passed → Fml
kept alloc at None = feq Ptr at null_ptr
kept alloc at (Some pass) = boxed alloc at pass
