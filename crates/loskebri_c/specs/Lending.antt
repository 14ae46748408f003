-- What a handle lends.
use Rattle.std.specs.Prelude.{Some}
use Rattle.std.specs.Borrow.{Lends, MutBor, Fml}
use Rattle.block_pool.specs.Passing.{Passed}
use Rattle.pool_member.specs.contracts.member.Member as Member
use Rattle.loskebri_c.specs.declared.handle.LoskebriPass.{LoskebriPass}
use Rattle.loskebri_c.specs.contracts.handle.LoskebriPass.{the_row}

-- the handle, owning this member
abbrev pub with_member : LoskebriPass → Passed → LoskebriPass
with_member handle member = record handle { member = Some member }

-- the handle ends with the last member behind the reference, and is else as it was
abbrev pub LendsMember : MutBor LoskebriPass → MutBor Passed → Fml
LendsMember handle member = Lends the_row Member.the_row handle member (with_member handle.now)
