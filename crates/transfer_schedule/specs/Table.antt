-- How many spares a plan may have while a transfer is pending.
use Rattle.std.specs.Prelude.{◌≡◌, ℕ, ◌≤◌}
use Rattle.std.specs.Int.{div_ceil}
use Rattle.transfer_schedule.specs.declared.pending.Pending.TheVariants.{Idle, Taking, Giving}
use Rattle.transfer_schedule.specs.Numbers.{Numbers}

-- how many calls have made steps of the pending transfer
abbrev pub calls_of : Numbers → ℕ
calls_of x = div_ceil x.done x.quantum

-- the table of spares: one more than the plan asks for only while the current list is shorter than the transfer is old
pub record InTable (x : Numbers) : Type 0 where
  pub room : x.current ≤ x.length
  pub idle : x.pending ≡ Idle → x.spares ≤ 3
  pub take : x.pending ≡ Taking → x.spares ≤ 2
  pub take_late : x.pending ≡ Taking → x.spares ≡ 2 → x.current ≤ calls_of x
  pub give : x.pending ≡ Giving → x.spares ≤ 3
  pub give_late : x.pending ≡ Giving → x.spares ≡ 3 → x.current ≤ calls_of x
