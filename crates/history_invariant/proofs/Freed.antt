-- one block given back is one block fewer in the grip
use Rattle.std.proofs.Common.{◌≡◌, ℕ, ◌+◌, arith, List, length}
use Rattle.pool_model.specs.declared.entry.Entry.{Entry}
use Rattle.pool_model.specs.declared.entry.Entry.TheVariants.{Back}
use Rattle.pool_model.specs.Limits.{Limits}
use Rattle.pool_model.specs.History.{own, held, grip, grip_after}
use Rattle.pool_model.specs.Legal.{MayFollow, IsLegal}
use Rattle.history_invariant.proofs.Times.{length_without, times_contained}
use Rattle.history_invariant.proofs.Grips.{grip_once}
use Rattle.history_invariant.proofs.Shared.{grips_of, legal_shared}

-- a free takes one block out of the grip of its process
pub freed_one : (limits : Limits) (past : List Entry) (by block : ℕ) → IsLegal limits past → MayFollow limits past (Back by block)
    → length (grip_after (grip (own past by)) (Back by block)) + 1 ≡ length (grip (own past by))
freed_one limits past by block legal may =
    let shared = legal_shared limits past legal in
    omega (
      arith,
      length_without block (grip (own past by)),
      times_contained block (grip (own past by)) may.1,
      grip_once limits by block (held past) (grips_of past) may.0 shared.grips,
    )
