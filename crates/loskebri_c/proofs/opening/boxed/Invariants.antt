use Rattle.std.proofs.Common.{◌≡◌, ◌++◌, map}
use Rattle.std.specs.Vec.Iter.{into_iter_items}
use Rattle.loskebri_c.proofs.opening.boxed.Given as goal

-- the boxes so far have the first members
abbrev pub invariant-loop-member : goal.invariant-loop-member
invariant-loop-member l = map (λ boxed. boxed.value) l.boxes.items ++ into_iter_items l.member-iterator ≡ l.fn.members.items
