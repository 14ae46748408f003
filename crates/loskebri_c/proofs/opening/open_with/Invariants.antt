use Rattle.std.proofs.Common.{◌≡◌, ◌+◌, ◌++◌, Some, length, map, take}
use Rattle.std.specs.Vec.Iter.{into_iter_items}
use Rattle.loskebri_c.proofs.opening.open_with.Given as goal

-- the handles so far own the first members, and there are as many to come as handles
abbrev pub invariant-loop-pass : goal.invariant-loop-pass
invariant-loop-pass l =
    (map (λ pass. pass.member) (take l.pass-index l.passes) ++ map (λ boxed. Some boxed.value) (into_iter_items l.boxes)
    ≡ map (λ boxed. Some boxed.value) l.fn.boxes.items) × (length l.passes ≡ l.pass-index + length (into_iter_items l.boxes))
