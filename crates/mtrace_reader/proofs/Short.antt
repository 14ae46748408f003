-- A script has at most one step for each operation.
use Rattle.std.proofs.Common.{ℕ, ◌+◌, ◌≤◌, ◌==◌, Bool, true, false, cond, List, [], ◌∷◌, length, fold, arith, length-append, Some, None}
use Rattle.std.specs.Prelude.{Option, is_some, nat_lt}
use Rattle.mtrace_reader.specs.declared.trace.Operation.{Operation}
use Rattle.mtrace_reader.specs.declared.trace.Operation.TheVariants.{New, Release, Failed}
use Rattle.mtrace_reader.specs.declared.trace.Trace.{Trace}
use Rattle.mtrace_reader.specs.declared.steps.Step.TheVariants.{Place, Leave}
use Rattle.mtrace_reader.specs.declared.walk.Live.{Live}
use Rattle.mtrace_reader.specs.declared.walk.Live.TheVariants.{Slot, Big}
use Rattle.mtrace_reader.specs.Script.{Walk, after, begun, named, script_of, with_big, with_failed, with_place, with_twice, without}

-- how many steps a walk has made
abbrev steps_of : Walk → ℕ
steps_of walk = length walk.script.steps

either : (t : Bool) (one other : Walk) (most : ℕ) → steps_of one ≤ most → steps_of other ≤ most → steps_of (cond t one other) ≤ most
either true one other most p q = p
either false one other most p q = q

released : (walk : Walk) (address : ℕ) (names : Option Live) → steps_of (without walk address names) ≤ steps_of walk + 1
released walk address None = omega arith
released walk address (Some Big) = omega arith
released walk address (Some (Slot slot)) = omega (arith, length-append walk.script.steps (Leave slot ∷ []))

one_more : (size : ℕ) (walk : Walk) (operation : Operation) → steps_of (after size walk operation) ≤ steps_of walk + 1
one_more size walk (New address bytes) =
    let most = steps_of walk + 1 in
    either (address == 0) (with_failed walk) _ most (omega arith)
    (either (is_some (named walk address)) (with_twice walk) _ most (omega arith)
    (either (nat_lt size bytes) (with_big walk address) (with_place walk address) most (omega arith)
    (omega (arith, length-append walk.script.steps (Place walk.script.news ∷ [])))))
one_more size walk (Release address) = released walk address (named walk address)
one_more size walk Failed = omega arith

walked : (size : ℕ) (walk : Walk) (operations : List Operation)
    → steps_of (fold (after size) walk operations) ≤ steps_of walk + length operations
walked size walk [] = omega arith
walked size walk (operation ∷ operations) =
    omega (arith, one_more size walk operation, walked size (after size walk operation) operations)

-- a script has at most as many steps as its trace has operations
pub steps-le-operations : (trace : Trace) (size : ℕ) → length (script_of trace size).steps ≤ length trace.operations
steps-le-operations trace size = omega (arith, walked size (begun trace.cut) trace.operations)
