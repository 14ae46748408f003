-- How the operations on a plan change the blocks of its current list and spares.
use Rattle.std.proofs.Common.{◌≡◌, ◌≢◌, ◌+◌, ◌*◌, ◌≤◌, Bool, true, if◌then◌else◌, arith}
use Rattle.std.proofs.lemmas.Bool.Decides.{nat_tests}
use Rattle.transfer_schedule.specs.declared.own_step.Source.TheVariants.{Nothing}
use Rattle.transfer_schedule.specs.Numbers.{Numbers, is_idle, is_taking, is_giving, after_choice, after_end, after_took_one, after_gave_one}
use Rattle.transfer_schedule.specs.Numbers.{source_of, stock, kept}
use Rattle.transfer_schedule.proofs.Products.{times_two, times_three, times_more, times_less}
use Rattle.transfer_schedule.proofs.Operations.{one_more_few}

-- what is kept stays while a transfer begins
pub choice_kept : (x : Numbers) → kept (after_choice x) ≡ kept x
choice_kept x = grind (arith, nat_tests, times_two, times_three)

-- the end of a take that found a batch adds that to the stock, and no other end changes it
pub end_stock : (x : Numbers) (found : Bool)
    → x.spares ≤ 3
    → stock (after_end found x) ≡ stock x + (if is_taking x.pending then (if found then x.length else 0) else 0)
end_stock x found few = grind (arith, nat_tests, times_more x.length x.spares, one_more_few x.spares)

-- an allocate that finds a block takes one of the stock
pub took_stock : (x : Numbers) → source_of x ≢ Nothing → 1 ≤ x.length → stock (after_took_one x) + 1 ≡ stock x
took_stock x some long = grind (arith, nat_tests, times_less x.length x.spares)

-- where it finds none, the stock is empty
pub nothing_stock : (x : Numbers) → source_of x ≡ Nothing → stock x ≡ 0
nothing_stock x none = grind (arith, nat_tests)

-- a free adds one to the stock
pub gave_stock : (x : Numbers) → x.spares ≤ 3 → x.current ≤ x.length → stock (after_gave_one x) ≡ stock x + 1
gave_stock x few room = grind (arith, nat_tests, times_more x.length x.spares, one_more_few x.spares)

-- a give begins with three spares, so that two batches stay
pub choice_stock : (x : Numbers) → is_idle x.pending ≡ true → is_giving (after_choice x).pending ≡ true → 3 * x.length ≤ stock x
choice_stock x idle giving = grind (arith, nat_tests, times_three)
