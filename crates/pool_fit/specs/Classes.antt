-- Allocations by their size, in powers of two.
use Rattle.std.specs.Prelude.{ℕ, ◌+◌, ◌^◌, zero, suc, List, count_by, sum_by}
use Rattle.pool_fit.specs.declared.moves.Move.{Move}
use Rattle.pool_fit.specs.declared.classes.SizeClass.{SizeClass}
use Rattle.pool_fit.specs.Moves.{gives, takes}
use Rattle.pool_fit.specs.Tides.{most_there}

-- the fewest bytes of a class: one more than the most of the class below
abbrev pub least_bytes : ℕ → ℕ
least_bytes zero = 0
least_bytes (suc exponent) = 2 ^ exponent + 1

-- the allocations of between so many bytes and so many: how many there are, and the sum of how many are live at once at most
abbrev pub class_between : List (List Move) → ℕ → ℕ → ℕ → SizeClass
class_between traces exponent least most = record {
  exponent = exponent;
  count = sum_by (λ moves. count_by (takes least most) moves) traces;
  peak = sum_by (λ moves. most_there (takes least most) (gives least most) moves) traces;
}

-- those that round up to a power of two
abbrev pub class_of : List (List Move) → ℕ → SizeClass
class_of traces exponent = class_between traces exponent (least_bytes exponent) (2 ^ exponent)
