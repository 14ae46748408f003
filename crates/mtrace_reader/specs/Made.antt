-- Made traces: operations that a generator of pseudorandom numbers makes of a seed.
use Rattle.std.specs.Prelude.{ℕ, zero, suc, ◌+◌, ◌*◌, ◌/◌, ◌%◌, ◌^◌, Bool, false, ◌&&◌, ◌||◌, ◌==◌, nat_lt, List, [], ◌∷◌, ◌++◌, length}
use Rattle.std.specs.Prelude.{remove, slice_index, if◌then◌else◌}
use Rattle.mtrace_reader.specs.declared.trace.Operation.{Operation}
use Rattle.mtrace_reader.specs.declared.trace.Operation.TheVariants.{New, Release}
use Rattle.mtrace_reader.specs.declared.trace.Trace.{Trace}

-- a trace that is being made: the generator's number, the live addresses from the oldest on, and the operations so far
pub record Making : Type 0 where
  pub number : ℕ
  pub live : List ℕ
  pub operations : List Operation

-- a trace of which nothing is made
abbrev pub begun : ℕ → Making
begun seed = record { number = seed; live = []; operations = [] }

-- the generator's number after this one
abbrev pub number_after : ℕ → ℕ
number_after number = (number * 6364136223846793005 + 1442695040888963407) % 2 ^ 64

-- what a call is decided by: the upper half of the generator's number
abbrev pub choice_of : ℕ → ℕ
choice_of number = number / 2 ^ 32

-- a call allocates where nothing is live, and where fewer than 256 addresses are live and its choice is even
abbrev pub allocates : ℕ → List ℕ → Bool
allocates choice live = length live == 0 || (nat_lt (length live) 256 && (choice % 2 == 0))

-- the address that the call of this number allocates, where calls are counted from 0
abbrev pub address_at : ℕ → ℕ
address_at index = 16 * (index + 1)

-- the place of the live address that a call releases, counted from 0
abbrev pub released_place : ℕ → List ℕ → ℕ
released_place choice live = (choice / 2) % length live

-- the operation that a call makes
abbrev pub operation_at : ℕ → ℕ → List ℕ → Operation
operation_at index choice live =
    if allocates choice live then New (address_at index) ((choice / 2) % 72)
    else Release (slice_index live (released_place choice live))

-- the live addresses after it
abbrev pub live_after : ℕ → ℕ → List ℕ → List ℕ
live_after index choice live =
    if allocates choice live then live ++ address_at index ∷ [] else remove live (released_place choice live)

-- one more call
abbrev pub with_call : Making → ℕ → Making
with_call making index = let number = number_after making.number in record {
  number = number;
  live = live_after index (choice_of number) making.live;
  operations = making.operations ++ operation_at index (choice_of number) making.live ∷ [];
}

-- after so many calls
unfoldable pub making_after : ℕ → ℕ → Making
making_after seed zero = begun seed
making_after seed (suc calls) = with_call (making_after seed calls) calls

-- the trace of a seed and a number of calls
abbrev pub made_trace : ℕ → ℕ → Trace
made_trace seed calls = record { operations = (making_after seed calls).operations; cut = false; bytes = 0 }
