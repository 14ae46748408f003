-- The tally of a script by the refusals of its slots: a truth value for each slot, in the order of the slots.
use Rattle.std.specs.Prelude.{ℕ, ◌+◌, ◌-◌, Bool, true, false, not, List, length, take, map, fold, count_by, max, replicate, slice_index_or}
use Rattle.std.specs.List.{range_with_len}
use Rattle.mtrace_reader.specs.declared.steps.Step.{Step}
use Rattle.mtrace_reader.specs.declared.steps.Step.TheVariants.{Place, Leave}
use Rattle.mtrace_reader.specs.declared.steps.Script.{Script}
use Rattle.trace_player.specs.declared.tally.Tally.{Tally}

-- the refusals of a script of which no slot was refused
abbrev pub no_refusals : Script → List Bool
no_refusals script = replicate script.news false

-- whether the slot was refused a block
abbrev pub is_refused : List Bool → ℕ → Bool
is_refused refused slot = slice_index_or refused slot false

-- whether the step is a Place
abbrev pub is_place : Step → Bool
is_place (Place slot) = true
is_place (Leave slot) = false

-- whether the step is a Place of a slot that was not refused
abbrev pub fills : List Bool → Step → Bool
fills refused (Place slot) = not (is_refused refused slot)
fills refused (Leave slot) = false

-- whether the step is a Leave of a slot that was not refused
abbrev pub empties : List Bool → Step → Bool
empties refused (Place slot) = false
empties refused (Leave slot) = not (is_refused refused slot)

-- how many blocks are held after the steps
abbrev pub holding : List Bool → List Step → ℕ
holding refused steps = count_by (fills refused) steps - count_by (empties refused) steps

-- the greatest of the numbers, or 0
abbrev pub greatest : List ℕ → ℕ
greatest numbers = fold max 0 numbers

-- the most blocks that are held after a prefix of the steps
abbrev pub peak_of : List Bool → List Step → ℕ
peak_of refused steps = greatest (map (λ place. holding refused (take place steps)) (range_with_len 0 (length steps + 1)))

-- the tally of a script by the refusals of its slots
abbrev pub tally_of : Script → List Bool → Tally
tally_of script refused =
    let news = count_by is_place script.steps in
    let frees = count_by (empties refused) script.steps in
    let dry = count_by (λ value. value) refused in
    record {
      news = news;
      frees = frees;
      big = script.big;
      failed = script.failed;
      stray = script.stray;
      twice = script.twice;
      refused = dry;
      peak = peak_of refused script.steps;
      left = news - dry - frees;
      cut = script.cut;
    }
