-- What was refused and given to the slots of some steps decides what these steps make.
use Rattle.std.proofs.Common.{◌≡◌, ℕ, ◌<◌, Bool, false, not, List, [], ◌∷◌, ◌++◌, length, refl, ap, arith}
use Rattle.std.specs.List.{All, AllByRecursion, flat_map, count_by, slice_index}
use Rattle.std.proofs.lemmas.List.{get_or_append_left}
use Rattle.std.proofs.lemmas.List.Elements.{recursion_from_All}
use Rattle.mtrace_reader.specs.declared.steps.Step.{Step}
use Rattle.mtrace_reader.specs.declared.steps.Step.TheVariants.{Place, Leave}
use Rattle.trace_player.proofs.Lists.{count_by_same, flat_map_same}
use Rattle.trace_player.specs.Tally.{is_refused, fills, empties, holding}
use Rattle.trace_player.specs.Fit.{calls_of}
use Rattle.trace_player.specs.Playing.{slot_of}

-- all steps name slots below m
abbrev pub Below : ℕ → List Step → Type 0
Below m steps = All (λ step. slot_of step < m) steps

-- later refusals and blocks are as earlier ones at the slots below m
pub record Keeps (refused later : List Bool) (blocks after : List ℕ) (m : ℕ) : Type 0 where
  pub refusals : (slot : ℕ) → slot < m → is_refused later slot ≡ is_refused refused slot
  pub given : (slot : ℕ) → slot < m → slice_index after slot ≡ slice_index blocks slot

-- one more refusal and block behind them leave those of the slots before
pub keeps_more : (refused : List Bool) (blocks : List ℕ) (dry : Bool) (block : ℕ) → length blocks ≡ length refused
    → Keeps refused (refused ++ dry ∷ []) blocks (blocks ++ block ∷ []) (length refused)
keeps_more refused blocks dry block same = record {
  refusals = λ slot below. get_or_append_left refused (dry ∷ []) false slot below;
  given = λ slot below. get_or_append_left blocks (block ∷ []) 0 slot (omega arith);
}

-- refusals and blocks that didn't change are as the earlier ones
pub keeps_all : (refused : List Bool) (blocks : List ℕ) (m : ℕ) → Keeps refused refused blocks blocks m
keeps_all refused blocks m = record { refusals = λ slot below. refl; given = λ slot below. refl }

each : (P : Step → Type 0) (m : ℕ) (steps : List Step) → ((step : Step) → slot_of step < m → P step)
    → AllByRecursion (λ step. slot_of step < m) steps
    → AllByRecursion P steps
each P m [] f below = below
each P m (step ∷ steps) f below = (f step below.0, each P m steps f below.1)

same_fills : (refused later : List Bool) (blocks after : List ℕ) (m : ℕ) → Keeps refused later blocks after m → (step : Step)
    → slot_of step < m
    → fills later step ≡ fills refused step
same_fills refused later blocks after m keeps (Place slot) below = ap not (keeps.refusals slot below)
same_fills refused later blocks after m keeps (Leave slot) below = refl

same_empties : (refused later : List Bool) (blocks after : List ℕ) (m : ℕ) → Keeps refused later blocks after m → (step : Step)
    → slot_of step < m
    → empties later step ≡ empties refused step
same_empties refused later blocks after m keeps (Place slot) below = refl
same_empties refused later blocks after m keeps (Leave slot) below = ap not (keeps.refusals slot below)

same_calls : (i : ℕ) (refused later : List Bool) (blocks after : List ℕ) (m : ℕ) → Keeps refused later blocks after m → (step : Step)
    → slot_of step < m
    → calls_of i later after step ≡ calls_of i refused blocks step
same_calls i refused later blocks after m keeps (Place slot) below = rw (keeps.refusals slot below, keeps.given slot below) refl
same_calls i refused later blocks after m keeps (Leave slot) below = rw (keeps.refusals slot below, keeps.given slot below) refl

-- so tests that answer alike of them count alike
counts_kept : (one other : Step → Bool) (m : ℕ) (steps : List Step) → ((step : Step) → slot_of step < m → other step ≡ one step)
    → Below m steps → count_by other steps ≡ count_by one steps
counts_kept one other m steps same below =
    count_by_same other one steps
    (each (λ step. other step ≡ one step) m steps same (recursion_from_All (λ step. slot_of step < m) steps below))

-- with later refusals, steps at earlier slots fill as many slots
pub fills_kept : (refused later : List Bool) (blocks after : List ℕ) (m : ℕ) (steps : List Step) → Keeps refused later blocks after m
    → Below m steps
    → count_by (fills later) steps ≡ count_by (fills refused) steps
fills_kept refused later blocks after m steps keeps below =
    counts_kept (fills refused) (fills later) m steps (same_fills refused later blocks after m keeps) below

-- they empty as many
pub empties_kept : (refused later : List Bool) (blocks after : List ℕ) (m : ℕ) (steps : List Step) → Keeps refused later blocks after m
    → Below m steps
    → count_by (empties later) steps ≡ count_by (empties refused) steps
empties_kept refused later blocks after m steps keeps below =
    counts_kept (empties refused) (empties later) m steps (same_empties refused later blocks after m keeps) below

-- they are the same calls
pub calls_kept : (i : ℕ) (refused later : List Bool) (blocks after : List ℕ) (m : ℕ) (steps : List Step)
    → Keeps refused later blocks after m
    → Below m steps
    → flat_map (calls_of i later after) steps ≡ flat_map (calls_of i refused blocks) steps
calls_kept i refused later blocks after m steps keeps below =
    flat_map_same (calls_of i later after) (calls_of i refused blocks) steps
    (each (λ step. calls_of i later after step ≡ calls_of i refused blocks step) m steps (same_calls i refused later blocks after m keeps)
    (recursion_from_All (λ step. slot_of step < m) steps below))

-- and they hold as many blocks
pub holding_kept : (refused later : List Bool) (blocks after : List ℕ) (m : ℕ) (steps : List Step) → Keeps refused later blocks after m
    → Below m steps
    → holding later steps ≡ holding refused steps
holding_kept refused later blocks after m steps keeps below =
    let f = fills_kept refused later blocks after m steps keeps below in
    let e = empties_kept refused later blocks after m steps keeps below in
    cc
