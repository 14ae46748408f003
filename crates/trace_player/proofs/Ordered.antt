-- What the order of a well-formed script's slots says of each step.
use Rattle.std.proofs.Common.{◌≡◌, ℕ, ◌+◌, ◌<◌, ◌≤◌, List, [], ◌∷◌, ◌++◌, length, get_or, take, drop, refl}
use Rattle.std.proofs.Common.{sym, ap, ◌∙◌, arith, append_assoc, length-append, add-one, drop-cons, Some}
use Rattle.std.specs.List.{Contains, range_with_len}
use Rattle.std.proofs.lemmas.Option.{slice_get-get_or}
use Rattle.std.proofs.lemmas.List.{get_or_append_left, take-append-drop}
use Rattle.std.proofs.lemmas.List.FromFn.{get_or-range_with_len, length-range_with_len}
use Rattle.std.proofs.Math.Seq.{get_or-append_seam}
use Rattle.mtrace_reader.specs.declared.steps.Step.{Step}
use Rattle.mtrace_reader.specs.declared.steps.Step.TheVariants.{Place, Leave}
use Rattle.mtrace_reader.specs.declared.steps.Script.{Script}
use Rattle.mtrace_reader.specs.Script.{placed_slots, IsWellFormed}
use Rattle.mtrace_reader.proofs.WellFormed.{placed_slots-append, placed_slots-at}
use Rattle.trace_player.specs.Playing.{MayCome}

-- a Place is of the slot after those that were placed before it
pub place_at_seam : (before rest : List Step) (slot news : ℕ) → placed_slots (before ++ Place slot ∷ rest) ≡ range_with_len 0 news
    → slot ≡ length (placed_slots before)
place_at_seam before rest slot news in_order =
    let n = length (placed_slots before) in
    let parts : placed_slots before ++ slot ∷ placed_slots rest ≡ range_with_len 0 news =
    sym (placed_slots-append before (Place slot ∷ rest)) ∙ in_order in
    let below : n < news =
    omega (arith, ap length parts, length-append (placed_slots before) (slot ∷ placed_slots rest), length-range_with_len 0 news) in
    sym (get_or-append_seam (placed_slots before) slot (placed_slots rest) 0) ∙ ap (λ slots. get_or slots n 0) parts
    ∙ get_or-range_with_len 0 news n 0 below ∙ omega arith

-- a slot that was placed before is below the number of those
pub placed_before : (before rest : List Step) (slot news : ℕ) → placed_slots (before ++ rest) ≡ range_with_len 0 news
    → Contains before (Place slot)
    → slot < length (placed_slots before)
placed_before before rest slot news in_order placed =
    let at = placed_slots-at before placed.0 slot (slice_get-get_or before placed.0 (Place slot) placed.1 ∙ ap Some placed.2) in
    let k = at.0 in
    let parts : placed_slots before ++ placed_slots rest ≡ range_with_len 0 news = sym (placed_slots-append before rest) ∙ in_order in
    let below : k < news =
    omega (arith, at.1, ap length parts, length-append (placed_slots before) (placed_slots rest), length-range_with_len 0 news) in
    let number : slot ≡ k =
    sym at.2 ∙ sym (get_or_append_left (placed_slots before) (placed_slots rest) slot k at.1) ∙ ap (λ slots. get_or slots k slot) parts
    ∙ get_or-range_with_len 0 news k slot below ∙ omega arith in
    omega (arith, at.1, number)

-- the steps around one of them
pub around : (steps : List Step) (place : ℕ) (none : Step) → place < length steps
    → take place steps ++ get_or steps place none ∷ drop (place + 1) steps ≡ steps
around steps place none within =
    ap (λ rest. take place steps ++ rest) (sym (drop-cons steps place none within
    ∙ ap (λ n. get_or steps place none ∷ drop n steps) (sym (add-one place)))) ∙ take-append-drop place steps

-- each step of a well-formed script may come after those before it
pub may_come : (script : Script) (place : ℕ) (none : Step) → IsWellFormed script → place < length script.steps
    → MayCome (take place script.steps) (get_or script.steps place none)
may_come script place none formed within = cases (get_or script.steps place none) refl
  where
    steps : List Step
    steps = script.steps

    cases : (step : Step) → get_or script.steps place none ≡ step → MayCome (take place script.steps) step
    cases (Place slot) e =
        place_at_seam (take place script.steps) (drop (place + 1) script.steps) slot script.news
        (ap (λ step. placed_slots (take place script.steps ++ step ∷ drop (place + 1) script.steps)) (sym e)
        ∙ ap placed_slots (around script.steps place none within) ∙ formed.in_order)
    cases (Leave slot) e = formed.leaves place slot (slice_get-get_or script.steps place none within ∙ ap Some e)

-- no step names a slot past the last
pub room_for : (script : Script) (place : ℕ) (none : Step) → IsWellFormed script → place < length script.steps
    → length (placed_slots (take place script.steps ++ get_or script.steps place none ∷ [])) ≤ script.news
room_for script place none formed within =
    let step = get_or script.steps place none in
    let front = take place script.steps in
    let rest = drop (place + 1) script.steps in
    omega (
      arith,
      ap length formed.in_order,
      length-range_with_len 0 script.news,
      ap (λ steps. length (placed_slots steps)) (around script.steps place none within),
      ap (λ steps. length (placed_slots steps)) (append_assoc front (step ∷ []) rest),
      ap length (placed_slots-append (front ++ step ∷ []) rest),
      length-append (placed_slots (front ++ step ∷ [])) (placed_slots rest),
    )
