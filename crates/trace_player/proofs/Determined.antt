-- The calls of a process for a script determine which slots were refused.
use Rattle.std.proofs.Common.{◌≡◌, ℕ, ◌+◌, ◌<◌, suc, Bool, true, false, cond, List, [], ◌∷◌, ◌++◌, length, get_or, refl}
use Rattle.std.proofs.Common.{sym, ap, ◌∙◌, subst, ⊎_elim, arith, append_assoc, length-append, append-nil, Some}
use Rattle.std.specs.Bool.{⊤}
use Rattle.std.specs.List.{Contains, flat_map, slice_get, slice_index, range_with_len}
use Rattle.std.proofs.lemmas.Bool.{cases_eq}
use Rattle.std.proofs.Math.Seq.{take-append_seam}
use Rattle.std.proofs.lemmas.List.FromFn.{length-range_with_len}
use Rattle.pool_model.specs.declared.entry.Entry.{Entry}
use Rattle.pool_model.specs.declared.entry.Entry.TheVariants.{Got, Back, Dry}
use Rattle.mtrace_reader.specs.declared.steps.Step.{Step}
use Rattle.mtrace_reader.specs.declared.steps.Step.TheVariants.{Place, Leave}
use Rattle.mtrace_reader.specs.declared.steps.Script.{Script}
use Rattle.mtrace_reader.specs.Script.{placed_slots, LeavesPlaced, IsWellFormed}
use Rattle.mtrace_reader.proofs.WellFormed.{placed_slots-append}
use Rattle.trace_player.proofs.Ordered.{place_at_seam, placed_before}
use Rattle.trace_player.specs.Tally.{is_refused}
use Rattle.trace_player.specs.Fit.{calls_of, Fits}

-- the steps place the slots from m on, and leave none that is not placed by then
InOrder : ℕ → List Step → Type 0
InOrder m [] = ⊤
InOrder m (Place slot ∷ steps) = (slot ≡ m) × InOrder (m + 1) steps
InOrder m (Leave slot ∷ steps) = (slot < m) × InOrder m steps

-- the step between two lists stands at the length of the first
pub slice_get_seam : (before rest : List Step) (step : Step) → slice_get (before ++ step ∷ rest) (length before) ≡ Some step
slice_get_seam [] rest step = refl
slice_get_seam (first ∷ before) rest step = slice_get_seam before rest step

in_order_from : (before steps : List Step) (news : ℕ) → placed_slots (before ++ steps) ≡ range_with_len 0 news
    → LeavesPlaced (before ++ steps)
    → InOrder (length (placed_slots before)) steps
unfolding InOrder
in_order_from before [] news in_order leaves = tt
in_order_from before (Place slot ∷ steps) news in_order leaves =
    let same : (before ++ Place slot ∷ []) ++ steps ≡ before ++ Place slot ∷ steps = append_assoc before (Place slot ∷ []) steps in
    let longer : length (placed_slots (before ++ Place slot ∷ [])) ≡ length (placed_slots before) + 1 =
    omega (arith, ap length (placed_slots-append before (Place slot ∷ [])), length-append (placed_slots before) (slot ∷ [])) in (
      place_at_seam before steps slot news in_order,
      subst (λ (n : ℕ). InOrder n steps) longer (in_order_from (before ++ Place slot ∷ []) steps news (ap placed_slots same ∙ in_order)
          (subst LeavesPlaced (sym same) leaves)),
    )
in_order_from before (Leave slot ∷ steps) news in_order leaves =
    let same : (before ++ Leave slot ∷ []) ++ steps ≡ before ++ Leave slot ∷ steps = append_assoc before (Leave slot ∷ []) steps in
    let as_long : length (placed_slots (before ++ Leave slot ∷ [])) ≡ length (placed_slots before) =
    ap length (placed_slots-append before (Leave slot ∷ []) ∙ append-nil (placed_slots before)) in
    let placed = (leaves (length before) slot (slice_get_seam before steps (Leave slot))).0 in
    let P : List Step → Type 0 = λ xs. Contains xs (Place slot) in (
      placed_before before (Leave slot ∷ steps) slot news in_order (subst P (take-append_seam before (Leave slot ∷ steps)) placed),
      subst (λ (n : ℕ). InOrder n steps) as_long (in_order_from (before ++ Leave slot ∷ []) steps news (ap placed_slots same ∙ in_order)
          (subst LeavesPlaced (sym same) leaves)),
    )

-- the answer to an allocate tells whether it was refused
same_answer : (i b c : ℕ) (r o : Bool) → cond r (Dry i) (Got i b) ≡ cond o (Dry i) (Got i c) → o ≡ r
same_answer i b c true true e = refl
same_answer i b c true false e = absurd cc
same_answer i b c false true e = absurd cc
same_answer i b c false false e = refl

same_rest : (x y : Entry) (r o : Bool) (xs ys : List Entry) → o ≡ r → cond r [] (x ∷ []) ++ xs ≡ cond o [] (y ∷ []) ++ ys → xs ≡ ys
same_rest x y true true xs ys e h = h
same_rest x y true false xs ys e h = absurd cc
same_rest x y false true xs ys e h = absurd cc
same_rest x y false false xs ys e h = cc

one_more : (P : ℕ → Type 0) (m : ℕ) → ((s : ℕ) → s < m → P s) → P m → (s : ℕ) → s < m + 1 → P s
one_more P m below here s low = ⊎_elim (λ (e : s ≡ m). subst P (sym e) here) (λ (ne : s ≡ m → ⊥). below s (omega arith)) (cases_eq s m)

agree_on : (i : ℕ) (steps : List Step) (m : ℕ) (refused other : List Bool) (blocks others : List ℕ) → InOrder m steps
    → ((s : ℕ) → s < m → is_refused other s ≡ is_refused refused s)
    → flat_map (calls_of i refused blocks) steps ≡ flat_map (calls_of i other others) steps
    → (s : ℕ) → s < m + length (placed_slots steps) → is_refused other s ≡ is_refused refused s
unfolding InOrder
agree_on i [] m refused other blocks others order so_far same s low = so_far s (omega arith)
agree_on i (Place slot ∷ steps) m refused other blocks others order so_far same s low =
    let answers : cond (is_refused refused slot) (Dry i) (Got i (slice_index blocks slot)) ≡ cond (is_refused other slot) (Dry i)
    (Got i (slice_index others slot)) =
    cc in
    let here =
    same_answer i (slice_index blocks slot) (slice_index others slot) (is_refused refused slot) (is_refused other slot) answers in
    let rest : flat_map (calls_of i refused blocks) steps ≡ flat_map (calls_of i other others) steps = cc in
    agree_on i steps (m + 1) refused other blocks others order.1
    (one_more (λ k. is_refused other k ≡ is_refused refused k) m so_far
    (subst (λ (k : ℕ). is_refused other k ≡ is_refused refused k) order.0 here))
    rest s (omega arith)
agree_on i (Leave slot ∷ steps) m refused other blocks others order so_far same s low =
    agree_on i steps m refused other blocks others order.1 so_far
    (same_rest (Back i (slice_index blocks slot)) (Back i (slice_index others slot)) (is_refused refused slot) (is_refused other slot)
    (flat_map (calls_of i refused blocks) steps) (flat_map (calls_of i other others) steps) (so_far slot order.0) same)
    s low

same_list : (xs ys : List Bool) → length xs ≡ length ys → ((k : ℕ) → k < length xs → get_or xs k false ≡ get_or ys k false) → xs ≡ ys
same_list [] [] size same = refl
same_list [] (y ∷ ys) size same = absurd (omega arith)
same_list (x ∷ xs) [] size same = absurd (omega arith)
same_list (x ∷ xs) (y ∷ ys) size same =
    let first : x ≡ y = same 0 (omega arith) in
    let rest = same_list xs ys (omega arith) (λ k low. same (suc k) (omega arith)) in
    cc

-- the entries that fit a well formed script fit it with one list of refusals alone
pub only_refusals : (i : ℕ) (script : Script) (refused other : List Bool) (entries : List Entry) → IsWellFormed script
    → Fits i script refused entries → Fits i script other entries
    → other ≡ refused
only_refusals i script refused other entries formed fits also =
    let order = in_order_from [] script.steps script.news formed.in_order formed.leaves in
    let all =
    agree_on i script.steps 0 refused other fits.blocks also.blocks order (λ s low. absurd (omega arith))
    (sym fits.step_by_step ∙ also.step_by_step) in
    same_list other refused (also.one_each ∙ sym fits.one_each)
    (λ k low. all k (omega (arith, low, also.one_each, ap length formed.in_order, length-range_with_len 0 script.news)))
