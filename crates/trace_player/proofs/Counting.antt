-- What a tally counts, one step on.
use Rattle.std.proofs.Common.{◌≡◌, ℕ, ◌+◌, ◌-◌, ◌<◌, Bool, true, false, cond, not, Option, Some, None, is_some, set}
use Rattle.std.proofs.Common.{replicate, List, [], ◌∷◌, ◌++◌, length, max, refl, sym, ap, ◌∙◌, arith, length-append}
use Rattle.std.specs.List.{count_by}
use Rattle.std.proofs.lemmas.List.Folds.{sum_by-replicate}
use Rattle.mtrace_reader.specs.declared.steps.Step.{Step}
use Rattle.mtrace_reader.specs.declared.steps.Step.TheVariants.{Place, Leave}
use Rattle.mtrace_reader.specs.declared.steps.Script.{Script}
use Rattle.trace_player.specs.declared.tally.Tally.{Tally}
use Rattle.trace_player.proofs.Lists.{count_by_more, one_if}
use Rattle.trace_player.proofs.Agreeing.{Below, Keeps, keeps_all, keeps_more, fills_kept, empties_kept}
use Rattle.trace_player.proofs.Peaks.{peak_more, peak_kept, holding-le-peak}
use Rattle.trace_player.specs.Tally.{is_refused, fills, empties, holding, peak_of}
use Rattle.trace_player.specs.Playing.{block_in, tally_after, NamesSlots, CountsSteps}
use Rattle.trace_player.proofs.Filling.{count_by-set}

-- one step more fills one slot more, where it is a Place that isn't refused
pub fills_more : (refused later : List Bool) (blocks after : List ℕ) (done : List Step) (step : Step)
    → Keeps refused later blocks after (length refused)
    → Below (length refused) done
    → count_by (fills later) (done ++ step ∷ []) ≡ count_by (fills refused) done + cond (fills later step) 1 0
fills_more refused later blocks after done step keeps below =
    count_by_more (fills later) done step ∙ ap (λ n. n + cond (fills later step) 1 0)
    (fills_kept refused later blocks after (length refused) done keeps below)

-- one step more empties one slot more, where it is a Leave of a slot that isn't refused
pub empties_more : (refused later : List Bool) (blocks after : List ℕ) (done : List Step) (step : Step)
    → Keeps refused later blocks after (length refused)
    → Below (length refused) done
    → count_by (empties later) (done ++ step ∷ []) ≡ count_by (empties refused) done + cond (empties later step) 1 0
empties_more refused later blocks after done step keeps below =
    count_by_more (empties later) done step ∙ ap (λ n. n + cond (empties later step) 1 0)
    (empties_kept refused later blocks after (length refused) done keeps below)

-- a tally by what its numbers are
tally_by : (script : Script) (later : List Bool) (steps : List Step) (frees dry peak left : ℕ)
    → count_by (empties later) steps ≡ frees → count_by (λ value. value) later ≡ dry → peak_of later steps ≡ peak
    → holding later steps ≡ left
    → ◌≡◌ {A = Tally} (record {
      news = script.news;
      frees = frees;
      big = script.big;
      failed = script.failed;
      stray = script.stray;
      twice = script.twice;
      refused = dry;
      peak = peak;
      left = left;
      cut = script.cut;
    }) (tally_after script later steps)
tally_by script later steps frees dry peak left f d p l = cc

-- a tally one step on, where the step gives `gain` blocks to the file and takes `lose` back
pub tally_more : (script : Script) (refused later : List Bool) (blocks after : List ℕ) (done : List Step) (step : Step) (tally : Tally)
    (gain lose frees dry peak left : ℕ)
    → Keeps refused later blocks after (length refused) → Below (length refused) done → tally ≡ tally_after script refused done
    → cond (fills later step) 1 0 ≡ gain → cond (empties later step) 1 0 ≡ lose
    → frees ≡ tally.frees + lose
    → dry ≡ count_by (λ value. value) later
    → left ≡ (count_by (fills refused) done + gain) - (count_by (empties refused) done + lose)
    → peak ≡ max tally.peak left
    → record tally { frees = frees; refused = dry; peak = peak; left = left } ≡ tally_after script later (done ++ step ∷ [])
tally_more script refused later blocks after done step tally gain lose frees dry peak left keeps below is g l f d sum p =
    let e = empties_more refused later blocks after done step keeps below in
    let holds : holding later (done ++ step ∷ []) ≡ left = omega (arith, e, fills_more refused later blocks after done step keeps below) in
    let top : peak_of later (done ++ step ∷ []) ≡ peak =
    peak_more later done step
    ∙ ap (λ n. max n (holding later (done ++ step ∷ [])))
    (peak_kept refused later blocks after (length refused) done keeps below ∙ sym (ap (λ (t : Tally). t.peak) is))
    ∙ ap (λ n. max tally.peak n) holds ∙ sym p in
    ap (λ (t : Tally). record t { frees = frees; refused = dry; peak = peak; left = left }) is
    ∙ tally_by script later (done ++ step ∷ []) frees dry peak left
    (omega (arith, e, ap (λ (t : Tally). t.frees) is)) (sym d) top holds

-- before the first step the tally counts no step
pub counts_none : (script : Script) (n : ℕ) → CountsSteps script [] [] (replicate n None) (tally_after script [] [])
counts_none script n =
    record { counted = omega (arith, sum_by-replicate (λ (o : Option ℕ). one_if (is_some o)) n None); answered = refl; tallied = refl }

-- a Place that got a block: one slot more has a block, one block more is left, and the peak follows
pub counts_got : (script : Script) (refused : List Bool) (blocks : List ℕ) (done : List Step) (slots : List (Option ℕ))
    (tally later : Tally) (slot block : ℕ)
    → NamesSlots refused blocks done → is_refused (refused ++ false ∷ []) slot ≡ false → slot < length slots → block_in slots slot ≡ None
    → later ≡ record tally { left = tally.left + 1; peak = max tally.peak (tally.left + 1) }
    → CountsSteps script refused done slots tally
    → CountsSteps script (refused ++ false ∷ []) (done ++ Place slot ∷ []) (set slots slot (Some block)) later
counts_got script refused blocks done slots tally later slot block names given within free is counts =
    let after = refused ++ false ∷ [] in
    let keeps = keeps_more refused blocks false block names.block_each in
    let gain : one_if (fills after (Place slot)) ≡ 1 = ap (λ t. one_if (not t)) given in
    let more = fills_more refused after blocks (blocks ++ block ∷ []) done (Place slot) keeps names.below in
    let less = empties_more refused after blocks (blocks ++ block ∷ []) done (Place slot) keeps names.below in
    let dry = count_by_more (λ (v : Bool). v) refused false in
    record {
      counted =
          omega (
            arith,
            gain,
            counts.counted,
            more,
            less,
            count_by-set slots slot (Some block) within,
            ap (λ (o : Option ℕ). one_if (is_some o)) free,
          );
      answered = omega (arith, gain, counts.answered, length-append refused (false ∷ []), more, dry);
      tallied =
          is ∙ tally_more script refused after blocks (blocks ++ block ∷ []) done (Place slot) tally 1 0 tally.frees tally.refused
          (max tally.peak (tally.left + 1)) (tally.left + 1)
          keeps names.below counts.tallied gain refl (omega arith)
          (omega (arith, dry, ap (λ (t : Tally). t.refused) counts.tallied))
          (omega (arith, counts.counted, ap (λ (t : Tally). t.left) counts.tallied)) refl;
    }

-- a refused Place counts one refusal more, and nothing else
pub counts_dry : (script : Script) (refused : List Bool) (blocks : List ℕ) (done : List Step) (slots : List (Option ℕ))
    (tally later : Tally) (slot : ℕ)
    → NamesSlots refused blocks done → is_refused (refused ++ true ∷ []) slot ≡ true
    → later ≡ record tally { refused = tally.refused + 1 }
    → CountsSteps script refused done slots tally → CountsSteps script (refused ++ true ∷ []) (done ++ Place slot ∷ []) slots later
counts_dry script refused blocks done slots tally later slot names given is counts =
    let after = refused ++ true ∷ [] in
    let keeps = keeps_more refused blocks true 0 names.block_each in
    let gain : one_if (fills after (Place slot)) ≡ 0 = ap (λ t. one_if (not t)) given in
    let more = fills_more refused after blocks (blocks ++ 0 ∷ []) done (Place slot) keeps names.below in
    let less = empties_more refused after blocks (blocks ++ 0 ∷ []) done (Place slot) keeps names.below in
    let dry = count_by_more (λ (v : Bool). v) refused true in
    record {
      counted = omega (arith, gain, counts.counted, more, less);
      answered = omega (arith, gain, counts.answered, length-append refused (true ∷ []), more, dry);
      tallied =
          is ∙ tally_more script refused after blocks (blocks ++ 0 ∷ []) done (Place slot) tally 0 0 tally.frees
          (tally.refused + 1) tally.peak tally.left
          keeps names.below counts.tallied gain refl (omega arith)
          (omega (arith, dry, ap (λ (t : Tally). t.refused) counts.tallied))
          (omega (arith, ap (λ (t : Tally). t.left) counts.tallied))
          (omega (
            arith,
            holding-le-peak refused done,
            ap (λ (t : Tally). t.left) counts.tallied,
            ap (λ (t : Tally). t.peak) counts.tallied,
          ));
    }

-- a Leave of a slot that has a block
pub counts_freed : (script : Script) (refused : List Bool) (blocks : List ℕ) (done : List Step) (slots : List (Option ℕ))
    (tally later : Tally) (slot block : ℕ)
    → NamesSlots refused blocks done → is_refused refused slot ≡ false → slot < length slots → block_in slots slot ≡ Some block
    → later ≡ record tally { frees = tally.frees + 1; left = tally.left - 1 }
    → CountsSteps script refused done slots tally → CountsSteps script refused (done ++ Leave slot ∷ []) (set slots slot None) later
counts_freed script refused blocks done slots tally later slot block names given within has is counts =
    let keeps = keeps_all refused blocks (length refused) in
    let lose : one_if (empties refused (Leave slot)) ≡ 1 = ap (λ t. one_if (not t)) given in
    let more = fills_more refused refused blocks blocks done (Leave slot) keeps names.below in
    let less = empties_more refused refused blocks blocks done (Leave slot) keeps names.below in
    let fewer = count_by-set slots slot None within in
    let one = ap (λ (o : Option ℕ). one_if (is_some o)) has in
    record {
      counted = omega (arith, lose, counts.counted, more, less, fewer, one);
      answered = omega (arith, counts.answered, more);
      tallied =
          is ∙ tally_more script refused refused blocks blocks done (Leave slot) tally 0 1 (tally.frees + 1) tally.refused tally.peak
          (tally.left - 1)
          keeps names.below counts.tallied refl lose refl (ap (λ (t : Tally). t.refused) counts.tallied)
          (omega (arith, ap (λ (t : Tally). t.left) counts.tallied))
          (omega (
            arith,
            holding-le-peak refused done,
            ap (λ (t : Tally). t.left) counts.tallied,
            ap (λ (t : Tally). t.peak) counts.tallied,
          ));
    }

-- a Leave of a slot that was refused
pub counts_passed : (script : Script) (refused : List Bool) (blocks : List ℕ) (done : List Step) (slots : List (Option ℕ)) (tally : Tally)
    (slot : ℕ)
    → NamesSlots refused blocks done → is_refused refused slot ≡ true → slot < length slots → block_in slots slot ≡ None
    → CountsSteps script refused done slots tally → CountsSteps script refused (done ++ Leave slot ∷ []) (set slots slot None) tally
counts_passed script refused blocks done slots tally slot names given within free counts =
    let keeps = keeps_all refused blocks (length refused) in
    let lose : one_if (empties refused (Leave slot)) ≡ 0 = ap (λ t. one_if (not t)) given in
    let more = fills_more refused refused blocks blocks done (Leave slot) keeps names.below in
    let less = empties_more refused refused blocks blocks done (Leave slot) keeps names.below in
    record {
      counted =
          omega (
            arith,
            lose,
            counts.counted,
            more,
            less,
            count_by-set slots slot None within,
            ap (λ (o : Option ℕ). one_if (is_some o)) free,
          );
      answered = omega (arith, counts.answered, more);
      tallied = tally_more script refused refused blocks blocks done (Leave slot) tally 0 0 tally.frees tally.refused tally.peak tally.left
          keeps names.below counts.tallied refl lose (omega arith) (ap (λ (t : Tally). t.refused) counts.tallied)
          (omega (arith, ap (λ (t : Tally). t.left) counts.tallied))
          (omega (
            arith,
            holding-le-peak refused done,
            ap (λ (t : Tally). t.left) counts.tallied,
            ap (λ (t : Tally). t.peak) counts.tallied,
          ));
    }
