-- A script that was played to its end.
use Rattle.std.proofs.Common.{◌≡◌, ℕ, ◌+◌, ◌-◌, Bool, false, cond, replicate, Option, List, ◌∷◌, length, refl, sym, ap, ◌∙◌, arith}
use Rattle.std.specs.List.{count_by}
use Rattle.std.proofs.lemmas.List.Recursion.{is_count_by}
use Rattle.std.proofs.lemmas.List.FromFn.{length-range_with_len}
use Rattle.pool_model.specs.declared.entry.Entry.{Entry}
use Rattle.pool_model.specs.Plain.{Plain}
use Rattle.mtrace_reader.specs.declared.steps.Step.{Step}
use Rattle.mtrace_reader.specs.declared.steps.Step.TheVariants.{Place, Leave}
use Rattle.mtrace_reader.specs.declared.steps.Script.{Script}
use Rattle.mtrace_reader.specs.Script.{placed_slots, IsWellFormed}
use Rattle.trace_player.specs.declared.tally.Tally.{Tally}
use Rattle.trace_player.proofs.Determined.{only_refusals}
use Rattle.trace_player.proofs.Peaks.{holding-le-peak}
use Rattle.trace_player.proofs.Sparing.{peak_unrefused}
use Rattle.trace_player.specs.Tally.{is_place, fills, empties, holding, tally_of}
use Rattle.trace_player.specs.Fit.{Fits, IsTallied}
use Rattle.trace_player.specs.Playing.{tally_after, HeldIn, IsPlayed, IsPlayedWhole, PlaysSteps}

-- the number of Place steps is that of the slots they place
count_by-is_place : (steps : List Step) → length (placed_slots steps) ≡ count_by is_place steps
count_by-is_place steps = is_count_by (λ (xs : List Step). length (placed_slots xs)) is_place refl more steps
  where
    more : (step : Step) (steps : List Step)
        → length (placed_slots (step ∷ steps)) ≡ cond (is_place step) (1 + length (placed_slots steps)) (length (placed_slots steps))
    more (Place slot) steps = omega arith
    more (Leave slot) steps = refl

-- where each slot was answered, the tally after all steps is that of the script
tally_whole : (script : Script) (refused : List Bool) → IsWellFormed script → length refused ≡ script.news
    → count_by (fills refused) script.steps + count_by (λ (value : Bool). value) refused ≡ length refused
    → tally_after script refused script.steps ≡ tally_of script refused
tally_whole script refused formed one_each answered =
    let news : script.news ≡ count_by is_place script.steps =
    sym (length-range_with_len 0 script.news) ∙ ap length (sym formed.in_order) ∙ count_by-is_place script.steps in
    let left : holding refused script.steps ≡ count_by is_place script.steps - count_by (λ (value : Bool). value) refused - count_by
    (empties refused) script.steps =
    omega (arith, news, one_each, answered) in
    cc

-- as many slots were answered as the script has
one_answer_each : (i : ℕ) (script : Script) (refused : List Bool) (blocks : List ℕ) (entries : List Entry) (Held : ℕ → Type 0)
    (slots : List (Option ℕ)) (tally : Tally)
    → IsWellFormed script
    → (p : PlaysSteps i script refused blocks script.steps entries Held slots tally) → length refused ≡ script.news
one_answer_each i script refused blocks entries Held slots tally formed p =
    sym (length-range_with_len 0 (length refused)) ∙ ap length (sym p.names.in_order ∙ formed.in_order)
    ∙ length-range_with_len 0 script.news

-- after all steps the tally is that of the refusals
tally_at_end : (i : ℕ) (script : Script) (refused : List Bool) (blocks : List ℕ) (entries : List Entry) (Held : ℕ → Type 0)
    (slots : List (Option ℕ)) (tally : Tally)
    → IsWellFormed script
    → (p : PlaysSteps i script refused blocks script.steps entries Held slots tally) → tally ≡ tally_of script refused
tally_at_end i script refused blocks entries Held slots tally formed p =
    p.counts.tallied ∙ tally_whole script refused formed (one_answer_each i script refused blocks entries Held slots tally formed p)
    p.counts.answered

-- calls for all steps of a script fit it, with refusals that they determine
pub plays_whole : (i : ℕ) (script : Script) (refused : List Bool) (blocks : List ℕ) (entries : List Entry) (Held : ℕ → Type 0)
    (slots : List (Option ℕ)) (tally : Tally)
    → IsWellFormed script
    → PlaysSteps i script refused blocks script.steps entries Held slots tally → IsTallied i script entries tally
plays_whole i script refused blocks entries Held slots tally formed p =
    let fits : Fits i script refused entries
    =
    record {
      one_each = one_answer_each i script refused blocks entries Held slots tally formed p;
      blocks = blocks;
      step_by_step = p.made;
    } in
    record {
      refused = refused;
      fits = fits;
      only = λ other also. only_refusals i script refused other entries formed fits also;
      tallied = tally_at_end i script refused blocks entries Held slots tally formed p;
    }

-- a well formed script whose steps were all played was played whole
pub played_whole : (i : ℕ) (script : Script) (old new : Plain) (slots : List (Option ℕ)) (tally : Tally) → IsWellFormed script
    → IsPlayed i script script.steps old new slots tally
    → IsPlayedWhole i script old new tally
played_whole i script old new slots tally formed p =
    let plays = p.plays in
    let Held = HeldIn p.entries new in
    let one_each = one_answer_each i script p.refused p.blocks p.entries Held slots tally formed plays in
    let tallied = tally_at_end i script p.refused p.blocks p.entries Held slots tally formed plays in
    record {
      entries = p.entries;
      leads = p.leads;
      tallied = plays_whole i script p.refused p.blocks p.entries Held slots tally formed plays;
      few = λ past left. omega (arith, p.spared.few past left, holding-le-peak p.refused script.steps, ap (λ (t : Tally). t.peak) tallied);
      enough = λ past left room.
          let unrefused = peak_unrefused script.news (length p.refused) script.steps plays.names.below in
          let none = p.spared.enough past left (omega (arith, room, unrefused)) in
          tallied ∙ ap (tally_of script) (none ∙ ap (λ n. replicate n false) one_each);
    }
