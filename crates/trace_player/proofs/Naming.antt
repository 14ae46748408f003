-- Which slots some steps name, one step on, and what calls the steps make.
use Rattle.std.proofs.Common.{◌≡◌, ℕ, ◌+◌, ◌<◌, ◌≤◌, Bool, List, [], ◌∷◌, ◌++◌, length}
use Rattle.std.proofs.Common.{refl, sym, ap, ◌∙◌, arith, length-append, append-nil}
use Rattle.std.specs.List.{Contains, flat_map, range_with_len}
use Rattle.std.proofs.lemmas.List.Elements.{All-nil, All-push, All-weaker}
use Rattle.std.proofs.lemmas.List.Concat.{flat_map-append}
use Rattle.std.proofs.lemmas.List.FromFn.{length-range_with_len}
use Rattle.pool_model.specs.declared.entry.Entry.{Entry}
use Rattle.mtrace_reader.specs.declared.steps.Step.{Step}
use Rattle.mtrace_reader.specs.declared.steps.Step.TheVariants.{Place, Leave}
use Rattle.mtrace_reader.specs.Script.{placed_slots}
use Rattle.mtrace_reader.proofs.WellFormed.{placed_slots-append, range_with_len_more, placed_below}
use Rattle.trace_player.proofs.Agreeing.{Keeps, calls_kept}
use Rattle.trace_player.specs.Fit.{calls_of}
use Rattle.trace_player.specs.Playing.{slot_of, NamesSlots}

-- before the first step no slot is named
pub names_none : NamesSlots [] [] []
names_none = record { in_order = refl; below = All-nil (λ step. slot_of step < 0); block_each = refl }

-- the next slot's number is how many were placed
pub next_slot : (refused : List Bool) (blocks : List ℕ) (done : List Step) (slot : ℕ) → NamesSlots refused blocks done
    → slot ≡ length (placed_slots done)
    → slot ≡ length refused
next_slot refused blocks done slot names next = next ∙ ap length names.in_order ∙ length-range_with_len 0 (length refused)

-- a Place names the next slot and gives it a block and an answer
pub names_place : (refused : List Bool) (blocks : List ℕ) (done : List Step) (dry : Bool) (slot block : ℕ) → slot ≡ length refused
    → NamesSlots refused blocks done → NamesSlots (refused ++ dry ∷ []) (blocks ++ block ∷ []) (done ++ Place slot ∷ [])
names_place refused blocks done dry slot block next names =
    let m = length (refused ++ dry ∷ []) in
    let longer : m ≡ length refused + 1 = omega (arith, length-append refused (dry ∷ [])) in
    record {
      in_order =
          placed_slots-append done (Place slot ∷ [])
          ∙ ap (λ slots. slots ++ slot ∷ []) names.in_order
          ∙ ap (λ n. range_with_len 0 (length refused) ++ n ∷ []) next
          ∙ sym (range_with_len_more (length refused))
          ∙ ap (range_with_len 0) (sym longer);
      below = All-push (λ step. slot_of step < m) done (Place slot)
          (All-weaker (λ step. slot_of step < length refused) (λ step. slot_of step < m) (λ step low. omega arith) done names.below)
          (omega arith);
      block_each = omega (arith, longer, length-append blocks (block ∷ []), names.block_each);
    }

-- a Leave of a placed slot keeps the named slots in order
pub names_leave : (refused : List Bool) (blocks : List ℕ) (done : List Step) (slot : ℕ) → Contains done (Place slot)
    → NamesSlots refused blocks done → NamesSlots refused blocks (done ++ Leave slot ∷ [])
names_leave refused blocks done slot placed names = record {
  in_order = placed_slots-append done (Leave slot ∷ []) ∙ append-nil (placed_slots done) ∙ names.in_order;
  below =
      All-push (λ step. slot_of step < length refused) done (Leave slot) names.below
      (placed_below done (length refused) slot names.in_order placed);
  block_each = names.block_each;
}

-- one more step makes its calls after those of the steps before it
pub made_more : (i : ℕ) (refused later : List Bool) (blocks after : List ℕ) (done : List Step) (step : Step) (entries calls : List Entry)
    → Keeps refused later blocks after (length refused) → NamesSlots refused blocks done → calls_of i later after step ≡ calls
    → entries ≡ flat_map (calls_of i refused blocks) done → entries ++ calls ≡ flat_map (calls_of i later after) (done ++ step ∷ [])
made_more i refused later blocks after done step entries calls keeps names call made =
    ap (λ es. es ++ calls) made
    ∙ ap (λ es. flat_map (calls_of i refused blocks) done ++ es) (sym call ∙ sym (append-nil (calls_of i later after step)))
    ∙ ap (λ es. es ++ flat_map (calls_of i later after) (step ∷ []))
    (sym (calls_kept i refused later blocks after (length refused) done keeps names.below))
    ∙ sym (flat_map-append (calls_of i later after) done (step ∷ []))

-- a slot that a step names is one of the slots that there are
pub place_within : (done : List Step) (slot n : ℕ) → slot ≡ length (placed_slots done) → length (placed_slots (done ++ Place slot ∷ [])) ≤ n
    → slot < n
place_within done slot n next room =
    omega (arith, ap length (placed_slots-append done (Place slot ∷ [])), length-append (placed_slots done) (slot ∷ []))

-- and so is the one that a Leave names, as it was placed
pub leave_within : (refused : List Bool) (blocks : List ℕ) (done : List Step) (slot n : ℕ) → NamesSlots refused blocks done
    → Contains done (Place slot)
    → length (placed_slots (done ++ Leave slot ∷ [])) ≤ n → slot < n
leave_within refused blocks done slot n names placed room =
    omega (
      arith,
      placed_below done (length refused) slot names.in_order placed,
      ap length names.in_order,
      length-range_with_len 0 (length refused),
      ap length (placed_slots-append done (Leave slot ∷ [])),
      length-append (placed_slots done) [],
    )

-- no more slots were placed than steps were made
pub length-placed_slots-le : (steps : List Step) → length (placed_slots steps) ≤ length steps
length-placed_slots-le [] = omega arith
length-placed_slots-le (Place slot ∷ steps) = omega (arith, length-placed_slots-le steps)
length-placed_slots-le (Leave slot ∷ steps) = omega (arith, length-placed_slots-le steps)

-- nor were more Places answered
pub length-refused-le : (refused : List Bool) (blocks : List ℕ) (done : List Step) → NamesSlots refused blocks done
    → length refused ≤ length done
length-refused-le refused blocks done names =
    omega (arith, ap length names.in_order, length-range_with_len 0 (length refused), length-placed_slots-le done)
