-- How many blocks some steps hold, and whether any of them was refused one, a step on.
use Rattle.std.proofs.Common.{◌≡◌, ℕ, ◌-◌, ◌<◌, ◌≤◌, zero, suc, Bool, true, false, not, replicate, List, [], ◌∷◌}
use Rattle.std.proofs.Common.{◌++◌, length, refl, sym, ap, ◌∙◌, arith, append_assoc, append-nil, length-append}
use Rattle.std.specs.List.{count_by}
use Rattle.std.proofs.lemmas.List.{replicate-append-replicate}
use Rattle.std.proofs.Math.Nat.{le-max_left}
use Rattle.pool_model.specs.declared.entry.Entry.{Entry}
use Rattle.pool_model.specs.declared.entry.Entry.TheVariants.{Got, Back, Dry}
use Rattle.pool_model.specs.History.{held}
use Rattle.pool_model.specs.Plain.{Plain, IsHeld, IsFull}
use Rattle.pool_model.proofs.Histories.{held_more, held_got, held_back}
use Rattle.pool_model.proofs.PlainSteps.{full_held}
use Rattle.mtrace_reader.specs.declared.steps.Step.{Step}
use Rattle.mtrace_reader.specs.declared.steps.Step.TheVariants.{Place, Leave}
use Rattle.trace_player.proofs.Lists.{count_by_more, one_if}
use Rattle.trace_player.proofs.Agreeing.{Below, Keeps, keeps_all, keeps_more, fills_kept, empties_kept}
use Rattle.trace_player.proofs.Peaks.{peak_more, peak_kept, holding-le-peak}
use Rattle.trace_player.proofs.Counting.{fills_more, empties_more}
use Rattle.trace_player.specs.Tally.{is_refused, fills, empties, peak_of}
use Rattle.trace_player.specs.Playing.{Leads, NamesSlots, IsSpared}

-- refusals that are all false are as none at all
none_refused : (n slot : ℕ) → is_refused (replicate n false) slot ≡ is_refused [] slot
none_refused zero slot = refl
none_refused (suc n) zero = refl
none_refused (suc n) (suc slot) = none_refused n slot

keeps_none : (n m : ℕ) → Keeps [] (replicate n false) [] [] m
keeps_none n m = record { refusals = λ slot below. none_refused n slot; given = λ slot below. refl }

-- the peak of steps without refusals doesn't depend on how many slots there are
pub peak_unrefused : (n m : ℕ) (steps : List Step) → Below m steps → peak_of (replicate n false) steps ≡ peak_of [] steps
peak_unrefused n m steps below = peak_kept [] (replicate n false) [] [] m steps (keeps_none n m) below

-- the peak falls at no step
peak_grows : (refused : List Bool) (done : List Step) (step : Step) → peak_of refused done ≤ peak_of refused (done ++ step ∷ [])
peak_grows refused done step = rw (peak_more refused done step) (le-max_left (peak_of refused done) _)

-- how many blocks are held after one more entry, and after none
held_on : (past entries : List Entry) (entry : Entry)
    → length (held (past ++ (entries ++ entry ∷ []))) ≡ length (held ((past ++ entries) ++ entry ∷ []))
held_on past entries entry = ap (λ es. length (held es)) (sym (append_assoc past entries (entry ∷ [])))

unrefused_more : (refused : List Bool) → refused ≡ replicate (length refused) false
    → refused ++ false ∷ [] ≡ replicate (length (refused ++ false ∷ [])) false
unrefused_more refused none =
    ap (λ r. r ++ false ∷ []) none ∙ replicate-append-replicate (length refused) 1 false
    ∙ ap (λ n. replicate n false) (sym (length-append refused (false ∷ [])))

-- before the first step no block more is held, and nothing was refused
pub spared_none : (old : Plain) → IsSpared [] [] [] old
spared_none old = record {
  few = λ past left. rw (append-nil past) (omega arith);
  enough = λ past left room. refl;
}

-- a Place that got a block holds one block more, as the steps do, and refuses nothing
pub spared_got : (i : ℕ) (refused : List Bool) (blocks : List ℕ) (done : List Step) (entries : List Entry) (old : Plain) (slot block : ℕ)
    → NamesSlots refused blocks done → is_refused (refused ++ false ∷ []) slot ≡ false
    → count_by (empties refused) done ≤ count_by (fills refused) done
    → IsSpared refused done entries old → IsSpared (refused ++ false ∷ []) (done ++ Place slot ∷ []) (entries ++ Got i block ∷ []) old
spared_got i refused blocks done entries old slot block names given balance spared =
    let after = refused ++ false ∷ [] in
    let keeps = keeps_more refused blocks false block names.block_each in
    let gain : one_if (fills after (Place slot)) ≡ 1 = ap (λ t. one_if (not t)) given in
    let more = fills_more refused after blocks (blocks ++ block ∷ []) done (Place slot) keeps names.below in
    let less = empties_more refused after blocks (blocks ++ block ∷ []) done (Place slot) keeps names.below in
    record {
      few =
          λ past left. omega (
            arith,
            gain,
            more,
            less,
            balance,
            held_on past entries (Got i block),
            held_got (past ++ entries) i block,
            spared.few past left,
          );
      enough = λ past left room. unrefused_more refused (spared.enough past left (omega (arith, room, peak_grows [] done (Place slot))));
    }

-- where nothing was refused so far, a Place that all blocks are held at has one block too many
refused_in_want : (refused : List Bool) (blocks : List ℕ) (done : List Step) (slot : ℕ) → NamesSlots refused blocks done
    → count_by (empties refused) done ≤ count_by (fills refused) done → refused ≡ replicate (length refused) false
    → count_by (fills refused) done - count_by (empties refused) done < peak_of [] (done ++ Place slot ∷ [])
refused_in_want refused blocks done slot names balance none =
    let m = length refused in
    let keeps = keeps_none m m in
    let fill : count_by (fills refused) done ≡ count_by (fills []) done
    = ap (λ r. count_by (fills r) done) none ∙ fills_kept [] (replicate m false) [] [] m done keeps names.below in
    let empty : count_by (empties refused) done ≡ count_by (empties []) done
    = ap (λ r. count_by (empties r) done) none ∙ empties_kept [] (replicate m false) [] [] m done keeps names.below in
    omega (
      arith,
      balance,
      fill,
      empty,
      count_by_more (fills []) done (Place slot),
      count_by_more (empties []) done (Place slot),
      holding-le-peak [] (done ++ Place slot ∷ []),
    )

-- a refused Place holds no block more, and comes only where the blocks don't suffice for the peak
pub spared_dry : (i : ℕ) (refused : List Bool) (blocks : List ℕ) (done : List Step) (entries : List Entry) (old pool : Plain) (slot : ℕ)
    → NamesSlots refused blocks done → is_refused (refused ++ true ∷ []) slot ≡ true
    → count_by (empties refused) done ≤ count_by (fills refused) done
    → IsFull pool → Leads i entries old pool → IsSpared refused done entries old
    → IsSpared (refused ++ true ∷ []) (done ++ Place slot ∷ []) (entries ++ Dry i ∷ []) old
spared_dry i refused blocks done entries old pool slot names given balance full leads spared =
    let after = refused ++ true ∷ [] in
    let keeps = keeps_more refused blocks true 0 names.block_each in
    let gain : one_if (fills after (Place slot)) ≡ 0 = ap (λ t. one_if (not t)) given in
    let more = fills_more refused after blocks (blocks ++ 0 ∷ []) done (Place slot) keeps names.below in
    let less = empties_more refused after blocks (blocks ++ 0 ∷ []) done (Place slot) keeps names.below in
    record {
      few =
          λ past left. omega (
            arith,
            gain,
            more,
            less,
            held_on past entries (Dry i),
            ap length (held_more (past ++ entries) (Dry i)),
            spared.few past left,
          );
      enough = λ past left room.
          let none = spared.enough past left (omega (arith, room, peak_grows [] done (Place slot))) in
          absurd (omega (
            arith,
            room,
            leads.blocks,
            full_held (past ++ entries) pool (leads.leaves past left) full,
            spared.few past left,
            refused_in_want refused blocks done slot names balance none,
          ));
    }

-- a Leave of a held block holds one block less, as the steps do
pub spared_back : (i : ℕ) (refused : List Bool) (blocks : List ℕ) (done : List Step) (entries : List Entry) (old pool : Plain)
    (slot block : ℕ)
    → NamesSlots refused blocks done → is_refused refused slot ≡ false → IsHeld pool block → Leads i entries old pool
    → IsSpared refused done entries old → IsSpared refused (done ++ Leave slot ∷ []) (entries ++ Back i block ∷ []) old
spared_back i refused blocks done entries old pool slot block names given holds leads spared =
    let keeps = keeps_all refused blocks (length refused) in
    let lose : one_if (empties refused (Leave slot)) ≡ 1 = ap (λ t. one_if (not t)) given in
    let more = fills_more refused refused blocks blocks done (Leave slot) keeps names.below in
    let less = empties_more refused refused blocks blocks done (Leave slot) keeps names.below in
    record {
      few = λ past left.
          let fewer = held_back (past ++ entries) i block ((leads.leaves past left block).1 holds) in
          omega (arith, lose, more, less, held_on past entries (Back i block), fewer, spared.few past left);
      enough = λ past left room. spared.enough past left (omega (arith, room, peak_grows [] done (Leave slot)));
    }

-- a Leave of a refused slot holds as many as before
pub spared_passed : (refused : List Bool) (blocks : List ℕ) (done : List Step) (entries : List Entry) (old : Plain) (slot : ℕ)
    → NamesSlots refused blocks done → is_refused refused slot ≡ true → IsSpared refused done entries old
    → IsSpared refused (done ++ Leave slot ∷ []) entries old
spared_passed refused blocks done entries old slot names given spared =
    let keeps = keeps_all refused blocks (length refused) in
    let lose : one_if (empties refused (Leave slot)) ≡ 0 = ap (λ t. one_if (not t)) given in
    let more = fills_more refused refused blocks blocks done (Leave slot) keeps names.below in
    let less = empties_more refused refused blocks blocks done (Leave slot) keeps names.below in
    record {
      few = λ past left. omega (arith, lose, more, less, spared.few past left);
      enough = λ past left room. spared.enough past left (omega (arith, room, peak_grows [] done (Leave slot)));
    }
