-- How far the process of a pass has played a script, one step on.
use Rattle.std.proofs.Common.{◌≡◌, ℕ, ◌+◌, ◌-◌, ◌<◌, ◌≤◌, ◌==◌, Bool, true, false, not, filter, if◌then◌else◌, Option, Some, None, is_some}
use Rattle.std.proofs.Common.{List, [], ◌∷◌, ◌++◌, length, set, replicate, max, refl, sym, ap, subst, arith, length-append}
use Rattle.std.specs.List.{Contains, flat_map, slice_index}
use Rattle.pool_model.specs.declared.entry.Entry.{Entry}
use Rattle.pool_model.specs.declared.entry.Entry.TheVariants.{Got, Back, Dry}
use Rattle.pool_model.proofs.Members.{contains_head, contains_tail, without_contains}
use Rattle.mtrace_reader.specs.declared.steps.Step.{Step}
use Rattle.mtrace_reader.specs.declared.steps.Step.TheVariants.{Place, Leave}
use Rattle.mtrace_reader.specs.declared.steps.Script.{Script}
use Rattle.mtrace_reader.specs.Script.{placed_slots, IsWellFormed}
use Rattle.trace_player.specs.declared.tally.Tally.{Tally}
use Rattle.trace_player.specs.Fit.{calls_of}
use Rattle.trace_player.specs.Tally.{is_refused}
use Rattle.trace_player.specs.Playing.{block_in, tally_after, PlaysSteps}
use Rattle.trace_player.proofs.Filling.{count_by-set, next_is_empty}
use Rattle.trace_player.proofs.Lists.{one_if}
use Rattle.trace_player.proofs.Naming.{next_slot}
use Rattle.trace_player.proofs.Plays.{plays_none, plays_got, plays_dry, plays_back, plays_passed}
use Rattle.trace_player.proofs.Whole.{plays_whole}
use Rattle.word_layout.specs.Sizes.{Sizes}
use Rattle.block_pool.specs.Passing.{Passed}
use Rattle.pass_players.specs.Moments.{MadeCall, Moment, entries_of}
use Rattle.pass_players.specs.Playing.{HasMade}
use Rattle.pass_players.proofs.Moments.{entries_more, has_made_more, has_made_none}
use Rattle.pool_player.specs.Calling.{AreShort, IsShort, ToldCall, call_of}
use Rattle.pool_player.specs.Playing.{IsPlayedBy, PlaysSoFar}
use Rattle.pool_player.proofs.Calling.{short_more}
use Rattle.pool_player.proofs.Slots.{leaves_none, leaves_got, leaves_back, leaves_passed}

-- ---- how many calls there were

-- a step makes at most one call
calls_of-le : (i : ℕ) (refused : List Bool) (blocks : List ℕ) (step : Step) → length (calls_of i refused blocks step) ≤ 1
calls_of-le i refused blocks (Place slot) = omega arith
calls_of-le i refused blocks (Leave slot) = go (is_refused refused slot)
  where
    go : (dry : Bool) → length (if dry then [] else Back i (slice_index blocks slot) ∷ []) ≤ 1
    go true = omega arith
    go false = omega arith

-- steps make at most one call each
calls-le : (i : ℕ) (refused : List Bool) (blocks : List ℕ) (steps : List Step)
    → length (flat_map (calls_of i refused blocks) steps) ≤ length steps
calls-le i refused blocks [] = omega arith
calls-le i refused blocks (step ∷ steps) =
    omega (
      arith,
      length-append (calls_of i refused blocks step) (flat_map (calls_of i refused blocks) steps),
      calls_of-le i refused blocks step,
      calls-le i refused blocks steps,
    )

-- the pass began a transfer a call, at most
pub age-le : {script : Script} {done : List Step} {first now : List Moment} {start pass : Passed} {slots : List (Option ℕ)} {tally : Tally}
    → PlaysSoFar script done first now start pass slots tally → pass.age ≤ start.age + length done
age-le {done = done} {start = start} p =
    omega (arith, p.made.grown.age, ap length p.plays.made, calls-le start.number p.refused p.blocks done)

-- where a slot has a block, the tally counts one as left
pub left-some : {i : ℕ} {script : Script} {refused : List Bool} {blocks : List ℕ} {done : List Step} {entries : List Entry}
    {Held : ℕ → Type 0} {slots : List (Option ℕ)} {tally : Tally} (p : PlaysSteps i script refused blocks done entries Held slots tally)
    (slot block : ℕ) → slot < length slots → block_in slots slot ≡ Some block → 1 ≤ tally.left
left-some {slots = slots} p slot block within has =
    omega (
      arith,
      p.counts.counted,
      ap (λ (t : Tally). t.left) p.counts.tallied,
      count_by-set slots slot None within,
      ap (λ (o : Option ℕ). one_if (is_some o)) has,
    )

-- ---- one step on

-- no step was played
pub so_far_none : (script : Script) (told : List Moment) (pass : Passed) (n : ℕ)
    → PlaysSoFar script [] told told pass pass (replicate n None) (tally_after script [] [])
so_far_none script told pass n = record {
  refused = [];
  blocks = [];
  calls = [];
  plays = plays_none pass.number script (Contains pass.held) n;
  made = has_made_none told pass;
  short = refl;
  left = leaves_none pass.held n;
}

-- the calls before and one more, which the gate was told of
module _ (entry : Entry) (calls : List MadeCall) (first earlier now : List Moment) (start old new : Passed)
    (made : HasMade calls first earlier start old) (told : ToldCall entry earlier now old new) where
  made_more : HasMade (calls ++ call_of entry old new ∷ []) first now start new
  made_more = has_made_more calls (call_of entry old new) first earlier now start old new made refl told.made told.told

  are_short_more : AreShort start.sizes.quantum start.moves calls old.moves
      → AreShort start.sizes.quantum start.moves (calls ++ call_of entry old new ∷ []) new.moves
  are_short_more are =
      let same : old.sizes.quantum ≡ start.sizes.quantum = ap (λ (sizes : Sizes). sizes.quantum) made.grown.same.sizes in
      short_more start.sizes.quantum start.moves old.moves calls (call_of entry old new) are
      (subst (λ (q : ℕ). IsShort q old.moves (call_of entry old new)) same told.short)

module _ (script : Script) (done : List Step) (first earlier now : List Moment) (start pass new : Passed) (slots : List (Option ℕ))
    (tally later : Tally) (p : PlaysSoFar script done first earlier start pass slots tally) where
  -- a Place that was given a block
  pub so_far_got : (slot block : ℕ) → slot ≡ length (placed_slots done) → slot < length slots
      → ToldCall (Got pass.number block) earlier now pass new → (Contains pass.held block → ⊥)
      → later ≡ record tally { left = tally.left + 1; peak = max tally.peak (tally.left + 1) }
      → PlaysSoFar script (done ++ Place slot ∷ []) first now start new (set slots slot (Some block)) later
  so_far_got slot block at within call free is =
      let entry : Entry = Got start.number block in
      let call : ToldCall entry earlier now pass new
      = subst (λ (i : ℕ). ToldCall (Got i block) earlier now pass new) p.made.grown.same.number call in
      let held : new.held ≡ block ∷ pass.held = call.made.entered.held in
      let empty = next_is_empty p.refused p.blocks done (Contains pass.held) slots slot p.plays.holds
      (next_slot p.refused p.blocks done slot p.plays.names at) in
      let Has : ℕ → List ℕ → Type 0 = λ b bs. Contains bs b in
      record {
        refused = p.refused ++ false ∷ [];
        blocks = p.blocks ++ block ∷ [];
        calls = p.calls ++ call_of entry pass new ∷ [];
        plays = rw (entries_more p.calls (call_of entry pass new))
            (plays_got start.number script p.refused p.blocks done (entries_of p.calls) (Contains pass.held) (Contains new.held) slots
            tally later slot block at within free
            (subst (Has block) (sym held) (contains_head block pass.held))
            (λ other was. subst (Has other) (sym held) (contains_tail other block pass.held was)) is p.plays);
        made = made_more entry p.calls first earlier now start pass new p.made call;
        short = are_short_more entry p.calls first earlier now start pass new p.made call p.short;
        left = rw held (leaves_got start.held pass.held slots slot block within empty free p.left);
      }

  -- a Place that was refused
  pub so_far_dry : (slot : ℕ) → slot ≡ length (placed_slots done) → ToldCall (Dry pass.number) earlier now pass new
      → later ≡ record tally { refused = tally.refused + 1 }
      → PlaysSoFar script (done ++ Place slot ∷ []) first now start new slots later
  so_far_dry slot at call is =
      let entry : Entry = Dry start.number in
      let call : ToldCall entry earlier now pass new
      = subst (λ (i : ℕ). ToldCall (Dry i) earlier now pass new) p.made.grown.same.number call in
      let held : new.held ≡ pass.held = call.made.entered.held in
      record {
        refused = p.refused ++ true ∷ [];
        blocks = p.blocks ++ 0 ∷ [];
        calls = p.calls ++ call_of entry pass new ∷ [];
        plays = rw (entries_more p.calls (call_of entry pass new))
            (plays_dry start.number script p.refused p.blocks done (entries_of p.calls) (Contains pass.held) (Contains new.held) slots
            tally later slot at (λ other was. subst (λ (bs : List ℕ). Contains bs other) (sym held) was) is p.plays);
        made = made_more entry p.calls first earlier now start pass new p.made call;
        short = are_short_more entry p.calls first earlier now start pass new p.made call p.short;
        left = rw held p.left;
      }

  -- a Leave of a slot that has a block
  pub so_far_back : (slot block : ℕ) → Contains done (Place slot) → slot < length slots → block_in slots slot ≡ Some block
      → ToldCall (Back pass.number block) earlier now pass new → later ≡ record tally { frees = tally.frees + 1; left = tally.left - 1 }
      → PlaysSoFar script (done ++ Leave slot ∷ []) first now start new (set slots slot None) later
  so_far_back slot block placed within has call is =
      let entry : Entry = Back start.number block in
      let call : ToldCall entry earlier now pass new
      = subst (λ (i : ℕ). ToldCall (Back i block) earlier now pass new) p.made.grown.same.number call in
      let held : new.held ≡ filter (λ other. not (other == block)) pass.held = call.made.entered.held in
      record {
        refused = p.refused;
        blocks = p.blocks;
        calls = p.calls ++ call_of entry pass new ∷ [];
        plays = rw (entries_more p.calls (call_of entry pass new))
            (plays_back start.number script p.refused p.blocks done (entries_of p.calls) (Contains pass.held) (Contains new.held) slots
            tally later slot block placed within has
            (λ other differs was. subst (λ (bs : List ℕ). Contains bs other) (sym held)
            (without_contains block other pass.held was differs)) is p.plays);
        made = made_more entry p.calls first earlier now start pass new p.made call;
        short = are_short_more entry p.calls first earlier now start pass new p.made call p.short;
        left = rw held (leaves_back start.held pass.held slots slot block within has p.plays.holds.apart p.left);
      }

-- a Leave of a slot that has none, since it was refused
pub so_far_passed : (script : Script) (done : List Step) (first now : List Moment) (start pass : Passed) (slots : List (Option ℕ))
    (tally : Tally) (slot : ℕ) → Contains done (Place slot) → ¬ Contains done (Leave slot) → slot < length slots
    → block_in slots slot ≡ None → PlaysSoFar script done first now start pass slots tally
    → PlaysSoFar script (done ++ Leave slot ∷ []) first now start pass (set slots slot None) tally
so_far_passed script done first now start pass slots tally slot placed stays within free p = record {
  refused = p.refused;
  blocks = p.blocks;
  calls = p.calls;
  plays = plays_passed start.number script p.refused p.blocks done (entries_of p.calls) (Contains pass.held) slots tally slot placed stays
      within free p.plays;
  made = p.made;
  short = p.short;
  left = leaves_passed start.held pass.held slots slot within free p.left;
}

-- ---- all steps

-- a pass that played the steps of a whole script played the script
pub played_all : (script : Script) (first now : List Moment) (start pass : Passed) (slots : List (Option ℕ)) (tally : Tally)
    → IsWellFormed script → PlaysSoFar script script.steps first now start pass slots tally
    → IsPlayedBy script first now start pass slots tally
played_all script first now start pass slots tally formed p = record {
  calls = p.calls;
  made = p.made;
  short = p.short;
  tallied = plays_whole start.number script p.refused p.blocks (entries_of p.calls) (Contains pass.held) slots tally formed p.plays;
  left = p.left;
  apart = p.plays.holds.apart;
}
