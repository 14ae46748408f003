-- How far a script was played over whichever pool, one step on.
use Rattle.std.proofs.Common.{◌≡◌, ℕ, ◌+◌, ◌-◌, ◌<◌, Bool, true, false, Option, Some, None, List, [], ◌∷◌, ◌++◌}
use Rattle.std.proofs.Common.{length, set, replicate, max, refl, sym, ap, ◌∙◌, ⊎_elim, arith, append-nil}
use Rattle.std.specs.List.{Contains, slice_index}
use Rattle.std.proofs.lemmas.List.{get_or_push}
use Rattle.std.proofs.lemmas.List.Sums.{count_by-le-length}
use Rattle.pool_model.specs.declared.entry.Entry.{Entry}
use Rattle.pool_model.specs.declared.entry.Entry.TheVariants.{Got, Back, Dry}
use Rattle.mtrace_reader.specs.declared.steps.Step.{Step}
use Rattle.mtrace_reader.specs.declared.steps.Step.TheVariants.{Place, Leave}
use Rattle.mtrace_reader.specs.declared.steps.Script.{Script}
use Rattle.mtrace_reader.specs.Script.{placed_slots}
use Rattle.mtrace_reader.proofs.WellFormed.{placed_below}
use Rattle.trace_player.specs.declared.tally.Tally.{Tally}
use Rattle.trace_player.proofs.Agreeing.{keeps_all, keeps_more}
use Rattle.trace_player.proofs.Naming.{names_none, names_place, names_leave, next_slot, made_more, length-refused-le}
use Rattle.trace_player.proofs.Filling.{holds_none, holds_got, holds_dry, holds_back, holds_passed, next_is_empty}
use Rattle.trace_player.proofs.Counting.{counts_none, counts_got, counts_dry, counts_freed, counts_passed}
use Rattle.trace_player.specs.Tally.{is_refused}
use Rattle.trace_player.specs.Fit.{calls_of}
use Rattle.trace_player.specs.Playing.{block_in, tally_after, PlaysSteps}

-- before the first step a script is played with empty slots and a tally of no step
pub plays_none : (i : ℕ) (script : Script) (Held : ℕ → Type 0) (n : ℕ)
    → PlaysSteps i script [] [] [] [] Held (replicate n None) (tally_after script [] [])
plays_none i script Held n = record {
  names = names_none;
  made = refl;
  holds = holds_none Held n;
  counts = counts_none script n;
}

-- a slot that is placed was given a block, or refused
pub given_at : {i : ℕ} {script : Script} {refused : List Bool} {blocks : List ℕ} {done : List Step} {entries : List Entry}
    {Held : ℕ → Type 0} {slots : List (Option ℕ)} {tally : Tally}
    (p : PlaysSteps i script refused blocks done entries Held slots tally) (slot : ℕ) (dry : Bool) → slot ≡ length (placed_slots done)
    → is_refused (refused ++ dry ∷ []) slot ≡ dry
given_at {refused = refused} {blocks = blocks} {done = done} p slot dry at =
    get_or_push refused dry false slot (sym (next_slot refused blocks done slot p.names at))

-- a Place that was given a block that wasn't held
pub plays_got : (i : ℕ) (script : Script) (refused : List Bool) (blocks : List ℕ) (done : List Step) (entries : List Entry)
    (Held New : ℕ → Type 0) (slots : List (Option ℕ)) (tally later : Tally) (slot block : ℕ)
    → slot ≡ length (placed_slots done) → slot < length slots → ¬ Held block → New block → ((other : ℕ) → Held other → New other)
    → later ≡ record tally { left = tally.left + 1; peak = max tally.peak (tally.left + 1) }
    → PlaysSteps i script refused blocks done entries Held slots tally
    → PlaysSteps i script (refused ++ false ∷ []) (blocks ++ block ∷ []) (done ++ Place slot ∷ []) (entries ++ Got i block ∷ []) New
    (set slots slot (Some block)) later
plays_got i script refused blocks done entries Held New slots tally later slot block at within free now still is p =
    let next = next_slot refused blocks done slot p.names at in
    let given : is_refused (refused ++ false ∷ []) slot ≡ false = get_or_push refused false false slot (sym next) in
    let block_at : slice_index (blocks ++ block ∷ []) slot ≡ block = get_or_push blocks block 0 slot (p.names.block_each ∙ sym next) in
    let call : calls_of i (refused ++ false ∷ []) (blocks ++ block ∷ []) (Place slot) ≡ Got i block ∷ [] = rw (given, block_at) refl in
    record {
      names = names_place refused blocks done false slot block next p.names;
      made = made_more i refused (refused ++ false ∷ []) blocks (blocks ++ block ∷ []) done (Place slot) entries (Got i block ∷ [])
          (keeps_more refused blocks false block p.names.block_each) p.names call p.made;
      holds = holds_got refused blocks done Held New slots slot block p.names next within free now still p.holds;
      counts = counts_got script refused blocks done slots tally later slot block p.names given within
          (next_is_empty refused blocks done Held slots slot p.holds next) is p.counts;
    }

-- a Place that was refused
pub plays_dry : (i : ℕ) (script : Script) (refused : List Bool) (blocks : List ℕ) (done : List Step) (entries : List Entry)
    (Held New : ℕ → Type 0) (slots : List (Option ℕ)) (tally later : Tally) (slot : ℕ)
    → slot ≡ length (placed_slots done) → ((other : ℕ) → Held other → New other) → later ≡ record tally { refused = tally.refused + 1 }
    → PlaysSteps i script refused blocks done entries Held slots tally
    → PlaysSteps i script (refused ++ true ∷ []) (blocks ++ 0 ∷ []) (done ++ Place slot ∷ []) (entries ++ Dry i ∷ []) New slots later
plays_dry i script refused blocks done entries Held New slots tally later slot at still is p =
    let next = next_slot refused blocks done slot p.names at in
    let given : is_refused (refused ++ true ∷ []) slot ≡ true = get_or_push refused true false slot (sym next) in
    let call : calls_of i (refused ++ true ∷ []) (blocks ++ 0 ∷ []) (Place slot) ≡ Dry i ∷ [] = rw given refl in
    record {
      names = names_place refused blocks done true slot 0 next p.names;
      made = made_more i refused (refused ++ true ∷ []) blocks (blocks ++ 0 ∷ []) done (Place slot) entries (Dry i ∷ [])
          (keeps_more refused blocks true 0 p.names.block_each) p.names call p.made;
      holds = holds_dry refused blocks done Held New slots slot p.names next still p.holds;
      counts = counts_dry script refused blocks done slots tally later slot p.names given is p.counts;
    }

-- a Leave of a slot that has a block
pub plays_back : (i : ℕ) (script : Script) (refused : List Bool) (blocks : List ℕ) (done : List Step) (entries : List Entry)
    (Held New : ℕ → Type 0) (slots : List (Option ℕ)) (tally later : Tally) (slot block : ℕ)
    → Contains done (Place slot) → slot < length slots → block_in slots slot ≡ Some block
    → ((other : ℕ) → ¬ (other ≡ block) → Held other → New other)
    → later ≡ record tally { frees = tally.frees + 1; left = tally.left - 1 }
    → PlaysSteps i script refused blocks done entries Held slots tally
    → PlaysSteps i script refused blocks (done ++ Leave slot ∷ []) (entries ++ Back i block ∷ []) New (set slots slot None) later
plays_back i script refused blocks done entries Held New slots tally later slot block placed within has still is p =
    let fill = p.holds.filled slot block has in
    let given = fill.given in
    let block_at = fill.block_of in
    let call : calls_of i refused blocks (Leave slot) ≡ Back i block ∷ [] = rw (given, block_at) refl in
    record {
      names = names_leave refused blocks done slot placed p.names;
      made = made_more i refused refused blocks blocks done (Leave slot) entries (Back i block ∷ [])
          (keeps_all refused blocks (length refused)) p.names call p.made;
      holds = holds_back refused blocks done Held New slots slot block within has still p.holds;
      counts = counts_freed script refused blocks done slots tally later slot block p.names given within has is p.counts;
    }

-- a slot that has no block at its Leave was refused
pub was_refused : {i : ℕ} {script : Script} {refused : List Bool} {blocks : List ℕ} {done : List Step} {entries : List Entry}
    {Held : ℕ → Type 0} {slots : List (Option ℕ)} {tally : Tally}
    (p : PlaysSteps i script refused blocks done entries Held slots tally) (slot : ℕ) → Contains done (Place slot)
    → ¬ Contains done (Leave slot) → block_in slots slot ≡ None
    → is_refused refused slot ≡ true
was_refused {refused = refused} {done = done} p slot placed stays free =
    ⊎_elim (λ (r : is_refused refused slot ≡ true). r) (λ (left : Contains done (Leave slot)). absurd (stays left))
    (p.holds.empty slot (placed_below done (length refused) slot p.names.in_order placed) free)

-- a Leave of a slot that has none, since it was refused
pub plays_passed : (i : ℕ) (script : Script) (refused : List Bool) (blocks : List ℕ) (done : List Step) (entries : List Entry)
    (Held : ℕ → Type 0) (slots : List (Option ℕ)) (tally : Tally) (slot : ℕ)
    → Contains done (Place slot) → ¬ Contains done (Leave slot) → slot < length slots → block_in slots slot ≡ None
    → PlaysSteps i script refused blocks done entries Held slots tally
    → PlaysSteps i script refused blocks (done ++ Leave slot ∷ []) entries Held (set slots slot None) tally
plays_passed i script refused blocks done entries Held slots tally slot placed stays within free p =
    let given = was_refused p slot placed stays free in
    let call : calls_of i refused blocks (Leave slot) ≡ [] = rw given refl in
    record {
      names = names_leave refused blocks done slot placed p.names;
      made = sym (append-nil entries) ∙ made_more i refused refused blocks blocks done (Leave slot) entries []
          (keeps_all refused blocks (length refused)) p.names call p.made;
      holds = holds_passed refused blocks done Held slots slot within given p.holds;
      counts = counts_passed script refused blocks done slots tally slot p.names given within free p.counts;
    }

-- fewer slots were refused than a count can say
pub refused_few : (i : ℕ) (script : Script) (refused : List Bool) (blocks : List ℕ) (done : List Step) (entries : List Entry)
    (Held : ℕ → Type 0) (slots : List (Option ℕ)) (tally : Tally) (most : ℕ)
    → PlaysSteps i script refused blocks done entries Held slots tally → length done < most → tally.refused < most
refused_few i script refused blocks done entries Held slots tally most p few =
    omega (
      arith,
      ap (λ (t : Tally). t.refused) p.counts.tallied,
      count_by-le-length (λ (value : Bool). value) refused,
      length-refused-le refused blocks done p.names,
    )
