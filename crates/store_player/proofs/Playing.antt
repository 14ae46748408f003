-- How far the process of a pass has played a store script, one command on.
use Rattle.std.proofs.Common.{◌≡◌, ℕ, ◌+◌, ◌≤◌, Bool, true, false, Option, Some, None, List, [], ◌∷◌, ◌++◌, length, refl, sym, ap, ◌∙◌}
use Rattle.std.proofs.Common.{subst, arith, append_assoc, append-nil, length-append}
use Rattle.std.specs.List.{fold, slice_index}
use Rattle.std.proofs.lemmas.List.{map-append}
use Rattle.std.proofs.lemmas.List.Sums.{fold-append}
use Rattle.pool_model.specs.declared.entry.Entry.{Entry}
use Rattle.store_script.specs.declared.quad.Quad.{Quad}
use Rattle.store_script.specs.declared.command.Command.{Command}
use Rattle.store_script.specs.declared.answered.Answered.{Answered}
use Rattle.store_script.specs.Fit.{calls_from, calls_of}
use Rattle.store_script.specs.Replies.{Kept, Walk, after, begun, kept, walked}
use Rattle.store_script.specs.Script.{place_of}
use Rattle.block_pool.specs.Passing.{Passed}
use Rattle.object_store.specs.Objects.{ObjectView}
use Rattle.pass_players.specs.Moments.{MadeCall, Moment, entries_of}
use Rattle.pass_players.specs.Playing.{HasMade}
use Rattle.store_player.specs.Playing.{AreApart, AreHeld, BlockIs, Does, HasPresent, NumbersAre, PlaysSoFar, object_in}
use Rattle.store_player.specs.Steps.{TakesSteps, with_call, without_call, least_steps, makes_call}

-- ---- one command more

-- the entries of some commands, and those of one more
calls_from-push : (i : ℕ) (refused : List Bool) (blocks : List ℕ) (walk : Walk) (done : List Command) (command : Command)
    → calls_from i refused blocks walk (done ++ command ∷ [])
    ≡ calls_from i refused blocks walk done ++ calls_of i refused blocks (fold (after refused) walk done) command
calls_from-push i refused blocks walk [] command = append-nil (calls_of i refused blocks walk command)
calls_from-push i refused blocks walk (first ∷ done) command =
    let next = after refused walk first in
    ap (λ es. calls_of i refused blocks walk first ++ es) (calls_from-push i refused blocks next done command)
    ∙ sym (append_assoc (calls_of i refused blocks walk first) (calls_from i refused blocks next done)
    (calls_of i refused blocks (fold (after refused) next done) command))

-- the walk over some commands, and over one more
walked-push : (refused : List Bool) (done : List Command) (command : Command)
    → walked refused (done ++ command ∷ []) ≡ after refused (walked refused done) command
walked-push refused done command = fold-append (after refused) begun done (command ∷ [])

-- the entries of calls that follow others
entries-append : (calls more : List MadeCall) → entries_of (calls ++ more) ≡ entries_of calls ++ entries_of more
entries-append calls more = map-append (λ (call : MadeCall). call.entry) calls more

-- what a block is known as, it is behind more blocks
pub block_behind : (blocks more : List ℕ) (k : Option Kept) (o : Option (ObjectView Quad)) → BlockIs blocks k o
    → BlockIs (blocks ++ more) k o
block_behind blocks more None o is = tt
block_behind blocks more (Some before) None is = tt
block_behind blocks more (Some before) (Some object) is = λ others.
    ap (λ bs. slice_index bs before.put) (append_assoc blocks more others) ∙ is (more ++ others)

-- a command was played: it appended these refusals, blocks and calls
module _ (keys : List ℕ) (done : List Command) (command : Command) (start old new : Passed) (slots later : List (Option (ObjectView Quad)))
    (answers : List Answered) (answer : Answered) (first told now : List Moment) (rs : List Bool) (bs : List ℕ) (cs : List MadeCall)
    (walk : Walk) where
  pub so_far_step : (p : PlaysSoFar keys done start old slots answers first told)
      → ((more : List Bool) → after (p.refused ++ (rs ++ more)) p.walk command ≡ walk)
      → ((more : List Bool) (others : List ℕ)
      → calls_of start.number (p.refused ++ (rs ++ more)) (p.blocks ++ (bs ++ others)) p.walk command ≡ entries_of cs)
      → walk.puts ≡ p.walk.puts + length rs → length bs ≡ length rs → length (entries_of cs) ≤ 1
      → walk.answers ≡ p.walk.answers ++ answer ∷ []
      → HasPresent keys walk later → AreHeld later new → AreApart later
      → ((key slot : ℕ) → place_of key keys ≡ Some slot → BlockIs (p.blocks ++ bs) (kept walk key) (object_in later slot))
      → HasMade (p.calls ++ cs) first now start new
      → TakesSteps start.sizes.quantum start.moves (done ++ command ∷ []) (answers ++ answer ∷ []) (p.calls ++ cs) new.moves
      → PlaysSoFar keys (done ++ command ∷ []) start new later (answers ++ answer ∷ []) first now
  so_far_step p walk_is calls_are puts same one said present held apart block_of made took = record {
    refused = p.refused ++ rs;
    blocks = p.blocks ++ bs;
    calls = p.calls ++ cs;
    walk = walk;
    refused_each = length-append p.refused rs ∙ ap (λ n. n + length rs) p.refused_each ∙ sym puts;
    blocks_each = length-append p.blocks bs ∙ ap (λ n. n + length bs) p.blocks_each ∙ ap (λ n. p.walk.puts + n) same ∙ sym puts;
    walks = λ more. ap (λ r. walked r (done ++ command ∷ [])) (append_assoc p.refused rs more)
        ∙ walked-push (p.refused ++ (rs ++ more)) done command
        ∙ ap (λ w. after (p.refused ++ (rs ++ more)) w command) (p.walks (rs ++ more))
        ∙ walk_is more;
    entries = λ more others.
        let r = p.refused ++ (rs ++ more) in
        let b = p.blocks ++ (bs ++ others) in
        ap (λ r. calls_from start.number r ((p.blocks ++ bs) ++ others) begun (done ++ command ∷ [])) (append_assoc p.refused rs more)
        ∙ ap (λ b. calls_from start.number r b begun (done ++ command ∷ [])) (append_assoc p.blocks bs others)
        ∙ calls_from-push start.number r b begun done command
        ∙ ap (λ es. es ++ calls_of start.number r b (fold (after r) begun done) command) (p.entries (rs ++ more) (bs ++ others))
        ∙ ap (λ w. entries_of p.calls ++ calls_of start.number r b w command) (p.walks (rs ++ more))
        ∙ ap (λ es. entries_of p.calls ++ es) (calls_are more others)
        ∙ sym (entries-append p.calls cs);
    answered = ap (λ all. all ++ answer ∷ []) p.answered ∙ sym said;
    present = present;
    held = held;
    apart = apart;
    block_of = block_of;
    made = made;
    took = took;
    few = omega (
      arith,
      one,
      p.few,
      ap length (entries-append p.calls cs),
      length-append (entries_of p.calls) (entries_of cs),
      length-append done (command ∷ []),
    );
  }

-- ---- the calls that were made

-- no call was made, and of what it makes of the pass only moves and known words differ
pub made_still : (calls : List MadeCall) (first told : List Moment) (start old new : Passed)
    → new ≡ record old { moves = new.moves; known = new.known } → HasMade calls first told start old
    → HasMade (calls ++ []) first told start new
made_still calls first told start old new is made =
    subst (λ (cs : List MadeCall). HasMade cs first told start new) (sym (append-nil calls))
    (subst (λ (p : Passed). HasMade calls first told start p) (sym is)
    (record {
      grown = record {
        same = record { table = made.grown.same.table; sizes = made.grown.same.sizes; number = made.grown.same.number };
        own = made.grown.own;
        seen = made.grown.seen;
        age = made.grown.age;
      };
      told = made.told;
    }))

-- a command that makes no call took its least steps
pub took_still : (quantum start : ℕ) (done : List Command) (answers : List Answered) (past : List MadeCall) (old new : ℕ)
    (command : Command) (answer : Answered) → TakesSteps quantum start done answers past old → makes_call command answer ≡ false
    → new ≡ old + least_steps command answer
    → TakesSteps quantum start (done ++ command ∷ []) (answers ++ answer ∷ []) (past ++ []) new
took_still quantum start done answers past old new command answer took none is =
    subst (λ (n : ℕ). TakesSteps quantum start (done ++ command ∷ []) (answers ++ answer ∷ []) (past ++ []) n) (sym is)
    (subst (λ (cs : List MadeCall). TakesSteps quantum start (done ++ command ∷ []) (answers ++ answer ∷ []) cs
    (old + least_steps command answer)) (sym (append-nil past)) (without_call done answers past old command answer took none))

-- the call that took a pass from one state to another
abbrev pub call_of : Entry → Passed → Passed → MadeCall
call_of entry old new = record { entry = entry; before = old.moves; after = new.moves }

-- one call was made, and its command took its steps
pub took_call : {entry : Entry} {least : ℕ} (done : List Command) (answers : List Answered) (past : List MadeCall) (command : Command)
    (answer : Answered) (start old new : Passed) → old.sizes ≡ start.sizes
    → TakesSteps start.sizes.quantum start.moves done answers past old.moves → makes_call command answer ≡ true
    → least ≡ least_steps command answer → Does entry least old new
    → TakesSteps start.sizes.quantum start.moves (done ++ command ∷ []) (answers ++ answer ∷ []) (past ++ call_of entry old new ∷ [])
    new.moves
took_call {entry = entry} done answers past command answer start old new same took makes is call =
    let quantum : old.sizes.quantum ≡ start.sizes.quantum = ap (λ sizes. sizes.quantum) same in
    with_call done answers past old.moves new.moves command answer entry took makes (omega (arith, is, call.some))
    (omega (arith, is, quantum, call.few))

-- ---- what a key keeps, by what its slot has

-- a slot with an object has the numbers that are kept
pub kept_filled : (o : Option (ObjectView Quad)) (k : Option Kept) (object : ObjectView Quad) → NumbersAre k o → o ≡ Some object
    → (before : Kept) × (k ≡ Some before) × (object.value ≡ before.value)
kept_filled None k object same is = absurd (cc)
kept_filled (Some has) None object same is = absurd (cc)
kept_filled (Some has) (Some before) object same is = (before, refl, cc)

-- an empty one has none
pub kept_empty : (o : Option (ObjectView Quad)) (k : Option Kept) → NumbersAre k o → o ≡ None → k ≡ None
kept_empty None None same is = refl
kept_empty None (Some before) same is = absurd (cc)
kept_empty (Some has) k same is = absurd (cc)
