-- What a gate was told of the calls of a pass, one call on.
use Rattle.std.proofs.Common.{◌≡◌, ℕ, List, [], ◌∷◌, ◌++◌, refl, sym, ap, ◌∙◌, subst, append_assoc, append-nil}
use Rattle.std.proofs.lemmas.List.{map-append}
use Rattle.pool_model.specs.declared.entry.Entry.{Entry}
use Rattle.block_pool.specs.Passing.{Passed}
use Rattle.pass_players.specs.Growing.{Calls, Grows}
use Rattle.pass_players.specs.Moments.{MadeCall, Moment, entries_of, moment_of, moments_before}
use Rattle.pass_players.specs.Playing.{HasMade}
use Rattle.pass_players.proofs.Growing.{grows_more, grows_none}

-- the entries of one call more
pub entries_more : (calls : List MadeCall) (call : MadeCall) → entries_of (calls ++ call ∷ []) ≡ entries_of calls ++ call.entry ∷ []
entries_more calls call = map-append (λ (call : MadeCall). call.entry) calls (call ∷ [])

-- the moment before one call more: the pass has the entries of those before it
pub moments_more : (process : ℕ) (past : List Entry) (calls : List MadeCall) (call : MadeCall)
    → moments_before process past (calls ++ call ∷ [])
    ≡ moments_before process past calls ++ record { process = process; own = past ++ entries_of calls; moves = call.before } ∷ []
moments_more process past [] call =
    ap (λ (own : List Entry). record { process = process; own = own; moves = call.before } ∷ []) (sym (append-nil past))
moments_more process past (first ∷ calls) call =
    ap (λ (rest : List Moment). record { process = process; own = past; moves = first.before } ∷ rest)
    (moments_more process (past ++ first.entry ∷ []) calls call
    ∙ ap (λ (own : List Entry). moments_before process (past ++ first.entry ∷ []) calls
    ++ record { process = process; own = own; moves = call.before } ∷ []) (append_assoc past (first.entry ∷ []) (entries_of calls)))

-- no call was made
pub has_made_none : (told : List Moment) (pass : Passed) → HasMade [] told told pass pass
has_made_none told pass = record { grown = grows_none pass; told = sym (append-nil told) }

-- one call more, which the gate was told of before it
pub has_made_more : (calls : List MadeCall) (call : MadeCall) (first earlier now : List Moment) (start old new : Passed)
    → HasMade calls first earlier start old → call.before ≡ old.moves → Calls call.entry old new → now ≡ earlier ++ moment_of old ∷ []
    → HasMade (calls ++ call ∷ []) first now start new
has_made_more calls call first earlier now start old new made before calls_one told = record {
  grown = subst (λ (entries : List Entry). Grows entries start new) (sym (entries_more calls call))
      (grows_more (entries_of calls) call.entry start old new made.grown calls_one);
  told =
      let moment : moment_of old ≡ record { process = start.number; own = start.own ++ entries_of calls; moves = call.before }
      = rw (made.grown.same.number, made.grown.own, before) refl in
      told
      ∙ ap (λ (moments : List Moment). moments ++ moment_of old ∷ []) made.told
      ∙ append_assoc first (moments_before start.number start.own calls) (moment_of old ∷ [])
      ∙ ap (λ (m : Moment). first ++ (moments_before start.number start.own calls ++ m ∷ [])) moment
      ∙ ap (λ (moments : List Moment). first ++ moments) (sym (moments_more start.number start.own calls call));
}
