-- Players that are gathered, one more.
use Rattle.std.proofs.Common.{◌≡◌, ◌<◌, ⊎_elim, Some, List, [], ◌∷◌, ◌++◌, length}
use Rattle.std.proofs.Common.{map, get_or, sym, ap, ◌∙◌, subst, append_assoc}
use Rattle.std.specs.Prelude.{slice_get}
use Rattle.std.proofs.lemmas.List.{map-append}
use Rattle.std.proofs.lemmas.Option.{get_or_from_slice_get}
use Rattle.pool_model.proofs.Places.{slice_get-push_cases}
use Rattle.block_pool.specs.Passing.{Passed}
use Rattle.pass_players.specs.declared.players.PassPlayer.{PassPlayer}
use Rattle.pass_players.specs.Gathered.{AreReady}

-- the passes but the rest have their players
pub record Gathering {S P : Type 0} (is_ready : S → P → Type 0) (passes rest : List Passed) (scripts : List S)
    (players : List (PassPlayer P)) : Type 0 where
  pub passes_are : map (λ one. one.pass) players ++ rest ≡ passes
  pub ready : AreReady is_ready scripts players

module _ {S P : Type 0} (is_ready : S → P → Type 0) (passes : List Passed) (scripts : List S) where
  -- one more pass has its player
  pub gathering_more : (rest next : List Passed) (pass : Passed) (players : List (PassPlayer P)) (one : PassPlayer P) (d : S)
      → Gathering is_ready passes rest scripts players → rest ≡ pass ∷ next → one.pass ≡ pass
      → is_ready (get_or scripts (length players) d) one.player → Gathering is_ready passes next scripts (players ++ one ∷ [])
  gathering_more rest next pass players one d g is its_pass its_script =
      let pass_of : PassPlayer P → Passed = λ one. one.pass in
      record {
        passes_are = ap (λ all. all ++ next) (map-append pass_of players (one ∷ []))
            ∙ append_assoc (map pass_of players) (one.pass ∷ []) next
            ∙ ap (λ (p : Passed). map pass_of players ++ p ∷ next) its_pass
            ∙ ap (λ all. map pass_of players ++ all) (sym is) ∙ g.passes_are;
        ready = λ k other script at script_at. ⊎_elim
            (λ (still : (k < length players) × (slice_get players k ≡ Some other)). g.ready k other script still.1 script_at)
            (λ (last : (k ≡ length players) × (one ≡ other)).
            let found = ap (λ n. get_or scripts n d) (sym last.0) ∙ get_or_from_slice_get scripts k script d script_at in
            subst (λ (p : PassPlayer P). is_ready script p.player) last.1 (subst (λ (s : S). is_ready s one.player) found its_script))
            (slice_get-push_cases players one other k at);
      }
