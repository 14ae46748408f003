-- Players that had their gates and have played, over a pool that is closed then.
use Rattle.std.proofs.Common.{◌≡◌, ◌≤◌, List, ◌++◌, length, map, sym, ap, ◌∙◌, arith, length-append}
use Rattle.std.proofs.lemmas.List.{length-map, map-append}
use Rattle.block_pool.specs.Closing.{AreAllPasses, AreInOrder, IsClosed, Settlement}
use Rattle.block_pool.specs.Passing.{Pooled}
use Rattle.pass_players.specs.declared.players.GatedPlayer.{GatedPlayer}
use Rattle.pass_players.specs.declared.players.PassPlayer.{PassPlayer}
use Rattle.pass_players.specs.Gathered.{HavePlayed}
use Rattle.pass_players.specs.Moments.{Moment}
use Rattle.pass_players.specs.Playing.{Course}
use Rattle.pass_players.specs.Settled.{OthersUntold, PlayedAll}
use Rattle.pass_players.specs.Together.{PlayedTogether}
use Rattle.pass_players.proofs.Closed.{all_passes_again, played_all_in}
use Rattle.pass_players.proofs.Parting.{map_map, others_untold, played_together}

-- what gates were told that stand with players, and behind those
told_parts : {P G : Type 0} (told : G → List Moment) (gated : List (GatedPlayer P G)) (rest gates : List G)
    → map (λ one. one.gate) gated ++ rest ≡ gates → map told gates ≡ map (λ one. told one.gate) gated ++ map told rest
told_parts {P} {G} told gated rest gates are =
    let gate_of : GatedPlayer P G → G = λ one. one.gate in
    ap (map told) (sym are) ∙ map-append told (map gate_of gated) rest ∙ ap (λ all. all ++ map told rest) (map_map told gate_of gated)

module _ {S P O G : Type 0} (fits : Course → S → O → Type 0) (outcome : P → O) (told : G → List Moment) (pool : Pooled) (scripts : List S)
    (players : List (PassPlayer P)) (old new : List (GatedPlayer P G)) (gates now rest : List G)
    (are : map (λ one. one.one) old ≡ players) (many : length players ≡ length scripts)
    (before_are : map (λ one. one.gate) old ++ rest ≡ gates) (now_are : map (λ one. one.gate) new ++ rest ≡ now)
    (same : length new ≡ length old) (all : HavePlayed fits outcome told scripts old new)
    (ordered : AreInOrder pool (map (λ one. one.pass) players)) where
  abbrev one_of : GatedPlayer P G → PassPlayer P
  one_of one = one.one

  passes_are : map (λ one. one.one.pass) old ≡ map (λ one. one.pass) players
  passes_are = sym (map_map (λ (one : PassPlayer P). one.pass) one_of old) ∙ ap (map (λ (one : PassPlayer P). one.pass)) are

  as_many : length old ≡ length players
  as_many = sym (length-map old one_of) ∙ ap length are

  each : length (map (λ (one : PassPlayer P). one.pass) players) ≡ length scripts
  each = length-map players (λ (one : PassPlayer P). one.pass) ∙ many

  together : PlayedTogether fits (map told gates) (map told now) (map (λ one. one.pass) players) scripts (map (λ one. one.one.pass) new)
      (map (λ one. outcome one.one.player) new)
  together = rw (told_parts told old rest gates before_are, told_parts told new rest now now_are, sym passes_are)
      (played_together fits outcome told scripts old new (map told rest) (as_many ∙ many) same all)

  untold : OthersUntold pool.sizes.processes (map told gates) (map told now)
  untold = rw (told_parts told old rest gates before_are, told_parts told new rest now now_are)
      (others_untold (map (λ one. told one.gate) old) (map (λ one. told one.gate) new) (map told rest) pool.sizes.processes
      (length-map old (λ one. told one.gate) ∙ as_many ∙ sym (length-map players (λ (one : PassPlayer P). one.pass)) ∙ ordered.many)
      (length-map new (λ one. told one.gate) ∙ same ∙ sym (length-map old (λ one. told one.gate))))

  enough : length (map (λ (one : PassPlayer P). one.pass) players) ≤ length (map told gates)
  enough =
      omega (
        arith,
        length-map players (λ (one : PassPlayer P). one.pass),
        as_many,
        length-map gates told,
        ap length before_are,
        length-append (map (λ (one : GatedPlayer P G). one.gate) old) rest,
        length-map old (λ (one : GatedPlayer P G). one.gate),
      )

  -- the pool may be closed with their passes
  pub may_close : AreAllPasses pool (map (λ one. one.one.pass) new)
  may_close =
      all_passes_again fits (map told gates) (map told now) pool (map (λ one. one.pass) players) (map (λ one. one.one.pass) new) scripts
      (map (λ one. outcome one.one.player) new) ordered each together enough untold.as_many

  -- and what they played stands in the history then
  pub all_played : (settled : Settlement) → IsClosed pool (map (λ one. one.one.pass) new) settled
      → PlayedAll fits (map told gates) (map told now) pool (map (λ one. one.pass) players) scripts
      (map (λ one. outcome one.one.player) new) settled
  all_played settled closed =
      played_all_in fits (map told gates) (map told now) pool (map (λ one. one.pass) players) (map (λ one. one.one.pass) new) scripts
      (map (λ one. outcome one.one.player) new) ordered each together settled enough untold closed
