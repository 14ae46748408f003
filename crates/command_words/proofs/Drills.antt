-- What a parse of `drill` says of its words.
use Rattle.std.proofs.Common.{◌≡◌, ◌≤◌, ℕ, Bool, true, false, List, [], ◌∷◌, Option, Some, None, cond, nat_le, refl, subst}
use Rattle.std.specs.Prelude.{codes}
use Rattle.std.proofs.lemmas.Bool.{leb-true}
use Rattle.clap.specs.Faults.{fault_of}
use Rattle.clap.specs.Kinds.{Kinds}
use Rattle.clap.specs.Simple.{matches_of}
use Rattle.clap.specs.Walk.{Row}
use Rattle.command_words.specs.Options.{if_faultless, number_at}
use Rattle.command_words.specs.Drill.{drill_app, drill_in, drill_meant, drill_with, most_calls}
use Rattle.command_words.specs.declared.command.Drill.{Drill}

-- numbers ask for few calls
few_with : (seed processes calls quantum : Option ℕ) (drill : Drill) → drill_with seed processes calls quantum ≡ Some drill
    → drill.calls ≤ most_calls
few_with None processes calls quantum drill is = cc
few_with (Some seed) None calls quantum drill is = cc
few_with (Some seed) (Some processes) None quantum drill is = cc
few_with (Some seed) (Some processes) (Some calls) None drill is = cc
few_with (Some seed) (Some processes) (Some calls) (Some quantum) drill is = go (nat_le calls most_calls) refl is
  where
    go : (few : Bool) → nat_le calls most_calls ≡ few
        → cond few (Some (record { seed = seed; processes = processes; calls = calls; quantum = quantum })) None ≡ Some drill
        → drill.calls ≤ most_calls
    go true few is = let same : calls ≡ drill.calls = cc in subst (λ (n : ℕ). n ≤ most_calls) same (leb-true calls most_calls few)
    go false many is = cc

-- and so do words
pub few_calls : (words : List (List ℕ)) (drill : Drill) → drill_meant words ≡ Some drill → drill.calls ≤ most_calls
unfolding drill_meant
few_calls words drill = go (fault_of drill_app words) (matches_of drill_app words)
  where
    go : (kinds : Kinds) (matches : List Row) → if_faultless kinds (drill_in matches) ≡ Some drill → drill.calls ≤ most_calls
    go [] matches is =
        few_with (number_at 64 (codes "seed") matches) (number_at 32 (codes "processes") matches)
        (number_at 32 (codes "calls") matches) (number_at 32 (codes "quantum") matches) drill is
    go (kind ∷ kinds) matches is = cc
