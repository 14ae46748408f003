-- A store script that is played from its first command to its last.
use Rattle.std.proofs.Common.{◌≡◌, ℕ, Option, None, option_map, List, [], ◌++◌, replicate, refl, sym, ap, ◌∙◌, subst, arith, append-nil}
use Rattle.std.proofs.Common.{◌<◌, zero, suc}
use Rattle.word_layout.specs.Sizes.{Sizes}
use Rattle.word_layout.specs.Packing.{most_age}
use Rattle.std.proofs.lemmas.Option.{none-some}
use Rattle.store_script.specs.declared.quad.Quad.{Quad}
use Rattle.store_script.specs.declared.command.Command.{Command}
use Rattle.store_script.specs.declared.command.StoreScript.{StoreScript}
use Rattle.store_script.specs.declared.answered.Answered.{Answered}
use Rattle.store_script.specs.Fit.{Fits, calls_from}
use Rattle.store_script.specs.Replies.{Walk, begun, walked}
use Rattle.store_script.specs.Script.{keys_of}
use Rattle.store_script.proofs.Determined.{only_refusals}
use Rattle.block_pool.specs.Passing.{HasAge, Passed, Pooled}
use Rattle.object_store.specs.Objects.{ObjectView}
use Rattle.store_player.specs.Playing.{IsNext, IsStorePlayed, PlaysSoFar, object_in}
use Rattle.store_player.specs.Steps.{starts}
use Rattle.pass_players.specs.Moments.{Moment, entries_of}
use Rattle.pass_players.proofs.Moments.{has_made_none}

-- slots that are all empty have nothing
nothing_in : (n slot : ℕ) → object_in (replicate n None) slot ≡ None
nothing_in zero slot = refl
nothing_in (suc n) zero = refl
nothing_in (suc n) (suc slot) = nothing_in n slot

-- no command was played
pub so_far_none : (keys : List ℕ) (pass : Passed) (n : ℕ) (told : List Moment)
    → PlaysSoFar keys [] pass pass (replicate n None) [] told told
so_far_none keys pass n told = record {
  refused = [];
  blocks = [];
  calls = [];
  walk = begun;
  refused_each = refl;
  blocks_each = refl;
  walks = λ more. refl;
  entries = λ more others. refl;
  answered = refl;
  present = λ key slot at. ap (option_map (λ (object : ObjectView Quad). object.value)) (nothing_in n slot);
  held = λ slot object has. absurd (none-some object (sym (nothing_in n slot) ∙ has));
  block_of = λ key slot at. tt;
  apart = λ a b one other has also same. absurd (none-some one (sym (nothing_in n a) ∙ has));
  made = has_made_none told pass;
  took = starts;
  few = omega arith;
}

-- all commands were played
pub played_all : (script : StoreScript) (start pass : Passed) (slots : List (Option (ObjectView Quad))) (answers : List Answered)
    (first told : List Moment) → PlaysSoFar (keys_of script.commands) script.commands start pass slots answers first told
    → IsStorePlayed script first told start pass slots answers
played_all script start pass slots answers first told p =
    let whole : p.refused ++ [] ≡ p.refused = append-nil p.refused in
    let walked_so : walked p.refused script.commands ≡ p.walk = ap (λ r. walked r script.commands) (sym whole) ∙ p.walks [] in
    let fits : Fits start.number script p.refused (entries_of p.calls) = record {
      one_each = p.refused_each ∙ ap (λ (w : Walk). w.puts) (sym walked_so);
      blocks = p.blocks;
      call_by_call = sym (p.entries [] [])
          ∙ ap (λ r. calls_from start.number r (p.blocks ++ []) begun script.commands) whole
          ∙ ap (λ b. calls_from start.number p.refused b begun script.commands) (append-nil p.blocks);
    } in
    record {
      calls = p.calls;
      made = p.made;
      answered = record {
        refused = p.refused;
        fits = fits;
        only = λ other also. only_refusals start.number script other p.refused (entries_of p.calls) also fits;
        answered = p.answered ∙ ap (λ (w : Walk). w.answers) (sym walked_so);
      };
      present = rw walked_so p.present;
      held = p.held;
      apart = p.apart;
      took = p.took;
    }

-- where a command may come next its pass has the age for a call
pub next_has_age : (command : Command) (pool : Pooled) (pass : Passed) (slots : List (Option (ObjectView Quad)))
    → IsNext command pool pass slots → HasAge pass
next_has_age command pool pass slots next due =
    let grown = next.played.made.grown in
    let few : pass.age < most_age pool.sizes = omega (arith, grown.age, next.played.few, next.young) in
    subst (λ (sizes : Sizes). pass.age < most_age sizes) (sym next.of_pool.sizes) few
