-- The objects of a wheel, in a list and at their places.
use Rattle.std.proofs.Common.{◌≡◌, ◌≢◌, ℕ, zero, suc, None, Some, List, []}
use Rattle.std.proofs.Common.{◌∷◌, refl, sym, ap, subst}
use Rattle.std.specs.Prelude.{All, Contains, replicate}
use Rattle.std.proofs.lemmas.List.Elements.{All-nil, All-cons, All-head, All-tail}
use Rattle.std.proofs.lemmas.Option.{none-some, same_Some}
use Rattle.pool_table.specs.Minds.{known_in}
use Rattle.block_pool.specs.Passing.{Passed}
use Rattle.object_store.specs.Objects.{HoldsWords, ObjectView}
use Rattle.timer_wheel.specs.declared.record.TimerRecord.{TimerRecord}
use Rattle.timer_wheel.specs.Places.{Places, object_at, objects_in}
use Rattle.timer_wheel.specs.Serving.{AreHeld, IsFar, LeavesFar}
use Rattle.timer_wheel.specs.Views.{HoldsAll, IsElse, KeepsElse, words_of}

-- what holds of what stands at each place holds of each object
pub all_objects : (Fact : ObjectView TimerRecord → Type 0) (places : Places)
    → ((place : ℕ) (object : ObjectView TimerRecord) → object_at places place ≡ Some object → Fact object) → All Fact (objects_in places)
all_objects Fact [] each = All-nil Fact
all_objects Fact (None ∷ places) each = all_objects Fact places (λ place object at. each (suc place) object at)
all_objects Fact (Some one ∷ places) each =
    All-cons Fact one (objects_in places) (each 0 one refl) (all_objects Fact places (λ place object at. each (suc place) object at))

-- and the other way round
pub at_objects : (Fact : ObjectView TimerRecord → Type 0) (places : Places) → All Fact (objects_in places)
    → (place : ℕ) (object : ObjectView TimerRecord) → object_at places place ≡ Some object → Fact object
at_objects Fact [] all place object at = absurd (none-some object at)
at_objects Fact (None ∷ places) all zero object at = absurd (none-some object at)
at_objects Fact (None ∷ places) all (suc place) object at = at_objects Fact places all place object at
at_objects Fact (Some one ∷ places) all zero object at = subst Fact (same_Some one object at) (All-head Fact one (objects_in places) all)
at_objects Fact (Some one ∷ places) all (suc place) object at =
    at_objects Fact places (All-tail Fact one (objects_in places) all) place object at

-- so a pass holds the objects as it holds the places
pub held_of_holds : (places : Places) (pass : Passed) → HoldsAll (objects_in places) pass → AreHeld places pass
held_of_holds places pass all = at_objects (λ object. HoldsWords 4 (words_of object.value) object.block pass) places all

-- and the other way round
pub holds_of_held : (places : Places) (pass : Passed) → AreHeld places pass → HoldsAll (objects_in places) pass
holds_of_held places pass held = all_objects (λ object. HoldsWords 4 (words_of object.value) object.block pass) places held

-- and keeps all else
pub keeps_of_far : (places later : Places) (old new : Passed) → LeavesFar places later old new
    → KeepsElse (objects_in places) (objects_in later) old new
keeps_of_far places later old new far =
    let is_far : (other : ℕ) → IsElse (objects_in places) other → IsFar places other
    = λ other else. at_objects (λ object. object.block ≢ other) places else in
    record {
      apart = λ other else was. all_objects (λ object. object.block ≢ other) later (far.far other (is_far other else) was);
      held = λ other else was. far.held other (is_far other else) was;
      known = λ other else was index. far.known other (is_far other else) was index;
    }

-- where only moves changed, all stays
pub keeps_moved : (objects : List (ObjectView TimerRecord)) (moves : ℕ) (old new : Passed) → new ≡ record old { moves = moves }
    → KeepsElse objects objects old new
keeps_moved objects moves old new is = record {
  apart = λ other else was. else;
  held = λ other else was. subst (λ (blocks : List ℕ). Contains blocks other) (sym (ap (λ (p : Passed). p.held) is)) was;
  known = λ other else was index. ap (λ (p : Passed). known_in p.known other index) is;
}

-- empty places have no objects
pub no_objects : (room : ℕ) → objects_in (replicate room None) ≡ []
no_objects zero = refl
no_objects (suc room) = no_objects room
