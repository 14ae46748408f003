-- What a call of a store does, by the calls of the pool that it makes.
use Rattle.std.proofs.Common.{◌≡◌, ◌≢◌, ℕ, ◌+◌, ◌≤◌, List, [], ◌∷◌, refl, sym, ap, ◌∙◌, subst, arith}
use Rattle.std.specs.List.{Contains}
use Rattle.pool_model.specs.declared.entry.Entry.{Entry}
use Rattle.pool_model.specs.declared.entry.Entry.TheVariants as entry
use Rattle.pool_model.proofs.Members.{contains_head, contains_tail, without_contains}
use Rattle.pool_table.specs.Minds.{KnownWord, known_in}
use Rattle.pool_table.specs.Turns.{forget}
use Rattle.pool_table.specs.Steps.{SeesMore}
use Rattle.block_pool.specs.Calls.{Allocated, Counted, Entered, WasFree}
use Rattle.block_pool.specs.Passing.{Passed}
use Rattle.block_pool.specs.Standing.{StandsWell}
use Rattle.block_pool.specs.declared.pool.Answer.{Answer}
use Rattle.block_pool.specs.declared.pool.Answer.TheVariants.{Got}
use Rattle.object_store.specs.Objects.{HoldsWords, KnowsWords, ObjectView}
use Rattle.object_store.specs.Calls.{AllocatedFirst, CountedWithin, KeepsOthers, written}
use Rattle.object_store.specs.Putting.{IsStored}
use Rattle.object_store.proofs.Known.{written_here, written_there, forgotten_there}

-- ---- writes after a call

-- a call and so many writes after it make a step for each write beside those of the call
pub counted_after : (quantum count before middle after : ℕ) (old between new : Passed) → Counted quantum before middle old between
    → after ≡ middle + count → new.moves ≡ between.moves + count → CountedWithin (count + 1) (quantum + (count + 1)) before after old new
counted_after quantum count before middle after old between new counted steps moves = record {
  made = counted.moved + 1 + count;
  least = omega arith;
  most = omega (arith, counted.few);
  steps = omega (arith, counted.steps);
  moves = omega (arith, counted.moves);
}

-- nothing was written
pub counted_alone : (quantum before after : ℕ) (old new : Passed) → Counted quantum before after old new
    → CountedWithin 1 (quantum + 1) before after old new
counted_alone quantum before after old new counted = record {
  made = counted.moved + 1;
  least = omega arith;
  most = omega (arith, counted.few);
  steps = omega (arith, counted.steps);
  moves = omega (arith, counted.moves);
}

-- a block that was got is held
pub got_is_held : (block : ℕ) (old new : Passed) → Entered (entry.Got old.number block) old new → Contains new.held block
got_is_held block old new entered = subst (λ (bs : List ℕ). Contains bs block) (sym entered.held) (contains_head block old.held)

-- the words of a value were written to the block that was got
pub stored_by : {R : Type 0} (count : ℕ) (words_of : R → List ℕ) (value : R) (old between new : Passed) (object : ObjectView R) (moves : ℕ)
    → WasFree object.block old between → Entered (entry.Got old.number object.block) old between → between.known ≡ old.known
    → new ≡ record between { moves = moves; known = written object.block (words_of value) count between.known }
    → object.value ≡ value → IsStored count words_of value old new object
stored_by count words_of value old between new object moves free entered unchanged is has =
    let block = object.block in
    let held : new.held ≡ block ∷ old.held = ap (λ (p : Passed). p.held) is ∙ entered.held in
    let known : new.known ≡ written block (words_of value) count between.known = ap (λ (p : Passed). p.known) is in
    record {
      value = has;
      fresh = free.not_own;
      holds = record {
        held = subst (λ (bs : List ℕ). Contains bs block) (sym held) (contains_head block old.held);
        known = subst (λ (k : List KnownWord). KnowsWords k block count (words_of value)) (sym known)
            (written_here block (words_of value) count between.known);
      };
      others = record {
        held = λ other differs was. subst (λ (bs : List ℕ). Contains bs other) (sym held) (contains_tail other block old.held was);
        known = λ other differs index. ap (λ (k : List KnownWord). known_in k other index) known
            ∙ written_there block (words_of value) count between.known other index differs
            ∙ ap (λ (k : List KnownWord). known_in k other index) unchanged;
      };
    }

-- ---- reads before a call

-- reads before a free leave the entry that it makes, and what its process has seen and holds after it
pub entered_before : (block : ℕ) (old between new : Passed) (moves : ℕ) → between ≡ record old { moves = moves }
    → Entered (entry.Back between.number block) between new → Entered (entry.Back old.number block) old new
entered_before block old between new moves is entered =
    let at : Entered (entry.Back old.number block) (record old { moves = moves }) new =
    subst (λ (p : Passed). Entered (entry.Back p.number block) p new) is entered in
    record { own = at.own; seen = at.seen; held = at.held }

-- reads and a free after them make a step for each read beside those of the free
pub counted_before : (count before middle after : ℕ) (old between new : Passed) → middle ≡ before + count
    → between ≡ record old { moves = old.moves + count } → Counted between.sizes.quantum middle after between new
    → CountedWithin (count + 1) (old.sizes.quantum + 1 + count) before after old new
counted_before count before middle after old between new steps is counted =
    let moves : between.moves ≡ old.moves + count = ap (λ (p : Passed). p.moves) is in
    let quantum : between.sizes.quantum ≡ old.sizes.quantum = ap (λ (p : Passed). p.sizes.quantum) is in
    record {
      made = counted.moved + 1 + count;
      least = omega arith;
      most = omega (arith, counted.few);
      steps = omega (arith, counted.steps);
      moves = omega (arith, counted.moves);
    }

-- reads before a free leave what it forgets, the words of its block alone
pub forgotten_before : (block : ℕ) (old between new : Passed) (moves : ℕ) → between ≡ record old { moves = moves }
    → new.known ≡ forget block between.known → new.known ≡ forget block old.known
forgotten_before block old between new moves is known = known ∙ ap (λ (p : Passed). forget block p.known) is

-- the block was freed
pub others_freed : (block : ℕ) (old new : Passed) → Entered (entry.Back old.number block) old new → new.known ≡ forget block old.known
    → KeepsOthers block old new
others_freed block old new entered known = record {
  held = λ other differs was.
      subst (λ (bs : List ℕ). Contains bs other) (sym entered.held) (without_contains block other old.held was differs);
  known = λ other differs index.
      ap (λ (k : List KnownWord). known_in k other index) known ∙ forgotten_there block old.known other index differs;
}

-- ---- writes alone

-- so many writes to a held block leave it with these words
pub kept_by_writes : (block count moves : ℕ) (words : List ℕ) (old new : Passed) → Contains old.held block
    → new ≡ record old { moves = moves; known = written block words count old.known } → HoldsWords count words block new
kept_by_writes block count moves words old new held is = record {
  held = subst (λ (p : Passed). Contains p.held block) (sym is) held;
  known = subst (λ (p : Passed). KnowsWords p.known block count words) (sym is) (written_here block words count old.known);
}

-- they leave what is held and known of all other blocks
pub others_by_writes : (block count moves : ℕ) (words : List ℕ) (old new : Passed)
    → new ≡ record old { moves = moves; known = written block words count old.known } → KeepsOthers block old new
others_by_writes block count moves words old new is = record {
  held = λ other differs was. subst (λ (p : Passed). Contains p.held other) (sym is) was;
  known = λ other differs index.
      ap (λ (p : Passed). known_in p.known other index) is ∙ written_there block words count old.known other index differs;
}
