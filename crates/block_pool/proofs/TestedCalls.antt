-- What a test knows of a pass that allocates again and again.
use Rattle.std.proofs.Common.{◌≡◌, ℕ, ◌+◌, ◌*◌, ◌<◌, ◌≤◌, List, Option, refl, sym, ap, ◌∙◌, subst, inl, inr, arith, length, set, get_or}
use Rattle.std.proofs.Common.{Some}
use Rattle.std.specs.Prelude.{Contains, IfSome}
use Rattle.std.proofs.lemmas.Option.{slice_get-get_or}
use Rattle.std.proofs.lemmas.Bool.{cases_eq}
use Rattle.word_layout.specs.Sizes.{Sizes}
use Rattle.pool_model.specs.declared.entry.Entry.TheVariants as entry
use Rattle.pool_model.proofs.Members.{contains_head, contains_tail}
use Rattle.block_pool.specs.declared.pool.Answer.{Answer}
use Rattle.block_pool.specs.declared.pool.Answer.TheVariants.{Got, Dry}
use Rattle.block_pool.specs.Passing.{Pooled, Passed, IsOf}
use Rattle.block_pool.specs.Calls.{SamePass, Entered, entry_of}
use Rattle.block_pool.specs.Closing.{AreAllPasses}
use Rattle.block_pool.specs.Opening.{AreOpenedPasses}
use Rattle.block_pool.proofs.Ordered.{ordered_are_all, opened_are_in_order, calls_keep_order}

-- the pass has made so many calls, of which each raised the counter by seventeen at most
pub record HasCalled (pool : Pooled) (before now : Passed) (calls started steps : ℕ) : Type 0 where
  pub same : SamePass before now
  pub is_of : IsOf pool now
  pub quantum : now.sizes.quantum ≤ 16
  pub ticks : steps ≤ started + 17 * calls

-- before the first call none was made
pub none_called : (pool : Pooled) (pass : Passed) (started : ℕ) → IsOf pool pass → pass.sizes.quantum ≤ 16
    → HasCalled pool pass pass 0 started started
none_called pool pass started is_of quantum = record {
  same = record { table = refl; sizes = refl; number = refl };
  is_of = is_of;
  quantum = quantum;
  ticks = omega arith;
}

-- one more call of at most 17 steps
pub one_called : (pool : Pooled) (before now after : Passed) (calls started steps ticked : ℕ)
    → HasCalled pool before now calls started steps
    → SamePass now after → ticked ≤ steps + 17
    → HasCalled pool before after (calls + 1) started ticked
one_called pool before now after calls started steps ticked called same ticks = record {
  same = record {
    table = same.table ∙ called.same.table;
    sizes = same.sizes ∙ called.same.sizes;
    number = same.number ∙ called.same.number;
  };
  is_of = record { table = same.table ∙ called.is_of.table; sizes = same.sizes ∙ called.is_of.sizes };
  quantum = let q = ap (λ (s : Sizes). s.quantum) same.sizes in let old = called.quantum in omega arith;
  ticks = omega (arith, called.ticks);
}

-- a block that is held stays held, whatever an allocate answers, and one that is got is held
pub still_held : (by : ℕ) (answer : Answer) (old new : Passed) (block : ℕ) → Entered (entry_of by answer) old new → Contains old.held block
    → Contains new.held block
still_held by (Got got) old new block entered there =
    subst (λ blocks. Contains blocks block) (sym entered.held) (contains_tail block got old.held there)
still_held by Dry old new block entered there = subst (λ blocks. Contains blocks block) (sym entered.held) there

-- the block that was got is held
pub got_is_held : (by block number : ℕ) (got : Option ℕ) (old new : Passed) → Entered (entry.Got by block) old new → number ≡ block
    → got ≡ Some number → IfSome got (λ b. Contains new.held b)
got_is_held by block number got old new entered is e =
    let held = subst (λ (blocks : List ℕ). Contains blocks block) (sym entered.held) (contains_head block old.held) in
    rw e (subst (Contains new.held) (sym is) held)

-- the first so many blocks are held, and one more
pub one_more_held : (count : ℕ) (old new : List ℕ) → ((block : ℕ) → block < count → Contains old block)
    → ((block : ℕ) → Contains old block → Contains new block) → Contains new count
    → (block : ℕ) → block < count + 1 → Contains new block
one_more_held count old new before stays last block low = elim (cases_eq block count) [
  | inl is ↦ subst (Contains new) (sym is) last
  | inr ne ↦ stays block (before block (omega arith))
]

-- passes at the opening of which the first has made calls are all passes
pub first_called_all : (pool : Pooled) (passes : List Passed) (old new : Passed) → AreOpenedPasses pool passes → 0 < length passes
    → old ≡ get_or passes 0 old → SamePass old new → AreAllPasses pool (set passes 0 new)
first_called_all pool passes old new opened within first same =
    let here = slice_get-get_or passes 0 old within ∙ ap (λ (pass : Passed). Some pass) (sym first) in
    ordered_are_all pool (set passes 0 new) (calls_keep_order pool passes 0 old new (opened_are_in_order pool passes opened) here same)

-- calls one after another leave which pass it is
pub same_again : (a b c : Passed) → SamePass a b → SamePass b c → SamePass a c
same_again a b c first second = record {
  table = second.table ∙ first.table;
  sizes = second.sizes ∙ first.sizes;
  number = second.number ∙ first.number;
}
