-- How far a script was played over a plain pool, one step on.
use Rattle.std.proofs.Common.{◌≡◌, ℕ, ◌+◌, ◌-◌, ◌<◌, true, false, Option, Some, None, List, [], ◌∷◌}
use Rattle.std.proofs.Common.{◌++◌, length, set, replicate, max, refl, sym, subst, inl, inr, arith}
use Rattle.std.specs.List.{Contains}
use Rattle.pool_model.specs.declared.entry.Entry.{Entry}
use Rattle.pool_model.specs.declared.entry.Entry.TheVariants.{Got, Back, Dry}
use Rattle.pool_model.specs.History.{held}
use Rattle.pool_model.specs.Plain.{Plain, IsFull, Gives, Takes}
use Rattle.pool_model.proofs.Histories.{held_more}
use Rattle.pool_model.proofs.Members.{contains_head, contains_tail, without_contains}
use Rattle.mtrace_reader.specs.declared.steps.Step.{Step}
use Rattle.mtrace_reader.specs.declared.steps.Step.TheVariants.{Place, Leave}
use Rattle.mtrace_reader.specs.declared.steps.Script.{Script}
use Rattle.mtrace_reader.specs.Script.{placed_slots}
use Rattle.trace_player.specs.declared.tally.Tally.{Tally}
use Rattle.trace_player.proofs.Leading.{leads_none, leads_got, leads_dry, leads_back}
use Rattle.trace_player.proofs.Plays.{given_at, plays_none, plays_got, plays_dry, plays_back, plays_passed, was_refused}
use Rattle.trace_player.proofs.Sparing.{spared_none, spared_got, spared_dry, spared_back, spared_passed}
use Rattle.trace_player.specs.Playing.{block_in, tally_after, HeldIn, IsPlayed}

-- ---- which blocks are held, one call on

-- a block that the pool gives is held besides those that were
held_in_got : (i : ℕ) (entries : List Entry) (pool new : Plain) (block other : ℕ) → Gives pool new block → HeldIn entries pool other
    → HeldIn (entries ++ Got i block ∷ []) new other
held_in_got i entries pool new block other gives both = (
  subst (λ (bs : List ℕ). Contains bs other) (sym (held_more entries (Got i block))) (contains_tail other block (held entries) both.0),
  (gives.held other).1 (inl both.1),
)

held_in_given : (i : ℕ) (entries : List Entry) (pool new : Plain) (block : ℕ) → Gives pool new block
    → HeldIn (entries ++ Got i block ∷ []) new block
held_in_given i entries pool new block gives = (
  subst (λ (bs : List ℕ). Contains bs block) (sym (held_more entries (Got i block))) (contains_head block (held entries)),
  (gives.held block).1 (inr refl),
)

held_in_dry : (i : ℕ) (entries : List Entry) (pool : Plain) (other : ℕ) → HeldIn entries pool other
    → HeldIn (entries ++ Dry i ∷ []) pool other
held_in_dry i entries pool other both = (subst (λ (bs : List ℕ). Contains bs other) (sym (held_more entries (Dry i))) both.0, both.1)

held_in_back : (i : ℕ) (entries : List Entry) (pool new : Plain) (block other : ℕ) → Takes pool new block → ¬ (other ≡ block)
    → HeldIn entries pool other
    → HeldIn (entries ++ Back i block ∷ []) new other
held_in_back i entries pool new block other takes differs both = (
  subst (λ (bs : List ℕ). Contains bs other) (sym (held_more entries (Back i block)))
      (without_contains block other (held entries) both.0 differs),
  (takes.held other).1 (both.1, differs),
)

-- ---- one step on

-- before the first step nothing is played, and the pool is as it was
pub played_none : (i : ℕ) (script : Script) (pool : Plain) (n : ℕ)
    → IsPlayed i script [] pool pool (replicate n None) (tally_after script [] [])
played_none i script pool n = record {
  refused = [];
  blocks = [];
  entries = [];
  plays = plays_none i script (HeldIn [] pool) n;
  leads = leads_none i pool;
  spared = spared_none pool;
}

-- a Place that was given a block
pub played_got : (i : ℕ) (script : Script) (done : List Step) (old pool new : Plain) (slots : List (Option ℕ)) (tally later : Tally)
    (slot block : ℕ)
    → slot ≡ length (placed_slots done) → slot < length slots → Gives pool new block
    → later ≡ record tally { left = tally.left + 1; peak = max tally.peak (tally.left + 1) }
    → IsPlayed i script done old pool slots tally → IsPlayed i script (done ++ Place slot ∷ []) old new (set slots slot (Some block)) later
played_got i script done old pool new slots tally later slot block at within gives is p =
    let plays = p.plays in
    record {
      refused = p.refused ++ false ∷ [];
      blocks = p.blocks ++ block ∷ [];
      entries = p.entries ++ Got i block ∷ [];
      plays =
          plays_got i script p.refused p.blocks done p.entries (HeldIn p.entries pool)
          (HeldIn (p.entries ++ Got i block ∷ []) new) slots tally later slot block at within
          (λ both. gives.free both.1) (held_in_given i p.entries pool new block gives)
          (λ other. held_in_got i p.entries pool new block other gives) is plays;
      leads = leads_got i p.entries block old pool new gives p.leads;
      spared =
          spared_got i p.refused p.blocks done p.entries old slot block plays.names (given_at plays slot _ at)
          (omega (arith, plays.counts.counted)) p.spared;
    }

-- a Place that was refused
pub played_dry : (i : ℕ) (script : Script) (done : List Step) (old pool : Plain) (slots : List (Option ℕ)) (tally later : Tally) (slot : ℕ)
    → slot ≡ length (placed_slots done) → IsFull pool → later ≡ record tally { refused = tally.refused + 1 }
    → IsPlayed i script done old pool slots tally → IsPlayed i script (done ++ Place slot ∷ []) old pool slots later
played_dry i script done old pool slots tally later slot at full is p =
    let plays = p.plays in
    record {
      refused = p.refused ++ true ∷ [];
      blocks = p.blocks ++ 0 ∷ [];
      entries = p.entries ++ Dry i ∷ [];
      plays =
          plays_dry i script p.refused p.blocks done p.entries (HeldIn p.entries pool)
          (HeldIn (p.entries ++ Dry i ∷ []) pool) slots tally later slot at
          (held_in_dry i p.entries pool) is plays;
      leads = leads_dry i p.entries old pool full p.leads;
      spared =
          spared_dry i p.refused p.blocks done p.entries old pool slot plays.names (given_at plays slot _ at)
          (omega (arith, plays.counts.counted)) full p.leads p.spared;
    }

-- a Leave of a slot that has a block
pub played_back : (i : ℕ) (script : Script) (done : List Step) (old pool new : Plain) (slots : List (Option ℕ)) (tally later : Tally)
    (slot block : ℕ)
    → Contains done (Place slot) → slot < length slots → block_in slots slot ≡ Some block → Takes pool new block
    → later ≡ record tally { frees = tally.frees + 1; left = tally.left - 1 }
    → IsPlayed i script done old pool slots tally → IsPlayed i script (done ++ Leave slot ∷ []) old new (set slots slot None) later
played_back i script done old pool new slots tally later slot block placed within has takes is p =
    let plays = p.plays in
    let fill = plays.holds.filled slot block has in
    record {
      refused = p.refused;
      blocks = p.blocks;
      entries = p.entries ++ Back i block ∷ [];
      plays =
          plays_back i script p.refused p.blocks done p.entries (HeldIn p.entries pool)
          (HeldIn (p.entries ++ Back i block ∷ []) new) slots tally later slot block placed within has
          (λ other. held_in_back i p.entries pool new block other takes) is plays;
      leads = leads_back i p.entries block old pool new takes fill.held.0 p.leads;
      spared = spared_back i p.refused p.blocks done p.entries old pool slot block plays.names fill.given fill.held.1 p.leads p.spared;
    }

-- a Leave of a slot that has none, since it was refused
pub played_passed : (i : ℕ) (script : Script) (done : List Step) (old pool : Plain) (slots : List (Option ℕ)) (tally : Tally) (slot : ℕ)
    → Contains done (Place slot) → ¬ Contains done (Leave slot) → slot < length slots → block_in slots slot ≡ None
    → IsPlayed i script done old pool slots tally → IsPlayed i script (done ++ Leave slot ∷ []) old pool (set slots slot None) tally
played_passed i script done old pool slots tally slot placed stays within free p =
    let plays = p.plays in
    record {
      refused = p.refused;
      blocks = p.blocks;
      entries = p.entries;
      plays =
          plays_passed i script p.refused p.blocks done p.entries (HeldIn p.entries pool) slots tally slot placed stays within free plays;
      leads = p.leads;
      spared = spared_passed p.refused p.blocks done p.entries old slot plays.names (was_refused plays slot placed stays free) p.spared;
    }
