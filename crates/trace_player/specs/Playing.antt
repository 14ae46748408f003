-- A script that is being played.
use Rattle.std.specs.Prelude.{◌≡◌, ℕ, ◌+◌, ◌-◌, ◌^◌, ◌<◌, ◌≤◌, ◌⊎◌, Bool, true, false, Option, Some, None, is_some, List, []}
use Rattle.std.specs.Prelude.{◌∷◌, ◌++◌, length, count_by, flat_map, slice_index, slice_index_or, All, Contains, replicate}
use Rattle.std.specs.List.{range_with_len}
use Rattle.pool_model.specs.declared.entry.Entry.{Entry}
use Rattle.pool_model.specs.Limits.{Limits}
use Rattle.pool_model.specs.History.{own, held}
use Rattle.pool_model.specs.Legal.{IsExact}
use Rattle.pool_model.specs.Plain.{Plain, IsHeld, IsLeftBy}
use Rattle.mtrace_reader.specs.declared.steps.Step.{Step}
use Rattle.mtrace_reader.specs.declared.steps.Step.TheVariants.{Place, Leave}
use Rattle.mtrace_reader.specs.declared.steps.Script.{Script}
use Rattle.mtrace_reader.specs.Script.{placed_slots}
use Rattle.trace_player.specs.declared.tally.Tally.{Tally}
use Rattle.trace_player.specs.Tally.{is_refused, fills, empties, holding, peak_of, no_refusals, tally_of}
use Rattle.trace_player.specs.Fit.{calls_of, IsTallied}

-- the tally of a script after the steps so far
abbrev pub tally_after : Script → List Bool → List Step → Tally
tally_after script refused done = record {
  news = script.news;
  frees = count_by (empties refused) done;
  big = script.big;
  failed = script.failed;
  stray = script.stray;
  twice = script.twice;
  refused = count_by (λ value. value) refused;
  peak = peak_of refused done;
  left = holding refused done;
  cut = script.cut;
}

-- the block in a slot
abbrev pub block_in : List (Option ℕ) → ℕ → Option ℕ
block_in slots slot = slice_index_or slots slot None

-- the slot that a step names
abbrev pub slot_of : Step → ℕ
slot_of (Place slot) = slot
slot_of (Leave slot) = slot

-- a slot's block is the one that it was given, and is held by its process, as `Held` says
pub record IsFilled (refused : List Bool) (blocks : List ℕ) (done : List Step) (Held : ℕ → Type 0) (slot block : ℕ) : Type 0 where
  pub placed : slot < length refused
  pub given : is_refused refused slot ≡ false
  pub block_of : slice_index blocks slot ≡ block
  pub not_left : ¬ Contains done (Leave slot)
  pub held : Held block

-- the entries of process i lead from one pool to another, by a history that refuses only where all blocks are held
pub record Leads (i : ℕ) (entries : List Entry) (old new : Plain) : Type 0 where
  pub blocks : new.blocks ≡ old.blocks
  pub own_only : own entries i ≡ entries
  pub leaves : (past : List Entry) → IsLeftBy past old → IsLeftBy (past ++ entries) new
  pub exact : (limits : Limits) (past : List Entry) → i < limits.processes → limits.blocks ≡ old.blocks → 0 < limits.batch_length
      → own past i ≡ [] → IsLeftBy past old → IsExact limits past → IsExact limits (past ++ entries)

-- the steps place the slots in order, each with its refusal and its block, and leave none but these
pub record NamesSlots (refused : List Bool) (blocks : List ℕ) (done : List Step) : Type 0 where
  pub in_order : placed_slots done ≡ range_with_len 0 (length refused)
  pub below : All (λ step. slot_of step < length refused) done
  pub block_each : length blocks ≡ length refused

-- the slots have the blocks that were given to them, until they are left, and no two have the same
pub record HoldsBlocks (refused : List Bool) (blocks : List ℕ) (done : List Step) (Held : ℕ → Type 0)
    (slots : List (Option ℕ)) : Type 0 where
  pub filled : (slot block : ℕ) → block_in slots slot ≡ Some block → IsFilled refused blocks done Held slot block
  pub empty : (slot : ℕ) → slot < length refused → block_in slots slot ≡ None
      → (is_refused refused slot ≡ true) ⊎ Contains done (Leave slot)
  pub apart : (a b block : ℕ) → block_in slots a ≡ Some block → block_in slots b ≡ Some block → a ≡ b

-- the tally is that of the steps so far, and counts the slots that have a block as left
pub record CountsSteps (script : Script) (refused : List Bool) (done : List Step) (slots : List (Option ℕ)) (tally : Tally) : Type 0 where
  pub counted : count_by (fills refused) done ≡ count_by (empties refused) done + count_by is_some slots
  pub answered : count_by (fills refused) done + count_by (λ value. value) refused ≡ length refused
  pub tallied : tally ≡ tally_after script refused done

-- no more blocks are held than before and by the steps, and nothing was refused where the blocks suffice for those that were held
-- before and for the most that the steps hold without refusals
pub record IsSpared (refused : List Bool) (done : List Step) (entries : List Entry) (old : Plain) : Type 0 where
  pub few : (past : List Entry) → IsLeftBy past old → length (held (past ++ entries)) ≤ length (held past) + holding refused done
  pub enough : (past : List Entry) → IsLeftBy past old → length (held past) + peak_of [] done ≤ old.blocks
      → refused ≡ replicate (length refused) false

-- the entries are the calls of process i for these steps of the script, over whichever pool, with these refusals and blocks; its slots
-- have the blocks that it holds
pub record PlaysSteps (i : ℕ) (script : Script) (refused : List Bool) (blocks : List ℕ) (done : List Step) (entries : List Entry)
    (Held : ℕ → Type 0) (slots : List (Option ℕ)) (tally : Tally) : Type 0 where
  pub names : NamesSlots refused blocks done
  pub made : entries ≡ flat_map (calls_of i refused blocks) done
  pub holds : HoldsBlocks refused blocks done Held slots
  pub counts : CountsSteps script refused done slots tally

-- the entries got the block and did not give it back, and the plain pool has it as held
abbrev pub HeldIn : List Entry → Plain → ℕ → Type 0
HeldIn entries pool block = Contains (held entries) block × IsHeld pool block

-- process i has played these steps of the script, from the plain pool as it was to the pool as it is
pub record IsPlayed (i : ℕ) (script : Script) (done : List Step) (old new : Plain) (slots : List (Option ℕ)) (tally : Tally) : Type 0 where
  pub refused : List Bool
  pub blocks : List ℕ
  pub entries : List Entry
  pub plays : PlaysSteps i script refused blocks done entries (HeldIn entries new) slots tally
  pub leads : Leads i entries old new
  pub spared : IsSpared refused done entries old

-- the step may come after these: a Place is of the next slot, a Leave of one that was placed and not left
abbrev pub MayCome : List Step → Step → Type 0
MayCome done (Place slot) = slot ≡ length (placed_slots done)
MayCome done (Leave slot) = Contains done (Place slot) × ¬ Contains done (Leave slot)

-- some steps of a script were played, and this one may come next
pub record IsNext (i : ℕ) (step : Step) (pool : Plain) (slots : List (Option ℕ)) (tally : Tally) : Type 0 where
  pub script : Script
  pub done : List Step
  pub old : Plain
  pub few : length done < 2 ^ 64 - 1
  pub room : length (placed_slots (done ++ step ∷ [])) ≤ length slots
  pub may_come : MayCome done step
  pub played : IsPlayed i script done old pool slots tally

-- the calls of process i for its whole script: at most its peak of blocks is held besides those before it, and nothing was refused
-- where the blocks suffice for these and for its peak without refusals
pub record IsPlayedWhole (i : ℕ) (script : Script) (old new : Plain) (tally : Tally) : Type 0 where
  pub entries : List Entry
  pub leads : Leads i entries old new
  pub tallied : IsTallied i script entries tally
  pub few : (past : List Entry) → IsLeftBy past old → length (held (past ++ entries)) ≤ length (held past) + tally.peak
  pub enough : (past : List Entry) → IsLeftBy past old → length (held past) + peak_of (no_refusals script) script.steps ≤ old.blocks
      → tally ≡ tally_of script (no_refusals script)
