-- So many blocks that no put is refused, whatever the processes withhold.
use Rattle.std.specs.Prelude.{◌≡◌, ℕ, ◌+◌, ◌<◌, Some, Bool, List, [], length, take, map, fold, max, sum_by, slice_get}
use Rattle.std.specs.List.{range_with_len}
use Rattle.pool_model.specs.declared.entry.Entry.{Entry}
use Rattle.pool_model.specs.Limits.{Limits, greatest_slack}
use Rattle.pool_model.specs.History.{own}
use Rattle.pool_model.specs.Legal.{IsLegal}
use Rattle.store_script.specs.declared.command.Command.{Command}
use Rattle.store_script.specs.declared.command.StoreScript.{StoreScript}
use Rattle.store_script.specs.declared.answered.Answered.{Answered}
use Rattle.store_script.specs.Replies.{answers_to, walked}
use Rattle.store_script.specs.Fit.{IsAnswered}

-- no put of an absent key is refused
abbrev pub no_refusals : List Bool
no_refusals = []

-- how many keys are present after these commands, where no put is refused
abbrev pub present_after : List Command → ℕ
present_after commands = length (walked no_refusals commands).present

-- the most keys that are present after the first so many commands of a script, where no put is refused
abbrev pub peak_without_refusals : StoreScript → ℕ
peak_without_refusals script =
    fold max 0 (map (λ count. present_after (take count script.commands)) (range_with_len 0 (length script.commands + 1)))

-- the sum of these peaks over scripts
abbrev pub peaks_without_refusals : List StoreScript → ℕ
peaks_without_refusals scripts = sum_by peak_without_refusals scripts

-- the answers to scripts where no put is refused: they follow from the scripts alone
abbrev pub answers_without_refusals : List StoreScript → List (List Answered)
answers_without_refusals scripts = map (λ script. answers_to no_refusals script.commands) scripts

-- there are answers to each script: the entries of the process of its place fit it, with refusals that they determine, and give the answers
pub record AreAnswered (history : List Entry) (scripts : List StoreScript) (lists : List (List Answered)) : Type 0 where
  pub one_each : length lists ≡ length scripts
  pub each : (k : ℕ) (script : StoreScript) (answers : List Answered) → slice_get scripts k ≡ Some script
      → slice_get lists k ≡ Some answers → IsAnswered k script (own history k) answers

-- the blocks are more than the processes may withhold and than the keys that are present at most where no put is refused
abbrev pub HasEnough : Limits → List StoreScript → Type 0
HasEnough limits scripts = greatest_slack limits + peaks_without_refusals scripts < limits.blocks

-- then no legal history refuses a put, and the answers follow from the scripts alone
abbrev pub EnoughBlocksRefuseNoPut : Type 0
EnoughBlocksRefuseNoPut = (limits : Limits) (history : List Entry) (scripts : List StoreScript) (lists : List (List Answered))
    → IsLegal limits history → length scripts ≡ limits.processes → AreAnswered history scripts lists
    → HasEnough limits scripts → lists ≡ answers_without_refusals scripts
