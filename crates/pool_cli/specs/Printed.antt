-- What is printed of scripts that were played over a pool of their own.
use Rattle.std.specs.Prelude.{◌≡◌, ℕ, List, Some, Result}
use Rattle.word_layout.specs.Sizes.{Sizes}
use Rattle.block_pool.specs.Closing.{Settlement}
use Rattle.mtrace_reader.specs.declared.steps.Script.{Script}
use Rattle.trace_player.specs.declared.tally.Tally.{Tally}
use Rattle.trace_player.specs.Report.{report}
use Rattle.store_script.specs.declared.command.StoreScript.{StoreScript}
use Rattle.store_script.specs.declared.answered.Answered.{Answered}
use Rattle.pool_runs.specs.Settled.{IsSettledBy}
use Rattle.store_runs.specs.Settled as store
use Rattle.pool_io.specs.declared.files.Failed.{Failed}
use Rattle.pool_io.specs.declared.sink.Sink.{Ghosts}
use Rattle.pool_io.specs.Writes.{Writes}
use Rattle.pool_cli.specs.declared.ending.Worked.{Worked}
use Rattle.file_runs.specs.Ending.{ending_after}
use Rattle.pool_cli.specs.Gates.{Gates}
use Rattle.pool_cli.specs.Replies.{replies}

-- the text is the report of the tallies that this history gives to the scripts, of whose calls the gates were told
abbrev pub IsReportOf : Gates → Sizes → List Script → Settlement → List ℕ → Type 0
IsReportOf gates sizes scripts settled text =
    (tallies : List Tally) × IsSettledBy gates.before gates.now sizes scripts tallies settled × (text ≡ report tallies)

-- the text is the replies that this history gives to the scripts, of whose calls the gates were told
abbrev pub AreRepliesOf : Gates → Sizes → List StoreScript → Settlement → List ℕ → Type 0
AreRepliesOf gates sizes scripts settled text =
    (lists : List (List Answered)) × store.IsSettledBy gates.before gates.now sizes scripts lists settled × (text ≡ replies lists)

-- a pool was closed, and such a text was written, or a part of it where the output failed
pub record HasPrinted {K : Type 0} (sink : Ghosts K) (before after : K) (IsText : Settlement → List ℕ → Type 0) (worked : Worked)
    : Type 0 where
  pub settled : Settlement
  pub is_closed : worked.settled ≡ Some settled
  pub text : List ℕ
  pub is_text : IsText settled text
  pub written : Result (Unit {0}) Failed
  pub writes : Writes sink text before after written
  pub ends : worked.ending ≡ ending_after written
