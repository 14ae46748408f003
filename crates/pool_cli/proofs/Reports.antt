-- The lines of a report, and the replies of a store, one file after the other.
use Rattle.std.proofs.Common.{ℕ, List, refl}
use Rattle.std.specs.Prelude.{decimal}
use Rattle.store_script.specs.Text.{replies_text}
use Rattle.trace_player.specs.declared.tally.Tally.{Tally}
use Rattle.trace_player.specs.Report.{columns_of, line_text, lines_from}
use Rattle.pool_cli.specs.Replies.{replies_from}
use Rattle.pool_cli.proofs.Texts.{IsOneByOne}

-- the line of a file
abbrev pub line_at : ℕ → Tally → List ℕ
line_at number tally = line_text (decimal number) (columns_of tally)

pub lines_one_by_one : IsOneByOne line_at lines_from
lines_one_by_one = record { none = λ _. refl; next = λ _ _ _. refl }

pub replies_one_by_one : IsOneByOne replies_text replies_from
replies_one_by_one = record { none = λ _. refl; next = λ _ _ _. refl }
