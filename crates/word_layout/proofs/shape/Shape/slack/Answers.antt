use Rattle.std.proofs.Common.{◌≡◌, ℕ, ◌*◌, ◌≤◌, List}
use Rattle.pool_model.specs.declared.entry.Entry.{Entry}
use Rattle.pool_model.specs.History.{slack}
use Rattle.pool_model.proofs.Histories.{slack_at_most}
use Rattle.word_layout.specs.Sizes.{Sizes, limits_of}
use Rattle.word_layout.proofs.shape.Shape.slack.Goals as goal

-- the slack of the same numbers
same_slack : (s t : Sizes) (history : List Entry) (place : ℕ) → s ≡ t → slack (limits_of t) history place ≤ 5 * s.processes * s.length
same_slack s t history place e = rw (← e) (slack_at_most (limits_of s) history place)

pub returns-clause-greatest : goal.returns-clause-greatest
returns-clause-greatest c history place = same_slack _ c.args.self.now history place c.self.view_is
