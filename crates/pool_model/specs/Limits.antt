-- The numbers by which histories are judged: the most unheld blocks at a refusal, and how far back a refusal looks.
use Rattle.std.specs.Prelude.{ℕ, ◌*◌}

-- the numbers of a shape by which a history is judged: processes, blocks in all, blocks in a batch
pub record Limits : Type 0 where
  pub processes : ℕ
  pub blocks : ℕ
  pub batch_length : ℕ

-- the most blocks that may be unheld where an allocate is refused, whatever came before
abbrev pub greatest_slack : Limits → ℕ
greatest_slack limits = 5 * limits.processes * limits.batch_length

-- how many of a caller's last calls a refusal looks back on
abbrev pub window : Limits → ℕ
window limits = 2 * limits.batch_length
