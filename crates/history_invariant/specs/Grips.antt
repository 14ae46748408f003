-- how the held blocks are shared out among the processes
use Rattle.std.specs.Prelude.{◌≡◌, ℕ, ◌+◌, ◌<◌, ◌≤◌, ◌==◌, List, length, count_by, Contains}
use Rattle.pool_model.specs.Limits.{Limits}
use Rattle.pool_model.specs.declared.entry.Entry.{Entry}
use Rattle.pool_model.specs.History.{held, grip, is_got, is_back}
use Rattle.process_sums.specs.Sums.{total}
use Rattle.history_invariant.specs.Ledger.{Ledgers}

-- how often the block stands in the list
abbrev pub times : ℕ → List ℕ → ℕ
times block blocks = count_by (λ other. other == block) blocks

-- as many blocks were got as were given back or are still held
abbrev pub Balances : List Entry → Type 0
Balances entries = count_by is_got entries ≡ count_by is_back entries + length (grip entries)

-- the held blocks are those of the grips, each once and one of the pool
pub record GripsAreHeld (limits : Limits) (blocks : List ℕ) (grips : ℕ → List ℕ) : Type 0 where
  pub once : (block : ℕ) → times block blocks ≤ 1
  pub parts : (block : ℕ) → times block blocks ≡ total limits.processes (λ i. times block (grips i))
  pub count : length blocks ≡ total limits.processes (λ i. length (grips i))
  pub below : (block : ℕ) → Contains blocks block → block < limits.blocks

-- a process whose grip has the block, and no other's has it
pub record HasOneHolder (processes : ℕ) (grips : ℕ → List ℕ) (block : ℕ) : Type 0 where
  pub process : ℕ
  pub one : process < processes
  pub holds : Contains (grips process) block
  pub only : (other : ℕ) → other < processes → Contains (grips other) block → other ≡ process

-- what the one history says of the held blocks
pub record SharesOut (limits : Limits) (history : List Entry) (ledgers : Ledgers) : Type 0 where
  pub grips : GripsAreHeld limits (held history) (λ i. grip (ledgers i).entries)
  pub holder : (block : ℕ) → Contains (held history) block → HasOneHolder limits.processes (λ i. grip (ledgers i).entries) block
  pub held : (i block : ℕ) → i < limits.processes → Contains (grip (ledgers i).entries) block → Contains (held history) block
  pub balance : (i : ℕ) → i < limits.processes → Balances (ledgers i).entries
