-- the invariant of the machine: its parts, gathered
use Rattle.std.specs.Prelude.{◌≡◌, ℕ, ◌<◌, ◌==◌, Bool, true, if◌then◌else◌, Option, Some, List, Contains}
use Rattle.word_layout.specs.Sizes.{Sizes, transfer_bound, limits_of}
use Rattle.word_layout.specs.Names.{word_at}
use Rattle.word_layout.specs.Packing.{reply_of}
use Rattle.word_layout.specs.declared.name.WordName.TheVariants.{Data}
use Rattle.word_layout.specs.declared.reply.Reply.TheVariants.{Nothing}
use Rattle.pool_model.specs.declared.entry.Entry.{Entry}
use Rattle.pool_model.specs.History.{own, grip}
use Rattle.transfer_machine.specs.States.{StackState}
use Rattle.transfer_machine.specs.Tries.{is_take}
use Rattle.pool_machine.specs.declared.call.Call.{Call}
use Rattle.pool_machine.specs.declared.call.Call.TheVariants.{Allocate, Free, Read, Write, Search}
use Rattle.transfer_machine.specs.declared.transfer.TransferView.{TransferView}
use Rattle.pool_machine.specs.declared.view.ProcessView.{ProcessView}
use Rattle.transfer_invariant.specs.Memory.{Words, States, state_tag}
use Rattle.transfer_invariant.specs.Progress.{has_announced}
use Rattle.stack_invariant.specs.Stack.{StackHolds}
use Rattle.batch_invariant.specs.Batches.{ProcessViews}
use Rattle.chain_invariant.specs.Chains.{Chains}
use Rattle.chain_invariant.specs.Calls.{NamesHeld}
use Rattle.call_invariant.specs.Uses.{UsesPool}
use Rattle.history_invariant.specs.Ledger.{Ledger, Ledgers}
use Rattle.history_invariant.specs.Holds.{HistoryHolds}
use Rattle.interleaving_core.specs.EmptyTakes.{TakesHadFew}

-- the values of the data words that a process knows, by block and index
abbrev pub Known : Type 0
Known = ℕ → ℕ → Option ℕ

-- what proofs alone know: the states of the stack so far, each process's ledger, and the data words that each process knows
pub record Ghosts : Type 0 where
  pub states : States
  pub ledgers : Ledgers
  pub known : ℕ → Known

-- the blocks that a process holds: those of its entries
abbrev pub held_in : Ledgers → ℕ → List ℕ
held_in ledgers i = grip (ledgers i).entries

-- Empty takes, of one process: where its pending take is applied and found nothing, its ledger says so
abbrev pub KnowsOfNothing : StackState → ℕ → TransferView → Ledger → Type 0
KnowsOfNothing s i v ledger =
    has_announced v.next ≡ true
    → s.applied i ≡ v.age
    → is_take v.wish ≡ true
    → reply_of (s.reply i) ≡ Nothing
    → ledger.found_nothing ≡ true

-- the block that a call names is held
abbrev pub BlockIsHeld : List ℕ → Call → Type 0
BlockIsHeld held Allocate = Unit {0}
BlockIsHeld held (Free block) = Contains held block
BlockIsHeld held (Read block index) = Contains held block
BlockIsHeld held (Write block index value) = Contains held block
BlockIsHeld held Search = Unit {0}

-- Data, of one process: each data word that it knows is one of a block that it holds, and holds that value
pub record DataHolds (sizes : Sizes) (words : Words) (held : List ℕ) (known : Known) : Type 0 where
  pub holds : (block index value : ℕ) → known block index ≡ Some value → Contains held block
  pub within : (block index value : ℕ) → known block index ≡ Some value → index < sizes.words
  pub value : (block index value : ℕ) → known block index ≡ Some value → words (Data block index) ≡ value

-- the words and the views of all processes meet the invariant, with this history and what proofs know
pub record Holds (sizes : Sizes) (words : Words) (views : ProcessViews) (history : List Entry) (ghosts : Ghosts) : Type 0 where
  pub stack : StackHolds sizes words (λ i. (views i).transfer) ghosts.states
  pub chains : Chains sizes words (ghosts.states (state_tag words)) views (held_in ghosts.ledgers)
  pub pools : (i : ℕ) → i < sizes.processes → UsesPool sizes i (views i) (ghosts.ledgers i)
  pub entries : HistoryHolds (limits_of sizes) (transfer_bound sizes) sizes.quantum history ghosts.ledgers
  pub empties : (i : ℕ) → i < sizes.processes → KnowsOfNothing (ghosts.states (state_tag words)) i (views i).transfer (ghosts.ledgers i)
  pub few : (i : ℕ) → i < sizes.processes → TakesHadFew (limits_of sizes) history (ghosts.ledgers i) (views i).pool.plan
  pub names : (i : ℕ) → i < sizes.processes → NamesHeld sizes (held_in ghosts.ledgers i) (views i).calls.call
  pub data_words : (i : ℕ) → i < sizes.processes → DataHolds sizes words (held_in ghosts.ledgers i) (ghosts.known i)

-- the words by their names and the views meet the invariant, with this history
abbrev pub Meets : Sizes → Words → ProcessViews → List Entry → Type 0
Meets sizes words views history = (ghosts : Ghosts) × Holds sizes words views history ghosts

-- the words of a table do
abbrev pub MeetsInvariant : Sizes → List ℕ → ProcessViews → List Entry → Type 0
MeetsInvariant sizes words views history = Meets sizes (word_at sizes words) views history

-- the views of all processes, this one's among them
abbrev pub with_view : ProcessView → ProcessViews → ProcessViews
with_view v others = λ i. if i == v.transfer.number then v else others i

-- the view is that of a process, and there are views of the other ones and a history with which the words meet the invariant
pub record IsAmong (sizes : Sizes) (words : List ℕ) (v : ProcessView) : Type 0 where
  pub low : v.transfer.number < sizes.processes
  pub others : ProcessViews
  pub past : List Entry
  pub meets : MeetsInvariant sizes words (with_view v others) past

-- the same, and the process holds the block that a call names, if that is said
pub record IsAmongHolding (sizes : Sizes) (words : List ℕ) (v : ProcessView) (holds : Bool) (call : Call) : Type 0 where
  pub among : IsAmong sizes words v
  pub held : holds ≡ true → BlockIsHeld (grip (own among.past v.transfer.number)) call
