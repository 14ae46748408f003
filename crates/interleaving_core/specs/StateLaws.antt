-- what follows of the states of the stack, of takes that found nothing, and of what views loaded, wherever the invariant is met
use Rattle.std.specs.Prelude.{◌≡◌, ◌↔◌, ℕ, ◌+◌, ◌<◌, ◌≤◌, true, false, List}
use Rattle.word_layout.specs.Sizes.{Sizes, blocks, transfer_bound, limits_of}
use Rattle.word_layout.specs.Names.{word_at}
use Rattle.word_layout.specs.Packing.{reply_of}
use Rattle.word_layout.specs.declared.reply.Reply.{Reply}
use Rattle.word_layout.specs.declared.reply.Reply.TheVariants.{Nothing}
use Rattle.pool_model.specs.declared.entry.Entry.{Entry}
use Rattle.transfer_schedule.specs.Numbers as schedule
use Rattle.transfer_schedule.specs.declared.own_step.Source.TheVariants as source
use Rattle.transfer_machine.specs.Tries.{is_take}
use Rattle.transfer_machine.specs.declared.transfer.TransferView.{TransferView}
use Rattle.pool_machine.specs.declared.view.ProcessView.{ProcessView}
use Rattle.transfer_invariant.specs.Memory.{States, state_tag}
use Rattle.transfer_invariant.specs.Progress.{has_announced, has_tried}
use Rattle.stack_invariant.specs.Emptied.{MetNothing}
use Rattle.stack_invariant.specs.Following.{StatesFollow}
use Rattle.stack_invariant.specs.Loads.{LoadsFit}
use Rattle.stack_invariant.specs.Shown.{TableShows}
use Rattle.history_invariant.specs.Fits.{HadFewSince, LedgerFits}
use Rattle.history_invariant.specs.Ledger.{Ledger}
use Rattle.call_invariant.specs.Uses.{UsesPool}
use Rattle.interleaving_core.specs.InvariantLaws.{WhereverMet}
use Rattle.interleaving_core.specs.Kept.{reply_value_at, pends_at}

-- the number of the present state of a table
abbrev pub present_tag : Sizes → List ℕ → ℕ
present_tag sizes table = state_tag (word_at sizes table)

-- the stack has had these states: they follow one another, the table shows the last one, and all their heads are blocks
pub record HasStates (sizes : Sizes) (table : List ℕ) (states : States) : Type 0 where
  pub follow : StatesFollow sizes (word_at sizes table) states
  pub shows : TableShows sizes table (states (present_tag sizes table))
  pub heads : (m place : ℕ) → 1 ≤ m → m ≤ present_tag sizes table → place < (states m).height → (states m).content place < blocks sizes

-- a state that a pending transfer of a process installed has applied it
abbrev pub InstalledHasApplied : States → ℕ → TransferView → Type 0
InstalledHasApplied states process v = has_tried v.next ≡ true → v.first_loaded < v.installed → (states v.installed).applied process ≡ v.age

-- there are such states
abbrev pub StatesFollowOne : Type 0
StatesFollowOne = WhereverMet (λ sizes words views history.
    (states : States) × HasStates sizes words states
    × ((i : ℕ) → i < sizes.processes → InstalledHasApplied states i (views i).transfer))

-- the announced transfer of a process is applied with this reply, as the words say
pub record IsAnswered (sizes : Sizes) (table : List ℕ) (process : ℕ) (v : TransferView) (reply : Reply) : Type 0 where
  pub announced : has_announced v.next ≡ true
  pub applied : pends_at sizes table process ≡ false
  pub said : reply_of (reply_value_at sizes table process) ≡ reply

-- a transfer is applied with nothing only where it is a take, which an exchange applied to an empty content
abbrev pub EmptyTakesMetNothing : Type 0
EmptyTakesMetNothing = WhereverMet (λ sizes words views history.
    (i : ℕ) → i < sizes.processes → IsAnswered sizes words i (views i).transfer Nothing
    → (states : States) × HasStates sizes words states × MetNothing sizes (word_at sizes words) states i (views i).transfer)

-- of each process there is a ledger that fits the history, with few unheld blocks at a place that isn't before the kept one of a take:
-- of the pending one, where it is applied with nothing, and of the last ended one, where the plan says dry
pub record HadFewMoments (sizes : Sizes) (table : List ℕ) (history : List Entry) (process : ℕ) (v : ProcessView) : Type 0 where
  pub ledger : Ledger
  pub fits : LedgerFits (limits_of sizes) (transfer_bound sizes) sizes.quantum history process ledger
  pub uses : UsesPool sizes process v ledger
  pub pending : is_take v.transfer.wish ≡ true → IsAnswered sizes table process v.transfer Nothing
      → HadFewSince (limits_of sizes) history ledger.begun_place
  pub dry : v.pool.plan.dry ≡ true → HadFewSince (limits_of sizes) history ledger.ended_place

-- so it is, whichever way the process uses its pool
abbrev pub EmptyTakesHadFew : Type 0
EmptyTakesHadFew = WhereverMet (λ sizes words views history. (i : ℕ) → i < sizes.processes → HadFewMoments sizes words history i (views i))

-- once its two tries are over, a transfer is applied
abbrev pub TriesApply : Type 0
TriesApply = WhereverMet (λ sizes words views history.
    (i : ℕ) → i < sizes.processes → has_tried (views i).transfer.next ≡ true → pends_at sizes words i ≡ false)

-- where both failed, the state's number is two above the first loaded one at least
abbrev pub FailedTriesMoveState : Type 0
FailedTriesMoveState = WhereverMet (λ sizes words views history.
    (i : ℕ) → i < sizes.processes → has_tried (views i).transfer.next ≡ true
    → (views i).transfer.installed ≤ (views i).transfer.first_loaded
    → (views i).transfer.first_loaded + 2 ≤ present_tag sizes words)

-- what a view loaded is in range: numbers of announcements, and heads in slots
abbrev pub LoadsAreInRange : Type 0
LoadsAreInRange = WhereverMet (λ sizes words views history. (i : ℕ) → i < sizes.processes → LoadsFit sizes (views i).transfer)

-- the last answer of a process that has announced no transfer stays its reply in the current record
abbrev pub AnswersStay : Type 0
AnswersStay = WhereverMet (λ sizes words views history.
    (i : ℕ) → i < sizes.processes → has_announced (views i).transfer.next ≡ false
    → (views i).transfer.answer ≡ reply_of (reply_value_at sizes words i))

-- an allocate finds no block exactly where its process keeps none: while a give is pending it has another one
abbrev pub NoneWhereNoneIsKept : Type 0
NoneWhereNoneIsKept = WhereverMet (λ sizes words views history.
    (i : ℕ) → i < sizes.processes
    → (schedule.source_of (views i).pool.plan ≡ source.Nothing) ↔ (schedule.kept (views i).pool.plan ≡ 0))
