-- what the steps of a process in its calls make of its ledger
use Rattle.std.specs.Prelude.{ℕ, Bool, true, false}
use Rattle.word_layout.specs.Packing.{value_of, reply_of}
use Rattle.word_layout.specs.declared.reply.Reply.{Reply}
use Rattle.word_layout.specs.declared.reply.Reply.TheVariants.{Nothing, Took, Gave}
use Rattle.transfer_schedule.specs.Numbers.{is_idle, after_choice}
use Rattle.transfer_schedule.specs.Account.{Account, Moving, Own, Seeking, after_seek}
use Rattle.pool_machine.specs.declared.call.Call.{Call}
use Rattle.pool_machine.specs.declared.call.Call.TheVariants.{Allocate, Free, Read, Write, Search}
use Rattle.transfer_machine.specs.declared.stage.NextStep.{NextStep}
use Rattle.transfer_machine.specs.declared.stage.NextStep.TheVariants.{Rest, Announce, Try, LoadFinalState, LoadReply}
use Rattle.pool_machine.specs.declared.view.ProcessView.{ProcessView}
use Rattle.history_invariant.specs.Ledger.{Ledger}
use Rattle.history_invariant.specs.Steps.{stepped, announced, ended}

-- the account once an allocate or a free is begun, by whether nothing was pending before, and whether nothing is pending in it
abbrev pub account_begun_by : Bool → Bool → Account → Account
account_begun_by true true a = record a { plan = after_choice a.plan; phase = Own }
account_begun_by true false a = record a { plan = after_choice a.plan; phase = Moving 0; begun = a.entries }
account_begun_by false true a = record a { plan = after_choice a.plan; phase = Own }
account_begun_by false false a = record a { plan = after_choice a.plan; phase = Moving 0 }

-- the account once an allocate or a free is begun
abbrev pub account_begun : Account → Account
account_begun a = account_begun_by (is_idle a.plan.pending) (is_idle (after_choice a.plan).pending) a

-- and once a search is begun, by whether nothing was pending before
abbrev pub account_searching : Bool → Account → Account
account_searching true a = after_seek a
account_searching false a = record a { phase = Seeking false }

-- the ledger once a search has chosen
abbrev pub ledger_chosen : Ledger → Ledger
ledger_chosen ledger = record ledger { account = after_seek ledger.account }

-- the ledger once a call is begun
abbrev pub ledger_begun : Call → Ledger → Ledger
ledger_begun Allocate ledger = record ledger { account = account_begun ledger.account }
ledger_begun (Free block) ledger = record ledger { account = account_begun ledger.account }
ledger_begun (Read block index) ledger = ledger
ledger_begun (Write block index value) ledger = ledger
ledger_begun Search ledger = record ledger { account = account_searching (is_idle ledger.account.plan.pending) ledger.account }

-- whether a transfer that ends with this reply is one that found a batch, or gave one
abbrev pub found_by : Reply → Bool
found_by Nothing = false
found_by (Took head) = true
found_by Gave = true

-- the ledger after a step of the transfer that isn't its first or last
abbrev pub ledger_stepped : Ledger → Ledger
ledger_stepped ledger = record ledger { account = stepped ledger.account }

-- the ledger after a step of the transfer met this word
abbrev pub ledger_moved_at : ℕ → NextStep → Ledger → Ledger
ledger_moved_at word Rest ledger = ledger
ledger_moved_at word Announce ledger = announced ledger
ledger_moved_at word (Try second step) ledger = ledger_stepped ledger
ledger_moved_at word LoadFinalState ledger = ledger_stepped ledger
ledger_moved_at word LoadReply ledger = ended (found_by (reply_of (value_of word))) ledger

-- the ledger after the next step of the transfer met this word
abbrev pub ledger_moved : ℕ → ProcessView → Ledger → Ledger
ledger_moved word v ledger = ledger_moved_at word v.transfer.next ledger
