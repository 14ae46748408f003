-- the data words that a process knows, as its steps tell them
use Rattle.std.specs.Prelude.{ℕ, ◌==◌, ◌&&◌, if◌then◌else◌, Option, None, Some}
use Rattle.pool_machine.specs.declared.call.Call.{Call}
use Rattle.pool_machine.specs.declared.call.Call.TheVariants.{Allocate, Free, Read, Write, Search}
use Rattle.pool_machine.specs.declared.call.CallStage.{CallStage}
use Rattle.pool_machine.specs.declared.call.CallStage.TheVariants.{Between, Choosing, Moving, Own}
use Rattle.pool_machine.specs.declared.view.ProcessView.{ProcessView}
use Rattle.interleaving_core.specs.Invariant.{Known}
use Rattle.interleaving_core.specs.Steps.{is_alone}

-- a data word is known to have this value
abbrev pub with_word : ℕ → ℕ → ℕ → Known → Known
with_word block index value known = λ b k. if b == block && (k == index) then Some value else known b k

-- nothing is known of a block
abbrev pub forgets : ℕ → Known → Known
forgets block known = λ b k. if b == block then None else known b k

-- the data words that a process knows after the own step of this call, which met this word
abbrev pub known_by_call : ℕ → Option Call → Known → Known
known_by_call word None known = known
known_by_call word (Some Allocate) known = known
known_by_call word (Some (Free block)) known = forgets block known
known_by_call word (Some (Read block index)) known = with_word block index word known
known_by_call word (Some (Write block index value)) known = with_word block index value known
known_by_call word (Some Search) known = known

-- the same, where it doesn't note a word that it read
abbrev pub changed_by_call : Option Call → Known → Known
changed_by_call None known = known
changed_by_call (Some Allocate) known = known
changed_by_call (Some (Free block)) known = forgets block known
changed_by_call (Some (Read block index)) known = known
changed_by_call (Some (Write block index value)) known = with_word block index value known
changed_by_call (Some Search) known = known

-- what is known after a step at that stage of a call, where its own step makes this of it
abbrev pub known_at_stage : Known → CallStage → Known → Known
known_at_stage told Between known = known
known_at_stage told Choosing known = known
known_at_stage told Moving known = known
known_at_stage told Own known = told

-- the data words that a process knows after its next step, which met this word
abbrev pub known_after : ProcessView → ℕ → Known → Known
known_after v word known =
    if is_alone v.calls.way then known else known_at_stage (known_by_call word v.calls.call known) v.calls.stage known

-- the same, where it doesn't note a word that it read
abbrev pub changed_after : ProcessView → Known → Known
changed_after v known =
    if is_alone v.calls.way then known else known_at_stage (changed_by_call v.calls.call known) v.calls.stage known
