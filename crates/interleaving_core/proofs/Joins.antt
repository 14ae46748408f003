-- what the parts of the invariant give each other for the step of a transfer
use Rattle.std.proofs.Common.{◌≡◌, ◌≢◌, ℕ, ◌<◌, ◌≤◌, Bool, true, false, List, refl, inl, inr, arith}
use Rattle.std.proofs.Math.Path.{fun_ext}
use Rattle.std.proofs.lemmas.Bool.{cases_eq}
use Rattle.word_layout.specs.Sizes.{Sizes, IsShape, limits_of}
use Rattle.word_layout.specs.Packing.{value_of, reply_of}
use Rattle.word_layout.specs.declared.announced.Wish.{Wish}
use Rattle.word_layout.specs.declared.announced.Wish.TheVariants.{Take, Give}
use Rattle.word_layout.specs.declared.reply.Reply.{Reply}
use Rattle.word_layout.specs.declared.reply.Reply.TheVariants.{Nothing, Took, Gave}
use Rattle.word_layout.specs.declared.name.WordName.TheVariants.{State}
use Rattle.pool_model.specs.declared.entry.Entry.{Entry}
use Rattle.pool_model.specs.History.{allowance}
use Rattle.transfer_schedule.specs.Numbers.{withheld}
use Rattle.transfer_machine.specs.Machine.{action_of}
use Rattle.transfer_machine.specs.Tries.{is_take}
use Rattle.transfer_machine.specs.Words.{name_of}
use Rattle.transfer_machine.specs.declared.stage.NextStep.TheVariants.{Try}
use Rattle.transfer_machine.specs.declared.stage.TryStep.TheVariants.{ExchangeState}
use Rattle.transfer_invariant.specs.Memory.{Words, Views, state_tag}
use Rattle.transfer_invariant.proofs.Keeps.{row_fits}
use Rattle.stack_invariant.specs.Stack.{Supplied}
use Rattle.stack_invariant.proofs.Follows.{installed_next, replies_answer, each_process}
use Rattle.pool_invariant.specs.Kept.{Answers, GivenToPool}
use Rattle.batch_invariant.specs.Batches.{ProcessViews}
use Rattle.batch_invariant.specs.Premises.{InStep, InstallsNext}
use Rattle.batch_invariant.proofs.Steps.{ends_answer}
use Rattle.chain_invariant.proofs.Gives.{gives_are_blocks, drafts_have_room}
use Rattle.history_invariant.specs.Ledger.{Ledgers}
use Rattle.history_invariant.specs.Steps.{with_ledger}
use Rattle.history_invariant.proofs.Replacing.{replaced_with}
use Rattle.call_invariant.specs.InCalls.{Scheduled}
use Rattle.call_invariant.specs.Uses.{PoolKeeps}
use Rattle.call_invariant.proofs.Standing.{shape_fits}
use Rattle.call_invariant.proofs.Uses.{keeps_pool, withholds_few}
use Rattle.interleaving_core.specs.Invariant.{Ghosts, Holds, held_in}

-- the views of the transfers
abbrev pub transfers : ProcessViews → Views
transfers views = λ i. (views i).transfer

-- the account of each ledger is one of the schedule
pub scheduled : (sizes : Sizes) (words : Words) (views : ProcessViews) (history : List Entry) (ghosts : Ghosts) (i : ℕ) → IsShape sizes
    → i < sizes.processes → Holds sizes words views history ghosts → Scheduled sizes (ghosts.ledgers i).account
scheduled sizes words views history ghosts i shape li h = record { fit = shape_fits sizes shape; reached = (h.entries.each i li).reached }

-- the ledgers with one that is there already
pub same_ledgers : (i : ℕ) (ledgers : Ledgers) → with_ledger i (ledgers i) ledgers ≡ ledgers
same_ledgers i ledgers = fun_ext (λ o. elim (cases_eq o i) [
  | inl e ↦ rw e (replaced_with i (ledgers i) ledgers).here
  | inr ne ↦ (replaced_with i (ledgers i) ledgers).elsewhere o ne
])

-- what each process keeps, in whichever way it uses its pool
pub keeps : (sizes : Sizes) (words : Words) (views : ProcessViews) (history : List Entry) (ghosts : Ghosts) (i : ℕ) → IsShape sizes
    → i < sizes.processes → Holds sizes words views history ghosts → PoolKeeps sizes (views i)
keeps sizes words views history ghosts i shape li h =
    keeps_pool sizes i (views i) (ghosts.ledgers i) (views i).calls.way (h.pools i li)
    (scheduled sizes words views history ghosts i shape li h)

-- and that it withholds at most its allowance
pub withholds_few_at : (sizes : Sizes) (words : Words) (views : ProcessViews) (history : List Entry) (ghosts : Ghosts) (i : ℕ)
    → IsShape sizes → i < sizes.processes → Holds sizes words views history ghosts
    → withheld (views i).pool.plan ≤ allowance (limits_of sizes) history i
withholds_few_at sizes words views history ghosts i shape li h =
    withholds_few sizes i (views i) (ghosts.ledgers i) (views i).calls.way (h.pools i li)
    (scheduled sizes words views history ghosts i shape li h)

-- a step of a process is in step with the present state
pub in_step : (sizes : Sizes) (words : Words) (views : ProcessViews) (history : List Entry) (ghosts : Ghosts) (i : ℕ) → i < sizes.processes
    → Holds sizes words views history ghosts
    → InStep (ghosts.states (state_tag words)) i (views i).transfer (words (name_of (action_of sizes (views i).transfer)))
in_step sizes words views history ghosts i li h =
    record {
      calm = (each_process sizes words (transfers views) ghosts.states i li h.stack).counts.idle;
      reply = λ e. rw e (replies_answer sizes words (transfers views) ghosts.states i li h.stack e).reply;
      applied = λ e. (replies_answer sizes words (transfers views) ghosts.states i li h.stack e).applied;
    }

-- a view that installs a state installs the next one
pub installs_next : (sizes : Sizes) (words : Words) (views : ProcessViews) (history : List Entry) (ghosts : Ghosts) (i : ℕ) (second : Bool)
    → IsShape sizes → i < sizes.processes → Holds sizes words views history ghosts
    → (views i).transfer.next ≡ Try second ExchangeState → words State ≡ (views i).transfer.loaded.state
    → InstallsNext sizes (ghosts.states (state_tag words)) views (views i).transfer
installs_next sizes words views history ghosts i second shape li h e hit =
    let gives = installed_next sizes words (transfers views) ghosts.states i second shape li h.stack e hit in
    record {
      row = row_fits sizes words i (views i).transfer shape.few_processes li (h.stack.transfers.records.own i li);
      present = λ o lo. record {
        announced = λ p. (gives.pending o lo p).announced;
        word = λ p. (gives.pending o lo p).word;
        next = λ p. (gives.pending o lo p).next;
      };
      drafted = record { height = gives.next.height; content = gives.next.content; reply = gives.next.reply; applied = gives.next.applied };
    }

-- what the pools and the chains give for the step of a view
pub supplied : (sizes : Sizes) (words : Words) (views : ProcessViews) (history : List Entry) (ghosts : Ghosts) (i : ℕ) → IsShape sizes
    → i < sizes.processes → Holds sizes words views history ghosts → Supplied sizes words ghosts.states (views i).transfer
supplied sizes words views history ghosts i shape li h =
    let s = ghosts.states (state_tag words) in
    let (begun, pending) = gives_are_blocks sizes words s views (held_in ghosts.ledgers) i shape h.chains li in
    record {
      age = λ e. (keeps sizes words views history ghosts i shape li h).runs.age.below (rw e refl);
      wish = begun;
      room =
          λ second e hit. (drafts_have_room sizes words s views (held_in ghosts.ledgers) (views i).transfer shape h.chains
          (installs_next sizes words views history ghosts i second shape li h e hit)).within;
    }

-- the reply that ends a transfer answers its wish
answers_wish : (wish : Wish) (reply : Reply) → (is_take wish ≡ false → reply ≡ Gave) → (is_take wish ≡ true → reply ≢ Gave)
    → Answers wish reply
answers_wish Take Nothing gave took = tt
answers_wish Take (Took head) gave took = tt
answers_wish Take Gave gave took = took refl refl
answers_wish (Give head) Nothing gave took = let e = gave refl in grind arith
answers_wish (Give head) (Took batch) gave took = let e = gave refl in grind arith
answers_wish (Give head) Gave gave took = tt

-- what the other parts give the pool of a view
pub given : (sizes : Sizes) (words : Words) (views : ProcessViews) (history : List Entry) (ghosts : Ghosts) (i : ℕ) → i < sizes.processes
    → Holds sizes words views history ghosts → GivenToPool sizes (views i).transfer (words (name_of (action_of sizes (views i).transfer)))
given sizes words views history ghosts i li h =
    let word = words (name_of (action_of sizes (views i).transfer)) in
    let step = in_step sizes words views history ghosts i li h in
    record {
      few = (each_process sizes words (transfers views) ghosts.states i li h.stack).overlay;
      answers =
          λ e. let (gave, took) = ends_answer (ghosts.states (state_tag words)) i (views i).transfer word (h.chains.hold.replies i li) step
          e in answers_wish (views i).transfer.wish (reply_of (value_of word)) gave took;
    }
