-- The laws hold of the numbers after all calls, which are the plan's at the end of the loop.
use Rattle.std.proofs.Common.{◌≡◌, ◌+◌, ◌<◌, sym, ◌∙◌, ap, subst, arith}
use Rattle.std.proofs.lemmas.Grind.{common_steps}
use Rattle.transfer_schedule.specs.Numbers.{opening, is_idle, stock}
use Rattle.transfer_schedule.specs.Calls.{after_calls}
use Rattle.transfer_schedule.proofs.Calling.{Kept, Rested, opening_rested, calls_rest, place_fits, row_ends, moment_table, moment_rests}
use Rattle.transfer_schedule.proofs.Calling.{moment_withholds, call_nothing}
use Rattle.transfer_schedule.proofs.ShortTakes.{calls_short}
use Rattle.transfer_schedule.proofs.plan.Plan.after.Goals as goal

pub make_call-requires : goal.make_call-requires
make_call-requires c =
    place_fits c.args.calls.now _ c.loop-call.plan c.loop-call.call-index _ c.requires.fit c.loop-call-test.true c.loop-call.invariant

rested : (c : goal.After-loop-call) → Rested c.args.length 0 0 (opening c.args.length c.args.bound c.args.quantum)
rested c = opening_rested c.args.length c.args.bound c.args.quantum (record {
  long = c.requires.long;
  some = c.requires.some;
  soon = c.requires.soon;
})

at_end : (c : goal.After-loop-call) → c.loop-call.plan ≡ after_calls c.args.calls.now (opening c.args.length c.args.bound c.args.quantum)
at_end c = grind (arith, common_steps)

kept_after : (c : goal.After-loop-call) → Kept c.args.length c.loop-call.plan
kept_after c = rw (at_end c) (calls_rest c.args.length 0 0 c.args.calls.now _ (rested c) c.requires.fit)

pub returns-clause-transfers_end : goal.returns-clause-transfers_end
returns-clause-transfers_end c = λ k few. row_ends c.args.length 0 0 k c.args.calls.now _ (rested c) c.requires.fit few

pub returns-clause-table : goal.returns-clause-table
returns-clause-table c = λ y m. moment_table c.args.length c.loop-call.plan y (kept_after c) m

pub returns-clause-rests : goal.returns-clause-rests
returns-clause-rests c = λ y m e. moment_rests c.args.length c.loop-call.plan y (kept_after c) m e

pub returns-clause-withholds : goal.returns-clause-withholds
returns-clause-withholds c = λ y m. moment_withholds c.args.length c.loop-call.plan y (kept_after c) m

pub returns-clause-nothing : goal.returns-clause-nothing
returns-clause-nothing c = λ call fits none. call_nothing c.args.length call c.loop-call.plan (kept_after c) fits none

pub returns-clause-short : goal.returns-clause-short
returns-clause-short c = λ idle short.
    calls_short c.args.length 0 0 c.args.calls.now _ (rested c) c.requires.fit (omega arith)
    (ap (λ x. is_idle x.pending) (sym (at_end c)) ∙ ap is_idle idle)
    (subst (λ x. stock x + 1 < c.args.length) (at_end c) (omega arith))
