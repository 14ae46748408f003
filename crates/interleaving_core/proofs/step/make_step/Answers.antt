use Rattle.std.proofs.Common.{sym, ◌∙◌}
use Rattle.interleaving_core.proofs.Tables.{among_allowed, alone_met, call_answers, call_meets}
use Rattle.interleaving_core.proofs.step.make_step.Goals as goal

pub step_words-requires-clause-can : goal.step_words-requires-clause-can
step_words-requires-clause-can c =
    let allowed = among_allowed c.args.shape.now c.args.words.now c.args.view.now c.processes.ensures.shape c.requires.busy
    c.requires.invariant in
    let alone = sym c.is_alone.ensures ∙ c.if-is_alone.true in
    record { whole = c.requires.whole; act = allowed.act alone; meet = allowed.meet alone }

pub step_words-requires-clause-count : goal.step_words-requires-clause-count
step_words-requires-clause-count c =
    let allowed = among_allowed c.args.shape.now c.args.words.now c.args.view.now c.processes.ensures.shape c.requires.busy
    c.requires.invariant in
    allowed.count (sym c.is_alone.ensures ∙ c.if-is_alone.true)

pub step_words-requires-clause-end : goal.step_words-requires-clause-end
step_words-requires-clause-end c =
    let allowed = among_allowed c.args.shape.now c.args.words.now c.args.view.now c.processes.ensures.shape c.requires.busy
    c.requires.invariant in
    allowed.end (sym c.is_alone.ensures ∙ c.if-is_alone.true)

pub step_call-requires : goal.step_call-requires
step_call-requires c =
    let allowed = among_allowed c.args.shape.now c.args.words.now c.args.view.now c.processes.ensures.shape c.requires.busy
    c.requires.invariant in
    let calls = sym c.is_alone.ensures ∙ c.if-is_alone.false in
    record { whole = c.requires.whole; act = allowed.call_act calls; meet = allowed.call_meet calls }

pub returns-then-is_alone-clause-view : goal.returns-then-is_alone-clause-view
returns-then-is_alone-clause-view c =
    c.step_words.ensures.view ∙ alone_met c.args.shape.now c.args.words.now c.args.view.now (sym c.is_alone.ensures ∙ c.if-is_alone.true)

pub returns-else-is_alone-clause-happened : goal.returns-else-is_alone-clause-happened
returns-else-is_alone-clause-happened c =
    c.step_call.ensures.happened ∙ call_answers c.args.shape.now c.args.words.now c.args.view.now
    (sym c.is_alone.ensures ∙ c.if-is_alone.false)

pub returns-else-is_alone-clause-view : goal.returns-else-is_alone-clause-view
returns-else-is_alone-clause-view c =
    c.step_call.ensures.view ∙ call_meets c.args.shape.now c.args.words.now c.args.view.now (sym c.is_alone.ensures ∙ c.if-is_alone.false)
