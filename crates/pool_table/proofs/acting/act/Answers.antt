use Rattle.std.proofs.Common.{sym, ◌∙◌}
use Rattle.transfer_machine.specs.declared.action.Action.TheVariants.{Load, Store, Exchange}
use Rattle.pool_table.proofs.Steps.{action_in_range}
use Rattle.pool_table.proofs.Places.{keeps_at, tells_at}
use Rattle.pool_table.proofs.acting.act.Goals as goal

pub place-requires : goal.place-requires
place-requires g c = action_in_range _ _ _ (Load c.in-Load.name) c.requires.may.can (sym c.in-Load.is ∙ c.requires.action)

pub place-requires-in-Store : goal.place-requires-in-Store
place-requires-in-Store g c =
    action_in_range _ _ _ (Store c.in-Store.name c.in-Store.word) c.requires.may.can (sym c.in-Store.is ∙ c.requires.action)

pub place-requires-in-Exchange : goal.place-requires-in-Exchange
place-requires-in-Exchange g c =
    action_in_range _ _ _ (Exchange c.in-Exchange.name c.in-Exchange.old c.in-Exchange.new) c.requires.may.can
    (sym c.in-Exchange.is ∙ c.requires.action)

pub load_with-requires-clause-rule : goal.load_with-requires-clause-rule
load_with-requires-clause-rule g c =
    keeps_at _ _ _ _ _ (Load c.in-Load.name) c.place.ensures.place c.requires.may.can (sym c.in-Load.is ∙ c.requires.action)

pub store_with-requires-clause-rule : goal.store_with-requires-clause-rule
store_with-requires-clause-rule g c =
    keeps_at _ _ _ _ _ (Store c.in-Store.name c.in-Store.word) c.place-in-Store.ensures.place c.requires.may.can
    (sym c.in-Store.is ∙ c.requires.action)

pub compare_exchange_with-requires-clause-rule : goal.compare_exchange_with-requires-clause-rule
compare_exchange_with-requires-clause-rule g c =
    keeps_at _ _ _ _ _ (Exchange c.in-Exchange.name c.in-Exchange.old c.in-Exchange.new) c.place-in-Exchange.ensures.place
    c.requires.may.can (sym c.in-Exchange.is ∙ c.requires.action)

pub returns-in-Load-clause-step : goal.returns-in-Load-clause-step
returns-in-Load-clause-step g c =
    tells_at _ _ _ _ _ _ (Load c.in-Load.name) _ c.place.ensures.place c.requires.may.can (sym c.in-Load.is ∙ c.requires.action)
    c.load_with.ensures.step

pub returns-in-Store-clause-step : goal.returns-in-Store-clause-step
returns-in-Store-clause-step g c =
    tells_at _ _ _ _ _ _ (Store c.in-Store.name c.in-Store.word) _ c.place-in-Store.ensures.place c.requires.may.can
    (sym c.in-Store.is ∙ c.requires.action) c.store_with.ensures.step.1

pub returns-in-Ok-clause-step : goal.returns-in-Ok-clause-step
returns-in-Ok-clause-step g c =
    tells_at _ _ _ _ _ _ (Exchange c.in-Exchange.name c.in-Exchange.old c.in-Exchange.new) _ c.place-in-Exchange.ensures.place
    c.requires.may.can (sym c.in-Exchange.is ∙ c.requires.action) c.in-Ok.ensures.step

pub returns-in-Err-clause-step : goal.returns-in-Err-clause-step
returns-in-Err-clause-step g c =
    tells_at _ _ _ _ _ _ (Exchange c.in-Exchange.name c.in-Exchange.old c.in-Exchange.new) _ c.place-in-Exchange.ensures.place
    c.requires.may.can (sym c.in-Exchange.is ∙ c.requires.action) c.in-Err.ensures.step
