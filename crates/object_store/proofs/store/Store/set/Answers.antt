use Rattle.std.proofs.Common.{ap}
use Rattle.object_store.proofs.Puts.{kept_by_writes, others_by_writes}
use Rattle.object_store.proofs.store.Store.set.Goals as goal

pub returns-clause-kept : goal.returns-clause-kept
returns-clause-kept g c =
    let block = ap (λ o. o.block) c.object.view_is in
    kept_by_writes _ _ _ _ c.args.pass.now _ c.requires.object.held
    (rw (c.WORDS.ensures, c.to_words.ensures, block) at c.write_words.ensures.pass)

pub returns-clause-others : goal.returns-clause-others
returns-clause-others g c =
    let block = ap (λ o. o.block) c.object.view_is in
    others_by_writes _ _ _ _ _ _ (rw (c.WORDS.ensures, c.to_words.ensures, block) at c.write_words.ensures.pass)
