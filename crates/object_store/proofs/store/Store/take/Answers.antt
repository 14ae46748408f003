use Rattle.std.proofs.Common.{◌≡◌, ◌+◌, length, ap, subst, sym}
use Rattle.std.specs.Prelude.{Contains}
use Rattle.block_pool.specs.Passing.{Passed}
use Rattle.object_store.proofs.Puts.{counted_before, entered_before, forgotten_before, others_freed}
use Rattle.object_store.proofs.Fewer.{freed_fewer}
use Rattle.object_store.proofs.store.Store.take.Goals as goal

pub returns-clause-steps : goal.returns-clause-steps
returns-clause-steps g c =
    counted_before _ _ _ _ _ _ _ (rw c.WORDS.ensures at c.read_words-words.ensures.steps)
    (rw c.WORDS.ensures at c.read_words-words.ensures.pass)
    c.free.ensures.steps

pub returns-clause-others : goal.returns-clause-others
returns-clause-others g c =
    let block = ap (λ o. o.block) c.object.view_is in
    let read = c.read_words-words in
    others_freed _ _ _ (entered_before _ c.args.pass.now read.new.pass c.free.new.pass _ read.ensures.pass
    (rw block at c.free.ensures.entry))
    (forgotten_before _ c.args.pass.now read.new.pass c.free.new.pass _ read.ensures.pass (rw block at c.free.ensures.known))

pub returns-clause-fewer : goal.returns-clause-fewer
returns-clause-fewer g c =
    let block = ap (λ o. o.block) c.object.view_is in
    let read = c.read_words-words in
    let is = read.ensures.pass in
    let held = subst (λ (p : Passed). Contains p.held c.args.object.block) (sym is) c.requires.object.held in
    let sizes = ap (λ (p : Passed). p.sizes) is in
    subst (λ (p : Passed). length c.free.new.pass.held + 1 ≡ length p.held) is
    (freed_fewer c.args.object.block read.new.pass c.free.new.pass c.stands_well.ensures held (rw block at c.free.ensures.entry)
    c.free.ensures.legal)
