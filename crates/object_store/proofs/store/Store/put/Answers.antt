use Rattle.std.proofs.Common.{refl, ap}
use Rattle.block_pool.specs.Passing.{Passed}
use Rattle.object_store.proofs.Puts.{counted_after, counted_alone, got_is_held, stored_by}
use Rattle.object_store.proofs.store.Store.put.Goals as goal

pub write_words-requires-clause-held : goal.write_words-requires-clause-held
write_words-requires-clause-held g c = got_is_held _ _ _ c.in-Got.ensures.entry

pub returns-in-Got-clause-steps : goal.returns-in-Got-clause-steps
returns-in-Got-clause-steps g c =
    let is = rw c.WORDS.ensures at c.write_words.ensures.pass in
    counted_after _ _ _ _ _ _ _ _ c.in-Got.ensures.steps (rw c.WORDS.ensures at c.write_words.ensures.steps)
    (ap (λ (p : Passed). p.moves) is)

pub returns-in-Got-clause-put : goal.returns-in-Got-clause-put
returns-in-Got-clause-put g c =
    stored_by _ _ _ _ _ _ _ _ (c.in-Got.ensures.free _ refl) c.in-Got.ensures.entry c.in-Got.ensures.known
    (rw (c.WORDS.ensures, c.to_words.ensures) at c.write_words.ensures.pass) c.of-value.ensures

pub returns-in-Dry-clause-steps : goal.returns-in-Dry-clause-steps
returns-in-Dry-clause-steps g c = counted_alone _ _ _ _ _ c.in-Dry.ensures.steps
