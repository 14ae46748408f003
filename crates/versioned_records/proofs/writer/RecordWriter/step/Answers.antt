use Rattle.std.proofs.Common.{arith, refl, ◌∙◌}
use Rattle.versioned_records.proofs.Writing.{store_seen, fits_seen, below_seen, written_seen, write_on_seen}
use Rattle.versioned_records.proofs.writer.RecordWriter.step.Goals as goal

pub overflow_cast-value : goal.overflow_cast-value
overflow_cast-value g c = let low = below_seen _ _ _ _ c.self.view_is c.requires.may.can c.requires.writes in omega (arith, low)

pub offset_bounds-self-inside-cursor : goal.offset_bounds-self-inside-cursor
offset_bounds-self-inside-cursor g c =
    let low = below_seen _ _ _ _ c.self.view_is c.requires.may.can c.requires.writes in omega (arith, low)

pub bounds-self-inside-cursor : goal.bounds-self-inside-cursor
bounds-self-inside-cursor g c = below_seen _ _ _ _ c.self.view_is c.requires.may.can c.requires.writes

pub overflow_add-self : goal.overflow_add-self
overflow_add-self g c = let low = below_seen _ _ _ _ c.self.view_is c.requires.may.can c.requires.writes in omega (arith, low)

pub store-requires-clause-tag : goal.store-requires-clause-tag
store-requires-clause-tag g c = (fits_seen _ _ _ _ c.self.view_is c.requires.may.can c.requires.writes).tag_fits

pub store-requires-clause-value : goal.store-requires-clause-value
store-requires-clause-value g c = (fits_seen _ _ _ _ c.self.view_is c.requires.may.can c.requires.writes).value_fits

pub act-requires-clause-action : goal.act-requires-clause-action
act-requires-clause-action g c = c.store.ensures ∙ store_seen _ _ _ _ _ c.self.view_is c.about_of-about.ensures c.requires.writes

pub write_step-requires : goal.write_step-requires
write_step-requires g c = (fits_seen _ _ _ _ c.self.view_is c.requires.may.can c.requires.writes).within

pub returns-clause-written : goal.returns-clause-written
returns-clause-written g c =
    written_seen _ _ _ _ _ _ _ _ _ c.self.view_is c.about_of-about.ensures c.requires.may.can c.requires.writes c.act.ensures.step
    c.write_step.ensures refl

pub returns-clause-on : goal.returns-clause-on
returns-clause-on g c goes =
    write_on_seen _ _ _ _ _ _ _ _ _ c.self.view_is c.about_of-about.ensures c.requires.may.can c.requires.writes c.act.ensures.step
    c.write_step.ensures refl goes
