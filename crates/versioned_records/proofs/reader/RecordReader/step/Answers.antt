use Rattle.std.proofs.Common.{rules, ◌≡◌, length, refl, arith, ◌∙◌}
use Rattle.versioned_records.proofs.Reading.{load_seen, within_seen, below_seen, read_seen, read_on_seen}
use Rattle.versioned_records.proofs.reader.RecordReader.step.Goals as goal

pub act-word-requires-clause-action : goal.act-word-requires-clause-action
act-word-requires-clause-action g c = c.load.ensures ∙ load_seen _ _ _ _ _ c.self.view_is c.about_of-about.ensures c.requires.reads

pub read_step-read-requires : goal.read_step-read-requires
read_step-read-requires g c = within_seen _ _ _ _ c.self.view_is c.requires.may.can c.requires.reads

pub bounds-self-inside-cursor : goal.bounds-self-inside-cursor
bounds-self-inside-cursor g c = below_seen _ _ _ _ c.self.view_is c.requires.may.can c.requires.reads

pub overflow_add-self : goal.overflow_add-self
overflow_add-self g c = let low = below_seen _ _ _ _ c.self.view_is c.requires.may.can c.requires.reads in omega (arith, low)

pub returns-clause-read : goal.returns-clause-read
returns-clause-read g c =
    let room : length c.self.inside.words ≡ 66 = search rules in
    read_seen _ _ _ _ _ _ _ _ _ c.self.view_is c.about_of-about.ensures c.requires.may.can c.requires.reads c.act-word.ensures.step room
    c.read_step-read.ensures refl

pub returns-clause-on : goal.returns-clause-on
returns-clause-on g c goes =
    let room : length c.self.inside.words ≡ 66 = search rules in
    read_on_seen _ _ _ _ _ _ _ _ _ c.self.view_is c.about_of-about.ensures c.requires.may.can c.requires.reads c.act-word.ensures.step room
    c.read_step-read.ensures refl goes
