use Rattle.std.proofs.Common.{arith, refl, ◌∙◌}
use Rattle.announce.proofs.Reading.{load_seen, few_seen, heard_seen}
use Rattle.announce.proofs.reader.AnnounceReader.step.Goals as goal

pub act-word-requires-clause-action : goal.act-word-requires-clause-action
act-word-requires-clause-action g c =
    c.load_of_announcement-action.ensures ∙ load_seen _ _ _ _ _ c.self.view_is c.about_of-about.ensures c.requires.hears

pub overflow_add-self : goal.overflow_add-self
overflow_add-self g c = let low = few_seen _ _ _ _ c.self.view_is c.requires.may.can c.requires.hears in omega (arith, low)

pub returns-clause-heard : goal.returns-clause-heard
returns-clause-heard g c =
    heard_seen _ _ _ _ _ _ _ _ _ c.self.view_is c.about_of-about.ensures c.requires.may.can c.requires.hears c.read.ensures
    c.act-word.ensures.step refl
