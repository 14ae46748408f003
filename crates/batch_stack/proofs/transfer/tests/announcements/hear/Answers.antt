use Rattle.std.proofs.Common.{rules, refl, sym, ap, ◌∙◌, subst}
use Rattle.word_layout.specs.declared.announced.Wish.TheVariants.{Take}
use Rattle.transfer_machine.specs.Machine.{met_of, CanMeet}
use Rattle.announce.specs.Reading.{heard}
use Rattle.batch_stack.proofs.InTry.{any_wish_can, hears_there, may_act, may_meet, follows}
use Rattle.batch_stack.proofs.transfer.tests.announcements.hear.Goals as goal

pub step-announced-requires-clause-may : goal.step-announced-requires-clause-may
step-announced-requires-clause-may g c = record {
  of_table = c.requires.at.0;
  whole = rw c.requires.reader c.requires.at.1;
  room = search rules;
  can = rw c.requires.reader (any_wish_can _ _ _ _ Take c.requires.goes (c.if-not-tries_next.ensures refl));
}

pub step-announced-requires-clause-hears : goal.step-announced-requires-clause-hears
step-announced-requires-clause-hears g c =
    rw c.requires.reader (hears_there c.args.player.now.transfer _ _ c.requires.goes (c.if-not-tries_next.ensures refl))

pub meet-requires-clause-act : goal.meet-requires-clause-act
meet-requires-clause-act g c =
    may_act _ _ _ _ _ _ c.transfer.view_is c.requires.goes (c.if-not-tries_next.ensures refl) c.step-announced.ensures.heard.stepped

pub meet-requires-clause-meet : goal.meet-requires-clause-meet
meet-requires-clause-meet g c =
    subst (CanMeet c.transfer.inside.shape c.transfer.inside.view) (sym c.pack.ensures)
    (may_meet _ _ _ _ _ _ c.transfer.view_is c.requires.goes (c.if-not-tries_next.ensures refl) c.step-announced.ensures.heard.stepped)

pub returns-clause-reader : goal.returns-clause-reader
returns-clause-reader g c = c.step-announced.ensures.heard.heard ∙ ap heard c.requires.reader

pub returns-clause-goes : goal.returns-clause-goes
returns-clause-goes g c =
    follows _ _ _ _ _ _ c.transfer.view_is c.requires.goes (c.if-not-tries_next.ensures refl) c.step-announced.ensures.heard.stepped _
    (c.meet.ensures ∙ ap (met_of c.transfer.inside.shape c.transfer.inside.view) c.pack.ensures)
