use Rattle.std.proofs.Common.{rules}
use Rattle.batch_stack.proofs.Made.{act_seen, meet_seen, next_seen, tells_seen}
use Rattle.batch_stack.proofs.transfer.Transfer.step.Goals as goal

pub next_action-action-requires : goal.next_action-action-requires
next_action-action-requires g c = act_seen _ _ _ _ _ c.self.view_is c.about_of-about.ensures c.requires.may.can c.requires.agrees

pub act-word-requires-clause-action : goal.act-word-requires-clause-action
act-word-requires-clause-action g c =
    next_seen _ _ _ _ _ c.self.view_is c.about_of-about.ensures c.requires.may.can c.requires.agrees _ c.next_action-action.ensures

pub meet-requires-clause-act : goal.meet-requires-clause-act
meet-requires-clause-act g c = act_seen _ _ _ _ _ c.self.view_is c.about_of-about.ensures c.requires.may.can c.requires.agrees

pub meet-requires-clause-meet : goal.meet-requires-clause-meet
meet-requires-clause-meet g c =
    meet_seen _ _ _ _ _ c.self.view_is c.about_of-about.ensures c.requires.may.can c.requires.agrees _ _ c.act-word.ensures.step

pub returns : goal.returns
returns g c =
    let tells = tells_seen _ _ _ _ _ c.self.view_is c.about_of-about.ensures c.requires.may.can c.requires.agrees _ _ _ _
    c.act-word.ensures.step c.meet.ensures c.progress_at.ensures in
    record {
      sizes = search rules;
      one = search rules;
      step = tells.made;
      nearer = tells.nearer;
      on = tells.on;
      ends = tells.ends;
      spares = tells.spares;
      rests = tells.rests;
    }
