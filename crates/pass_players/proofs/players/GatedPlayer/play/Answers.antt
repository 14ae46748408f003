use Rattle.std.proofs.Common.{◌≡◌, Some, refl, sym, ◌∙◌, subst}
use Rattle.std.specs.Prelude.{slice_get}
use Rattle.std.proofs.lemmas.Option.{same_Some, slice_get_read}
use Rattle.pass_players.specs.Playing.{PlayedOnce}
use Rattle.pass_players.proofs.players.GatedPlayer.play.Goals as goal

pub play-requires-clause-may : goal.play-requires-clause-may
play-requires-clause-may g c =
    c.requires.can.may c.index-scripts-place.result
    (slice_get_read c.args.scripts.now _ c.args.place _ refl c.requires.place c.index-scripts-place.is)

pub play-requires-clause-ready : goal.play-requires-clause-ready
play-requires-clause-ready g c =
    c.requires.can.ready c.index-scripts-place.result
    (slice_get_read c.args.scripts.now _ c.args.place _ refl c.requires.place c.index-scripts-place.is)

pub returns : goal.returns
returns g c = λ script at.
    let found : slice_get c.args.scripts.now c.args.place ≡ Some c.index-scripts-place.result
    = slice_get_read c.args.scripts.now _ c.args.place _ refl c.requires.place c.index-scripts-place.is in
    subst (λ (x : g.row.P-Script.Denot). PlayedOnce g.P.Player.fits (g.G.Gate.told c.args.self.now.gate) (g.G.Gate.told c.play.new.gate) x
    c.args.self.now.one.pass c.play.new.pass (g.P.Player.outcome c.play.new.self))
    (same_Some c.index-scripts-place.result script (sym found ∙ at)) c.play.ensures
