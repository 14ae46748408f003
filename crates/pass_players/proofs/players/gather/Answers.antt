use Rattle.std.proofs.Common.{◌≡◌, length, refl, ap, ◌∙◌, subst, get_or}
use Rattle.pass_players.proofs.Gathering.{gathering_more}
use Rattle.pass_players.proofs.players.gather.Goals as goal

pub loop-pass-preserved : goal.loop-pass-preserved
loop-pass-preserved g c =
    let ready = g.P.Player.is_ready in
    let scripts = c.args.scripts.now in
    let count : c.len.result ≡ length c.loop-pass.players.items = c.len.ensures ∙ c.loop-pass.players.ok.0 in
    let script = c.index-scripts-len.is ∙ ap (λ n. get_or scripts n c.index-scripts-len.result) count in
    let player = c.in_ok-player.player in
    rw c.in_ok-push.ensures.items
    (gathering_more ready c.args.passes.items scripts _ _ _ c.loop-pass.players.items (record { pass = c.in-Some.pass; player = player })
    c.index-scripts-len.result c.loop-pass.invariant c.in-Some.ensures.steps.0 refl
    (subst (λ s. ready s player) script c.in_ok-player.ensures))
