use Rattle.std.proofs.Common.{◌≡◌, ◌++◌, length, map, refl, sym, ap, ◌∙◌, subst}
use Rattle.std.specs.Vec.Iter.{into_iter_items}
use Rattle.block_pool.specs.Closing.{AreAllPasses, IsClosed}
use Rattle.pass_players.specs.declared.players.GatedPlayer.{GatedPlayer}
use Rattle.pass_players.proofs.Parting.{can_play_all, written_back}
use Rattle.pass_players.proofs.Gated.{all_played, may_close}
use Rattle.pass_players.proofs.Settling.{settles}
use Rattle.pass_players.proofs.playing.play.Goals as goal

pub play_each-requires-clause-can : goal.play_each-requires-clause-can
play_each-requires-clause-can g c κs within = λ k d low.
    let value : c.as_mut_slice.result.now ≡ c.seat.new.gated.items = c.as_mut_slice.ensures.value in
    let ready = c.requires.prepared in
    let can = can_play_all g.P.Player.suits g.P.Player.most_calls g.P.Player.is_ready c.args.prepared.pool c.args.scripts.now
    c.args.prepared.players.items c.seat.new.gated.items c.seat.ensures.players ready.ready ready.may.each in
    rw value (can k d (rw value at low))

pub finish-requires : goal.finish-requires
finish-requires g c =
    let value : c.as_mut_slice.result.now ≡ c.seat.new.gated.items = c.as_mut_slice.ensures.value in
    let gated = c.seat.new.gated in
    let same : length c.play_each.new.players ≡ length gated.items = c.play_each.auto.players ∙ ap length value in
    let back = written_back gated.len c.play_each.new.players _ gated.items gated.ok.0 same in
    let passes = c.part.ensures.passes ∙ ap (map (λ (one : GatedPlayer g.row.P.Denot g.row.G.Denot). one.one.pass)) back in
    let ready = c.requires.prepared in
    subst (AreAllPasses c.args.prepared.pool) (sym passes)
    (may_close g.P.Player.fits g.P.Player.outcome g.G.Gate.told c.args.prepared.pool c.args.scripts.now
    c.args.prepared.players.items
    gated.items c.play_each.new.players _ _ _ c.seat.ensures.players ready.many c.seat.ensures.gates refl same
    (rw value at c.play_each.ensures) ready.in_order)

pub returns-clause-played : goal.returns-clause-played
returns-clause-played g c =
    let value : c.as_mut_slice.result.now ≡ c.seat.new.gated.items = c.as_mut_slice.ensures.value in
    let gated = c.seat.new.gated in
    let same : length c.play_each.new.players ≡ length gated.items = c.play_each.auto.players ∙ ap length value in
    let back = written_back gated.len c.play_each.new.players _ gated.items gated.ok.0 same in
    let passes = c.part.ensures.passes ∙ ap (map (λ (one : GatedPlayer g.row.P.Denot g.row.G.Denot). one.one.pass)) back in
    let outcomes = c.part.ensures.outcomes ∙ ap (map (λ (one : GatedPlayer g.row.P.Denot g.row.G.Denot).
    g.P.Player.outcome one.one.player)) back in
    let gates = c.part.ensures.gates ∙ ap (map (λ (one : GatedPlayer g.row.P.Denot g.row.G.Denot). one.gate)) back in
    let now = c.put_back.ensures ∙ ap (λ all. all ++ into_iter_items c.seat.new.gates) gates in
    let first = c.seat.ensures.gates ∙ c.into_iter-rest.ensures.rest in
    let ready = c.requires.prepared in
    rw outcomes
    (all_played g.P.Player.fits g.P.Player.outcome g.G.Gate.told c.args.prepared.pool c.args.scripts.now
    c.args.prepared.players.items
    gated.items c.play_each.new.players _ _ _ c.seat.ensures.players ready.many first (sym now) same
    (rw value at c.play_each.ensures) ready.in_order c.finish.result
    (subst (λ all. IsClosed c.args.prepared.pool all c.finish.result) passes c.finish.ensures))

pub returns-clause-settled : goal.returns-clause-settled
returns-clause-settled g c = λ sizes fresh.
    settles _ _ _ fresh.opened _ _ _ _ _ _ fresh.shape (sym c.requires.prepared.may.one_each) (returns-clause-played g c)
