use Rattle.std.proofs.Common.{refl, sym, ◌∙◌, map-id}
use Rattle.std.specs.Vec.Iter.{into_iter_items}
use Rattle.std.proofs.lemmas.Iterator.{items_from_drains}
use Rattle.std.proofs.lemmas.Iterator.Adapters.{YieldsList-from_vec}
use Rattle.pool_io.proofs.command_line.collected.Goals as goal

-- all were taken, since a list of words has as many as it says
pub returns-in-Ok : goal.returns-in-Ok
returns-in-Ok c =
    let taken = c.in-Ok.ensures.ran in
    let all = items_from_drains taken.0 taken.1 (YieldsList-from_vec (into_iter_items c.args.args) refl c.args.args.rest.ok.0) in
    taken.2.0 ∙ sym (map-id taken.0) ∙ all
