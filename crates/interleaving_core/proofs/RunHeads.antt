-- the heads of all batches, in every run
use Rattle.std.proofs.Common.{refl}
use Rattle.word_layout.specs.Names.{word_at}
use Rattle.stack_invariant.specs.Gives.{present}
use Rattle.stack_invariant.proofs.Tables.{tables_show}
use Rattle.chain_invariant.proofs.Gives.{stack_has_room, heads_are_blocks, heads_are_apart}
use Rattle.interleaving_core.specs.Invariant.{held_in}
use Rattle.interleaving_core.specs.Moves.{view_at}
use Rattle.interleaving_core.specs.TransferLaws.{HeadsStayApart}
use Rattle.interleaving_core.proofs.CallLawsKept.{first_many}
use Rattle.interleaving_core.proofs.Joins.{transfers}
use Rattle.interleaving_core.proofs.RunStates.{holds_show}
use Rattle.interleaving_core.proofs.Runs.{run_fits}

-- in every run no two batches have one head
pub heads_stay_apart : HeadsStayApart
heads_stay_apart sizes past history s run =
    let fits = run_fits sizes past history s run in
    let (ghosts, h) = fits.meets in
    let words = word_at s.sizes s.words in
    let t = present words ghosts.states in
    let held = held_in ghosts.ledgers in
    let shown = tables_show s.sizes s.words (transfers (view_at s)) ghosts.states h.stack in
    let (content, spares, on_way) = heads_are_blocks s.sizes words t (view_at s) held fits.shape h.chains in (
      t,
      record {
        shows = holds_show s (transfers (view_at s)) ghosts.states h.stack (λ o lo. refl);
        few = rw (shown.heads, first_many t.height t.content) (stack_has_room s.sizes words t (view_at s) held fits.shape h.chains);
        content = content;
        spares = spares;
        on_way = on_way;
        once = λ head. heads_are_apart s.sizes words t (view_at s) held head fits.shape h.chains;
      },
    )
