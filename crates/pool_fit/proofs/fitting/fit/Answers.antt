use Rattle.std.proofs.Common.{◌≡◌, ℕ, List, ap, map, subst, ◌∙◌}
use Rattle.std.specs.List.{range_with_len}
use Rattle.pool_fit.specs.declared.classes.SizeClass.{SizeClass}
use Rattle.pool_fit.specs.declared.moves.Move.{Move}
use Rattle.pool_fit.specs.declared.sizes.SizeRow.{SizeRow}
use Rattle.pool_fit.specs.Choices.{IsCheapest, left_out, offers_of}
use Rattle.pool_fit.specs.Classes.{class_of}
use Rattle.pool_fit.specs.Fits.{classes_of, sizes_for}
use Rattle.pool_fit.specs.SizeRows.{AreSizeRows, moves_of_all}
use Rattle.pool_fit.proofs.fitting.fit.Goals as goal

pub returns : goal.returns
returns c =
    let moved : c.deref.result.now ≡ moves_of_all c.args.traces.now = c.deref.ensures.value ∙ c.in_ok-moves.ensures in
    let classes : c.in_ok-classes.classes.items ≡ classes_of c.args.traces.now
    = c.in_ok-classes.ensures ∙ ap (λ (moves : List (List Move)). map (class_of moves) (range_with_len 0 65)) moved in
    let asked : c.deref-3.result.now ≡ classes_of c.args.traces.now = c.deref-3.ensures.value ∙ classes in
    let most : c.left_out.result ≡ left_out c.in_ok-sizes.sizes.items = c.left_out.ensures ∙ ap left_out c.deref-5.ensures.value in
    record {
      classes = classes;
      sizes = subst (λ (all : List SizeClass).
          AreSizeRows c.args.traces.now c.args.smallest.now (sizes_for c.args.asked.now all) c.in_ok-sizes.sizes.items)
          asked c.in_ok-sizes.ensures;
      choice = subst (λ (n : ℕ). IsCheapest (offers_of n c.in_ok-sizes.sizes.items) c.in_ok-choice.choice) most
          (subst (λ (rows : List SizeRow). IsCheapest (offers_of c.left_out.result rows) c.in_ok-choice.choice) c.deref-4.ensures.value
          c.in_ok-choice.ensures);
    }
