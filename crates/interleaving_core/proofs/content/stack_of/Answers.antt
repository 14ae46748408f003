use Rattle.std.proofs.Common.{◌∙◌, ap, sym, ◌++◌, ◌∷◌, []}
use Rattle.transfer_machine.specs.Words.{first_of, stack_at}
use Rattle.interleaving_core.proofs.FirstPlaces.{first_none, first_more}
use Rattle.interleaving_core.proofs.content.stack_of.Goals as goal

pub loop-place-init : goal.loop-place-init
loop-place-init c = let made = c.in_ok-heads.ensures in made.items ∙ sym (first_none (stack_at c.args.shape.now c.args.words.now))

pub loop-place-preserved : goal.loop-place-preserved
loop-place-preserved c =
    let values = stack_at c.args.shape.now c.args.words.now in
    let pushed = c.in_ok-push.ensures in
    pushed.items ∙ ap (λ xs. xs ++ c.head_at.result ∷ []) c.loop-place.invariant ∙ ap
    (λ head. first_of c.loop-place.place values ++ head ∷ []) c.head_at.ensures ∙ sym (first_more c.loop-place.place values)
