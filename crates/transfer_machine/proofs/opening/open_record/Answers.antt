use Rattle.std.proofs.Common.{◌*◌, ap, arith}
use Rattle.transfer_machine.proofs.Filled.{words_begun, words_filled}
use Rattle.transfer_machine.proofs.opening.open_record.Goals as goal

pub loop-index-init : goal.loop-index-init
loop-index-init c = words_begun c.args.shape.now c.args.words.now

pub loop-index-preserved : goal.loop-index-preserved
loop-index-preserved c =
    words_filled c.args.shape.now c.loop-index.words c.args.words.now c.set.new.words
    (2 * c.processes-row.result) c.loop-index.index c.requires
    (omega (arith, c.loop-index-test.true, c.record_words-index-end.ensures.words))
    (ap (λ n. 2 * n) c.processes-row.ensures.value) c.loop-index.invariant c.set.ensures
