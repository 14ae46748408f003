use Rattle.std.proofs.Common.{◌≡◌, ◌<◌, Err, length, length-take, ◌∙◌, arith}
use Rattle.std.proofs.lemmas.Grind.{common_steps}
use Rattle.std.proofs.lemmas.Bool.Decides.{nat_tests}
use Rattle.line_text.specs.declared.fault.TextFault.TheVariants.{NoMemory}
use Rattle.line_text.proofs.Taking.{more_taken, out_of_memory, took_more, took_none}
use Rattle.line_text.proofs.source.read_source.Goals as goal

pub returns-in_err-buffer-clause-reads : goal.returns-in_err-buffer-clause-reads
returns-in_err-buffer-clause-reads g c =
    let gone : c.from_residual.result ≡ Err NoMemory = grind (arith, common_steps) in
    out_of_memory _ _ _ 0 _ (omega arith) (took_none _) gone

pub returns-in_err-keep-clause-reads : goal.returns-in_err-keep-clause-reads
returns-in_err-keep-clause-reads g c =
    let short = length-take c.next_count-most.result c.deref_mut.result.now in
    let given = c.in_ok-piece.ensures in
    let some : 0 < length c.in_ok-piece.piece.now = grind (arith, nat_tests) in
    let gone : c.from_residual-in_err-keep.result ≡ Err NoMemory = grind (arith, common_steps) in
    out_of_memory _ _ _ _ _ (omega (arith, short, given.fits, c.next_count-most.ensures.within, c.min-limit.ensures))
    (took_more _ _ _ _ c.loop-taken.invariant.reads _ some given.reads) gone

pub loop-taken-preserved : goal.loop-taken-preserved
loop-taken-preserved g c =
    let short = length-take c.next_count-most.result c.deref_mut.result.now in
    let given = c.in_ok-piece.ensures in
    let so_far = c.loop-taken.invariant in
    let some : 0 < length c.in_ok-piece.piece.now = grind (arith, nat_tests) in
    record {
      taken = more_taken _ _ _ _ _ c.loop-taken.taken c.in_ok-piece.piece.now so_far.taken given.next c.in_ok-keep.ensures;
      reads = took_more _ _ _ _ so_far.reads _ some given.reads;
      within = omega (arith, short, given.fits, c.next_count-most.ensures.within);
      room = so_far.room;
      names = given.names ∙ so_far.names;
      opens = given.opens ∙ so_far.opens;
      no_fault = given.no_fault ∙ so_far.no_fault;
      reliable = λ reliable. given.reliable (so_far.reliable reliable);
    }
