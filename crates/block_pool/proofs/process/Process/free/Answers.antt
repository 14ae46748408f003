use Rattle.block_pool.proofs.Calls.{due_begins, begun_quantum}
use Rattle.block_pool.proofs.process.Process.free.Goals as goal

pub begin-requires : goal.begin-requires
begin-requires g c = due_begins _ c.args.self.now c.requires.ready.between

pub run_pending-made-requires-clause-quantum : goal.run_pending-made-requires-clause-quantum
run_pending-made-requires-clause-quantum g c =
    begun_quantum _ c.args.self.now c.begin.new.self c.requires.ready.between c.begin.ensures.pool
