use Rattle.std.proofs.Common.{rules, arith}
use Rattle.block_pool.proofs.Searching.{can_seek, pool_last, pool_counts, pool_stays}
use Rattle.block_pool.proofs.process.Process.seek.Goals as goal

pub action_at-action-requires-clause-act : goal.action_at-action-requires-clause-act
action_at-action-requires-clause-act g c = (can_seek _ _ c.args.self.now c.requires.seeking).go.act

pub meet_at-requires-clause-act : goal.meet_at-requires-clause-act
meet_at-requires-clause-act g c = (can_seek _ _ c.args.self.now c.requires.seeking).go.act

pub move_pool-requires-clause-busy : goal.move_pool-requires-clause-busy
move_pool-requires-clause-busy g c = (can_seek _ _ c.args.self.now c.requires.seeking).go.busy

pub move_pool-requires-clause-few : goal.move_pool-requires-clause-few
move_pool-requires-clause-few g c =
    let some = (can_seek _ _ c.args.self.now c.requires.seeking).go.count.some in omega (arith, some)

pub move_pool-requires-clause-count : goal.move_pool-requires-clause-count
move_pool-requires-clause-count g c =
    let can = (can_seek _ _ c.args.self.now c.requires.seeking).go.count in
    let within = can.within in
    record { pending = can.pending; some = can.some; within = omega (arith, within) }

pub ran-requires-clause-pending : goal.ran-requires-clause-pending
ran-requires-clause-pending g c =
    (pool_stays _ _ _ _ _ c.if-move_pool.false c.move_pool.ensures (can_seek _ _ c.args.self.now c.requires.seeking).go.count).pending

pub ran-requires-clause-few : goal.ran-requires-clause-few
ran-requires-clause-few g c =
    (pool_stays _ _ _ _ _ c.if-move_pool.false c.move_pool.ensures (can_seek _ _ c.args.self.now c.requires.seeking).go.count).some

pub ran-requires-clause-within : goal.ran-requires-clause-within
ran-requires-clause-within g c =
    (pool_stays _ _ _ _ _ c.if-move_pool.false c.move_pool.ensures (can_seek _ _ c.args.self.now c.requires.seeking).go.count).within

pub returns-then-move_pool-clause-sought : goal.returns-then-move_pool-clause-sought
returns-then-move_pool-clause-sought g c = record {
  word = c.act-word.result;
  stepped = c.act-word.ensures.step;
  transfer = search rules;
  pool = pool_last _ _ _ _ _ c.if-move_pool.true c.move_pool.ensures;
  last = search rules;
}

pub returns-clause-sought : goal.returns-clause-sought
returns-clause-sought g c = record {
  word = c.act-word.result;
  stepped = c.act-word.ensures.step;
  transfer = search rules;
  pool = pool_counts _ _ _ _ _ _ c.if-move_pool.false c.move_pool.ensures c.ran.ensures;
  last = search rules;
}
