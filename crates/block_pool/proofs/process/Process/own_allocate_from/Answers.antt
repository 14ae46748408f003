use Rattle.std.proofs.Common.{rules, ◌≡◌, sym, ◌∙◌, arith}
use Rattle.transfer_schedule.specs.Numbers.{source_of}
use Rattle.pool_machine.specs.OwnSteps.{allocated, next_block}
use Rattle.std.proofs.lemmas.Grind.{common_steps}
use Rattle.block_pool.proofs.Going.{can_take, getting_leaves, gives_none}
use Rattle.block_pool.proofs.process.Process.own_allocate_from.Goals as goal

pub first_block-block-requires : goal.first_block-block-requires
first_block-block-requires g c =
    can_take _ _ _ c.args.self.now c.took_one.new.self _ c.requires.getting c.requires.owning c.requires.source

pub take_head-requires-clause-act : goal.take_head-requires-clause-act
take_head-requires-clause-act g c =
    can_take _ _ _ c.args.self.now c.took_one.new.self _ c.requires.getting c.requires.owning c.requires.source

pub returns-clause-made : goal.returns-clause-made
returns-clause-made g c =
    let pool : c.take_head.new.pool ≡ allocated c.act-word.result c.args.self.now.pool (source_of c.args.self.now.pool.plan) =
    search rules in
    let block : c.first_block-block.result ≡ next_block c.args.self.now.pool = grind (arith, common_steps) in
    record {
      made = record {
        word = c.act-word.result;
        stepped = c.act-word.ensures.step;
        transfer = search rules;
        pool = pool ∙ sym (getting_leaves _ c.args.self.now.pool _ c.requires.getting);
      };
      block = block;
      plan = grind (arith, common_steps);
      none = gives_none c.args.self.now.pool _ block;
    }
