-- The numbers of a pass and its pool.
use Rattle.std.specs.Prelude.{◌≡◌}
use Rattle.pool_model.specs.Limits.{greatest_slack, window}
use Rattle.word_layout.specs.Packing.{most_age}
use Rattle.word_layout.specs.Sizes.{blocks, limits_of}
use Rattle.block_pool.specs.Passing.{Passed}
use Rattle.loskebri_c.specs.declared.shape.LoskebriShape.{LoskebriShape}

-- these are the numbers of this pass
pub record Describes (told : LoskebriShape) (pass : Passed) : Type 0 where
  pub status : told.status ≡ 0
  pub process : told.process ≡ pass.number
  pub processes : told.processes ≡ pass.sizes.processes
  pub batches : told.batches ≡ pass.sizes.batches
  pub batch_length : told.batch_length ≡ pass.sizes.length
  pub blocks_of : told.blocks ≡ blocks pass.sizes
  pub words : told.words ≡ pass.sizes.words
  pub quantum : told.quantum ≡ pass.sizes.quantum
  pub slack : told.slack ≡ greatest_slack (limits_of pass.sizes)
  pub window_of : told.window ≡ window (limits_of pass.sizes)
  pub most_age_of : told.most_age ≡ most_age pass.sizes

-- these are the numbers of no pass
pub record DescribesNone (told : LoskebriShape) : Type 0 where
  pub status : told.status ≡ 5
  pub process : told.process ≡ 0
  pub processes : told.processes ≡ 0
  pub batches : told.batches ≡ 0
  pub batch_length : told.batch_length ≡ 0
  pub blocks_of : told.blocks ≡ 0
  pub words : told.words ≡ 0
  pub quantum : told.quantum ≡ 0
  pub slack : told.slack ≡ 0
  pub window_of : told.window ≡ 0
  pub most_age_of : told.most_age ≡ 0
