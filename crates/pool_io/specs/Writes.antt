-- What a writer does to a sink.
use Rattle.std.specs.Prelude.{◌≡◌, ℕ, ◌-◌, ◌≤◌, List, length, Result, OnOk, OnErr, IsOk}
use Rattle.pool_io.specs.declared.sink.Sink.{Ghosts as Sink}
use Rattle.pool_io.specs.Counts.{HasRisen}
use Rattle.pool_io.specs.Told.{GrowsBy, GrowsByPart}

-- after Ok the sink took the whole text; after Err a part of it, not all, and the sink failed
pub record Writes {K T E : Type 0} (sink : Sink K) (text : List ℕ) (before after : K) (result : Result T E) : Type 0 where
  pub whole : OnOk result (GrowsBy (sink.written before) (sink.written after) text)
  pub part : OnErr result (GrowsByPart (sink.written before) (sink.written after) text)
  pub never_falls : sink.faults before ≤ sink.faults after
  pub failed : OnErr result (HasRisen (sink.faults before) (sink.faults after))
  pub no_fault : OnOk result (sink.faults after ≡ sink.faults before)
  -- a sink that takes so many bytes takes a text that is no longer, and then the rest of so many
  pub sure : (room : ℕ) → sink.takes before room → length text ≤ room → IsOk result × sink.takes after (room - length text)
