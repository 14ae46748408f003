use Rattle.std.proofs.Common.{◌+◌, ◌≤◌, length}
use Rattle.std.specs.BTreeMap.{btree_map_len}
use Rattle.store_script.specs.ScriptWriter.{HasRead}
use Rattle.store_script.proofs.reading.read_lines.Given as goal

-- the lines before the rest are read; they are no more than their bytes, and neither are the keys
abbrev pub invariant-loop-line : goal.invariant-loop-line
invariant-loop-line l = record {
  read : HasRead l.bytes l.rest l.number l.writer;
  few_lines : l.number + length l.rest ≤ length l.bytes + 1;
  few_keys : btree_map_len l.writer.slots.slots + length l.rest ≤ length l.bytes;
}

abbrev pub decreases-loop-line : goal.decreases-loop-line
decreases-loop-line l = length l.rest
