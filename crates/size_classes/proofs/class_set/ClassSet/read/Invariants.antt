use Rattle.std.proofs.Common.{length, drop}
use Rattle.std.specs.List.{slice_split}
use Rattle.size_classes.specs.Sets.{is_comma}
use Rattle.size_classes.proofs.Writing.{Reads}
use Rattle.size_classes.proofs.class_set.ClassSet.read.Given as goal

-- the sizes so far are those of the words so far
abbrev pub invariant-loop-word : goal.invariant-loop-word
invariant-loop-word l = Reads (slice_split is_comma l.text) (drop (length l.yielded) (slice_split is_comma l.text)) l.largest l.sizes.items
