use Rattle.std.specs.Option.{IfNone}
use Rattle.std.proofs.Common.{rules, ℕ, List, length, ◌+◌, drop, sym, subst, ◌∙◌, arith}
use Rattle.std.proofs.lemmas.Bool.Decides.{nat_tests}
use Rattle.std.proofs.lemmas.Iterator.Consumers.{YieldsList-turn, YieldsList-end, YieldsList-at}
use Rattle.std.proofs.lemmas.Iterator.Splits.{YieldsList-from_str_split}
use Rattle.std.proofs.lemmas.List.{at_drop_all, length_push}
use Rattle.std.specs.List.{slice_split}
use Rattle.size_classes.specs.Sets.{is_comma, Lists}
use Rattle.size_classes.proofs.Writing.{Reads, reads_none, reads_more, reads_none_of}
use Rattle.size_classes.proofs.Writing.{reads_all, not_without_size, not_without_rise, not_without_room, parts_at}
use Rattle.size_classes.proofs.class_set.ClassSet.read.Goals as goal
use Rattle.size_classes.proofs.class_set.ClassSet.read.Goals.{then-size-largest-via-then-size-largest}
use Rattle.size_classes.proofs.class_set.ClassSet.read.Goals.{then-size-largest-via-else-size-largest+then-is_full}

pub loop-word-init : goal.loop-word-init
loop-word-init c = subst (Reads (slice_split is_comma c.args.text.now) (slice_split is_comma c.args.text.now) 0) (sym c.new-sizes.ensures)
    (reads_none (slice_split is_comma c.args.text.now))

pub returns-in_err-size-clause-none : goal.returns-in_err-size-clause-none
returns-in_err-size-clause-none c =
    let parts = parts_at _ _ _ (YieldsList-turn (YieldsList-at c.into_iter-word-iterator.ensures.into_iter_gives
    (YieldsList-from_str_split 44 c.args.text.now (search rules) c.split-word-items.ensures.text
    c.split-word-items.ensures.has_more c.split-word-items.ensures.pattern))
    c.loop-word.yielded _ c.loop-word.yielded_by _ _ c.in-Some.word c.in-Some.is c.next.ensures.steps) in
    let none = sym c.size_of.ensures ∙ c.in_err-size.was in
    subst (λ r. IfNone r ((sizes : List ℕ) → ¬ Lists c.args.text.now sizes)) (sym c.from_residual.ensures)
    (reads_none_of _ _ _ _ _ _ c.loop-word.invariant parts (not_without_size none))

pub returns-then-size-largest-clause-none : goal.returns-then-size-largest-clause-none
returns-then-size-largest-clause-none c =
    let parts = parts_at _ _ _ (YieldsList-turn (YieldsList-at c.into_iter-word-iterator.ensures.into_iter_gives
    (YieldsList-from_str_split 44 c.args.text.now (search rules) c.split-word-items.ensures.text
    c.split-word-items.ensures.has_more c.split-word-items.ensures.pattern))
    c.loop-word.yielded _ c.loop-word.yielded_by _ _ c.in-Some.word c.in-Some.is c.next.ensures.steps) in
    let is = sym c.size_of.ensures ∙ c.in_ok-size.was in
    reads_none_of _ _ _ _ _ _ c.loop-word.invariant parts (elim c.then-size-largest.branch [
      | then-size-largest-via-then-size-largest w ↦ not_without_rise is (grind (arith, nat_tests))
      | then-size-largest-via-else-size-largest+then-is_full w ↦ not_without_room (grind (arith, nat_tests))
    ])

pub loop-word-preserved : goal.loop-word-preserved
loop-word-preserved c =
    let parts = parts_at _ _ _ (YieldsList-turn (YieldsList-at c.into_iter-word-iterator.ensures.into_iter_gives
    (YieldsList-from_str_split 44 c.args.text.now (search rules) c.split-word-items.ensures.text
    c.split-word-items.ensures.has_more c.split-word-items.ensures.pattern))
    c.loop-word.yielded _ c.loop-word.yielded_by _ _ c.in-Some.word c.in-Some.is c.next.ensures.steps) in
    let is = sym c.size_of.ensures ∙ c.in_ok-size.was in
    let all = slice_split is_comma c.args.text.now in
    subst (λ n. Reads all (drop n all) c.in_ok-size.size c.push.new.self.items) (sym (length_push c.loop-word.yielded c.in-Some.word))
    (subst (Reads all (drop (length c.loop-word.yielded + 1) all) c.in_ok-size.size) (sym c.push.ensures.items)
    (reads_more _ _ _ _ _ _ _ c.loop-word.invariant parts is (grind (arith, nat_tests)) (grind (arith, nat_tests))))

pub invariant_of-result : goal.invariant_of-result
invariant_of-result c =
    let over = at_drop_all (λ l. l) (slice_split is_comma c.args.text.now) (length c.loop-word.yielded) (omega (
      arith,
      (YieldsList-end (YieldsList-at c.into_iter-word-iterator.ensures.into_iter_gives
          (YieldsList-from_str_split 44 c.args.text.now (search rules) c.split-word-items.ensures.text
          c.split-word-items.ensures.has_more c.split-word-items.ensures.pattern))
          c.loop-word.yielded _ c.loop-word.yielded_by _ _ c.in-None.is c.next.ensures.steps).1,
    )) in
    (c.args.text.now, reads_all _ _ _ _ c.loop-word.invariant over)

pub returns-clause-read : goal.returns-clause-read
returns-clause-read c =
    let over = at_drop_all (λ l. l) (slice_split is_comma c.args.text.now) (length c.loop-word.yielded) (omega (
      arith,
      (YieldsList-end (YieldsList-at c.into_iter-word-iterator.ensures.into_iter_gives
          (YieldsList-from_str_split 44 c.args.text.now (search rules) c.split-word-items.ensures.text
          c.split-word-items.ensures.has_more c.split-word-items.ensures.pattern))
          c.loop-word.yielded _ c.loop-word.yielded_by _ _ c.in-None.is c.next.ensures.steps).1,
    )) in
    reads_all _ _ _ _ c.loop-word.invariant over
