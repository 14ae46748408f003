use Rattle.std.proofs.Common.{◌≡◌, ◌∙◌, sym, ap, subst, arith, ◌+◌}
use Rattle.word_layout.specs.Names.{table_words}
use Rattle.pool_table.specs.Views.{SeatView}
use Rattle.pool_seats.proofs.Made.{none_yet, may_make, made_one, first_is_opening, HasMade, AreMade}
use Rattle.pool_seats.proofs.opening.further_seats.Goals as goal

pub loop-made-init : goal.loop-made-init
loop-made-init c = rw (c.new-seats.ensures.items, c.new-steps.ensures, c.new.ensures)
    (none_yet _ _ _ c.requires.seat c.requires.view c.requires.among)

pub next_seat-requires-clause-seat : goal.next_seat-requires-clause-seat
next_seat-requires-clause-seat c = c.loop-made.invariant.maker.at_table

pub next_seat-requires-clause-words : goal.next_seat-requires-clause-words
next_seat-requires-clause-words c =
    c.requires.words ∙ ap (λ (v : SeatView). table_words v.sizes) (sym c.loop-made.invariant.maker.view)

pub next_seat-requires-clause-steps : goal.next_seat-requires-clause-steps
next_seat-requires-clause-steps c = omega (arith, c.processes-processes.ensures.shape.few_processes)

pub next_seat-requires-clause-can : goal.next_seat-requires-clause-can
next_seat-requires-clause-can c = may_make _ _ _ _ c.loop-made.invariant.maker (omega arith)

pub loop-made-preserved : goal.loop-made-preserved
loop-made-preserved c =
    subst (AreMade c.args.shape.now c.args.table.now (c.loop-made._made + 1) c.next_seat.new.steps c.next_seat.new.first)
    (sym (c.in_ok-push.ensures.items))
    (made_one _ _ _ _ _ _ _ _ _ c.loop-made.invariant c.next_seat.ensures.seat c.next_seat.ensures.left c.next_seat.ensures.left_among
    c.next_seat.ensures.new c.next_seat.ensures.right c.next_seat.ensures.right_among c.next_seat.ensures.steps)

pub returns-clause-first : goal.returns-clause-first
returns-clause-first c =
    let all : c.loop-made._made ≡ c.args.shape.now.processes = omega arith in
    first_is_opening _ _ _ (subst (λ n. HasMade c.args.shape.now c.args.table.now n c.loop-made.first) all c.loop-made.invariant.maker)
