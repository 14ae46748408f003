use Rattle.std.proofs.Common.{None, refl, subst, sym}
use Rattle.std.proofs.lemmas.Result.{err_from_is_err_and}
use Rattle.file_runs.specs.declared.ending.Ending.{Ending}
use Rattle.pool_cli.specs.Causes.{CauseOf}
use Rattle.pool_cli.specs.Gates.{gates_of}
use Rattle.file_runs.specs.Outside.{outside}
use Rattle.pool_cli.specs.Playing.{IsTextOf}
use Rattle.pool_cli.proofs.Endings.{ends_at_file, ends_worked, gates_stay, scripts_fit, scripts_print}
use Rattle.pool_cli.proofs.commands.play_command.Goals as goal

pub print-requires-clause-fit : goal.print-requires-clause-fit
print-requires-clause-fit g c κs within =
    scripts_fit (g.F.Files.told c.args.files.now) c.args.command.now c.in_ok-shape.shape c.in_ok-scripts.scripts
    c.in_ok-scripts.ensures.read c.in_ok-shape.ensures.ok

pub returns-in_err-scripts : goal.returns-in_err-scripts
returns-in_err-scripts g c meaning meant =
    let Cause : Ending → Type 0 = CauseOf meaning (outside g.F.Files c.args.files.now g.K.Sink c.args.out.now)
    (outside g.F.Files c.scripts_of.new.files g.K.Sink c.args.out.now)
    (gates_of g.G.Gate.told c.args.gates.now.items c.args.gates.now.items) None in
    let here : Cause c.in_err-scripts.field-0.0 = ends_at_file g.F.Files _ _ g.K.Sink _ _ meaning c.args.command.now c.in_ok-shape.shape _
    (record { meant = meant; asked = c.in_ok-shape.ensures.ok }) c.in_err-scripts.ensures.stopped refl in
    let handed_on = err_from_is_err_and c.from_residual-in_err-scripts.result c.from_residual-in_err-scripts.ensures.1 in
    rw (handed_on.1) (subst Cause (sym handed_on.2) here)

pub returns : goal.returns
returns g c meaning meant =
    let gates = gates_of g.G.Gate.told c.args.gates.now.items c.print.new.gates.items in
    ends_worked g.F.Files c.args.files.now c.scripts_of.new.files g.K.Sink c.args.out.now c.print.new.out gates meaning c.args.command.now
    c.in_ok-shape.shape (IsTextOf gates c.in_ok-shape.shape c.in_ok-scripts.scripts) c.print.result
    (record { meant = meant; asked = c.in_ok-shape.ensures.ok }) c.in_ok-scripts.ensures.opened
    (scripts_print (g.F.Files.told c.args.files.now) gates c.args.command.now c.in_ok-shape.shape c.in_ok-scripts.scripts
    c.in_ok-scripts.ensures.read)
    c.print.ensures.printed c.print.ensures.early c.print.ensures.unwritten
    (gates_stay g.G.Gate.told _ _ c.print.result c.print.ensures.untold)
