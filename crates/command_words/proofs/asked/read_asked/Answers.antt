use Rattle.std.proofs.Common.{subst, sym}
use Rattle.command_words.specs.Options.{IsReadable}
use Rattle.command_words.specs.Reads.{Reads}
use Rattle.command_words.proofs.Parses.{asked_of-matched, asked_of-refused, handed_on}
use Rattle.command_words.proofs.asked.read_asked.Goals as goal

pub read_matches-requires : goal.read_matches-requires
read_matches-requires g c = subst IsReadable (sym c.in_ok-command.ensures) g.met.A.Asked.readable

pub returns-in_err-matches : goal.returns-in_err-matches
returns-in_err-matches g c =
    handed_on _ c.from_residual-in_err-matches.result c.in_err-matches.field-0.0 c.from_residual-in_err-matches.ensures.1
    (λ is. asked_of-refused g.A.Asked.asked g.A.Asked.app _ _ c.in_ok-command.ensures (c.in_err-matches.ensures.faulty is))

pub returns : goal.returns
returns g c =
    let meant = asked_of-matched g.A.Asked.asked g.A.Asked.app _ _ c.in_ok-command.ensures _ c.in_ok-matches.ensures.ok in
    subst (λ meaning. Reads meaning c.of_matches.result) (sym meant) c.of_matches.ensures
