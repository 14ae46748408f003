use Rattle.pool_cli.proofs.scripts.scripts_of.Goals as goal

pub returns-in_ok-scripts-in-Play-clause-read : goal.returns-in_ok-scripts-in-Play-clause-read
returns-in_ok-scripts-in-Play-clause-read g c =
    rw (c.in-Play.is, ← c.from.ensures, ← c.as_slice.ensures) c.in_ok-scripts-in-Play.ensures.said

pub returns-in_ok-scripts-in-Store-clause-read : goal.returns-in_ok-scripts-in-Store-clause-read
returns-in_ok-scripts-in-Store-clause-read g c =
    rw (c.in-Store.is, ← c.as_slice-in-Store.ensures) c.in_ok-scripts-in-Store.ensures.said
