use Rattle.interleaving_core.proofs.laws.invariant.history_is_legal.Goals as goal

pub returns : goal.returns
returns c sizes words views history shape (ghosts, h) = h.entries.legal
