use Rattle.interleaving_core.proofs.CallLawsKept.{few_withheld, keeps_five, all_counted}
use Rattle.interleaving_core.proofs.laws.invariant.few_are_withheld.Goals as goal

pub returns-clause-few : goal.returns-clause-few
returns-clause-few c sizes words views history shape (ghosts, h) = few_withheld sizes words views history ghosts shape h

pub returns-clause-five : goal.returns-clause-five
returns-clause-five c sizes words views history shape (ghosts, h) i li = keeps_five sizes words views history ghosts i shape li h

pub returns-clause-all : goal.returns-clause-all
returns-clause-all c sizes words views history shape (ghosts, h) = all_counted sizes words views history ghosts h
