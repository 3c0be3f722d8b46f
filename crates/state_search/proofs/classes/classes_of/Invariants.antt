use Rattle.state_search.proofs.Classing.{AreNamed}
use Rattle.state_search.proofs.classes.classes_of.Given as goal

abbrev pub invariant-loop-p : goal.invariant-loop-p
invariant-loop-p g l = AreNamed l.extent l.first l.classes.items l.p
