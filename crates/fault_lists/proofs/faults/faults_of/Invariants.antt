use Rattle.line_faults.specs.Places.{label_values}
use Rattle.fault_lists.proofs.Found.{FoundSoFar}
use Rattle.fault_lists.proofs.faults.faults_of.Given as goal

abbrev pub invariant-loop-at : goal.invariant-loop-at
invariant-loop-at l = FoundSoFar (label_values l.labels) l.lines l.at l.faults.items l.cursor
