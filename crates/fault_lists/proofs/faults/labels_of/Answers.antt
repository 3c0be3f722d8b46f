use Rattle.std.proofs.Common.{ap}
use Rattle.assembler.specs.Meaning.{Place}
use Rattle.fault_lists.proofs.faults.labels_of.Goals as goal

pub returns : goal.returns
returns c = ap (λ (p : Place). p.labels) c.in_ok-end.ensures.place
