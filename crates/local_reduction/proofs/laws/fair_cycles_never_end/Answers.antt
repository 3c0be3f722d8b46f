use Rattle.local_reduction.proofs.FairCycles.{cycles_endless}
use Rattle.local_reduction.proofs.laws.fair_cycles_never_end.Goals as goal

pub returns : goal.returns
returns c = record { endless = cycles_endless }
