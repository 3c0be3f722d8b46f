use Rattle.serialization.proofs.Steadying.{goes_step, steady_start}
use Rattle.serialization.proofs.machine_laws.steadiness.Goals as goal

pub returns-clause-begins : goal.returns-clause-begins
returns-clause-begins row c z P mem core = steady_start z P mem core

pub returns-clause-goes_on : goal.returns-clause-goes_on
returns-clause-goes_on row c z P M role st ok = let g = goes_step z P M role st ok in (g.0, g.1)

pub returns-clause-records : goal.returns-clause-records
returns-clause-records row c z P M role ok = ok.few
