use Rattle.machine_steps.proofs.Staying.{run_home, run_stays}
use Rattle.machine_steps.proofs.laws.cores_stay_home.Goals as goal

pub returns-clause-cores : goal.returns-clause-cores
returns-clause-cores c = λ opening machine steps. run_stays opening machine steps

pub returns-clause-home : goal.returns-clause-home
returns-clause-home c = λ opening machine steps. run_home opening machine steps
