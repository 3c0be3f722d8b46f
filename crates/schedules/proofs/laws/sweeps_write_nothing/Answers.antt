use Rattle.schedules.proofs.NoPoke.{no_poke_drain, step_of_round}
use Rattle.schedules.proofs.laws.sweeps_write_nothing.Goals as goal

pub returns-clause-rounds : goal.returns-clause-rounds
returns-clause-rounds c = step_of_round

pub returns-clause-drains : goal.returns-clause-drains
returns-clause-drains c = no_poke_drain
