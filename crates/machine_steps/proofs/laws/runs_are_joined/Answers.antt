use Rattle.machine_steps.proofs.Cutting.{run_joined, replay_joined}
use Rattle.machine_steps.proofs.laws.runs_are_joined.Goals as goal

pub returns-clause-runs : goal.returns-clause-runs
returns-clause-runs c = run_joined

pub returns-clause-replays : goal.returns-clause-replays
returns-clause-replays c = replay_joined
