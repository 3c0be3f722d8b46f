use Rattle.hart.proofs.Turning.{are_turns}
use Rattle.hart.proofs.run_laws.local_runs_are_turns.Goals as goal

pub returns : goal.returns
returns c = record { turns = λ m k before after taken. are_turns k m before after taken }
