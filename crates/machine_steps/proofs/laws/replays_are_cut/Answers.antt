use Rattle.machine_steps.proofs.Cutting.{cut_at}
use Rattle.machine_steps.proofs.laws.replays_are_cut.Goals as goal

pub returns : goal.returns
returns c = record { cut = cut_at }
