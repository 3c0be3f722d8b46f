use Rattle.machine_steps.proofs.Parts.{the_opening}
use Rattle.machine_steps.proofs.opening_laws.parts_are_the_opening.Goals as goal

pub returns : goal.returns
returns c = the_opening
