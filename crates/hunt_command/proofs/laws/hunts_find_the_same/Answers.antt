use Rattle.hunt_command.proofs.OneHunt.{one_hunt}
use Rattle.hunt_command.proofs.laws.hunts_find_the_same.Goals as goal

pub returns : goal.returns
returns c = one_hunt c.input_means_one_layout.ensures
