use Rattle.exploration.proofs.Exchanged.{same}
use Rattle.exploration.proofs.laws.exploring_either_way_stands_for_the_same.Goals as goal

pub returns : goal.returns
returns c = record { same = same }
