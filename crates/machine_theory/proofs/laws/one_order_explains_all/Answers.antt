use Rattle.machine_theory.proofs.Explaining.{runs_are_explained}
use Rattle.machine_theory.proofs.laws.one_order_explains_all.Goals as goal

pub returns : goal.returns
returns c = runs_are_explained
