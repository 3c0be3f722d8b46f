use Rattle.local_reduction.proofs.UpTo.{of_any}
use Rattle.local_reduction.proofs.exchanges.moves_are_of_any.Goals as goal

pub returns : goal.returns
returns c = record { any = of_any }
