use Rattle.local_reduction.proofs.UpTo.{not_asked}
use Rattle.local_reduction.proofs.exchanges.numbers_are_not_asked_for.Goals as goal

pub returns : goal.returns
returns c = record { same = not_asked }
