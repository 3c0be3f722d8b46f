use Rattle.local_reduction.proofs.UpTo.{each_reached}
use Rattle.local_reduction.proofs.exchanges.each_exchange_is_reached.Goals as goal

pub returns : goal.returns
returns c = record { each = each_reached }
