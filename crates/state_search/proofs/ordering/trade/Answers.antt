use Rattle.std.proofs.Common.{arith}
use Rattle.state_search.proofs.Trading.{traded_so}
use Rattle.state_search.proofs.ordering.trade.Goals as goal

pub returns : goal.returns
returns g c =
    traded_so c.args.classes.now c.args.row.now c.trade_numbers.new.row c.args.first c.args.second c.requires.alike c.requires.first c.requires.second
    (omega (arith, c.requires.few)) c.trade_numbers.ensures
