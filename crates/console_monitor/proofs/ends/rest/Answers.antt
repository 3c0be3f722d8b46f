use Rattle.std.proofs.Common.{rules, ap}
use Rattle.console_monitor.proofs.Moves.{gets, merges, totals}
use Rattle.console_monitor.proofs.ends.rest.Goals as goal

pub absorb-requires-clause-rule : goal.absorb-requires-clause-rule
absorb-requires-clause-rule g c = merges _ _ _ _ c.args.sender.ties.2 c.args.inlet.ties.2

pub pop_as-requires-clause-rule : goal.pop_as-requires-clause-rule
pop_as-requires-clause-rule g c =
    let may = ap (λ v. v.takes) c.loop.invariant.1 in
    let knows = ap (λ v. v.puts) c.loop.invariant.1 in
    (gets _ _ may, totals _ _ knows may)
