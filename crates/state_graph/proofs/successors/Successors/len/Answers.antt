use Rattle.std.proofs.Common.{ap, length, arith}
use Rattle.state_graph.proofs.Cutting.{length-cut}
use Rattle.state_graph.proofs.successors.Successors.len.Goals as goal

pub returns : goal.returns
returns c =
    let count = length-cut 0 c.self.inside.ends.items c.self.inside.targets.items in
    let all = ap length c.self.view_is in
    omega (arith, count, all, c.len.ensures)
