use Rattle.std.proofs.Common.{length, ap, arith}
use Rattle.std.proofs.lemmas.Grind.{common_steps}
use Rattle.state_graph.proofs.Shortest.{first_nearer}
use Rattle.state_graph.proofs.paths.path_to.Goals as goal

pub loop-before-init : goal.loop-before-init
loop-before-init c =
    let none = ap length c.new-path.ensures.items in
    record { path = grind (arith, common_steps); short = λ breadth most near. (most, omega (arith, none), near) }

pub loop-before-preserved : goal.loop-before-preserved
loop-before-preserved c =
    let leads = c.in-Some.ensures.leads in
    record {
      path = grind (arith, common_steps, c.loop-before.invariant.path, leads);
      short = λ breadth most near.
          let k = c.loop-before.invariant.short breadth most near in
          let nearer = first_nearer c.args.moves.now breadth c.in-Some.before c.loop-before.at k.0 c.in-Some.ensures k.2 in
          let all = k.1 in
          let less = nearer.1 in
          (nearer.0, omega (arith, all, less, c.in_ok-push.ensures.len), nearer.2);
    }

pub returns-clause-short : goal.returns-clause-short
returns-clause-short c = λ breadth other is.
    let k = c.loop-before.invariant.short breadth (length other) (other, is, omega arith) in
    let all = k.1 in
    omega (arith, all, c.reverse.ensures.len)
